-- A turn is `stored_more`, and after all six places `stored-all` says what stands.
use mathlib.Core.Path.{sym}
use Rattle.std.proofs.Common.{arith, ◌*◌}
use Rattle.plan_record.specs.Record.{record_bytes}
use Rattle.plan_record.proofs.StoreLaws.{room, stored-none, stored_more, stored-all}
use Rattle.plan_record.proofs.put_arcs.Goals as goal

pub loop-j-init : goal.loop-j-init
loop-j-init c = sym (stored-none c.args.file.now (c.args.i * record_bytes) c.args.arcs.now (room c.args.file.now c.args.i c.requires.0) c.requires.1)

pub loop-j-preserved : goal.loop-j-preserved
loop-j-preserved c =
    cc (stored_more c.args.file.now (c.args.i * record_bytes) c.args.arcs.now (room c.args.file.now c.args.i c.requires.0) c.requires.1 c.loop-j.j (omega arith))

pub returns : goal.returns
returns c =
    cc (stored-all c.args.file.now (c.args.i * record_bytes) c.args.arcs.now (room c.args.file.now c.args.i c.requires.0) c.requires.1 c.loop-j.j (omega arith))
