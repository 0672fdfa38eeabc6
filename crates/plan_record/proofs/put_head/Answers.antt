-- The four stores are each right behind the one before: `head-put`.
use Rattle.std.proofs.Common.{arith, ◌*◌}
use Rattle.plan_record.specs.Record.{record_bytes}
use Rattle.plan_record.proofs.StoreLaws.{head-put}
use Rattle.plan_record.proofs.put_head.Goals as goal

pub returns : goal.returns
returns c = cc (head-put c.args.file.now (c.args.i * record_bytes) c.args.plan c.args.rank c.args.used c.args.part (omega arith))
