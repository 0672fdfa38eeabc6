-- A turn is `paste-arc`; all the arcs pasted are the patch.
use mathlib.Core.Path.{◌≡◌, ap, ap₂, ◌∙◌}
use Rattle.std.proofs.Common.{arith, ◌+◌, ◌*◌}
use Rattle.std.proofs.Math.ListN.{set}
use Rattle.std.proofs.Math.Seq.{paste}
use Rattle.plan_record.specs.Record.{rank_at, used_at, part_at, part_arcs, arcs_at}
use Rattle.plan_file.proofs.MeaningLaws.{arcs-length}
use Rattle.plan_fetch.proofs.LayLaws.{paste-arc, paste-patch}
use Rattle.plan_fetch.proofs.put_part.Goals as goal

pub loop-j-preserved : goal.loop-j-preserved
loop-j-preserved c =
    let f = c.args.file.now in
    let from = rank_at f c.args.i * c.args.width + part_at f c.args.i * part_arcs in
    let e : c.rank.result * c.args.width + c.part.result * part_arcs ≡ from = ap₂ (λ r p. r * c.args.width + p * part_arcs) c.rank.ensures c.part.ensures in
    ap (λ x. set c.loop-j.slots (x + c.loop-j.j) c.arc.result) e
    ∙ ap₂ (λ x v. set x (from + c.loop-j.j) v) c.loop-j.invariant c.arc.ensures
    ∙ paste-arc c.args.slots.now from f c.args.i c.loop-j.j c.requires.1 (omega (arith, c.used-used.ensures)) (omega (arith, c.used-used.ensures, c.requires.2))

pub returns : goal.returns
returns c =
    let f = c.args.file.now in
    let from = rank_at f c.args.i * c.args.width + part_at f c.args.i * part_arcs in
    let n : c.loop-j.j ≡ used_at f c.args.i = omega (arith, c.used-used.ensures) in
    c.loop-j.invariant
    ∙ ap (paste c.args.slots.now from (arcs_at f c.args.i)) n
    ∙ paste-patch c.args.slots.now from (arcs_at f c.args.i) (used_at f c.args.i) (arcs-length f c.args.i c.requires.1)
