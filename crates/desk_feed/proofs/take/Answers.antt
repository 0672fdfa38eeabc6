-- A byte is one of the road file where the first line has ended, or ends with it.
use Rattle.std.proofs.Common.{◌≡◌, true, ◌||◌, ap, ◌∙◌}
use lib.Dec.{eqb}
use Rattle.desk_feed.specs.Taken.{road_taken, taken_by}
use Rattle.desk_feed.proofs.TakenLaws.{started-road, newline-road, first-road, taken-road, table-road, taken-first, table-first}
use Rattle.desk_feed.proofs.take.Goals as goal
use Rattle.desk_feed.proofs.take.Goals.{then-x-via-then-x, then-x-via-else-x+then-byte-eq-NEWLINE}

pub returns-then-x : goal.returns-then-x
returns-then-x c =
    let x = c.args.x in
    let on : (x.started || eqb c.args.byte 10) ≡ true =
    elim c.then-x.branch [
      | then-x-via-then-x w ↦ started-road x c.args.byte w.if-x.true
      | then-x-via-else-x+then-byte-eq-NEWLINE w ↦ newline-road x c.args.byte w.if-x.false w.if-byte-eq-NEWLINE.true
    ] in (
      c.road_byte.ensures.0 ∙ ap (λ n. road_taken x n c.args.byte) c.keep-n.ensures.1 ∙ taken-road x _ on _,
      c.keep-n.ensures.0,
      c.road_byte.ensures.1 ∙ table-road x _ on _,
    )

pub returns : goal.returns
returns c =
    let x = c.args.x in
    let off = first-road x c.args.byte c.if-x.false c.if-byte-eq-NEWLINE.false in (
      taken-first x _ off _ ∙ ap (λ n. taken_by x n c.args.byte) c.keep-n.ensures.1,
      c.keep-n.ensures.0,
      table-first x _ off _,
    )
