-- A query that reached the rounds has a node and at most twelve routes, none longer than a slot, so the slots fit in the area. Its summaries
-- and its area show its rounds, and the lines printed of any rounds that they show are therefore its own.
use Rattle.std.proofs.Common.{arith}
use Rattle.desk_text.proofs.DeskLaws.{gave-nodes, gave-routes, gave-small, gave-words, gave-shows}
use Rattle.desk_text.proofs.show_rounds.Goals as goal

pub overflow_sub-w : goal.overflow_sub-w
overflow_sub-w c =
    let p = c.requires in
    omega (arith, gave-nodes p.3.0 _ _ _ _ p.3.1.0 p.3.1.1)

pub ended-requires : goal.ended-requires
ended-requires c =
    let p = c.requires in
    let i = p.3.0 in
    let x = p.3.1.0 in
    let on = p.3.1.1 in
    (p.0, gave-routes i _ _ _ _ x on, omega (arith, p.1), gave-words i _ _ _ _ x on p.1 p.2, gave-small i _ _ _ _ x on)

pub returns : goal.returns
returns c i x on = c.ended.ensures.1 _ _ (gave-shows i _ _ _ _ x on)
