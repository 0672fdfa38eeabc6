use Rattle.std.proofs.Common.{◌∙◌, lit<, arith}
use Rattle.test_draw.proofs.Places.{other_kept, put_there}
use Rattle.test_draw.proofs.drawn.Table.put.Goals as goal

pub returns-clause-nodes : goal.returns-clause-nodes
returns-clause-nodes c = λ room.
    c.loop-i.invariant 0 (lit< tt)
    ∙ other_kept _ _ 12 0 _ c.put-9.ensures (omega arith)
    ∙ other_kept _ _ 11 0 _ c.put-8.ensures (omega arith)
    ∙ other_kept _ _ 8 0 _ c.put-7.ensures (omega arith)
    ∙ other_kept _ _ 7 0 _ c.put-6.ensures (omega arith)
    ∙ other_kept _ _ 4 0 _ c.put-5.ensures (omega arith)
    ∙ other_kept _ _ 3 0 _ c.put-4.ensures (omega arith)
    ∙ other_kept _ _ 2 0 _ c.put-3.ensures (omega arith)
    ∙ other_kept _ _ 1 0 _ c.put-2.ensures (omega arith)
    ∙ put_there _ _ 0 _ c.put.ensures (omega arith)

pub returns-clause-arcs : goal.returns-clause-arcs
returns-clause-arcs c = λ room.
    c.loop-i.invariant 1 (lit< tt)
    ∙ other_kept _ _ 12 1 _ c.put-9.ensures (omega arith)
    ∙ other_kept _ _ 11 1 _ c.put-8.ensures (omega arith)
    ∙ other_kept _ _ 8 1 _ c.put-7.ensures (omega arith)
    ∙ other_kept _ _ 7 1 _ c.put-6.ensures (omega arith)
    ∙ other_kept _ _ 4 1 _ c.put-5.ensures (omega arith)
    ∙ other_kept _ _ 3 1 _ c.put-4.ensures (omega arith)
    ∙ other_kept _ _ 2 1 _ c.put-3.ensures (omega arith)
    ∙ put_there _ _ 1 _ c.put-2.ensures (omega arith)

pub returns-clause-routes : goal.returns-clause-routes
returns-clause-routes c = λ room.
    c.loop-i.invariant 4 (lit< tt)
    ∙ other_kept _ _ 12 4 _ c.put-9.ensures (omega arith)
    ∙ other_kept _ _ 11 4 _ c.put-8.ensures (omega arith)
    ∙ other_kept _ _ 8 4 _ c.put-7.ensures (omega arith)
    ∙ other_kept _ _ 7 4 _ c.put-6.ensures (omega arith)
    ∙ put_there _ _ 4 _ c.put-5.ensures (omega arith)
