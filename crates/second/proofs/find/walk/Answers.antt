-- The laws of the first arc from a number on, at the arc that is looked at.
use Rattle.std.proofs.Common.{arith, sym, ◌∙◌}
use Rattle.second.proofs.FindLaws.{next-done, next_here, next-on, next-left}
use Rattle.second.proofs.find.walk.Goals as goal

pub loop-a-preserved : goal.loop-a-preserved
loop-a-preserved c =
    sym (next-on c.args.table.now c.args.u c.args.v c.loop-a.a (omega arith) (λ z. c.if-to_of-v.false (c.to_of.ensures ∙ z))) ∙ c.loop-a.invariant

pub returns-then-from_of-u : goal.returns-then-from_of-u
returns-then-from_of-u c =
    sym c.loop-a.invariant
    ∙ next-left c.args.table.now c.args.u c.args.v c.args.nodes c.requires.0 c.loop-a.a (omega (arith, c.requires.1)) (omega arith) (λ z. c.if-from_of-u.true (c.from_of.ensures ∙ z))

pub returns-then-to_of-v : goal.returns-then-to_of-v
returns-then-to_of-v c =
    let here = next_here c.args.table.now c.args.u c.args.v c.loop-a.a (omega arith) (sym c.from_of.ensures ∙ c.if-from_of-u.false) (sym c.to_of.ensures ∙ c.if-to_of-v.true) in
    (sym here ∙ c.loop-a.invariant, omega (arith, here, c.loop-a.invariant))

pub returns : goal.returns
returns c = sym c.loop-a.invariant ∙ next-done c.args.table.now c.args.u c.args.v c.loop-a.a (omega (arith, c.requires.2))
