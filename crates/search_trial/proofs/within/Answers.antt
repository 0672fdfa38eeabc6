-- The first that is not within the threshold settles it, and where none is left all are within.
use Rattle.std.proofs.Common.{sym, ◌∙◌, length}
use borrow.Author.Tests.{le-leb, lt-leb}
use Rattle.lists.specs.Tests.{every}
use Rattle.lists.proofs.LoopLaws.{each-done, each_step, each-stop, from_first}
use Rattle.search_trial.specs.Trial.{within_each}
use Rattle.search_trial.proofs.within.Invariants.{test}
use Rattle.search_trial.proofs.within.Goals as goal

pub loop-j-init : goal.loop-j-init
unfolding within_each
loop-j-init c = from_first (every (test c.args.ask.a c.args.ask.b c.args.lens.now c.args.own.now)) (length c.args.own.now)

pub returns-then-above-lens : goal.returns-then-above-lens
returns-then-above-lens c =
    sym (each-stop (test c.args.ask.a c.args.ask.b c.args.lens.now c.args.own.now) c.loop-j.j (length c.args.own.now) c.loop-j-test.true (lt-leb _ _ c.if-above-lens.true)) ∙ c.loop-j.invariant

pub loop-j-preserved : goal.loop-j-preserved
loop-j-preserved c =
    sym (each_step (test c.args.ask.a c.args.ask.b c.args.lens.now c.args.own.now) c.loop-j.j (length c.args.own.now) c.loop-j-test.true (le-leb _ _ c.if-above-lens.false)) ∙ c.loop-j.invariant

pub returns : goal.returns
returns c = sym (each-done (test c.args.ask.a c.args.ask.b c.args.lens.now c.args.own.now) c.loop-j.j (length c.args.own.now) c.loop-j-test.false) ∙ c.loop-j.invariant
