-- With a best so far it is compared with that; without one every choice is better.
use Rattle.std.proofs.Common.{sym, ap, ◌∙◌}
use Rattle.near_choice.specs.Choosing.{hope_by}
use Rattle.near_choice.proofs.hope.Goals as goal

pub returns-in-Some : goal.returns-in-Some
unfolding hope_by
returns-in-Some c = c.is_less.ensures ∙ sym (ap (λ b. hope_by b c.args.x) c.in-Some.is)

pub returns-in-None : goal.returns-in-None
unfolding hope_by
returns-in-None c = sym (ap (λ b. hope_by b c.args.x) c.in-None.is)
