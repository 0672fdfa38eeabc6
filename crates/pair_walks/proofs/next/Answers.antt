-- A mark that is there is taken; where there is none, the other.
use Rattle.std.proofs.Common.{sym, ◌∙◌}
use Rattle.pair_walks.proofs.FollowLaws.{pick-none, pick_some}
use Rattle.pair_walks.proofs.next.Goals as goal

pub returns-then-a : goal.returns-then-a
returns-then-a c = c.word.ensures ∙ sym (pick-none _ _ (sym c.word-a.ensures ∙ c.if-a.true))

pub returns-else-a : goal.returns-else-a
returns-else-a c = c.word-a.ensures ∙ sym (pick_some _ _ (λ e. c.if-a.false (c.word-a.ensures ∙ e)))
