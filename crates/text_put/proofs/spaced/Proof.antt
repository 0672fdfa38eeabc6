-- A space is one byte, and the number's digits follow it: one text by `appended-more`, so the buffer is as long as before.
use mathlib.Core.List.{[], ◌∷◌}
use native.Mathlib.Omega.{arith}
use lib.ListN.{length-set}
use borrow.Author.Rules.{rules}
use Rattle.numerals.specs.Decimal.{decimal}
use Rattle.text_put.specs.Put.{space}
use Rattle.text_put.proofs.AppendLaws.{appended-length, appended-by, appended_one, appended-more}
use Rattle.text_put.proofs.spaced.Statement.{statement}
use Rattle.text_put.proofs.spaced.Tie as tie

returns : tie.Need-returns
returns c =
    let w = c.before.before in
    let s = w.before.before.before in
    appended-more _ _ (space ∷ []) _ _ (decimal s.args.v) _ _ (appended_one s.args.out.now s.args.at space (omega arith))
    (appended-by _ _ _ _ _ w.put.ensures) (omega arith)

same_length : tie.Need-shape_of-out
same_length c =
    let s = c.before.before.before.before.before in
    appended-length _ _ (space ∷ decimal s.args.v) _ _ (returns c) (omega arith)

pub spaced_spec : {M : Type 1} → statement M
spaced_spec = tie.close (tie.spec (λ c. search rules) (λ c. search rules) (λ c κs. simp length-set (omega arith)) same_length returns)
