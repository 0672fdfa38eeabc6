-- With a number the text is a space, one byte, and the number's digits after it: one text by `appended-more`. Without one it is no text, and the buffer stays.
use mathlib.Core.Path.{sym, ◌∙◌}
use mathlib.Core.List.{[], ◌∷◌}
use native.Mathlib.Omega.{arith}
use lib.ListN.{length-set}
use borrow.Author.Rules.{rules}
use Rattle.numerals.specs.Decimal.{decimal}
use Rattle.text_put.specs.Put.{space}
use Rattle.text_put.proofs.AppendLaws.{appended-length, appended-by, appended-none, appended_one, appended-more}
use Rattle.desk_text.proofs.TextLaws.{beside-some, beside_none, beside-length}
use Rattle.desk_text.proofs.print.beside.Statement.{statement}
use Rattle.desk_text.proofs.print.beside.Tie as tie

returns : tie.Need-returns-then-has_number
returns c =
    let w = c in
    let t = w in
    let s = t in
    rw (beside-some s.args.outcome s.args.number (sym t.has_number.ensures ∙ t.if-has_number.true))
    (appended-more _ _ (space ∷ []) _ _ (decimal s.args.number) _ _ (appended_one s.args.out.now s.args.at space (omega arith))
    (appended-by _ _ _ _ _ w.write.ensures) (omega arith))

same_length : tie.Need-shape_of-out-then-has_number
same_length c =
    let s = c in
    appended-length _ _ _ _ _ (returns c) (omega (arith, beside-length s.args.outcome s.args.number))

returns-2 : tie.Need-returns
returns-2 c =
    let s = c in
    rw (beside_none s.args.outcome s.args.number (sym c.has_number.ensures ∙ c.if-has_number.false)) (appended-none s.args.out.now s.args.at)

pub beside_spec : {M : Type 1} → statement M
beside_spec =
    tie.close
    (tie.spec
    (λ c κs. search rules)
    (λ c. search rules)
    (λ c. search rules)
    (λ c κs. simp length-set (omega arith))
    same_length
    returns
    returns-2)
