-- The tests are the contract's, on the number that `wrong_line` told.
use Rattle.std.proofs.Common.{◌≡◌, ℕ, Bool, true, false, ◌&&◌, sym, ap, ◌∙◌}
use borrow.Author.Tests.{eq-eqb, ne_eqb}
use Rattle.outcome.specs.Outcome.{file, beside}
use Rattle.road_file.specs.declared.Reader.{Reader}
use Rattle.road_file.specs.Reader.{wrong_by}
use Rattle.desk_feed.specs.Taken.{above_by, sized_first, judged_by}
use Rattle.desk_feed.proofs.judge.Goals as goal

over : (r : Reader) (sized n : ℕ) (t b : Bool) → n ≡ wrong_by r → t ≡ (above_by r && sized_first sized n) → t ≡ b
    → (above_by r && sized_first sized (wrong_by r)) ≡ b
over r sized n t b w h e = ap (λ m. above_by r && sized_first sized m) (sym w) ∙ sym h ∙ e

pub returns-then-too_large : goal.returns-then-too_large
unfolding judged_by
returns-then-too_large c =
    rw (over c.args.r c.args.sized c.wrong_line-wrong.result _ true c.wrong_line-wrong.ensures c.too_large.ensures c.if-too_large.true)

pub returns-then-wrong-eq0 : goal.returns-then-wrong-eq0
unfolding judged_by
returns-then-wrong-eq0 c =
    rw (
      over c.args.r c.args.sized c.wrong_line-wrong.result _ false c.wrong_line-wrong.ensures c.too_large.ensures c.if-too_large.false,
      eq-eqb (wrong_by c.args.r) 0 (sym c.wrong_line-wrong.ensures ∙ c.if-wrong-eq0.true),
    )

pub returns : goal.returns
unfolding judged_by
returns c =
    ap (beside file) c.wrong_line-wrong.ensures
    ∙ rw (
      over c.args.r c.args.sized c.wrong_line-wrong.result _ false c.wrong_line-wrong.ensures c.too_large.ensures c.if-too_large.false,
      ne_eqb (wrong_by c.args.r) 0 (λ z. c.if-wrong-eq0.false (c.wrong_line-wrong.ensures ∙ z)),
    )
