use Rattle.std.proofs.Common.{◌≤◌, ◌∙◌, arith}
use Rattle.test_draw.proofs.Places.{other_kept, row_kept}
use Rattle.test_draw.proofs.routes.append.Goals as goal

pub returns-clause-start : goal.returns-clause-start
returns-clause-start c = λ some.
    let later : 1 ≤ c.listed-next.result = omega arith in
    other_kept _ _ 3328 0 _ c.put-4.ensures (omega arith)
    ∙ row_kept _ _ _ _ _ c.put-3.ensures later
    ∙ row_kept _ _ _ _ _ c.put-2.ensures later
    ∙ row_kept _ _ _ _ _ c.put.ensures later
    ∙ c.put_steps.ensures later
