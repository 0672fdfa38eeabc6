-- The tests are those of the definition, in its order; a record with the highest part so far of its plan is no double.
use mathlib.Core.Path.{◌≡◌, sym, ◌∙◌}
use mathlib.Core.Bool.{true, false}
use Rattle.plan_file.specs.File.{is_double}
use Rattle.plan_file.proofs.FileLaws.{wrong-unformed, right-free, wrong-double, wrong-gap}
use Rattle.plan_file.proofs.PassLaws.{highest-single}
use Rattle.plan_file.proofs.wrong_at.Goals as goal
use Rattle.plan_file.proofs.wrong_at.Goals.{then-not-highest, else-not-highest}

pub returns-then-not-formed : goal.returns-then-not-formed
returns-then-not-formed c = rw c.if-not-formed.true (sym (wrong-unformed c.args.file.now c.args.i (sym c.formed.ensures ∙ c.if-not-formed.true)))

pub returns-then-double : goal.returns-then-double
returns-then-double c =
    let twice : is_double c.args.file.now c.args.i ≡ true = elim c.if-not-highest.branch [ then-not-highest w ↦ cc | else-not-highest w ↦ cc ] in
    c.if-double.true
    ∙ sym (wrong-double c.args.file.now c.args.i (sym c.formed.ensures ∙ c.if-not-formed.false) (λ z. c.if-plan-ne0.true (c.plan.ensures ∙ z)) twice)

pub returns-else-double : goal.returns-else-double
returns-else-double c =
    let once : is_double c.args.file.now c.args.i ≡ false =
    elim c.if-not-highest.branch [ then-not-highest w ↦ cc | else-not-highest w ↦ highest-single c.args.file.now c.args.i (c.requires.1 w.if-not-highest.false) ] in
    c.gap.ensures
    ∙ sym (wrong-gap c.args.file.now c.args.i (sym c.formed.ensures ∙ c.if-not-formed.false) (λ z. c.if-plan-ne0.true (c.plan.ensures ∙ z)) once)

pub returns-else-plan-ne0 : goal.returns-else-plan-ne0
returns-else-plan-ne0 c =
    rw c.if-plan-ne0.false (sym (right-free c.args.file.now c.args.i (sym c.formed.ensures ∙ c.if-not-formed.false) (sym c.plan.ensures ∙ c.if-plan-ne0.false)))
