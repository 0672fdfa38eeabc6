-- A file that is not refused is in form, so its records are all of it.
use mathlib.Core.Path.{refl, sym, ◌∙◌}
use Rattle.plan_change.proofs.FrontLaws.{file-whole}
use Rattle.plan_change.proofs.CollectLaws.{collected-not, collected-so}
use Rattle.plan_change.proofs.collect.Goals as goal

pub returns-then-wrong : goal.returns-then-wrong
returns-then-wrong c = collected-not c.args.file.now _ _ (sym c.wrong.ensures ∙ c.if-wrong.true) c.plain.ensures refl

pub collect_all-requires : goal.collect_all-requires
collect_all-requires c = file-whole c.args.file.now (sym c.wrong.ensures ∙ c.if-wrong.false)

pub returns : goal.returns
returns c = collected-so c.args.file.now _ _ (sym c.wrong.ensures ∙ c.if-wrong.false) c.plain-2.ensures c.collect_all.ensures
