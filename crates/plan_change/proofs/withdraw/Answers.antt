-- Where nothing is refused the file is in form, so its records are all of it.
use mathlib.Core.Path.{◌≡◌, sym, ap}
use Rattle.outcome.specs.Outcome.{found, plain}
use Rattle.plan_change.specs.Change.{withdraw_outcome}
use Rattle.plan_change.proofs.FrontLaws.{file-whole}
use Rattle.plan_change.proofs.WithdrawLaws.{accepted}
use Rattle.plan_change.proofs.withdraw.Goals as goal

pub clear_all-requires : goal.clear_all-requires
clear_all-requires c =
    let e : plain found ≡ plain (withdraw_outcome c.args.file.now c.args.plan) = c.in_default.ensures in
    file-whole c.args.file.now (accepted c.args.file.now c.args.plan (sym (ap (λ t. t.outcome) e)))
