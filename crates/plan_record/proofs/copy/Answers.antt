-- What is copied is record j as it was, as many bytes as a record has.
use mathlib.Core.Path.{◌∙◌}
use Rattle.plan_record.proofs.StoreLaws.{copied}
use Rattle.plan_record.proofs.copy.Goals as goal

pub returns : goal.returns
returns c = c.copy_within.ensures.after ∙ copied c.args.file.now c.args.i c.args.j
