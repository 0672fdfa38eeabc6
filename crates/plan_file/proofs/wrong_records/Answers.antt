-- The first wrong record ends the look; where none is, none was among all.
use mathlib.Core.Path.{sym, ◌∙◌}
use Rattle.std.proofs.Common.{rules, arith, below_more}
use Rattle.plan_record.specs.Record.{records}
use Rattle.plan_file.specs.File.{wrong_at}
use Rattle.plan_file.proofs.PassLaws.{passed_none, passed-more}
use Rattle.plan_file.proofs.ScanLaws.{any-yes, any-no}
use Rattle.plan_file.proofs.wrong_records.Goals as goal

pub loop-i-init : goal.loop-i-init
loop-i-init c = (passed_none c.args.file.now, λ k h. absurd (omega arith))

pub returns-then-wrong_at : goal.returns-then-wrong_at
returns-then-wrong_at c = sym (any-yes (wrong_at c.args.file.now) (records c.args.file.now) c.loop-i.i c.loop-i-test.true (sym c.wrong_at.ensures ∙ c.if-wrong_at.true))

pub loop-i-preserved : goal.loop-i-preserved
loop-i-preserved c = (
  passed-more c.args.file.now c.loop-i.i c.loop-i.top _ c.loop-i.run _ c.loop-i.invariant.0 c.highest-run.ensures (search rules) (search rules),
  below_more _ _ c.loop-i.invariant.1 (sym c.wrong_at.ensures ∙ c.if-wrong_at.false),
)

pub returns : goal.returns
returns c = sym (any-no (wrong_at c.args.file.now) (records c.args.file.now) (λ k h. c.loop-i.invariant.1 k (omega arith)))
