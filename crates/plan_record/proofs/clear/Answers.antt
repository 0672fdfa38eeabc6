-- The fill writes as many zeros as a record has bytes.
use mathlib.Core.Path.{◌≡◌, ap, ◌∙◌}
use Rattle.std.proofs.Common.{arith, ◌+◌, ◌-◌, ◌*◌, replicate}
use Rattle.words.specs.Part.{patch}
use Rattle.plan_record.specs.Record.{record_bytes, with_record}
use Rattle.plan_record.proofs.clear.Goals as goal

pub returns : goal.returns
unfolding with_record
returns c =
    let at = c.args.i * record_bytes in
    let n : at + record_bytes - at ≡ record_bytes = omega arith in
    c.fill_part.ensures ∙ ap (λ k. patch at (at + record_bytes) c.args.file.now (replicate k 0)) n
