-- The outcome, and the two summaries set one after the other.
use Rattle.std.proofs.Common.{ap, ap₂, ◌∙◌}
use Rattle.summary.specs.Sums.{set_entry}
use Rattle.query_pair.specs.Made.{as_summary}
use Rattle.query_pair.proofs.made.got_of.Goals as goal

pub returns : goal.returns
returns c =
    ap₂ (λ x y. record { told = x; sums = y; n = 2 }) c.plain.ensures
    (c.with.ensures ∙ ap (λ t. set_entry t 1 (as_summary c.args.x.second)) c.with-one.ensures)
