-- Each case of the ending adds what its case of the definition says; the stage after an answer is that of `stage_after`.
use Prim.Native.Nat.{◌+◌}
use mathlib.Core.Path.{sym, ap, ◌∙◌}
use borrow.Author.Rules.{rules}
use Rattle.round.specs.declared.Ended.{Ended}
use Rattle.query_rounds.specs.Progress.{after_of}
use Rattle.query_rounds.specs.declared.Added.{Added}
use Rattle.query_rounds.proofs.after.Statement.{statement}
use Rattle.query_rounds.proofs.after.Tie as tie

-- what the ending adds here
abbrev adds : tie.Start → Ended → Added
adds s e = after_of e s.args.r s.args.k s.args.room

returns : tie.Need-returns-in-Answer
returns c =
    ap {B = Added} (λ i. record { r = c.args.r + 1; stage = i; row = record { length = c.in-Answer.l; arcs = c.in-Answer.m; labels = c.in-Answer.n } }) c.stage_after.ensures
    ∙ sym (ap (adds c.before.before) c.in-Answer.is)

pub after_spec : {M : Type 1} → statement M
after_spec =
    tie.close
    (tie.spec
    (λ c. search rules)
    (λ c. search rules)
    (λ c. search rules)
    (λ c κs. search rules)
    (λ c. search rules)
    (λ c. search rules)
    (λ c. search rules)
    (λ c. search rules)
    (λ c. search rules)
    returns
    (λ c. sym (ap (adds c.before) c.in-NoAnswer.is))
    (λ c. sym (ap (adds c.before) c.in-Refused.is)))
