-- Where a distance is none, nothing is changed, and the key stays no_key. Else the key set is that of the candidate: both distances are below 2 ^ 40, so it fits.
use mathlib.Core.Logic.{inl, inr}
use native.Mathlib.Omega.{arith}
use borrow.Author.Rules.{rules}
use Rattle.via_chains.proofs.CandidateLaws.{key-kept, key_set}
use Rattle.via_chains.proofs.key.enter.Statement.{statement}
use Rattle.via_chains.proofs.key.enter.Tie as tie

returns : tie.Need-returns-then-to-ge-FAR
returns c =
    let s = c in
    key-kept s.args.n s.args.room.now s.args.v s.requires.1 s.args.root s.requires.0 s.requires.2 (inl (omega (arith, c.long-to.ensures, c.if-to-ge-FAR.true)))

returns-2 : tie.Need-returns-then-on-ge-FAR
returns-2 c =
    let s = c in
    key-kept s.args.n s.args.room.now s.args.v s.requires.1 s.args.root s.requires.0 s.requires.2 (inr (omega (arith, c.long-on.ensures, c.if-on-ge-FAR.true)))

-- where both are there
abbrev second : tie.After-word-rank → tie.After-long-on
second w = w.before.before

abbrev first : tie.After-word-rank → tie.After-long-to
first w = (second w).before.before

abbrev start : tie.After-word-rank → tie.Start
start w = (first w).before.before

returns-3 : tie.Need-returns
returns-3 c =
    let w = c.before.before.before.before in
    let s = start w in
    key_set s.args.n s.args.room.now s.args.v s.requires.1 c.set_key.ensures (omega (arith, (first w).long-to.ensures, (second w).if-to-ge-FAR.false))
    (omega (arith, (second w).long-on.ensures, w.if-on-ge-FAR.false)) (omega (arith, (first w).long-to.ensures, (second w).long-on.ensures, w.word-rank.ensures))

pub enter_spec : {M : Type 1} → statement M
enter_spec =
    tie.close
    (tie.spec
    (λ c κs. search rules)
    (λ c. search rules)
    returns
    (λ c κs. search rules)
    (λ c. search rules)
    returns-2
    (λ c κs. search rules)
    (λ c. search rules)
    (λ c. search rules)
    (λ c. search rules)
    (λ c. search rules)
    (λ c κs. search rules)
    (λ c. search rules)
    returns-3)
