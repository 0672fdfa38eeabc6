-- What the two tests say of the candidate's overlaps is what the theory's say of its chain.
use mathlib.Core.Path.{◌≡◌, sym, subst, ap, ◌∙◌}
use mathlib.Core.Bool.{not}
use mathlib.Core.List.{List, []}
use Prim.Native.Nat.{ℕ, ◌-◌, ◌≤◌}
use native.Mathlib.Nat.{sub-zero}
use native.Mathlib.Omega.{arith}
use borrow.Author.Rules.{rules}
use lib.ListN.{length, take}
use Rattle.table.proofs.FaultLaws.{all-good}
use Rattle.labels.specs.Field.{most_earlier}
use Rattle.labels.specs.Rows.{overlaps_of}
use Rattle.search_ask.specs.Ask.{net_for, width, chain_of}
use Rattle.search_ask.specs.Earlier.{earlier_of}
use Rattle.search_ask.proofs.EarlierLaws.{length-earlier_in}
use Rattle.search_lists.specs.Listed.{Listed}
use Rattle.search_trial.specs.Trial.{Trying, passes_at}
use Rattle.search_trial.proofs.TrialLaws.{own-many, measured, passes-here}
use Rattle.search_advance.proofs.dropped.Statement.{statement}
use Rattle.search_advance.proofs.dropped.Tie as tie

abbrev start : tie.After-own-1 → tie.Start
start c = c.before.before.before.before.before.before

few : (s : tie.Start) → length s.args.lens.now ≤ most_earlier
few s = omega (arith, length-earlier_in (width s.args.ask) (length s.args.lens.now) s.args.area.now, s.requires.0.holding.few)

trying : (s : tie.Start) → Trying s.args.ask s.args.table.now s.args.area.now s.args.labels.now (record { r = length s.args.lens.now; n = s.args.n; c = s.args.c })
trying s = record { searching = s.requires.0.searching; holding = s.requires.0.holding; among = s.requires.1; slots = s.requires.0.earlier.slots; formed = s.requires.0.earlier.formed }

-- the overlaps, as the call left them
abbrev own : tie.After-of_candidate → List ℕ
own c = take (length c.args.lens.now - 0) c.of_candidate.new.own

own_is : (c : tie.After-of_candidate) → let s = start c.before in
    own c ≡ overlaps_of (net_for s.args.ask s.args.table.now []) (earlier_of s.args.ask s.args.area.now s.args.lens.now) (chain_of s.args.labels.now s.args.c)
own_is c = ap (λ k. take k c.of_candidate.new.own) (sub-zero (length c.args.lens.now)) ∙ c.of_candidate.ensures.1

of-candidate-requires : tie.Need-of_candidate-requires
of-candidate-requires c κs = let s = start c in (trying s, s.requires.0.filter, few s)

passes-requires : tie.Need-passes-requires
passes-requires c κs =
    let o = c.before.before.before in
    let s = start o.before in (
      measured (trying s) s.requires.0.earlier (own o) (own_is o),
      subst (λ r. Listed s.args.ask r s.args.area.now s.args.labels.now s.args.n) (sym (own-many (trying s) s.requires.0.earlier (own o) (own_is o))) s.requires.0.listed,
      λ e. omega (arith, s.requires.1.label-below),
      rw c.to_of-end.ensures (all-good s.args.ask.nodes s.args.table.now s.requires.0.searching.accepted.no-fault s.args.c.arc s.requires.1.arc-below).end,
    )

returns : tie.Need-returns
returns c =
    let t = c in
    let o = t.before.before.before.before in
    let s = start o.before in
    ap not
    (c.passes.ensures ∙ ap (λ v. passes_at s.args.ask s.args.lens.now s.args.labels.now s.args.n v (own o)) t.to_of-end.ensures
    ∙ passes-here (trying s) s.requires.0.earlier (own o) (own_is o) [])

pub dropped_spec : {M : Type 1} → statement M
dropped_spec =
    tie.close
    (tie.spec
    (λ c. search rules)
    of-candidate-requires
    (λ c κs. search rules)
    (λ c. search rules)
    (λ c. search rules)
    (λ c. omega (arith, few (start c.before.before.before)))
    passes-requires
    returns)
