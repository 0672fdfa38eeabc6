-- The tests by numbers are the theory's. Each goes over indices where the theory goes over a list, and at each index they agree: the overlaps of the candidate
-- and those that a label holds are those of the theory, and so are the lengths.
use mathlib.Core.Path.{◌≡◌, refl, sym, subst, ap, ap₂, ◌∙◌}
use mathlib.Core.Logic.{◌≢◌}
use mathlib.Core.Bool.{Bool, true, not, ◌&&◌}
use mathlib.Core.List.{List, []}
use Prim.Native.Nat.{ℕ, ◌+◌, ◌*◌, ◌<◌}
use native.Mathlib.Omega.{arith}
use lib.Dec.{T, eqb, leb, T_not}
use lib.ListN.{length, get_or}
use Rattle.lists.specs.Tests.{up_from, every, any}
use Rattle.lists.proofs.TestLaws.{and_r}
use Rattle.lists.proofs.LoopLaws.{every-at, any_at}
use Rattle.net.specs.Route.{end_of, length_of, overlap, within}
use Rattle.net.specs.Round.{Query, within_all, no_greater}
use Rattle.net.specs.Search.{covered, passes}
use Rattle.table.specs.Table.{to_at, arcs_of}
use Rattle.labels.specs.Field.{end_at, overlap_at}
use Rattle.labels.specs.Chain.{chain_at, chains_in}
use Rattle.labels.specs.Rows.{overlaps_of}
use Rattle.labels.specs.Standing.{Standing, Holding}
use Rattle.labels.proofs.OverlapLaws.{length-overlaps_of, overlaps-most, overlaps-at, overlap-held}
use Rattle.labels.proofs.StoreLaws.{length-chains_in, get_or-chains_in}
use Rattle.search_ask.specs.declared.Ask.{Ask}
use Rattle.search_ask.specs.declared.Candidate.{Candidate}
use Rattle.search_ask.specs.Ask.{net_for, query_for, width, chain_of}
use Rattle.search_ask.specs.Earlier.{Earlier, earlier_of}
use Rattle.search_ask.proofs.AskLaws.{lengths-most}
use Rattle.search_lists.specs.Listed.{Listed, none_greater, covered_at}
use Rattle.search_lists.proofs.ListedLaws.{covered_start}
use Rattle.search_trial.specs.Trial.{Trying, Measured, within_each, passes_at}
use Rattle.search_ask.proofs.EarlierLaws.{length-earlier_in, get_or-earlier_in}
use Rattle.search_trial.proofs.OverlapLaws.{candidate-most, end_is}

-- ---- the tests on a candidate c

module _ (q : Query) (earlier : List (List ℕ)) (c own : List ℕ) (os : own ≡ overlaps_of q.net earlier c) where
  many : length own ≡ length earlier
  many = ap length os ∙ length-overlaps_of q.net earlier c

  -- its overlap with the j-th
  own_at : (j : ℕ) → j < length earlier → get_or own j 0 ≡ overlap q.net c (get_or earlier j [])
  own_at j h = ap (λ l. get_or l j 0) os ∙ overlaps-at q.net earlier c j h

  pub within-is : (lens : List ℕ) → ((j : ℕ) → j < length earlier → get_or lens j 0 ≡ length_of q.net.arcs (get_or earlier j [])) → within_each q.a q.b lens own ≡ within_all q earlier c
  unfolding within_each within_all within
  within-is lens h =
      let test : ℕ → Bool = λ j. leb (q.b * get_or own j 0) (q.a * get_or lens j 0) in
      ap (λ n. every test (up_from 0 n)) many
      ∙ every-at (within q.net q.a q.b c) test [] earlier 0
      (λ j b.
      let e : 0 + j ≡ j = omega arith in
      rw (e, own_at j b, h j b))

  module _ {l : List ℕ} {n : ℕ} (hold : Holding q.net earlier l n) where
    none-greater-is : (k : ℕ) → k < n → none_greater l k own ≡ no_greater q earlier (chain_at l k) c
    unfolding none_greater no_greater
    none-greater-is k h =
        let test : ℕ → Bool = λ j. leb (overlap_at l k j) (get_or own j 0) in
        ap (λ n. every test (up_from 0 n)) many
        ∙ every-at (λ e. leb (overlap q.net (chain_at l k) e) (overlap q.net c e)) test [] earlier 0
        (λ j b.
        let e : 0 + j ≡ j = omega arith in
        rw (e, own_at j b, overlap-held q.net hold k j h b))

    pub covered-is : Standing q.net.arcs q.s l n → (v : ℕ) → v ≡ end_of q.net.arcs q.s c → covered_at l n v own ≡ covered q earlier (chains_in l n) c
    unfolding covered_at covered
    covered-is st v e =
        let test : ℕ → Bool = λ k. eqb (end_at l k) v && none_greater l k own in
        ap (λ m. any test (up_from 0 m)) (sym (length-chains_in l n))
        ∙ any_at (λ r. eqb (end_of q.net.arcs q.s r) (end_of q.net.arcs q.s c) && no_greater q earlier r c) test [] (chains_in l n) 0
        (λ j b.
        let h : j < n = omega (arith, length-chains_in l n) in
        let z : 0 + j ≡ j = omega arith in
        rw (z, get_or-chains_in l n j h, e, st.ends j h, none-greater-is j h))

    pub passes-is : (lens : List ℕ) → ((j : ℕ) → j < length earlier → get_or lens j 0 ≡ length_of q.net.arcs (get_or earlier j [])) → Standing q.net.arcs q.s l n
        → (v : ℕ) → v ≡ end_of q.net.arcs q.s c → (within_each q.a q.b lens own && not (covered_at l n v own)) ≡ passes q earlier (chains_in l n) c
    unfolding passes
    passes-is lens h st v e = ap₂ (λ x y. x && not y) (within-is lens h) (covered-is st v e)

-- ---- on trial, as the code has it

-- what passes does not come back to s, where the first label covers everything
pub passes-away : {ask : Ask} {area labels : List ℕ} {n : ℕ} (lens own : List ℕ) (v : ℕ) → Listed ask (length own) area labels n → n ≢ 0 → passes_at ask lens labels n v own ≡ true → v ≢ ask.s
passes-away {ask} {labels = labels} {n} lens own v d some passed e =
    let x = covered_at labels n v own in
    T_not x (and_r (within_each ask.a ask.b lens own) (not x) (subst T (sym passed) tt)) (subst T (sym (covered_start own d v some e)) tt)

-- which roads are closed does not show in an overlap
pub overlaps-open : (ask : Ask) (table c d : List ℕ) (earlier : List (List ℕ)) (p : List ℕ) → overlaps_of (net_for ask table c) earlier p ≡ overlaps_of (net_for ask table d) earlier p
unfolding overlaps_of overlap
overlaps-open ask table c d earlier p = refl

pub holding-open : (ask : Ask) (table c d : List ℕ) {earlier : List (List ℕ)} {l : List ℕ} {n : ℕ} → Holding (net_for ask table c) earlier l n → Holding (net_for ask table d) earlier l n
holding-open ask table c d {earlier} {l} h = record { few = h.few; overlaps = λ i b. h.overlaps i b ∙ overlaps-open ask table c d earlier (chain_at l i) }

module _ {ask : Ask} {table area lens labels : List ℕ} {n : ℕ} {c : Candidate} (t : Trying ask table area labels (record { r = length lens; n = n; c = c }))
    (e : Earlier (arcs_of table) (width ask) (length lens) area lens) (own : List ℕ) (os : own ≡ overlaps_of (net_for ask table []) (earlier_of ask area lens) (chain_of labels c)) where
  lens-at : (j : ℕ) → j < length (earlier_of ask area lens) → get_or lens j 0 ≡ length_of (arcs_of table) (get_or (earlier_of ask area lens) j [])
  lens-at j h =
      let b : j < length lens = omega (arith, length-earlier_in (width ask) (length lens) area) in
      e.lengths j b ∙ ap (length_of (arcs_of table)) (sym (get_or-earlier_in (width ask) (length lens) area j b))

  pub own-many : length own ≡ length lens
  own-many = ap length os ∙ length-overlaps_of (net_for ask table []) (earlier_of ask area lens) (chain_of labels c) ∙ length-earlier_in (width ask) (length lens) area

  pub measured : Measured ask lens own
  measured =
      let ok = t.searching.accepted in
      record {
        a-most = omega (arith, ok.a-below, ok.b-most);
        b-most = ok.b-most;
        few = omega (arith, own-many, t.holding.few, length-earlier_in (width ask) (length lens) area);
        enough = omega (arith, own-many);
        lens-most = λ j h. e.most j (omega (arith, own-many));
        own-most = λ j h.
            omega (
              arith,
              ap (λ l. get_or l j 0) os,
              overlaps-most (net_for ask table []) (earlier_of ask area lens) (chain_of labels c) j,
              candidate-most (net_for ask table []) t.searching.standing (lengths-most ok) c.label c.arc t.among.label-below,
            );
      }

  pub passes-here : (closed : List ℕ) → passes_at ask lens labels n (to_at table c.arc) own ≡ passes (query_for ask table closed labels) (earlier_of ask area lens) (chains_in labels n) (chain_of labels c)
  passes-here closed =
      passes-is (query_for ask table closed labels) (earlier_of ask area lens) (chain_of labels c) own (os ∙ overlaps-open ask table [] closed (earlier_of ask area lens) (chain_of labels c)) (holding-open ask table [] closed t.holding) lens lens-at t.searching.standing (to_at table c.arc)
      (end_is table ask.s (chain_at labels c.label) c.arc t.among.arc-below)
