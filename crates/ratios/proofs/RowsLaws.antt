-- The rows while they are made: a store to place i changes record i of the first n and no other (`firsts-set`), and rows of zeros have the record of a round without
-- an answer at each place (`firsts-zeros`). One route more has one record more, after those of the routes before it (`ratios-snoc`). So where the first i
-- records are those of i routes and the others zeros, a store of the next route's leaves it so for i + 1 (`rows-turn`).
use mathlib.Core.Path.{◌≡◌, refl, sym, ap, ap₂, ◌∙◌}
use mathlib.Core.Bool.{false}
use mathlib.Core.List.{List, [], ◌∷◌, ◌++◌, append-nil}
use mathlib.Core.Logic.{◌≢◌, ⊎_elim}
use Prim.Native.Nat.{ℕ, zero, suc, ◌-◌, ◌≤◌, ◌<◌}
use native.Mathlib.Omega.{arith}
use native.Mathlib.Nat.{sub-zero}
use native.Mathlib.Numerals.{add-one}
use lib.IntN.{pos}
use lib.Ieee.{Float, nan, fin}
use lib.ListN.{length, set, replicate, length-append, get_or-replicate, replicate-append-replicate}
use lib.Seq.{get_or-set_same, get_or-set_other, set_at, set-append_left, append_snoc}
use Rattle.lists.proofs.Cases.{order}
use Rattle.net.specs.Net.{Net}
use Rattle.ratios.specs.declared.Ratios.{Ratios}
use Rattle.ratios.specs.declared.Rows.{Rows}
use Rattle.ratios.specs.Ratios.{ratios_of, ratios_from, ratios_for, no_ratios}
use Rattle.ratios.specs.Rows.{record_at, set_entry, firsts}
use Rattle.ratios.proofs.Filled.{length-firsts}

abbrev figures : Float → Float → Ratios
figures overlap detour = record { overlap = overlap; detour = detour }

-- ---- one store

module _ (t : Rows) (i : ℕ) (x : Ratios) where
  record-other : (j : ℕ) → j ≢ i → record_at (set_entry t i x) j ≡ record_at t j
  record-other j ne = ap₂ figures (get_or-set_other t.overlap i j x.overlap nan ne) (get_or-set_other t.detour i j x.detour nan ne)

  firsts-before : (n : ℕ) → n ≤ i → firsts (set_entry t i x) n ≡ firsts t n
  firsts-before zero h = refl
  firsts-before (suc n) h = ap₂ (λ (l : List Ratios) (y : Ratios). l ++ (y ∷ [])) (firsts-before n (omega arith)) (record-other n (λ e. omega arith))

  module _ (o : i < length t.overlap) (d : i < length t.detour) where
    record_same : record_at (set_entry t i x) i ≡ x
    record_same = ap₂ figures (get_or-set_same t.overlap i x.overlap nan o) (get_or-set_same t.detour i x.detour nan d)

    firsts-set : (n : ℕ) → i < n → firsts (set_entry t i x) n ≡ set (firsts t n) i x
    firsts-set zero h = absurd (omega arith)
    firsts-set (suc n) h =
        ⊎_elim
        (λ w.
        let e : i ≡ n = omega arith in
        rw (← e)
        (ap₂ (λ (l : List Ratios) (y : Ratios). l ++ (y ∷ [])) (firsts-before i (omega arith)) record_same
        ∙ sym (set_at (firsts t i) (record_at t i) [] x i (length-firsts t i))))
        (λ w.
        ap₂ (λ (l : List Ratios) (y : Ratios). l ++ (y ∷ [])) (firsts-set n w) (record-other n (λ e. omega arith))
        ∙ sym (set-append_left (firsts t n) (record_at t n ∷ []) i x (omega (arith, length-firsts t n))))
        (order n i)

-- ---- zeros

abbrev pub zero-rows : ℕ → Rows
zero-rows k = record { overlap = replicate k (fin false 0 (pos 0)); detour = replicate k (fin false 0 (pos 0)) }

replicate-snoc : {A : Type 0} (n : ℕ) (a : A) → replicate n a ++ (a ∷ []) ≡ replicate (suc n) a
replicate-snoc n a = replicate-append-replicate n 1 a ∙ ap (λ k. replicate k a) (add-one n)

firsts-zeros : (k n : ℕ) → n ≤ k → firsts (zero-rows k) n ≡ replicate n no_ratios
firsts-zeros k zero h = refl
firsts-zeros k (suc n) h =
    ap₂ (λ (l : List Ratios) (y : Ratios). l ++ (y ∷ [])) (firsts-zeros k n (omega arith))
    (ap₂ figures (get_or-replicate k n (fin false 0 (pos 0)) nan h) (get_or-replicate k n (fin false 0 (pos 0)) nan h))
    ∙ replicate-snoc n no_ratios

-- ---- the records of routes

module _ (net : Net) where
  length-ratios : (earlier qs : List (List ℕ)) → length (ratios_from net earlier qs) ≡ length qs
  unfolding ratios_from
  length-ratios earlier [] = refl
  length-ratios earlier (q ∷ qs) = ap suc (length-ratios (earlier ++ (q ∷ [])) qs)

  ratios-snoc : (earlier qs : List (List ℕ)) (q : List ℕ) → ratios_from net earlier (qs ++ (q ∷ [])) ≡ ratios_from net earlier qs ++ (ratios_of net q (earlier ++ qs) ∷ [])
  unfolding ratios_from
  ratios-snoc earlier [] q = ap (λ e. ratios_of net q e ∷ []) (sym (append-nil earlier))
  ratios-snoc earlier (p ∷ qs) q =
      ap {B = List Ratios} (λ l. ratios_of net p earlier ∷ l)
      (ratios-snoc (earlier ++ (p ∷ [])) qs q ∙ ap (λ e. ratios_from net (earlier ++ (p ∷ [])) qs ++ (ratios_of net q e ∷ [])) (append_snoc earlier p qs))

  -- The first records of n are those of the routes, the others zeros.
  abbrev pub Rowed : Rows → ℕ → List (List ℕ) → Type 0
  Rowed t n qs = firsts t n ≡ ratios_from net [] qs ++ replicate (n - length qs) no_ratios

  pub rows-turn : (t : Rows) (n i : ℕ) (qs : List (List ℕ)) (q : List ℕ) → length qs ≡ i → i < n → n ≤ length t.overlap → n ≤ length t.detour
      → Rowed t n qs → Rowed (set_entry t i (ratios_of net q qs)) n (qs ++ (q ∷ []))
  rows-turn t n i qs q long h o d e =
      let x = ratios_of net q qs in
      let rs = ratios_from net [] qs in
      let m = n - length (qs ++ (q ∷ [])) in
      let more : n - length qs ≡ suc m = omega (arith, length-append qs (q ∷ [])) in
      firsts-set t i x (omega arith) (omega arith) n h
      ∙ ap (λ (l : List Ratios). set l i x) (e ∙ ap (λ k. rs ++ replicate k no_ratios) more)
      ∙ set_at rs no_ratios (replicate m no_ratios) x i (length-ratios [] qs ∙ long)
      ∙ sym (append_snoc rs x (replicate m no_ratios))
      ∙ ap (λ (l : List Ratios). l ++ replicate m no_ratios) (sym (ratios-snoc [] qs q))

  pub rows_start : (k n : ℕ) → n ≤ k → Rowed (zero-rows k) n []
  unfolding ratios_from
  rows_start k n h = firsts-zeros k n h ∙ ap (λ m. replicate m no_ratios) (sym (sub-zero n))

  pub rows_end : (t : Rows) (n : ℕ) (qs : List (List ℕ)) → Rowed t n qs → firsts t n ≡ ratios_for net n qs
  unfolding ratios_for
  rows_end t n qs e = e
