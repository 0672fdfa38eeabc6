-- The second table as a search backwards walks it: t a good table, second a right one. Its record j is arc `number_at j` of the first, bytes and all, and ends never
-- fall, so all before `coming_start v` end below v and all from it on at v or above: between it and `coming_start (v + 1)` stand the arcs that come to v, every one,
-- by rising number. So after one of them the next is the first further arc that comes to v (`Next`).
use mathlib.Core.Path.{◌≡◌, ap, ◌∙◌}
use mathlib.Core.List.{List}
use mathlib.Core.Bool.{Bool, false}
use mathlib.Core.Logic.{⊎_elim}
use Prim.Native.Nat.{ℕ, ◌+◌, ◌≤◌, ◌<◌}
use native.Mathlib.Omega.{arith}
use lib.Dec.{leb}
use borrow.Author.Tests.{leb-true, leb-false, le-leb}
use Rattle.lists.proofs.Cases.{order, three_ways}
use Rattle.lists.proofs.IndexLaws.{first-le, first_below, first-at, first-mono}
use Rattle.table.specs.Table.{records, from_at, to_at, len_at}
use Rattle.table.specs.Fault.{table_fault, good}
use Rattle.second.specs.Second.{wrong_second, number_at, Next}
use Rattle.second.specs.Lookup.{coming_start}
use Rattle.second.proofs.ByEndLaws.{number-below, place-of, number-rises}
use Rattle.second.proofs.SecondLaws.{right-length, second-record}

-- record i of the second table ends at v or above
abbrev ends_from : List ℕ → ℕ → ℕ → Bool
ends_from second v i = leb v (to_at second i)

module _ (second : List ℕ) (v : ℕ) where
  pub coming-le : coming_start second v ≤ records second
  unfolding coming_start
  coming-le = omega (arith, first-le (ends_from second v) (records second) 0)

  pub coming-order : coming_start second v ≤ coming_start second (v + 1)
  unfolding coming_start
  coming-order =
      first-mono (ends_from second v) (ends_from second (v + 1)) (records second) 0
      (λ j e. le-leb v (to_at second j) (omega (arith, leb-true (v + 1) (to_at second j) e)))

  -- the run starts no later than a record that ends at v or above
  pub coming-to : (i : ℕ) → v ≤ to_at second i → coming_start second v ≤ i
  unfolding coming_start
  coming-to i h =
      ⊎_elim (λ w. w)
      (λ w. absurd (omega (arith, leb-false v (to_at second i) (first_below (ends_from second v) (records second) 0 i (omega arith) w))))
      (order (coming_start second v) i)

  -- what stands before the run ends below v
  coming-below : (i : ℕ) → i < coming_start second v → to_at second i < v
  unfolding coming_start
  coming-below i h = leb-false v (to_at second i) (first_below (ends_from second v) (records second) 0 i (omega arith) h)

-- the bounds of a run
pub ruleset coming_bounds = (coming-le, coming-order)

module _ (nodes : ℕ) (t : List ℕ) (ok : table_fault nodes t ≡ good) where
  -- the arcs before record j that end where it does lie below lo
  pub next-i : (j lo : ℕ) → j < records t → lo ≤ number_at nodes t j → ((i : ℕ) → i < j → to_at t (number_at nodes t i) ≡ to_at t (number_at nodes t j) → number_at nodes t i < lo) → Next nodes t j lo
  next-i j lo h w f = record { above = w; none = λ a p q e. let k = place-of nodes t ok a (omega (arith, number-below nodes t ok j h)) in other a p q e k.0 k.1 k.2 }
    where
      other : (a : ℕ) → lo ≤ a → a < number_at nodes t j → to_at t a ≡ to_at t (number_at nodes t j) → (i : ℕ) → i < records t → number_at nodes t i ≡ a → ⊥
      other a p q e i l z =
          let g : to_at t (number_at nodes t i) ≡ to_at t (number_at nodes t j) = ap (λ x. to_at t x) z ∙ e in
          ⊎_elim (λ c. omega (arith, f i c g))
          (⊎_elim
          (λ c. let y : number_at nodes t i ≡ number_at nodes t j = ap (number_at nodes t) c in omega arith)
          (λ c. ⊎_elim (λ x. omega arith) (λ x. omega (arith, x.1)) (number-rises nodes t ok j i c l)))
          (three_ways i j)

  module _ (second : List ℕ) (right : wrong_second nodes t second ≡ false) where
    pub coming-count : records second ≡ records t
    coming-count = let e = right-length nodes t ok second right in omega arith

    -- ---- the fields of record j

    pub second_from : (j : ℕ) → j < records second → from_at second j ≡ from_at t (number_at nodes t j)
    second_from j h = (second-record nodes t ok second right j (omega (arith, coming-count))).from

    pub second-to : (j : ℕ) → j < records second → to_at second j ≡ to_at t (number_at nodes t j)
    second-to j h = (second-record nodes t ok second right j (omega (arith, coming-count))).to

    pub second-len : (j : ℕ) → j < records second → len_at second j ≡ len_at t (number_at nodes t j)
    second-len j h = (second-record nodes t ok second right j (omega (arith, coming-count))).len

    -- ---- ends never fall

    ends-up : (i j : ℕ) → i ≤ j → j < records second → to_at second i ≤ to_at second j
    ends-up i j h k =
        ⊎_elim
        (λ w. let e : to_at second i ≡ to_at second j = ap (λ x. to_at second x) (omega arith) in omega arith)
        (λ w.
        let p = second-to i (omega arith) in
        let q = second-to j k in
        ⊎_elim (λ x. omega arith) (λ x. omega (arith, x.0)) (number-rises nodes t ok i j w (omega (arith, coming-count))))
        (order j i)

    -- from the run's start on, records end at v or above
    coming-from : (v i : ℕ) → i < records second → coming_start second v ≤ i → v ≤ to_at second i
    unfolding coming_start
    coming-from v i h w =
        let m = coming_start second v in
        omega (arith, ends-up m i w h, leb-true v (to_at second m) (first-at (ends_from second v) (records second) 0 (omega arith)))

    -- the run starts after each record that ends below v
    pub coming-past : (v i : ℕ) → i < records second → to_at second i < v → i < coming_start second v
    coming-past v i h g = ⊎_elim (λ w. absurd (omega (arith, coming-from v i h w))) (λ w. w) (order (coming_start second v) i)

    -- ---- the arcs that come to v

    module _ (v : ℕ) where
      coming-in : (j : ℕ) → j < coming_start second (v + 1) → j < records t
      coming-in j h = omega (arith, coming-le second (v + 1), coming-count)

      coming-at : (j : ℕ) → coming_start second v ≤ j → j < coming_start second (v + 1) → to_at t (number_at nodes t j) ≡ v
      coming-at j p q =
          let h : j < records second = omega (arith, coming-le second (v + 1)) in
          omega (arith, second-to j h, coming-from v j h p, coming-below second (v + 1) j q)

      pub coming-e : (j : ℕ) → coming_start second v ≤ j → j < coming_start second (v + 1) → (number_at nodes t j < records t) × (to_at t (number_at nodes t j) ≡ v)
      coming-e j p q = (number-below nodes t ok j (coming-in j q), coming-at j p q)

      pub coming-i : (a : ℕ) → a < records t → to_at t a ≡ v → (j : ℕ) × (coming_start second v ≤ j) × (j < coming_start second (v + 1)) × (number_at nodes t j ≡ a)
      coming-i a h e =
          let w = place-of nodes t ok a h in
          let k : w.0 < records second = omega (arith, coming-count, w.1) in
          let z : to_at second w.0 ≡ v = second-to w.0 k ∙ ap (λ x. to_at t x) w.2 ∙ e in
          (w.0, coming-to second v w.0 (omega arith), coming-past (v + 1) w.0 k (omega arith), w.2)

      pub coming-rises : (i j : ℕ) → coming_start second v ≤ i → i < j → j < coming_start second (v + 1) → number_at nodes t i < number_at nodes t j
      coming-rises i j p h q =
          ⊎_elim (λ x. absurd (omega (arith, coming-at i p (omega arith), coming-at j (omega arith) q))) (λ x. x.1) (number-rises nodes t ok i j h (coming-in j q))

      -- of those before record j that come to v too, each stands in the run
      before-it : (i j : ℕ) → i < j → j < coming_start second (v + 1) → coming_start second v ≤ j → to_at t (number_at nodes t i) ≡ to_at t (number_at nodes t j) → coming_start second v ≤ i
      before-it i j h q p e =
          let k : i < records second = omega (arith, coming-le second (v + 1)) in
          coming-to second v i (omega (arith, second-to i k, coming-at j p q))

      pub next-first : (j : ℕ) → j ≡ coming_start second v → j < coming_start second (v + 1) → Next nodes t j 0
      next-first j e q = next-i j 0 (coming-in j q) (omega arith) (λ i h z. absurd (omega (arith, before-it i j h q (omega arith) z)))

      pub next-after : (j : ℕ) → coming_start second v ≤ j → j + 1 < coming_start second (v + 1) → Next nodes t (j + 1) (number_at nodes t j + 1)
      next-after j p q =
          next-i (j + 1) (number_at nodes t j + 1) (coming-in (j + 1) q) (omega (arith, coming-rises j (j + 1) p (omega arith) q))
          (λ i h z. up_to i (before-it i (j + 1) h q (omega arith) z) (omega arith))
        where
          up_to : (i : ℕ) → coming_start second v ≤ i → i ≤ j → number_at nodes t i < number_at nodes t j + 1
          up_to i g h =
              ⊎_elim
              (λ w. let e : number_at nodes t i ≡ number_at nodes t j = ap (number_at nodes t) (omega arith) in omega arith)
              (λ w. omega (arith, coming-rises i j g w (omega arith)))
              (order j i)
