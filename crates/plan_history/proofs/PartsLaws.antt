-- The parts of a plan by index. Part m of rank r holds the arcs from the 6 m-th on, six at most; there is such a part exactly if the route is that long. The parts of
-- a rank come by their numbers and the ranks one after the other, so no two parts have both numbers in common.
use mathlib.Core.Path.{◌≡◌, sym, ap, ap₂, ◌∙◌}
use mathlib.Core.List.{List, [], ◌∷◌}
use mathlib.Core.Logic.{⊎_elim}
use Prim.Native.Nat.{ℕ, zero, suc, ◌+◌, ◌-◌, ◌*◌, ◌≤◌, ◌<◌}
use native.Mathlib.Omega.{arith}
use lib.ListN.{length, get_or, take, drop, length-append, length-drop, get_or-append}
use lib.Seq.{drop-drop, get_or-append-add}
use Rattle.lists.proofs.Cases.{order}
use Rattle.plan_record.specs.Record.{Row, part_arcs}
use Rattle.plan_store.specs.Store.{parts_from, parts_of}

-- part m of a route
abbrev pub part_of : ℕ → ℕ → ℕ → List ℕ → Row
part_of plan rank m p = record { plan = plan; rank = rank; part = m; arcs = take part_arcs (drop (part_arcs * m) p) }

-- what stands past the end of a list of rows
abbrev pub no_row : Row
no_row = record { plan = 0; rank = 0; part = 0; arcs = [] }

module _ (plan rank : ℕ) where
  -- ---- of one route, from part m on

  row : ℕ → List ℕ → Row
  row m arcs = record { plan = plan; rank = rank; part = m; arcs = take part_arcs arcs }

  from-i : (n m : ℕ) (arcs : List ℕ) (k : ℕ) → length arcs ≤ n → part_arcs * k < length arcs
      → (k < length (parts_from n plan rank m arcs)) × (get_or (parts_from n plan rank m arcs) k no_row ≡ row (m + k) (drop (part_arcs * k) arcs))
  unfolding parts_from row
  from-i zero m arcs k h b = absurd (omega arith)
  from-i (suc n) m [] k h b = absurd (omega arith)
  from-i (suc n) m (a ∷ arcs) zero h b = (omega arith, ap (λ x. row x (a ∷ arcs)) (omega arith))
  from-i (suc n) m (a ∷ arcs) (suc k) h b =
      let rest = drop part_arcs (a ∷ arcs) in
      let l = length-drop part_arcs (a ∷ arcs) in
      let w = from-i n (m + 1) rest k (omega arith) (omega arith) in
      let i : m + 1 + k ≡ m + suc k = omega arith in
      let j : part_arcs + part_arcs * k ≡ part_arcs * suc k = omega arith in
      (omega (arith, w.0), w.1 ∙ ap₂ row i (drop-drop (part_arcs * k) part_arcs (a ∷ arcs) ∙ ap (λ x. drop x (a ∷ arcs)) j))

  from-e : (n m : ℕ) (arcs : List ℕ) (k : ℕ) → k < length (parts_from n plan rank m arcs) → part_arcs * k < length arcs
  unfolding parts_from
  from-e zero m arcs k h = absurd (omega arith)
  from-e (suc n) m [] k h = absurd (omega arith)
  from-e (suc n) m (a ∷ arcs) zero h = omega arith
  from-e (suc n) m (a ∷ arcs) (suc k) h =
      omega (arith, from-e n (m + 1) (drop part_arcs (a ∷ arcs)) k (omega arith), length-drop part_arcs (a ∷ arcs))

  -- the whole route
  route-i : (p : List ℕ) (m : ℕ) → part_arcs * m < length p → (m < length (parts_from (length p) plan rank 0 p)) × (get_or (parts_from (length p) plan rank 0 p) m no_row ≡ part_of plan rank m p)
  unfolding row
  route-i p m b =
      let w = from-i (length p) 0 p m (omega arith) b in
      let e : 0 + m ≡ m = omega arith in
      (w.0, w.1 ∙ ap (λ x. row x (drop (part_arcs * m) p)) e)

  route-e : (p : List ℕ) (m : ℕ) → m < length (parts_from (length p) plan rank 0 p) → part_arcs * m < length p
  route-e p m b = from-e (length p) 0 p m b

  -- six arcs at most to a part
  route-long : (p : List ℕ) → length p ≤ part_arcs * length (parts_from (length p) plan rank 0 p)
  route-long p =
      let n = length (parts_from (length p) plan rank 0 p) in
      ⊎_elim (λ h. h) (λ h. absurd (omega (arith, (route-i p n h).0))) (order (length p) (part_arcs * n))

-- ---- of all routes, from a rank on

module _ (plan : ℕ) where
  -- how many parts the first route has
  abbrev firsts : ℕ → List ℕ → ℕ
  firsts rank p = length (parts_from (length p) plan rank 0 p)

  module _ (rank : ℕ) (p : List ℕ) (ps : List (List ℕ)) where
    length-parts : length (parts_of plan rank (p ∷ ps)) ≡ firsts rank p + length (parts_of plan (rank + 1) ps)
    unfolding parts_of
    length-parts = length-append (parts_from (length p) plan rank 0 p) (parts_of plan (rank + 1) ps)

    -- a part of the first route, and one of a later one
    first-row : (i : ℕ) → part_arcs * i < length p → get_or (parts_of plan rank (p ∷ ps)) i no_row ≡ part_of plan rank i p
    unfolding parts_of
    first-row i b =
        let w = route-i plan rank p i b in
        get_or-append (parts_from (length p) plan rank 0 p) (parts_of plan (rank + 1) ps) no_row i w.0 ∙ w.1

    later-row : (i : ℕ) → get_or (parts_of plan rank (p ∷ ps)) (firsts rank p + i) no_row ≡ get_or (parts_of plan (rank + 1) ps) i no_row
    unfolding parts_of
    later-row i = get_or-append-add (parts_from (length p) plan rank 0 p) (parts_of plan (rank + 1) ps) i no_row

    later-at : (i : ℕ) → firsts rank p ≤ i → get_or (parts_of plan rank (p ∷ ps)) i no_row ≡ get_or (parts_of plan (rank + 1) ps) (i - firsts rank p) no_row
    later-at i h =
        let e : i ≡ firsts rank p + (i - firsts rank p) = omega arith in
        ap (λ x. get_or (parts_of plan rank (p ∷ ps)) x no_row) e ∙ later-row (i - firsts rank p)

  no-parts : (rank k : ℕ) → k < length (parts_of plan rank []) → ⊥
  unfolding parts_of
  no-parts rank k h = omega arith

  -- there is a part of this rank and number, ranks counted from the first of the routes
  pub parts-i : (rank : ℕ) (ps : List (List ℕ)) (r m : ℕ) → r < length ps → part_arcs * m < length (get_or ps r [])
      → (k : ℕ) × (k < length (parts_of plan rank ps)) × (get_or (parts_of plan rank ps) k no_row ≡ part_of plan (rank + r) m (get_or ps r []))
  parts-i rank [] r m h b = absurd (omega arith)
  parts-i rank (p ∷ ps) zero m h b =
      let e : rank ≡ rank + 0 = omega arith in
      (m, omega (arith, length-parts rank p ps, (route-i plan rank p m b).0), first-row rank p ps m b ∙ ap (λ x. part_of plan x m p) e)
  parts-i rank (p ∷ ps) (suc r) m h b =
      let w = parts-i (rank + 1) ps r m (omega arith) b in
      let e : rank + 1 + r ≡ rank + suc r = omega arith in
      (firsts rank p + w.0, omega (arith, length-parts rank p ps, w.1), later-row rank p ps w.0 ∙ w.2 ∙ ap (λ x. part_of plan x m (get_or ps r [])) e)

  -- each is one of those
  pub parts-e : (rank : ℕ) (ps : List (List ℕ)) (k : ℕ) → k < length (parts_of plan rank ps)
      → (r : ℕ) × (m : ℕ) × (r < length ps) × (part_arcs * m < length (get_or ps r [])) × (get_or (parts_of plan rank ps) k no_row ≡ part_of plan (rank + r) m (get_or ps r []))
  parts-e rank [] k h = absurd (no-parts rank k h)
  parts-e rank (p ∷ ps) k h =
      ⊎_elim
      (λ c.
      let w = parts-e (rank + 1) ps (k - firsts rank p) (omega (arith, length-parts rank p ps)) in
      let e : rank + 1 + w.0 ≡ rank + suc w.0 = omega arith in
      (suc w.0, w.1, omega (arith, w.2), w.3, later-at rank p ps k c ∙ w.4 ∙ ap (λ x. part_of plan x w.1 (get_or ps w.0 [])) e))
      (λ c.
      let b = route-e plan rank p k c in
      let e : rank ≡ rank + 0 = omega arith in
      (0, k, omega arith, b, first-row rank p ps k b ∙ ap (λ x. part_of plan x k p) e))
      (order (firsts rank p) k)

  -- a part of the first route has its rank and its index, one of a later one a later rank
  first-numbers : (rank : ℕ) (p : List ℕ) (ps : List (List ℕ)) (i : ℕ) → i < firsts rank p
      → ((get_or (parts_of plan rank (p ∷ ps)) i no_row).rank ≡ rank) × ((get_or (parts_of plan rank (p ∷ ps)) i no_row).part ≡ i)
  first-numbers rank p ps i c =
      let e = first-row rank p ps i (route-e plan rank p i c) in
      (ap (λ x. x.rank) e, ap (λ x. x.part) e)

  later-rank : (rank : ℕ) (p : List ℕ) (ps : List (List ℕ)) (i : ℕ) → firsts rank p ≤ i → i < length (parts_of plan rank (p ∷ ps))
      → rank < (get_or (parts_of plan rank (p ∷ ps)) i no_row).rank
  later-rank rank p ps i c h =
      let w = parts-e (rank + 1) ps (i - firsts rank p) (omega (arith, length-parts rank p ps)) in
      let e = ap (λ x. x.rank) (later-at rank p ps i c) in
      omega (arith, ap (λ x. x.rank) w.4)

  -- no two have rank and number in common
  pub parts-apart : (rank : ℕ) (ps : List (List ℕ)) (j k : ℕ) → j < length (parts_of plan rank ps) → k < length (parts_of plan rank ps)
      → (get_or (parts_of plan rank ps) j no_row).rank ≡ (get_or (parts_of plan rank ps) k no_row).rank → (get_or (parts_of plan rank ps) j no_row).part ≡ (get_or (parts_of plan rank ps) k no_row).part
      → j ≡ k
  parts-apart rank [] j k a b x y = absurd (no-parts rank j a)
  parts-apart rank (p ∷ ps) j k a b x y =
      let n = firsts rank p in
      ⊎_elim
      (λ c.
      ⊎_elim
      (λ d.
      let u = later-at rank p ps j c in
      let v = later-at rank p ps k d in
      let l = length-parts rank p ps in
      let q =
      parts-apart (rank + 1) ps (j - n) (k - n) (omega arith) (omega arith) (ap (λ z. z.rank) (sym u) ∙ x ∙ ap (λ z. z.rank) v) (ap (λ z. z.part) (sym u) ∙ y ∙ ap (λ z. z.part) v) in
      omega arith)
      (λ d. absurd (omega (arith, (first-numbers rank p ps k d).0, later-rank rank p ps j c a)))
      (order n k))
      (λ c.
      ⊎_elim
      (λ d. absurd (omega (arith, (first-numbers rank p ps j c).0, later-rank rank p ps k d b)))
      (λ d. sym (first-numbers rank p ps j c).1 ∙ y ∙ (first-numbers rank p ps k d).1)
      (order n k))
      (order n j)

  -- six arcs at most to a part, so there are enough of them
  pub parts-long : (rank : ℕ) (ps : List (List ℕ)) (r : ℕ) → r < length ps → length (get_or ps r []) ≤ part_arcs * length (parts_of plan rank ps)
  parts-long rank [] r h = absurd (omega arith)
  parts-long rank (p ∷ ps) zero h = omega (arith, length-parts rank p ps, route-long plan rank p)
  parts-long rank (p ∷ ps) (suc r) h = omega (arith, length-parts rank p ps, parts-long (rank + 1) ps r (omega arith))
