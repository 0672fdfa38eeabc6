-- The summaries by value. A round more sets the first record that is three zeros; the first k of them are those of k rounds.
use mathlib.Core.Path.{◌≡◌, refl, sym, ap, ap₂, subst, ◌∙◌}
use mathlib.Core.Logic.{◌⊎◌, inl, inr, ⊎_elim, ◌≢◌}
use mathlib.Core.List.{List, [], ◌∷◌, ◌++◌, map, map-append, append_assoc}
use Prim.Native.Nat.{ℕ, zero, suc, ◌+◌, ◌-◌, ◌≤◌, ◌<◌}
use native.Mathlib.Omega.{arith}
use lib.ListN.{length, get_or, set, take, replicate, length-append, length-map, get_or-append}
use lib.Seq.{get_or-set_same, get_or-set_other, set-append_left, set_at, get_or_at, take-append-add, take-append-le}
use Rattle.lists.proofs.Cases.{order}
use Rattle.lists.proofs.IndexLaws.{take-replicate}
use Rattle.net.specs.Limits.{most_routes}
use Rattle.net.specs.Round.{Query, Ending}
use Rattle.net.specs.Outcome.{summary, summaries, not_begun}
use Rattle.summary.specs.declared.Summary.{Summary}
use Rattle.summary.specs.declared.Sums.{Sums}
use Rattle.summary.specs.Sums.{record_at, set_entry, firsts}
use Rattle.summary.proofs.Filled.{length-firsts}
use Rattle.query_rounds.specs.Progress.{as_record}

module _ (t : Sums) (r : ℕ) (x : Summary) where
  record-other : (i : ℕ) → i ≢ r → record_at (set_entry t r x) i ≡ record_at t i
  record-other i ne = cc (get_or-set_other t.length r i x.length 0 ne, get_or-set_other t.arcs r i x.arcs 0 ne, get_or-set_other t.labels r i x.labels 0 ne)

  record_same : r < length t.length → r < length t.arcs → r < length t.labels → record_at (set_entry t r x) r ≡ x
  record_same h i j = rw (get_or-set_same t.length r x.length 0 h, get_or-set_same t.arcs r x.arcs 0 i, get_or-set_same t.labels r x.labels 0 j)

  firsts-before : (n : ℕ) → n ≤ r → firsts (set_entry t r x) n ≡ firsts t n
  firsts-before zero h = refl
  firsts-before (suc n) h = ap₂ (λ l y. l ++ (y ∷ [])) (firsts-before n (omega arith)) (record-other n (λ e. omega arith))

  pub firsts-set : r < length t.length → r < length t.arcs → r < length t.labels → (n : ℕ) → r < n
      → firsts (set_entry t r x) n ≡ set (firsts t n) r x
  firsts-set h i j zero k = absurd (omega arith)
  firsts-set h i j (suc n) k = go (firsts-set h i j n) (order n r)
    where
      go : (r < n → firsts (set_entry t r x) n ≡ set (firsts t n) r x) → (n ≤ r) ⊎ (r < n)
          → firsts (set_entry t r x) n ++ (record_at (set_entry t r x) n ∷ []) ≡ set (firsts t n ++ (record_at t n ∷ [])) r x
      go below (inl m) =
          let e : r ≡ n = omega arith in
          ap₂ (λ l y. l ++ (y ∷ [])) (firsts-before n m) (ap (record_at (set_entry t r x)) (sym e) ∙ record_same h i j)
          ∙ sym (set_at (firsts t n) (record_at t n) [] x r (length-firsts t n ∙ sym e))
      go below (inr m) =
          ap₂ (λ l y. l ++ (y ∷ [])) (below m) (record-other n (λ e. omega arith))
          ∙ sym (set-append_left (firsts t n) (record_at t n ∷ []) r x (omega (arith, length-firsts t n)))

-- the summaries of the rounds made, and three zeros for the others
abbrev pub Shows : Query → Sums → List Ending → Type 0
Shows q t made = firsts t most_routes ≡ map as_record (map (summary q) made ++ replicate (most_routes - length made) not_begun)

pub shows_more : (q : Query) (t : Sums) (made : List Ending) (r : ℕ) (x : Summary) (e : Ending) → Shows q t made → length made ≡ r → r < most_routes
    → length t.length ≡ most_routes → length t.arcs ≡ most_routes → length t.labels ≡ most_routes
    → as_record (summary q e) ≡ x → Shows q (set_entry t r x) (made ++ (e ∷ []))
shows_more q t made r x e s n h i j l k =
    let m : most_routes - length made ≡ suc (most_routes - length (made ++ (e ∷ []))) = omega (arith, length-append made (e ∷ [])) in
    let rest = replicate (most_routes - length (made ++ (e ∷ []))) not_begun in
    let b : length (map as_record (map (summary q) made)) ≡ r = length-map (map (summary q) made) as_record ∙ length-map made (summary q) ∙ n in
    firsts-set t r x (omega arith) (omega arith) (omega arith) most_routes h
    ∙ ap (λ ys. set ys r x) (s ∙ ap (λ i. map as_record (map (summary q) made ++ replicate i not_begun)) m ∙ map-append as_record (map (summary q) made) (not_begun ∷ rest))
    ∙ set_at (map as_record (map (summary q) made)) (as_record not_begun) (map as_record rest) x r b
    ∙ ap (λ v. map as_record (map (summary q) made) ++ (v ∷ map as_record rest)) (sym k)
    ∙ sym (map-append as_record (map (summary q) made) (summary q e ∷ rest))
    ∙ ap (map as_record) (sym (append_assoc (map (summary q) made) (summary q e ∷ []) rest) ∙ ap (λ ys. ys ++ rest) (sym (map-append (summary q) made (e ∷ []))))

pub get_or-firsts : (t : Sums) (n i : ℕ) (d : Summary) → i < n → get_or (firsts t n) i d ≡ record_at t i
get_or-firsts t zero i d h = absurd (omega arith)
get_or-firsts t (suc n) i d h = ⊎_elim
    (λ m.
    let e : n ≡ i = omega arith in
    get_or_at (firsts t n) (record_at t n) [] d i (length-firsts t n ∙ e) ∙ ap (record_at t) e)
    (λ m. get_or-append (firsts t n) (record_at t n ∷ []) d i (omega (arith, length-firsts t n)) ∙ get_or-firsts t n i d m)
    (order n i)

firsts-take : (t : Sums) (k n : ℕ) → k ≤ n → take k (firsts t n) ≡ firsts t k
firsts-take t k zero h =
    let e : k ≡ 0 = omega arith in
    subst (λ i. take i (firsts t 0) ≡ firsts t i) (sym e) refl
firsts-take t k (suc n) h = ⊎_elim
    (λ m. take-append-le k (firsts t n) (record_at t n ∷ []) (omega (arith, length-firsts t n)) ∙ firsts-take t k n m)
    (λ m.
    let e : suc n ≡ k = omega arith in
    subst (λ i. take i (firsts t (suc n)) ≡ firsts t i) e (lib.Seq.take_all (suc n) (firsts t (suc n)) (omega (arith, length-firsts t (suc n)))))
    (order k n)

pub take-map : {A B : Type 0} (f : A → B) (n : ℕ) (xs : List A) → take n (map f xs) ≡ map f (take n xs)
take-map f zero xs = refl
take-map f (suc n) [] = refl
take-map f (suc n) (x ∷ xs) = ap (λ l. f x ∷ l) (take-map f n xs)

-- the first k, where at most k rounds were made
pub shows_first : (q : Query) (t : Sums) (made : List Ending) (k : ℕ) → Shows q t made → length made ≤ k → k ≤ most_routes → firsts t k ≡ map as_record (summaries q k made)
unfolding summaries
shows_first q t made k s h i =
    let n : length (map (summary q) made) ≡ length made = length-map made (summary q) in
    let j : k ≡ length (map (summary q) made) + (k - length made) = omega (arith, n) in
    sym (firsts-take t k most_routes i) ∙ ap (take k) s ∙ take-map as_record k (map (summary q) made ++ replicate (most_routes - length made) not_begun)
    ∙ ap (map as_record) (ap (λ x. take x (map (summary q) made ++ replicate (most_routes - length made) not_begun)) j
    ∙ take-append-add (map (summary q) made) (replicate (most_routes - length made) not_begun) (k - length made)
    ∙ ap (λ l. map (summary q) made ++ l) (take-replicate (k - length made) (most_routes - length made) not_begun (omega arith)))
