-- The bound on a round's label count, by induction over the earlier routes. Two live partial routes to one node differ in an overlap, else the first would beat
-- the second; so the end node and the overlaps, as one number of mixed radix, tell them apart, and that number is below the bound.
use mathlib.Core.Path.{◌≡◌, refl, sym, ap, subst}
use mathlib.Core.Logic.{◌⊎◌, inl, inr, ⊎_elim}
use mathlib.Core.Option.{Option, none, some}
use mathlib.Core.List.Memᴰ
use mathlib.Core.List.{List, [], ◌∷◌, map, Memᴰ}
use mathlib.Core.Bool.{not}
use Prim.Native.Nat.{ℕ, ◌<◌, ◌≤◌, ◌+◌, ◌*◌, ◌/◌}
use native.Mathlib.Omega.{arith}
use native.Mathlib.Nat.{mul-le-mul_left, le-div_iff_mul-le, le_of_eq}
use lib.Dec.{T, not_T}
use lib.ListN.{length, length-map}
use Rattle.lists.specs.Tests.{has, distinct, up_from}
use Rattle.net.specs.Route.{end_of, length_of, before, precedes, overlap}
use Rattle.net.specs.Round.{Query, lives_by, answer, counted_with, counted_by, count_by, choices}
use Rattle.lists.proofs.TestLaws.{and_i, has→mem}
use Rattle.lists.proofs.Cases.{three_ways}
use Rattle.lists.proofs.MemberLaws.{up_from-i, length-up_from, distinct-length}
use Rattle.net.proofs.Valid.{Valid}
use Rattle.net.proofs.Order.{before-total, before-irrefl}
use Rattle.net.proofs.Sorted.{Increasing}
use Rattle.net.proofs.Listing.{end_below}
use Rattle.net.proofs.Live.{Live, lives-e}
use Rattle.net.proofs.Answer.{Within, answer-some, counted-increasing, counted-e}

-- ---- two numbers in one: x below n, and y

mixed-below : (n c x y : ℕ) → x < n → y < c → x + n * y < n * c
mixed-below n c x y h k = omega (arith, mul-le-mul_left n k)

mixed-same : (n x y x' y' : ℕ) → x < n → x' < n → x + n * y ≡ x' + n * y' → (x ≡ x') × (y ≡ y')
mixed-same n x y x' y' h k e = go (three_ways y y')
  where
    go : (y < y') ⊎ (y ≡ y') ⊎ (y' < y) → (x ≡ x') × (y ≡ y')
    go (inl l) = absurd (omega (arith, mul-le-mul_left n l))
    go (inr (inl l)) = (omega (arith, ap (λ z. n * z) l), l)
    go (inr (inr l)) = absurd (omega (arith, mul-le-mul_left n l))

-- what b times x is at most, divided by b
le-quotient : (x y b : ℕ) → 0 < b → b * x ≤ y → x ≤ y / b
le-quotient x y b h k = (le-div_iff_mul-le h).1 (omega arith)

-- a test that tells the members of an increasing list apart
pub distinct-map : (f code : List ℕ → ℕ) (ps : List (List ℕ)) → Increasing f ps
    → ((x y : List ℕ) → Memᴰ x ps → Memᴰ y ps → code x ≡ code y → x ≡ y) → T (distinct (map code ps))
unfolding distinct
distinct-map f code [] i inj = tt
distinct-map f code (p ∷ ps) i inj =
    and_i (not (has (code p) (map code ps))) (distinct (map code ps))
    (not_T (has (code p) (map code ps)) (λ h.
    let w = Memᴰ.of_map code ps (has→mem (code p) (map code ps) h) in
    before-irrefl f p (subst (λ z. T (before f p z)) (inj w.0 p (Memᴰ.tail w.1) (Memᴰ.head refl) w.2) (i.0 w.0 w.1))))
    (distinct-map f code ps i.1 (λ x y m k. inj x y (Memᴰ.tail m) (Memᴰ.tail k)))

module _ (q : Query) (v : Valid q) (b-positive : 0 < q.b) where
  -- the overlaps with the earlier routes, as one number
  rank : List (List ℕ) → List ℕ → ℕ
  rank [] p = 0
  rank (e ∷ es) p = overlap q.net p e + (1 + q.a * length_of q.net.arcs e / q.b) * rank es p

  overlap-below : (e p : List ℕ) → q.b * overlap q.net p e ≤ q.a * length_of q.net.arcs e → overlap q.net p e < 1 + q.a * length_of q.net.arcs e / q.b
  overlap-below e p h = omega (arith, le-quotient (overlap q.net p e) (q.a * length_of q.net.arcs e) q.b b-positive h)

  rank_below : (es : List (List ℕ)) (p : List ℕ) → Within q es p → rank es p < choices q es
  unfolding rank choices
  rank_below [] p w = omega arith
  rank_below (e ∷ es) p w =
      mixed-below (1 + q.a * length_of q.net.arcs e / q.b) (choices q es) (overlap q.net p e) (rank es p)
      (overlap-below e p (w e (Memᴰ.head refl))) (rank_below es p (λ x m. w x (Memᴰ.tail m)))

  rank_same : (es : List (List ℕ)) (p r : List ℕ) → Within q es p → Within q es r → rank es p ≡ rank es r
      → (e : List ℕ) → Memᴰ e es → overlap q.net p e ≡ overlap q.net r e
  unfolding rank
  rank_same [] p r w u k e m = absurd (Memᴰ.not-nil m)
  rank_same (d ∷ es) p r w u k e m = go (λ l. rank_same es p r (λ x i. w x (Memᴰ.tail i)) (λ x i. u x (Memᴰ.tail i)) l e) (Memᴰ.cases_cons m)
    where
      both : (overlap q.net p d ≡ overlap q.net r d) × (rank es p ≡ rank es r)
      both =
          mixed-same (1 + q.a * length_of q.net.arcs d / q.b) (overlap q.net p d) (rank es p) (overlap q.net r d) (rank es r)
          (overlap-below d p (w d (Memᴰ.head refl))) (overlap-below d r (u d (Memᴰ.head refl))) k

      go : (rank es p ≡ rank es r → Memᴰ e es → overlap q.net p e ≡ overlap q.net r e) → (e ≡ d) ⊎ Memᴰ e es → overlap q.net p e ≡ overlap q.net r e
      go below (inl f) = subst (λ z. overlap q.net p z ≡ overlap q.net r z) (sym f) both.0
      go below (inr i) = below both.1 i

  module _ (earlier : List (List ℕ)) where
    code : List ℕ → ℕ
    code p = end_of q.net.arcs q.s p + q.net.nodes * rank earlier p

    live_end : (p : List ℕ) → end_of q.net.arcs q.s p < q.net.nodes
    live_end p = end_below q.net q.s v.s-below v.sound.to_below p

    beats-same : (x y : List ℕ) → Live q earlier x → Live q earlier y → code x ≡ code y → T (precedes q.net.arcs x y) → ⊥
    unfolding code
    beats-same x y l m e h =
        let k = mixed-same q.net.nodes (end_of q.net.arcs q.s x) (rank earlier x) (end_of q.net.arcs q.s y) (rank earlier y) (live_end x) (live_end y) e in
        m.unbeaten x l.is-partial
        (record { same_end = k.0; precedes-it = h; no_more = λ d i. le_of_eq (rank_same earlier x y l.is_within m.is_within k.1 d i) })

    pub live-bound : (f : List ℕ → ℕ) (ps : List (List ℕ)) → Increasing f ps → ((p : List ℕ) → Memᴰ p ps → Live q earlier p) → length ps ≤ q.net.nodes * choices q earlier
    unfolding code
    live-bound f ps i l =
        let n = q.net.nodes * choices q earlier in
        let h = distinct-length (map code ps) (up_from 0 n) (distinct-map f code ps i told)
        (λ x m. let w = Memᴰ.of_map code ps m in
        up_from-i 0 n x (omega arith)
        (omega (arith, w.2, mixed-below q.net.nodes (choices q earlier) (end_of q.net.arcs q.s w.0) (rank earlier w.0) (live_end w.0) (rank_below earlier w.0 (l w.0 w.1).is_within)))) in
        omega (arith, length-map ps code, length-up_from 0 n)
      where
        told : (x y : List ℕ) → Memᴰ x ps → Memᴰ y ps → code x ≡ code y → x ≡ y
        told x y m k e =
            ⊎_elim (λ h. absurd (beats-same x y (l x m) (l y k) e h))
            (λ o. ⊎_elim (λ h. absurd (beats-same y x (l y k) (l x m) (sym e) h)) (λ f. f) o)
            (before-total (length_of q.net.arcs) x y)

    module _ (f : List ℕ → ℕ) where
      counted_with-bound : (o : Option (List ℕ)) → answer q earlier ≡ o → length (counted_with f q earlier o) ≤ q.net.nodes * choices q earlier
      unfolding counted_with
      counted_with-bound none e = live-bound f (lives_by f q earlier) (counted-increasing q earlier v f none) (lives-e q earlier v f)
      counted_with-bound (some w) e =
          live-bound f (counted_with f q earlier (some w)) (counted-increasing q earlier v f (some w)) (λ p m. (counted-e q earlier v f w (answer-some q earlier v w e) p m).0)

      -- "The bound, for every round: count is at most nodes times the product, over earlier routes p, of (1 + whole part of a × length(p) / b)." In whatever order.
      pub count-bound : count_by f q earlier ≤ q.net.nodes * choices q earlier
      unfolding count_by counted_by
      count-bound = counted_with-bound (answer q earlier) refl
