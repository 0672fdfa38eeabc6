-- What `least_total` computes is the total of every least pair.
use mathlib.Core.Path.{◌≡◌, refl, sym, ap, subst, ◌∙◌}
use mathlib.Core.Logic.{◌⊎◌, inl, inr}
use mathlib.Core.Option.{Option, none, some}
use mathlib.Core.List.Memᴰ
use mathlib.Core.List.{List, [], ◌∷◌, map, Memᴰ}
use mathlib.Core.Bool.{Bool, true, false, ◌&&◌, cond}
use Prim.Native.Nat.{ℕ, ◌+◌, ◌<◌, ◌≤◌}
use native.Mathlib.Omega.{arith}
use lib.Dec.{T, ltb, eqb, ltb→lt}
use Rattle.lists.specs.Tests.{keep}
use Rattle.lists.proofs.TestLaws.{and_i, and_l, and_r, keep-e, keep-i}
use Rattle.lists.proofs.MemberLaws.{flat_map-e, flat_map-i}
use Rattle.net.specs.Net.{Net}
use Rattle.net.specs.Route.{end_of, partial, route, length_of, partials}
use Rattle.net.proofs.Valid.{Sound}
use Rattle.net.proofs.Listing.{listed-is-partial, partial-is-listed}
use Rattle.pair.specs.Pair.{apart, pair, LeastPair, NoPair, routes, totals, lesser, least_of, least_total}

lesser-is : (n : ℕ) (o : Option ℕ) → (lesser n o ≡ n) ⊎ (o ≡ some (lesser n o))
unfolding lesser
lesser-is n none = inl refl
lesser-is n (some m) = go (ltb m n)
  where
    go : (b : Bool) → (cond b m n ≡ n) ⊎ (some m ≡ some (cond b m n))
    go true = inr refl
    go false = inl refl

lesser-le : (n m : ℕ) → (lesser n (some m) ≤ n) × (lesser n (some m) ≤ m)
unfolding lesser
lesser-le n m = go (ltb m n) refl
  where
    go : (b : Bool) → ltb m n ≡ b → (cond b m n ≤ n) × (cond b m n ≤ m)
    go true e = (omega (arith, ltb→lt m n (subst T (sym e) tt)), omega arith)
    go false e = (omega arith, omega (arith, borrow.Author.Tests.ltb-false m n e))

lesser-first : (n : ℕ) (o : Option ℕ) → lesser n o ≤ n
unfolding lesser
lesser-first n none = omega arith
lesser-first n (some m) = (lesser-le n m).0

pub least-stands : (ns : List ℕ) (n : ℕ) → least_of ns ≡ some n → Memᴰ n ns
unfolding least_of
least-stands [] n e = let z : ◌≡◌ {A = ℕ} 0 1 = cc in absurd (omega arith)
least-stands (x ∷ ns) n e = let z : lesser x (least_of ns) ≡ n = cc in go z (lesser-is x (least_of ns)) (least-stands ns n)
  where
    go : lesser x (least_of ns) ≡ n → (lesser x (least_of ns) ≡ x) ⊎ (least_of ns ≡ some (lesser x (least_of ns))) → (least_of ns ≡ some n → Memᴰ n ns) → Memᴰ n (x ∷ ns)
    go z (inl k) below = Memᴰ.head (sym z ∙ k)
    go z (inr k) below = Memᴰ.tail (below (k ∙ ap some z))

pub least-least : (ns : List ℕ) (n m : ℕ) → least_of ns ≡ some n → Memᴰ m ns → n ≤ m
unfolding least_of
least-least [] n m e k = absurd (Memᴰ.not-nil k)
least-least (x ∷ ns) n m e k = let z : lesser x (least_of ns) ≡ n = cc in go z (least_of ns) refl (λ y f j. least-least ns y m f j) (Memᴰ.cases_cons k)
  where
    go : lesser x (least_of ns) ≡ n → (o : Option ℕ) → least_of ns ≡ o → ((y : ℕ) → least_of ns ≡ some y → Memᴰ m ns → y ≤ m) → (m ≡ x) ⊎ Memᴰ m ns → n ≤ m
    go z o f below (inl j) = omega (arith, lesser-first x (least_of ns))
    go z none f below (inr j) = absurd (nothing ns f j)
      where
        nothing : (l : List ℕ) → least_of l ≡ none → Memᴰ m l → ⊥
        nothing [] g i = Memᴰ.not-nil i
        nothing (y ∷ l) g i = let w : ◌≡◌ {A = ℕ} 0 1 = cc in omega arith
    go z (some y) f below (inr j) = omega (arith, below y f j, lesser-le x y, ap (lesser x) f)

pub least-none : (ns : List ℕ) → least_of ns ≡ none → (m : ℕ) → Memᴰ m ns → ⊥
unfolding least_of
least-none [] g m i = Memᴰ.not-nil i
least-none (y ∷ l) g m i = let w : ◌≡◌ {A = ℕ} 0 1 = cc in omega arith

module _ (net : Net) (s t : ℕ) (s-below : s < net.nodes) (sound : Sound net) where
  route-e : (p : List ℕ) → Memᴰ p (routes net s t) → T (route net s t p)
  unfolding routes route
  route-e p m =
      let k = keep-e (λ q. eqb (end_of net.arcs s q) t) p (partials net s) m in
      and_i (partial net s p) (eqb (end_of net.arcs s p) t) (listed-is-partial net s p k.0) k.1

  route-i : (p : List ℕ) → T (route net s t p) → Memᴰ p (routes net s t)
  unfolding routes route
  route-i p h =
      keep-i (λ q. eqb (end_of net.arcs s q) t) (partial-is-listed net s s-below sound.to_below p (and_l (partial net s p) (eqb (end_of net.arcs s p) t) h)) (and_r (partial net s p) (eqb (end_of net.arcs s p) t) h)

  pub total-e : (n : ℕ) → Memᴰ n (totals net s t) → (p : List ℕ) × (q : List ℕ) × T (pair net s t p q) × (length_of net.arcs p + length_of net.arcs q ≡ n)
  unfolding totals pair
  total-e n m =
      let w = flat_map-e (λ p. map (λ q. length_of net.arcs p + length_of net.arcs q) (keep (apart p) (routes net s t))) n (routes net s t) m in
      let p = w.0 in
      let k = Memᴰ.of_map (λ q. length_of net.arcs p + length_of net.arcs q) (keep (apart p) (routes net s t)) w.2 in
      let q = k.0 in
      let l = keep-e (apart p) q (routes net s t) k.1 in
      (p, q, and_i (route net s t p && route net s t q) (apart p q) (and_i (route net s t p) (route net s t q) (route-e p w.1) (route-e q l.0)) l.1, k.2)

  pub total-i : (p q : List ℕ) → T (pair net s t p q) → Memᴰ (length_of net.arcs p + length_of net.arcs q) (totals net s t)
  unfolding totals pair
  total-i p q h =
      let x = route net s t p in
      let y = route net s t q in
      let xy = and_l (x && y) (apart p q) h in
      flat_map-i (λ r. map (λ u. length_of net.arcs r + length_of net.arcs u) (keep (apart r) (routes net s t))) (route-i p (and_l x y xy))
      (Memᴰ.map (λ u. length_of net.arcs p + length_of net.arcs u) (keep-i (apart p) (route-i q (and_r x y xy)) (and_r (x && y) (apart p q) h)))

  pub total-none : least_total net s t ≡ none → NoPair net s t
  unfolding least_total
  total-none e x y h = least-none (totals net s t) e (length_of net.arcs x + length_of net.arcs y) (total-i x y h)

  pub none-total : NoPair net s t → least_total net s t ≡ none
  unfolding least_total
  none-total n = go (least_total net s t) refl
    where
      go : (o : Option ℕ) → least_total net s t ≡ o → o ≡ none
      go none e = refl
      go (some m) e = let k = total-e m (least-stands (totals net s t) m e) in absurd (n k.0 k.1 k.2)

  pub pair-total : (p q : List ℕ) → LeastPair net s t p q → least_total net s t ≡ some (length_of net.arcs p + length_of net.arcs q)
  unfolding least_total
  pair-total p q l = go (least_total net s t) refl
    where
      go : (o : Option ℕ) → least_total net s t ≡ o → o ≡ some (length_of net.arcs p + length_of net.arcs q)
      go none e = absurd (total-none e p q l.is-pair)
      go (some m) e =
          let k = total-e m (least-stands (totals net s t) m e) in
          let i = l.least k.0 k.1 k.2 in
          let j = least-least (totals net s t) m (length_of net.arcs p + length_of net.arcs q) e (total-i p q l.is-pair) in
          ap some (omega (arith, k.3))
