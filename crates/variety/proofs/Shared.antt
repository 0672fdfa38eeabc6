-- What two routes share is the same from either side, so code may mark one route and walk along another.
use mathlib.Core.Path.{◌≡◌, refl, sym, ap, subst, ◌∙◌}
use mathlib.Core.Logic.{◌⊎◌, inl, inr}
use mathlib.Core.List.Memᴰ
use mathlib.Core.List.{List, [], ◌∷◌, map, Memᴰ}
use mathlib.Core.Bool.{Bool, true, false, not, ◌||◌, cond}
use Prim.Native.Nat.{ℕ, ◌+◌}
use native.Mathlib.Omega.{arith}
use native.Mathlib.Decide.{ℕ_discrete}
use borrow.Author.Tests.{eq-eqb, ne_eqb}
use lib.Dec.{T, eqb, T_not, not_T}
use Rattle.lists.specs.Tests.{has, distinct, keep, cons_if}
use Rattle.lists.proofs.TestLaws.{and_i, and_l, and_r, has→mem, mem→has}
use Rattle.net.specs.Net.{Arc, Net, arc}
use Rattle.net.specs.Route.{visited, end_of, leaves, chain, partial, length_of}
use Rattle.net.proofs.Chains.{chain-cons, leaves-e, partial-chain}
use Rattle.distances.proofs.Parts.{partial-back}
use Rattle.variety.specs.Variety.{shared}

not-false : (b : Bool) → T (not b) → b ≡ false
not-false true h = absurd h
not-false false h = refl

module _ (arcs : List Arc) where
  -- what x counts for, if it is there
  part : Bool → ℕ → ℕ
  part b x = cond b (arc arcs x).len 0

  -- a number more to look for, which was not looked for and stands at most once
  one_more : (x : ℕ) (p q : List ℕ) → has x p ≡ false → T (distinct q)
      → length_of arcs (keep (λ a. eqb a x || has a p) q) ≡ part (has x q) x + length_of arcs (keep (λ a. has a p) q)
  unfolding length_of keep has distinct part
  one_more x p [] n d = refl
  one_more x p (y ∷ q) n d = go (ℕ_discrete x y) (one_more x p q n (and_r (not (has y q)) (distinct q) d))
    where
      other : (b : Bool) → length_of arcs (keep (λ a. eqb a x || has a p) q) ≡ part (has x q) x + length_of arcs (keep (λ a. has a p) q)
          → length_of arcs (cons_if b y (keep (λ a. eqb a x || has a p) q)) ≡ part (has x q) x + length_of arcs (cons_if b y (keep (λ a. has a p) q))
      other true i = omega arith
      other false i = i

      go : Dec (x ≡ y) → length_of arcs (keep (λ a. eqb a x || has a p) q) ≡ part (has x q) x + length_of arcs (keep (λ a. has a p) q)
          → length_of arcs (cons_if (eqb y x || has y p) y (keep (λ a. eqb a x || has a p) q)) ≡ part (eqb x y || has x q) x + length_of arcs (cons_if (has y p) y (keep (λ a. has a p) q))
      go (yes e) i =
          let f : has y p ≡ false = subst (λ z. has z p ≡ false) e n in
          let g : has x q ≡ false = subst (λ z. has z q ≡ false) (sym e) (not-false (has y q) (and_l (not (has y q)) (distinct q) d)) in
          let j : length_of arcs (keep (λ a. eqb a x || has a p) q) ≡ length_of arcs (keep (λ a. has a p) q) = i ∙ ap (λ b. part b x + length_of arcs (keep (λ a. has a p) q)) g ∙ omega arith in
          rw (eq-eqb y x (sym e), eq-eqb x y e, f) (omega (arith, ap (λ z. (arc arcs z).len) e))
      go (no e) i = rw (ne_eqb y x (λ k. e (sym k)), ne_eqb x y e) (other (has y p) i)

  none_kept : (q : List ℕ) → length_of arcs (keep (λ a. false) q) ≡ 0
  unfolding length_of keep
  none_kept [] = refl
  none_kept (y ∷ q) = none_kept q

  in-front : (b : Bool) (x : ℕ) (l : List ℕ) → part b x + length_of arcs l ≡ length_of arcs (cons_if b x l)
  unfolding length_of part cons_if
  in-front true x l = refl
  in-front false x l = omega arith

  pub shared-both : (p q : List ℕ) → T (distinct p) → T (distinct q) → shared arcs p q ≡ shared arcs q p
  unfolding shared length_of keep has distinct
  shared-both [] q d e = none_kept q
  shared-both (x ∷ p) q d e =
      one_more x p q (not-false (has x p) (and_l (not (has x p)) (distinct p) d)) e
      ∙ ap (λ n. part (has x q) x + n) (shared-both p q (and_r (not (has x p)) (distinct p) d) e)
      ∙ in-front (has x q) x (keep (λ a. has a q) p)

  -- the arcs of a simple chain are different, since the nodes are
  map-distinct : (f : ℕ → ℕ) (p : List ℕ) → T (distinct (map f p)) → T (distinct p)
  unfolding distinct
  map-distinct f [] h = tt
  map-distinct f (a ∷ p) h =
      and_i (not (has a p)) (distinct p)
      (not_T (has a p) (λ k. T_not (has (f a) (map f p)) (and_l (not (has (f a) (map f p))) (distinct (map f p)) h) (mem→has (Memᴰ.map f (has→mem a p k)))))
      (map-distinct f p (and_r (not (has (f a) (map f p))) (distinct (map f p)) h))

module _ (net : Net) where
  pub partial-distinct : (s : ℕ) (p : List ℕ) → T (partial net s p) → T (distinct (visited net.arcs s p))
  unfolding partial
  partial-distinct s p h = and_r (chain net s p) (distinct (visited net.arcs s p)) h

  pub arcs-distinct : (s : ℕ) (p : List ℕ) → T (partial net s p) → T (distinct p)
  unfolding visited distinct
  arcs-distinct s p h =
      let l = map (λ a. (arc net.arcs a).to) p in
      map-distinct net.arcs (λ a. (arc net.arcs a).to) p (and_r (not (has s l)) (distinct l) (partial-distinct s p h))

  -- ---- a simple chain leaves no node twice: so marks at nodes tell which arcs it has

  starts-visited : (s : ℕ) (p : List ℕ) → T (chain net s p) → (b : ℕ) → Memᴰ b p → Memᴰ (arc net.arcs b).from (visited net.arcs s p)
  unfolding visited
  starts-visited s [] h b m = absurd (Memᴰ.not-nil m)
  starts-visited s (a ∷ p) h b m = go (λ k. starts-visited (arc net.arcs a).to p (chain-cons net s a p h).1 b k) (Memᴰ.cases_cons m)
    where
      go : (Memᴰ b p → Memᴰ (arc net.arcs b).from (visited net.arcs (arc net.arcs a).to p)) → (b ≡ a) ⊎ Memᴰ b p
          → Memᴰ (arc net.arcs b).from (s ∷ visited net.arcs (arc net.arcs a).to p)
      go again (inl e) = Memᴰ.head (ap (λ z. (arc net.arcs z).from) e ∙ (leaves-e net s a (chain-cons net s a p h).0).starts)
      go again (inr k) = Memᴰ.tail (again k)

  pub starts_apart : (s : ℕ) (p : List ℕ) → T (partial net s p) → (a b : ℕ) → Memᴰ a p → Memᴰ b p → (arc net.arcs a).from ≡ (arc net.arcs b).from → a ≡ b
  unfolding visited end_of distinct
  starts_apart s [] h a b m k e = absurd (Memᴰ.not-nil m)
  starts_apart s (c ∷ p) h a b m k e = go (starts_apart (arc net.arcs c).to p (partial-back net s (c ∷ []) p h) a b) (Memᴰ.cases_cons m) (Memᴰ.cases_cons k)
    where
      ch : T (leaves net s c) × T (chain net (arc net.arcs c).to p)
      ch = chain-cons net s c p (partial-chain net s (c ∷ p) h)

      onward : List ℕ
      onward = visited net.arcs (arc net.arcs c).to p

      -- an arc further on does not leave s
      never : (x y : ℕ) → x ≡ c → Memᴰ y p → (arc net.arcs x).from ≡ (arc net.arcs y).from → ⊥
      never x y i j f =
          T_not (has s onward) (and_l (not (has s onward)) (distinct onward) (partial-distinct s (c ∷ p) h))
          (mem→has (Memᴰ.cast (sym (leaves-e net s c ch.0).starts ∙ ap (λ z. (arc net.arcs z).from) (sym i) ∙ f) (starts-visited (arc net.arcs c).to p ch.1 y j)))

      go : (Memᴰ a p → Memᴰ b p → (arc net.arcs a).from ≡ (arc net.arcs b).from → a ≡ b) → (a ≡ c) ⊎ Memᴰ a p → (b ≡ c) ⊎ Memᴰ b p → a ≡ b
      go again (inl i) (inl j) = i ∙ sym j
      go again (inl i) (inr j) = absurd (never a b i j e)
      go again (inr i) (inl j) = absurd (never b a j i (sym e))
      go again (inr i) (inr j) = again i j e
