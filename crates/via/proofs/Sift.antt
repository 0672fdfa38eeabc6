-- Of the joined chains in order only the threshold need be tested. One that crosses itself has, cut where its first part first meets its second, the joined chain of
-- another node: a route of fewer arcs, so a shorter one, which was looked at before (`uncrossed`). If that was kept, the longer one drives all of it, which is over every
-- threshold; if it was not within the threshold of what was kept, the longer one is not either. So it is never kept (`never-kept`), and no more is one that was looked at
-- before. What is left are the candidates of the profile.
use mathlib.Core.Path.{◌≡◌, refl, sym, ap, ap₂, subst, ◌∙◌}
use mathlib.Core.Logic.{◌⊎◌, inl, inr, ⊎_elim}
use mathlib.Core.List.Memᴰ
use mathlib.Core.List.{List, [], ◌∷◌, ◌++◌, map, append-nil, Memᴰ}
use mathlib.Core.Bool.{Bool, true, false, not, ◌&&◌, cond}
use Prim.Native.Nat.{ℕ, suc, ◌+◌, ◌*◌, ◌<◌, ◌≤◌}
use native.Mathlib.Omega.{arith}
use native.Mathlib.Nat.{mul-le-mul_left, mul-le-mul_right, le_trans}
use borrow.Author.Tests.{le-ltb, ltb-false}
use lib.Dec.{T, ltb, eqb, T_not, not_T}
use lib.ListN.{length, length-append}
use Rattle.lists.specs.Tests.{has, distinct, keep, cons_if}
use Rattle.lists.proofs.Cases.{either}
use Rattle.lists.proofs.TestLaws.{and_i, and_l, and_r, or_l, eq→eqb, has→mem, mem→has, any-i}
use Rattle.net.specs.Net.{Net, arc, road, same_road, driven}
use Rattle.net.specs.Route.{visited, end_of, leaves, chain, partial, length_of, precedes, overlap}
use Rattle.net.specs.Round.{Query, within_all}
use Rattle.net.proofs.Valid.{Valid}
use Rattle.net.proofs.Order.{before-irrefl, before-less, not-both, length_of-append}
use Rattle.net.proofs.Overlap.{overlap-append}
use Rattle.net.proofs.Chains.{chain-cons, cons-chain, partial-chain, cut_at, visited-append}
use Rattle.net.proofs.Sorted.{Increasing}
use Rattle.net.proofs.Listing.{end_below}
use Rattle.net.proofs.Answer.{Within}
use Rattle.net.proofs.Step.{within-e, within-i}
use Rattle.distances.specs.Distance.{FirstRoute}
use Rattle.distances.proofs.Parts.{partial-back, first_one, first-beginning, first-ending}
use Rattle.via.specs.Via.{vias, kept_of, profile}
use Rattle.via.specs.Joined.{DrivesOwn, Both, joined, NeverBack, InTurn}
use Rattle.via.proofs.First.{first-route-e, first-route-is}
use Rattle.via.proofs.Vias.{via-e, via-i, via-ends, vias-increasing}

-- ---- a chain that crosses itself, cut

module _ (net : Net) where
  cons-partial : (s a : ℕ) (x : List ℕ) → T (leaves net s a) → T (partial net (arc net.arcs a).to x)
      → (Memᴰ s (visited net.arcs (arc net.arcs a).to x) → ⊥) → T (partial net s (a ∷ x))
  unfolding partial visited distinct
  cons-partial s a x l h n =
      let w = (arc net.arcs a).to in
      let y = visited net.arcs w x in
      and_i (chain net s (a ∷ x)) (distinct (visited net.arcs s (a ∷ x))) (cons-chain net s a x l (partial-chain net w x h))
      (and_i (not (has s y)) (distinct y) (not_T (has s y) (λ k. n (has→mem s y k))) (and_r (chain net w x) (distinct y) h))

  start-new : (s a : ℕ) (p : List ℕ) → T (partial net s (a ∷ p)) → Memᴰ s (visited net.arcs (arc net.arcs a).to p) → ⊥
  unfolding partial visited distinct
  start-new s a p h m =
      let y = visited net.arcs (arc net.arcs a).to p in
      T_not (has s y) (and_l (not (has s y)) (distinct y) (and_r (chain net s (a ∷ p)) (distinct (visited net.arcs s (a ∷ p))) h)) (mem→has m)

  -- the parts of p before and after where it first meets r, and those of r
  record Cut (s v : ℕ) (p r : List ℕ) : Type 0 where
    p₁ : List ℕ
    p₂ : List ℕ
    r₁ : List ℕ
    r₂ : List ℕ
    of-p : p ≡ p₁ ++ p₂
    of-r : r ≡ r₁ ++ r₂
    meets : end_of net.arcs s p₁ ≡ end_of net.arcs v r₁
    simple : T (partial net s (p₁ ++ r₂))

  at-start : (s v : ℕ) (p r : List ℕ) → T (partial net v r) → Memᴰ s (visited net.arcs v r) → Cut s v p r
  unfolding end_of
  at-start s v p r k m =
      let w = cut_at net.arcs v r s m in
      record {
        p₁ = [];
        p₂ = p;
        r₁ = w.0;
        r₂ = w.1;
        of-p = refl;
        of-r = w.2;
        meets = sym w.3;
        simple = subst (λ z. T (partial net z w.1)) w.3 (partial-back net v w.0 w.1 (subst (λ l. T (partial net v l)) w.2 k));
      }

  cut : (s v : ℕ) (p r : List ℕ) → T (partial net s p) → end_of net.arcs s p ≡ v → T (partial net v r) → Cut s v p r
  unfolding end_of visited
  cut s v [] r h e k = at-start s v [] r k (Memᴰ.head e)
  cut s v (a ∷ p) r h e k =
      go (λ i. cut (arc net.arcs a).to v p r i e k) (either (has s (visited net.arcs v r)))
    where
      go : (T (partial net (arc net.arcs a).to p) → Cut (arc net.arcs a).to v p r) → T (has s (visited net.arcs v r)) ⊎ T (not (has s (visited net.arcs v r)))
          → Cut s v (a ∷ p) r
      go below (inl m) = at-start s v (a ∷ p) r k (has→mem s (visited net.arcs v r) m)
      go below (inr n) =
          let w = (arc net.arcs a).to in
          let c = below (partial-back net s (a ∷ []) p h) in
          record {
            p₁ = a ∷ c.p₁;
            p₂ = c.p₂;
            r₁ = c.r₁;
            r₂ = c.r₂;
            of-p = ap (λ l. a ∷ l) c.of-p;
            of-r = c.of-r;
            meets = c.meets;
            simple = cons-partial s a (c.p₁ ++ c.r₂) (chain-cons net s a p (partial-chain net s (a ∷ p) h)).0 c.simple
                (λ m. new c (Memᴰ.append_cases (visited net.arcs w c.p₁) (subst (Memᴰ s) (visited-append net.arcs w c.p₁ c.r₂) m)));
          }
        where
          new : (c : Cut (arc net.arcs a).to v p r) → Memᴰ s (visited net.arcs (arc net.arcs a).to c.p₁) ⊎ Memᴰ s (map (λ b. (arc net.arcs b).to) c.r₂) → ⊥
          new c (inl m) =
              let w = (arc net.arcs a).to in
              start-new s a p h
              (subst (λ l. Memᴰ s (visited net.arcs w l)) (sym c.of-p)
              (subst (Memᴰ s) (sym (visited-append net.arcs w c.p₁ c.p₂)) (Memᴰ.append_left (map (λ b. (arc net.arcs b).to) c.p₂) m)))
          new c (inr m) =
              T_not (has s (visited net.arcs v r)) n
              (mem→has (subst (λ l. Memᴰ s (visited net.arcs v l)) (sym c.of-r)
              (subst (Memᴰ s) (sym (visited-append net.arcs v c.r₁ c.r₂)) (Memᴰ.append_right (visited net.arcs v c.r₁) m))))

-- ---- what a chain drives of itself

-- by road numbers a route drives the roads of its own arcs
pub driven-own : (roads p : List ℕ) (a : ℕ) → Memᴰ a p → T (driven roads p a)
unfolding driven
driven-own roads p a m = any-i (same_road roads a) m (or_l (eqb a a) (not (eqb (road roads a) 0) && eqb (road roads a) (road roads a)) (eq→eqb a a refl))

keep_all : (f : ℕ → Bool) (xs : List ℕ) → ((x : ℕ) → Memᴰ x xs → T (f x)) → keep f xs ≡ xs
unfolding keep
keep_all f [] h = refl
keep_all f (x ∷ xs) h = go (f x) (h x (Memᴰ.head refl)) (keep_all f xs (λ y m. h y (Memᴰ.tail m)))
  where
    go : (b : Bool) → T b → keep f xs ≡ xs → cons_if b x (keep f xs) ≡ x ∷ xs
    go true k e = ap (λ l. x ∷ l) e
    go false k e = absurd k

pub overlap-own : (net : Net) → DrivesOwn net → (p : List ℕ) → overlap net p p ≡ length_of net.arcs p
unfolding overlap
overlap-own net own p = ap (length_of net.arcs) (keep_all (net.drives p) p (own p))

-- ---- what is never kept

pub none_true : (b : Bool) → (T b → ⊥) → b ≡ false
none_true true h = absurd (h tt)
none_true false h = refl

module _ (q : Query) (own : DrivesOwn q.net) (below : q.a < q.b) (k : ℕ) where
  abbrev len : List ℕ → ℕ
  len = length_of q.net.arcs

  -- c has no less in common with any route than d has
  abbrev pub Covers : List ℕ → List ℕ → Type 0
  Covers d c = (e : List ℕ) → overlap q.net d e ≤ overlap q.net c e

  -- d was looked at: it was kept, or there were enough, or it was over a threshold
  abbrev pub Looked : List (List ℕ) → List ℕ → Type 0
  Looked kept d = Memᴰ d kept ⊎ ((k ≤ length kept) ⊎ (Within q kept d → ⊥))

  abbrev passed : List (List ℕ) → List ℕ → Bool
  passed kept c = ltb (length kept) k && within_all q kept c

  pub never-kept : (kept : List (List ℕ)) (d c : List ℕ) → Looked kept d → 0 < len d → Covers d c → passed kept c ≡ false
  never-kept kept d c l long cover = none_true (passed kept c) (λ h. go l (within-e q kept c (and_r (ltb (length kept) k) (within_all q kept c) h)) (and_l (ltb (length kept) k) (within_all q kept c) h))
    where
      go : Looked kept d → Within q kept c → T (ltb (length kept) k) → ⊥
      go (inl m) w h =
          let x : q.b * len d ≤ q.a * len d = le_trans (mul-le-mul_left q.b (omega (arith, cover d, overlap-own q.net own d))) (w d m) in
          omega (arith, mul-le-mul_right {m = suc q.a} {n = q.b} (len d) below)
      go (inr (inl f)) w h = subst T (le-ltb (length kept) k f) h
      go (inr (inr n)) w h = n (λ e m. le_trans (mul-le-mul_left q.b (cover e)) (w e m))

  looked-more : (kept more : List (List ℕ)) (d : List ℕ) → Looked kept d → Looked (kept ++ more) d
  looked-more kept more d (inl m) = inl (Memᴰ.append_left more m)
  looked-more kept more d (inr (inl f)) = inr (inl (omega (arith, length-append kept more)))
  looked-more kept more d (inr (inr n)) = inr (inr (λ w. n (λ e m. w e (Memᴰ.append_left more m))))

  -- what is kept after c was looked at
  abbrev after : List (List ℕ) → List ℕ → List (List ℕ)
  after kept c = cond (passed kept c) (kept ++ (c ∷ [])) kept

  looked-after : (kept : List (List ℕ)) (c d : List ℕ) → Looked kept d → Looked (after kept c) d
  looked-after kept c d l = go (passed kept c)
    where
      go : (b : Bool) → Looked (cond b (kept ++ (c ∷ [])) kept) d
      go true = looked-more kept (c ∷ []) d l
      go false = l

  looked-at : (kept : List (List ℕ)) (c : List ℕ) → Looked (after kept c) c
  looked-at kept c = go (passed kept c) refl
    where
      why : (b : Bool) → ltb (length kept) k ≡ b → (b && within_all q kept c) ≡ false → Looked kept c
      why true f g = inr (inr (λ w. subst T g (within-i q kept c w)))
      why false f g = inr (inl (ltb-false (length kept) k f))

      go : (b : Bool) → passed kept c ≡ b → Looked (cond b (kept ++ (c ∷ [])) kept) c
      go true e = inl (Memᴰ.append_right kept (Memᴰ.head refl))
      go false e = why (ltb (length kept) k) refl e

  -- ---- two lists that keep the same: of the first, each stands in the second, or is covered by one that was looked at

  -- c stands in vs; or it does not, and one that was looked at covers it, or one of vs that precedes it
  abbrev CoveredBy : List (List ℕ) → List (List ℕ) → List ℕ → Type 0
  CoveredBy done vs c =
      ((d : List ℕ) × Memᴰ d done × Covers d c) ⊎ ((w : List ℕ) × Memᴰ w vs × T (precedes q.net.arcs w c) × Covers w c)

  abbrev Placed : List (List ℕ) → List (List ℕ) → List ℕ → Type 0
  Placed done vs c = Memᴰ c vs ⊎ ((Memᴰ c vs → ⊥) × CoveredBy done vs c)

  record Sifting (cs vs done kept : List (List ℕ)) : Type 0 where
    looked : (d : List ℕ) → Memᴰ d done → Looked kept d × (0 < len d)
    back : NeverBack q.net.arcs cs
    rising : Increasing len vs
    long : (w : List ℕ) → Memᴰ w vs → 0 < len w
    among : (w : List ℕ) → Memᴰ w vs → Memᴰ w cs
    cover : (c : List ℕ) → Memᴰ c cs → Placed done vs c

  -- c is passed over
  sifting-over : (c : List ℕ) (cs vs done kept : List (List ℕ)) → Sifting (c ∷ cs) vs done kept → (Memᴰ c vs → ⊥) → Sifting cs vs done kept
  sifting-over c cs vs done kept s n =
      record {
        looked = s.looked;
        back = s.back.1;
        rising = s.rising;
        long = s.long;
        among = λ w m. ⊎_elim (λ e. absurd (n (subst (λ z. Memᴰ z vs) e m))) (λ i. i) (Memᴰ.cases_cons (s.among w m));
        cover = λ d m. s.cover d (Memᴰ.tail m);
      }

  -- c stands first in both
  sifting-on : (c : List ℕ) (cs vs done kept : List (List ℕ)) → Sifting (c ∷ cs) (c ∷ vs) done kept → Sifting cs vs (c ∷ done) (after kept c)
  sifting-on c cs vs done kept s =
      record {
        looked = λ d m. ⊎_elim (λ e. subst (λ z. Looked (after kept c) z × (0 < len z)) (sym e) (looked-at kept c, s.long c (Memᴰ.head refl)))
            (λ i. (looked-after kept c d (s.looked d i).0, (s.looked d i).1)) (Memᴰ.cases_cons m);
        back = s.back.1;
        rising = s.rising.1;
        long = λ w m. s.long w (Memᴰ.tail m);
        among = λ w m. ⊎_elim (λ e. absurd (not_in (subst (λ z. Memᴰ z vs) e m))) (λ i. i) (Memᴰ.cases_cons (s.among w (Memᴰ.tail m)));
        cover = λ d m. on d (s.cover d (Memᴰ.tail m));
      }
    where
      not_in : Memᴰ c vs → ⊥
      not_in m = before-irrefl len c (s.rising.0 c m)

      same : (d x : List ℕ) → d ≡ x → Covers x d
      same d x e y = omega (arith, ap (λ z. overlap q.net z y) e)

      covered : (d : List ℕ) → CoveredBy done (c ∷ vs) d → CoveredBy (c ∷ done) vs d
      covered d (inl x) = inl (x.0, Memᴰ.tail x.1, x.2)
      covered d (inr w) =
          ⊎_elim (λ e. inl (c, Memᴰ.head refl, subst (λ z. Covers z d) e w.3)) (λ i. inr (w.0, i, w.2, w.3)) (Memᴰ.cases_cons w.1)

      on : (d : List ℕ) → Placed done (c ∷ vs) d → Placed (c ∷ done) vs d
      on d (inl m) =
          ⊎_elim (λ e. inr (λ i. not_in (subst (λ z. Memᴰ z vs) e i), inl (c, Memᴰ.head refl, same d c e))) inl (Memᴰ.cases_cons m)
      on d (inr n) = inr (λ m. n.0 (Memᴰ.tail m), covered d n.1)

  -- the first of the second list, where c stands in it
  heads : (c w : List ℕ) (cs vs done kept : List (List ℕ)) → Sifting (c ∷ cs) (w ∷ vs) done kept → Memᴰ c (w ∷ vs) → w ≡ c
  heads c w cs vs done kept s m = go (Memᴰ.cases_cons m) (Memᴰ.cases_cons (s.among w (Memᴰ.head refl)))
    where
      go : (c ≡ w) ⊎ Memᴰ c vs → (w ≡ c) ⊎ Memᴰ w cs → w ≡ c
      go (inl e) j = sym e
      go (inr i) (inl e) = e
      go (inr i) (inr j) = absurd (not-both len c w (s.back.0 w j) (s.rising.0 c i))

  sift-from : (cs vs done kept : List (List ℕ)) → Sifting cs vs done kept → kept_of q k kept cs ≡ kept_of q k kept vs
  unfolding kept_of
  sift-from [] [] done kept s = refl
  sift-from [] (w ∷ vs) done kept s = absurd (Memᴰ.not-nil (s.among w (Memᴰ.head refl)))
  sift-from (c ∷ cs) vs done kept s = go (λ ws ds ks i. sift-from cs ws ds ks i) (s.cover c (Memᴰ.head refl))
    where
      Below : Type 0
      Below = (ws ds ks : List (List ℕ)) → Sifting cs ws ds ks → kept_of q k ks cs ≡ kept_of q k ks ws

      over : Below → (Memᴰ c vs → ⊥) → passed kept c ≡ false → kept_of q k (after kept c) cs ≡ kept_of q k kept vs
      over rest n e = ap (λ b. kept_of q k (cond b (kept ++ (c ∷ [])) kept) cs) e ∙ rest vs done kept (sifting-over c cs vs done kept s n)

      same : Below → (ws : List (List ℕ)) → Sifting (c ∷ cs) ws done kept → Memᴰ c ws → kept_of q k (after kept c) cs ≡ kept_of q k kept ws
      same rest [] z m = absurd (Memᴰ.not-nil m)
      same rest (w ∷ ws) z m =
          let e = heads c w cs ws done kept z m in
          rest ws (c ∷ done) (after kept c) (sifting-on c cs ws done kept (subst (λ x. Sifting (c ∷ cs) (x ∷ ws) done kept) e z))
          ∙ ap (λ x. kept_of q k (after kept x) ws) (sym e)

      go : Below → Placed done vs c → kept_of q k (after kept c) cs ≡ kept_of q k kept vs
      go rest (inl m) = same rest vs s m
      go rest (inr n) =
          over rest n.0
          (⊎_elim (λ d. let l = s.looked d.0 d.1 in never-kept kept d.0 c l.0 l.1 d.2)
          (λ w. absurd (⊎_elim (λ e. before-irrefl len c (subst (λ z. T (precedes q.net.arcs z c)) e w.2)) (λ j. not-both len c w.0 (s.back.0 w.0 j) w.2) (Memᴰ.cases_cons (s.among w.0 w.1))))
          n.1)

-- ---- the joined chains

module _ (q : Query) (valid : Valid q) (own : DrivesOwn q.net) (apart : q.s ≡ q.t → ⊥) (below : q.a < q.b)
    (to on : ℕ → List ℕ) (ns : List ℕ) (turn : InTurn q.net q.s q.t to on ns) where
  abbrev chain_by : ℕ → List ℕ
  chain_by = joined to on

  abbrev size : List ℕ → ℕ
  size = length_of q.net.arcs

  -- first routes to a node and on from it are those of the list
  listed : (v : ℕ) (p r : List ℕ) → FirstRoute q.net q.s v p → FirstRoute q.net v q.t r → Memᴰ v ns × (chain_by v ≡ p ++ r)
  listed v p r f g =
      let m = turn.all v p r f g in
      let b = turn.each v m in
      (m, ap₂ ◌++◌ (first_one q.net q.s v (to v) p b.is-to f) (first_one q.net v q.t (on v) r b.is-on g))

  node-below : (v : ℕ) → Memᴰ v ns → v < q.net.nodes
  node-below v m =
      let f = (turn.each v m).is-to in
      omega (arith, f.ends, end_below q.net q.s valid.s-below valid.sound.to_below (to v))

  -- a simple one is a candidate
  is-via : (v : ℕ) → Memᴰ v ns → T (partial q.net q.s (chain_by v)) → Memᴰ (chain_by v) (vias q.net q.s q.t)
  is-via v m h =
      let b = turn.each v m in
      via-i q.net valid.sound q.s q.t valid.s-below (chain_by v)
      (record {
        v = v;
        v_below = node-below v m;
        to-v = to v;
        from-v = on v;
        is-to = first-route-is q.net valid.sound q.s v valid.s-below (to v) b.is-to;
        is-from = first-route-is q.net valid.sound v q.t (node-below v m) (on v) b.is-on;
        is = refl;
        is-partial = h;
      })

  -- and a candidate is one of them
  via-listed : (w : List ℕ) → Memᴰ w (vias q.net q.s q.t) → Memᴰ w (map chain_by ns)
  via-listed w m =
      let x = via-e q.net valid.sound q.s q.t valid.s-below w m in
      let l = listed x.v x.to-v x.from-v (first-route-e q.net valid.sound q.s x.v valid.s-below x.to-v x.is-to) (first-route-e q.net valid.sound x.v q.t x.v_below x.from-v x.is-from) in
      Memᴰ.cast (x.is ∙ sym l.1) (Memᴰ.map chain_by l.0)

  via-long : (w : List ℕ) → Memᴰ w (vias q.net q.s q.t) → 0 < size w
  unfolding end_of length_of
  via-long w m = go w (via-ends q.net valid.sound q.s q.t valid.s-below w (via-e q.net valid.sound q.s q.t valid.s-below w m))
    where
      go : (w : List ℕ) → end_of q.net.arcs q.s w ≡ q.t → 0 < size w
      go [] e = absurd (apart e)
      go (a ∷ w) e = omega (arith, valid.sound.positive a)

  some-long : (y z : List ℕ) → (y ≡ [] → z ≡ [] → ⊥) → 0 < size y + size z
  unfolding length_of
  some-long [] [] h = absurd (h refl refl)
  some-long [] (a ∷ z) h = omega (arith, valid.sound.positive a)
  some-long (a ∷ y) z h = omega (arith, valid.sound.positive a)

  -- one that crosses itself is covered by a candidate before it
  pub uncrossed : (v : ℕ) → Memᴰ v ns → (T (partial q.net q.s (chain_by v)) → ⊥)
      → (w : List ℕ) × Memᴰ w (vias q.net q.s q.t) × T (precedes q.net.arcs w (chain_by v)) × ((e : List ℕ) → overlap q.net w e ≤ overlap q.net (chain_by v) e)
  uncrossed v m n = go (cut q.net q.s v (to v) (on v) b.is-to.is-partial b.is-to.ends b.is-on.is-partial)
    where
      b : Both q.net q.s q.t to on v
      b = turn.each v m

      go : Cut q.net q.s v (to v) (on v)
          → (w : List ℕ) × Memᴰ w (vias q.net q.s q.t) × T (precedes q.net.arcs w (chain_by v)) × ((e : List ℕ) → overlap q.net w e ≤ overlap q.net (chain_by v) e)
      go c =
          let x = end_of q.net.arcs q.s c.p₁ in
          let w = c.p₁ ++ c.r₂ in
          let f : FirstRoute q.net q.s x c.p₁ = first-beginning q.net valid.sound.positive q.s v c.p₁ c.p₂ (subst (FirstRoute q.net q.s v) c.of-p b.is-to) in
          let g : FirstRoute q.net x q.t c.r₂ = subst (λ z. FirstRoute q.net z q.t c.r₂) (sym c.meets) (first-ending q.net valid.sound.positive v q.t c.r₁ c.r₂ (subst (FirstRoute q.net v q.t) c.of-r b.is-on)) in
          let l = listed x c.p₁ c.r₂ f g in
          let whole : chain_by v ≡ (c.p₁ ++ c.p₂) ++ (c.r₁ ++ c.r₂) = ap₂ ◌++◌ c.of-p c.of-r in (
            w,
            Memᴰ.cast (sym l.1) (is-via x l.0 (subst (λ z. T (partial q.net q.s z)) (sym l.1) c.simple)),
            before-less size w (chain_by v)
                (omega (
                  arith,
                  ap size whole,
                  length_of-append q.net.arcs (c.p₁ ++ c.p₂) (c.r₁ ++ c.r₂),
                  length_of-append q.net.arcs c.p₁ c.p₂,
                  length_of-append q.net.arcs c.r₁ c.r₂,
                  length_of-append q.net.arcs c.p₁ c.r₂,
                  some-long c.p₂ c.r₁ (λ i j. n (subst (λ z. T (partial q.net q.s z)) (sym (whole ∙ ap₂ (λ y z. (c.p₁ ++ y) ++ (z ++ c.r₂)) i j ∙ ap (λ z. z ++ c.r₂) (append-nil c.p₁))) c.simple)),
                )),
            λ e. omega (
              arith,
              ap (λ z. overlap q.net z e) whole,
              overlap-append q.net (c.p₁ ++ c.p₂) (c.r₁ ++ c.r₂) e,
              overlap-append q.net c.p₁ c.p₂ e,
              overlap-append q.net c.r₁ c.r₂ e,
              overlap-append q.net c.p₁ c.r₂ e,
            ),
          )

  pub sift : (k : ℕ) → kept_of q k [] (map chain_by ns) ≡ profile q k
  unfolding profile
  sift k =
      sift-from q own below k (map chain_by ns) (vias q.net q.s q.t) [] []
      (record {
        looked = λ d m. absurd (Memᴰ.not-nil m);
        back = turn.in_order;
        rising = vias-increasing q.net valid.sound q.s q.t valid.s-below;
        long = via-long;
        among = via-listed;
        cover = λ c m. cover c (Memᴰ.of_map chain_by ns m);
      })
    where
      at : (v : ℕ) → Memᴰ v ns → T (partial q.net q.s (chain_by v)) ⊎ T (not (partial q.net q.s (chain_by v)))
          → Placed q own below k [] (vias q.net q.s q.t) (chain_by v)
      at v m (inl h) = inl (is-via v m h)
      at v m (inr h) =
          let n : T (partial q.net q.s (chain_by v)) → ⊥ = T_not (partial q.net q.s (chain_by v)) h in
          inr (λ i. n (via-e q.net valid.sound q.s q.t valid.s-below (chain_by v) i).is-partial, inr (uncrossed v m n))

      cover : (c : List ℕ) → (v : ℕ) × Memᴰ v ns × (chain_by v ≡ c) → Placed q own below k [] (vias q.net q.s q.t) c
      cover c x =
          subst (Placed q own below k [] (vias q.net q.s q.t)) x.2 (at x.0 x.1 (either (partial q.net q.s (chain_by x.0))))
