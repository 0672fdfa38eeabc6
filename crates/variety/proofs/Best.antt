-- What the definition of the choice says: the choices of k are exactly the ascending lists of k ranks, in lexicographic order; and the one chosen is the first
-- of those that no other is more varied than.
use mathlib.Core.Path.{◌≡◌, refl, sym, ap, subst, ◌∙◌}
use mathlib.Core.Logic.{◌⊎◌, inl, inr, ⊎_elim}
use mathlib.Core.Option.{none, some}
use mathlib.Core.List.Memᴰ
use mathlib.Core.List.{List, [], ◌∷◌, ◌++◌, map, append-nil, append_assoc, Memᴰ}
use mathlib.Core.Bool.{Bool, true, false, cond}
use Prim.Native.Nat.{ℕ, zero, suc, ◌≤◌, ◌<◌}
use native.Mathlib.Omega.{arith}
use native.Mathlib.Nat.{mul-le-mul_left, mul-lt-mul_of_pos_left, lt_of_mul-lt-mul_left}
use lib.Dec.{T}
use lib.ListN.{length, get_or}
use Rattle.lists.specs.Tests.{up_from}
use Rattle.lists.proofs.Cases.{cases}
use Rattle.lists.proofs.TestLaws.{lex-lt, lex-eq}
use Rattle.lists.proofs.MemberLaws.{length-up_from}
use Rattle.net.specs.Net.{Arc}
use Rattle.net.specs.Route.{length_of, numbers_first}
use Rattle.variety.specs.Choice.{choices_of, hope, better, best_of}
use Rattle.products.specs.declared.Fraction.{Fraction}
use Rattle.variety.specs.Variety.{less, variety, varied, chosen, no_route, pairwise}
use Rattle.variety.proofs.Fractions.{Proper, less-e, less-i, not-less, least-proper, proper, named}

-- ---- the choices

-- c is made of some of rs, in their order
pub data Of {A : Type 0} : List A → List A → Type 0 where
  done : {rs : List A} → Of [] rs
  take : {r : A} {c rs : List A} → Of c rs → Of (r ∷ c) (r ∷ rs)
  pass : {r : A} {c rs : List A} → Of c rs → Of c (r ∷ rs)

module _ {A : Type 0} where
  pub choices-e : (rs : List A) (k : ℕ) (c : List A) → Memᴰ c (choices_of rs k) → Of c rs × (length c ≡ k)
  unfolding choices_of
  choices-e [] zero c m = let e = Memᴰ.eq_of_singleton m in (subst (λ z. Of z []) (sym e) done, ap length e)
  choices-e (r ∷ rs) zero c m = let e = Memᴰ.eq_of_singleton m in (subst (λ z. Of z (r ∷ rs)) (sym e) done, ap length e)
  choices-e [] (suc k) c m = absurd (Memᴰ.not-nil m)
  choices-e (r ∷ rs) (suc k) c m = go (λ j x. choices-e rs j x) (Memᴰ.append_cases (map (λ x. r ∷ x) (choices_of rs k)) m)
    where
      go : ((j : ℕ) (x : List A) → Memᴰ x (choices_of rs j) → Of x rs × (length x ≡ j)) → Memᴰ c (map (λ x. r ∷ x) (choices_of rs k)) ⊎ Memᴰ c (choices_of rs (suc k)) → Of c (r ∷ rs) × (length c ≡ suc k)
      go again (inl i) =
          let w = Memᴰ.of_map (λ x. r ∷ x) (choices_of rs k) i in
          let j = again k w.0 w.1 in
          (subst (λ z. Of z (r ∷ rs)) w.2 (take j.0), sym (ap length w.2) ∙ ap suc j.1)
      go again (inr i) = let j = again (suc k) c i in (pass j.0, j.1)

  pub choices-i : {rs c : List A} → Of c rs → Memᴰ c (choices_of rs (length c))
  unfolding choices_of
  choices-i (done {rs = []}) = Memᴰ.head refl
  choices-i (done {rs = r ∷ rs}) = Memᴰ.head refl
  choices-i (take {r = r} {c = c} {rs = rs} o) = Memᴰ.append_left (choices_of rs (suc (length c))) (Memᴰ.map (λ x. r ∷ x) (choices-i o))
  choices-i (pass {r = r} {c = []} {rs = rs} o) = Memᴰ.head refl
  choices-i (pass {r = r} {c = x ∷ c} {rs = rs} o) = Memᴰ.append_right (map (λ y. r ∷ y) (choices_of rs (length c))) (choices-i o)

  some-choice : (rs : List A) (k : ℕ) → k ≤ length rs → (c : List A) × Memᴰ c (choices_of rs k)
  unfolding choices_of
  some-choice [] zero h = ([], Memᴰ.head refl)
  some-choice (r ∷ rs) zero h = ([], Memᴰ.head refl)
  some-choice [] (suc k) h = absurd (omega arith)
  some-choice (r ∷ rs) (suc k) h = let w = some-choice rs k (omega arith) in (r ∷ w.0, Memᴰ.append_left (choices_of rs (suc k)) (Memᴰ.map (λ x. r ∷ x) w.1))

-- each comes first, compared as numbers from the start, before all that stand after it
abbrev pub Lexical : List (List ℕ) → Type 0
Lexical [] = Unit {0}
Lexical (c ∷ cs) = ((d : List ℕ) → Memᴰ d cs → T (numbers_first c d)) × Lexical cs

lexical-append : (xs ys : List (List ℕ)) → Lexical xs → Lexical ys → ((x y : List ℕ) → Memᴰ x xs → Memᴰ y ys → T (numbers_first x y)) → Lexical (xs ++ ys)
lexical-append [] ys h k f = k
lexical-append (x ∷ xs) ys h k f = (
  λ d m. ⊎_elim (h.0 d) (f x d (Memᴰ.head refl)) (Memᴰ.append_cases xs m),
  lexical-append xs ys h.1 k (λ y z m i. f y z (Memᴰ.tail m) i),
)

lexical-map : (r : ℕ) (cs : List (List ℕ)) → Lexical cs → Lexical (map (λ c. r ∷ c) cs)
unfolding numbers_first
lexical-map r [] h = tt
lexical-map r (c ∷ cs) h = (
  λ d m. let w = Memᴰ.of_map (λ x. r ∷ x) cs m in subst (λ z. T (numbers_first (r ∷ c) z)) w.2 (lex-eq r r (numbers_first c w.0) refl (h.0 w.0 w.1)),
  lexical-map r cs h.1,
)

-- a choice of k > 0 from i on begins with i or more
begins-from : (i n k : ℕ) (c : List ℕ) → Memᴰ c (choices_of (up_from i n) (suc k)) → (x : ℕ) × (y : List ℕ) × (c ≡ x ∷ y) × (i ≤ x)
unfolding choices_of up_from
begins-from i zero k c m = absurd (Memᴰ.not-nil m)
begins-from i (suc n) k c m = go (λ j. begins-from (suc i) n k c j) (Memᴰ.append_cases (map (λ x. i ∷ x) (choices_of (up_from (suc i) n) k)) m)
  where
    go : (Memᴰ c (choices_of (up_from (suc i) n) (suc k)) → (x : ℕ) × (y : List ℕ) × (c ≡ x ∷ y) × (suc i ≤ x))
        → Memᴰ c (map (λ x. i ∷ x) (choices_of (up_from (suc i) n) k)) ⊎ Memᴰ c (choices_of (up_from (suc i) n) (suc k)) → (x : ℕ) × (y : List ℕ) × (c ≡ x ∷ y) × (i ≤ x)
    go again (inl j) = let w = Memᴰ.of_map (λ x. i ∷ x) (choices_of (up_from (suc i) n) k) j in (i, w.0, sym w.2, omega arith)
    go again (inr j) = let w = again j in (w.0, w.1, w.2, omega (arith, w.3))

pub choices-lexical : (i n k : ℕ) → Lexical (choices_of (up_from i n) k)
unfolding choices_of up_from numbers_first
choices-lexical i zero zero = (λ d m. absurd (Memᴰ.not-nil m), tt)
choices-lexical i (suc n) zero = (λ d m. absurd (Memᴰ.not-nil m), tt)
choices-lexical i zero (suc k) = tt
choices-lexical i (suc n) (suc k) =
    lexical-append (map (λ c. i ∷ c) (choices_of (up_from (suc i) n) k)) (choices_of (up_from (suc i) n) (suc k)) (lexical-map i (choices_of (up_from (suc i) n) k) (choices-lexical (suc i) n k)) (choices-lexical (suc i) n (suc k)) apart
  where
    apart : (x y : List ℕ) → Memᴰ x (map (λ c. i ∷ c) (choices_of (up_from (suc i) n) k)) → Memᴰ y (choices_of (up_from (suc i) n) (suc k)) → T (numbers_first x y)
    apart x y m j =
        let w = Memᴰ.of_map (λ c. i ∷ c) (choices_of (up_from (suc i) n) k) m in
        let b = begins-from (suc i) n k y j in
        subst (λ z. T (numbers_first z y)) w.2 (subst (λ z. T (numbers_first (i ∷ w.0) z)) (sym b.2) (lex-lt i b.0 (numbers_first w.0 b.1) b.3))

-- ---- the first of the best

module _ {A : Type 0} (beats : List A → List A → Bool) where
  -- b stands in cs, is better than all before it, and none after it is better
  pub record FirstBest (cs : List (List A)) (b : List A) : Type 0 where
    pub before : List (List A)
    pub after : List (List A)
    pub stands : cs ≡ before ++ (b ∷ after)
    pub better-than : (c : List A) → Memᴰ c before → T (beats c b)
    pub none-better : (c : List A) → Memᴰ c after → T (beats b c) → ⊥

  module _ (asym : (b c : List A) → T (beats b c) → T (beats c b) → ⊥) (weak : (a b c : List A) → T (beats a c) → T (beats a b) ⊎ T (beats b c)) where
    one_more : (cs : List (List A)) (b c : List A) → FirstBest cs b → (t : Bool) → beats b c ≡ t → (x : List A) × (cond t (some c) (some b) ≡ some x) × FirstBest (cs ++ (c ∷ [])) x
    one_more cs b c f true e = (
      c,
      refl,
      record {
        before = cs;
        after = [];
        stands = refl;
        better-than = λ x m. ⊎_elim old (⊎_elim (λ i. subst (λ z. T (beats z c)) (sym i) now) (λ i. ⊎_elim (λ j. absurd (f.none-better x i j)) (λ j. j) (weak b x c now))) (parts x m);
        none-better = λ x m. absurd (Memᴰ.not-nil m);
      },
    )
      where
        now : T (beats b c)
        now = subst T (sym e) tt

        old : {x : List A} → Memᴰ x f.before → T (beats x c)
        old {x} i = ⊎_elim (λ j. j) (λ j. absurd (asym b c now j)) (weak x c b (f.better-than x i))

        parts : (x : List A) → Memᴰ x cs → Memᴰ x f.before ⊎ ((x ≡ b) ⊎ Memᴰ x f.after)
        parts x m = ⊎_elim inl (λ i. inr (Memᴰ.cases_cons i)) (Memᴰ.append_cases f.before (subst (Memᴰ x) f.stands m))
    one_more cs b c f false e = (
      b,
      refl,
      record {
        before = f.before;
        after = f.after ++ (c ∷ []);
        stands = ap (λ l. l ++ (c ∷ [])) f.stands ∙ append_assoc f.before (b ∷ f.after) (c ∷ []);
        better-than = f.better-than;
        none-better = λ x m h. ⊎_elim (λ i. f.none-better x i h) (λ i. subst T e (subst (λ z. T (beats b z)) (Memᴰ.eq_of_singleton i) h)) (Memᴰ.append_cases f.after m);
      },
    )

    best-from : (cs seen : List (List A)) (b : List A) → FirstBest seen b → (x : List A) × (best_of beats (some b) cs ≡ some x) × FirstBest (seen ++ cs) x
    unfolding best_of better hope
    best-from [] seen b f = (b, refl, subst (λ l. FirstBest l b) (sym (append-nil seen)) f)
    best-from (c ∷ cs) seen b f =
        let w = one_more seen b c f (beats b c) refl in
        let r = best-from cs (seen ++ (c ∷ [])) w.0 w.2 in
        (r.0, ap (λ o. best_of beats o cs) w.1 ∙ r.1, subst (λ l. FirstBest l r.0) (append_assoc seen (c ∷ []) cs) r.2)

    pub best-is : (c : List A) (cs : List (List A)) → (x : List A) × (best_of beats none (c ∷ cs) ≡ some x) × FirstBest (c ∷ cs) x
    unfolding best_of better hope
    best-is c cs = best-from cs (c ∷ []) c (record { before = []; after = []; stands = refl; better-than = λ x m. absurd (Memᴰ.not-nil m); none-better = λ x m. absurd (Memᴰ.not-nil m) })

-- ---- of the list

less-asym : (x y : Fraction) → T (less x y) → T (less y x) → ⊥
less-asym x y h k = let l = less-e x y h in let m = less-e y x k in omega arith

less-weak : (x y z : Fraction) → Proper x → Proper y → T (less x z) → T (less x y) ⊎ T (less y z)
less-weak x y z px py h = go (cases (less x y))
  where
    go : (less x y ≡ true) ⊎ (less x y ≡ false) → T (less x y) ⊎ T (less y z)
    go (inl e) = inl (subst T (sym e) tt)
    go (inr e) = inr (less-i y z (lt_of_mul-lt-mul_left x.under (omega (arith, mul-lt-mul_of_pos_left {k = y.under} (less-e x z h) py, mul-le-mul_left z.under (not-less x y e)))))

module _ (arcs : List Arc) (list : List (List ℕ)) (long : (i : ℕ) → 0 < length_of arcs (get_or list i no_route)) where
  pub variety-proper : (ranks : List ℕ) → Proper (variety arcs list ranks)
  unfolding variety named
  variety-proper ranks = least-proper (pairwise arcs (named arcs list long ranks)) (proper arcs list long ranks)

  -- k of at least k routes are chosen, and how
  pub chosen-best : (k : ℕ) → k ≤ length list → (ranks : List ℕ) × (chosen arcs list k ≡ some ranks) × FirstBest (varied arcs list) (choices_of (up_from 0 (length list)) k) ranks
  unfolding chosen varied
  chosen-best k h = go (choices_of (up_from 0 (length list)) k) refl
    where
      go : (cs : List (List ℕ)) → choices_of (up_from 0 (length list)) k ≡ cs → (ranks : List ℕ) × (best_of (varied arcs list) none cs ≡ some ranks) × FirstBest (varied arcs list) cs ranks
      go [] e =
          let w = some-choice (up_from 0 (length list)) k (omega (arith, length-up_from 0 (length list))) in
          absurd (Memᴰ.not-nil (subst (Memᴰ w.0) e w.1))
      go (c ∷ cs) e =
          best-is (varied arcs list) (λ a b. less-asym (variety arcs list a) (variety arcs list b))
          (λ a b c. less-weak (variety arcs list a) (variety arcs list b) (variety arcs list c) (variety-proper a) (variety-proper b)) c cs
