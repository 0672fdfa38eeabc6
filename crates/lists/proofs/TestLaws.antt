-- What the tests of specs/Tests.antt say, as facts: `T b` is "the test b passes". Each test has a law that takes it
-- apart (-e) and one that makes it (-i); after these nobody looks at a Bool again.
use mathlib.Core.Path.{◌≡◌, refl, sym, ap, subst}
use mathlib.Core.Logic.{◌⊎◌, inl, inr}
use mathlib.Core.List.Memᴰ
use mathlib.Core.List.{List, [], ◌∷◌, ◌++◌, Memᴰ}
use mathlib.Core.Bool.{Bool, true, false, ◌&&◌, ◌||◌}
use Prim.Native.Nat.{ℕ, ◌+◌, ◌<◌}
use native.Mathlib.Omega.{arith}
use lib.Dec.{T, ltb, eqb, ltb→lt, lt→ltb, eqb→eq, eqb_refl}
use Rattle.lists.specs.Tests.{has, lex, every, any, keep, cons_if}
use Rattle.lists.proofs.Cases.{three_ways}

-- ---- and, or, not

pub and_i : (x y : Bool) → T x → T y → T (x && y)
and_i true y h k = k
and_i false y h k = h

pub and_l : (x y : Bool) → T (x && y) → T x
and_l true y h = tt
and_l false y h = h

pub and_r : (x y : Bool) → T (x && y) → T y
and_r true y h = h
and_r false y h = absurd h

pub or_l : (x y : Bool) → T x → T (x || y)
or_l true y h = tt
or_l false y h = absurd h

pub or_r : (x y : Bool) → T y → T (x || y)
or_r true y h = tt
or_r false y h = h

pub or-e : (x y : Bool) → T (x || y) → T x ⊎ T y
or-e true y h = inl tt
or-e false y h = inr h

pub eq→eqb : (x y : ℕ) → x ≡ y → T (eqb x y)
eq→eqb x y e = subst (λ k. T (eqb x k)) e (eqb_refl x)

-- ---- `lex`

module _ (x y : ℕ) (r : Bool) where
  pub lex-e : T (lex x y r) → (x < y) ⊎ ((x ≡ y) × T r)
  unfolding lex
  lex-e h = go (or-e (ltb x y) (eqb x y && r) h)
    where
      go : T (ltb x y) ⊎ T (eqb x y && r) → (x < y) ⊎ ((x ≡ y) × T r)
      go (inl l) = inl (ltb→lt x y l)
      go (inr e) = inr (eqb→eq x y (and_l (eqb x y) r e), and_r (eqb x y) r e)

  pub lex-lt : x < y → T (lex x y r)
  unfolding lex
  lex-lt h = or_l (ltb x y) (eqb x y && r) (lt→ltb x y h)

  pub lex-eq : x ≡ y → T r → T (lex x y r)
  unfolding lex
  lex-eq e h = or_r (ltb x y) (eqb x y && r) (and_i (eqb x y) r (eq→eqb x y e) h)

-- ---- `lex` is a strict total order, where what decides at equality is one

pub lex_irrefl : (x : ℕ) (r : Bool) → T (lex x x r) → T r
lex_irrefl x r h = go (lex-e x x r h)
  where
    go : (x < x) ⊎ ((x ≡ x) × T r) → T r
    go (inl l) = absurd (omega arith)
    go (inr k) = k.1

pub lex-trans : (x y z : ℕ) (r s t : Bool) → (T r → T s → T t) → T (lex x y r) → T (lex y z s) → T (lex x z t)
lex-trans x y z r s t f h k = go (lex-e x y r h) (lex-e y z s k)
  where
    go : (x < y) ⊎ ((x ≡ y) × T r) → (y < z) ⊎ ((y ≡ z) × T s) → T (lex x z t)
    go (inl l) (inl m) = lex-lt x z t (omega arith)
    go (inl l) (inr m) = lex-lt x z t (omega arith)
    go (inr l) (inl m) = lex-lt x z t (omega arith)
    go (inr l) (inr m) = lex-eq x z t (omega arith) (f l.1 m.1)

pub lex-total : {E : Type 0} (x y : ℕ) (r s : Bool) → (x ≡ y → T r ⊎ T s ⊎ E) → T (lex x y r) ⊎ T (lex y x s) ⊎ E
lex-total {E} x y r s f = go (three_ways x y)
  where
    same : x ≡ y → T r ⊎ T s ⊎ E → T (lex x y r) ⊎ T (lex y x s) ⊎ E
    same e (inl h) = inl (lex-eq x y r e h)
    same e (inr (inl h)) = inr (inl (lex-eq y x s (sym e) h))
    same e (inr (inr h)) = inr (inr h)

    go : (x < y) ⊎ (x ≡ y) ⊎ (y < x) → T (lex x y r) ⊎ T (lex y x s) ⊎ E
    go (inl l) = inl (lex-lt x y r l)
    go (inr (inl e)) = same e (f e)
    go (inr (inr l)) = inr (inl (lex-lt y x s l))

-- ---- membership

pub has→mem : (x : ℕ) (ys : List ℕ) → T (has x ys) → Memᴰ x ys
unfolding has
has→mem x [] h = absurd h
has→mem x (y ∷ ys) h = go (λ k. has→mem x ys k) (or-e (eqb x y) (has x ys) h)
  where
    go : (T (has x ys) → Memᴰ x ys) → T (eqb x y) ⊎ T (has x ys) → Memᴰ x (y ∷ ys)
    go below (inl e) = Memᴰ.head (eqb→eq x y e)
    go below (inr k) = Memᴰ.tail (below k)

pub mem→has : {x : ℕ} {ys : List ℕ} → Memᴰ x ys → T (has x ys)
unfolding has
mem→has {x} (Memᴰ.head {x = y} {xs = ys} e) = or_l (eqb x y) (has x ys) (eq→eqb x y e)
mem→has {x} (Memᴰ.tail {x = y} {xs = ys} m) = or_r (eqb x y) (has x ys) (mem→has m)

module _ {A : Type 0} (f : A → Bool) where
  pub every-e : {x : A} {xs : List A} → T (every f xs) → Memᴰ x xs → T (f x)
  unfolding every
  every-e h (Memᴰ.head {x = y} {xs = ys} e) = subst (λ z. T (f z)) (sym e) (and_l (f y) (every f ys) h)
  every-e h (Memᴰ.tail {x = y} {xs = ys} m) = every-e (and_r (f y) (every f ys) h) m

  pub every-i : (xs : List A) → ((x : A) → Memᴰ x xs → T (f x)) → T (every f xs)
  unfolding every
  every-i [] h = tt
  every-i (x ∷ xs) h = and_i (f x) (every f xs) (h x (Memᴰ.head refl)) (every-i xs (λ y m. h y (Memᴰ.tail m)))

  pub any-e : (xs : List A) → T (any f xs) → (x : A) × Memᴰ x xs × T (f x)
  unfolding any
  any-e [] h = absurd h
  any-e (x ∷ xs) h = go (λ k. any-e xs k) (or-e (f x) (any f xs) h)
    where
      go : (T (any f xs) → (y : A) × Memᴰ y xs × T (f y)) → T (f x) ⊎ T (any f xs) → (y : A) × Memᴰ y (x ∷ xs) × T (f y)
      go below (inl k) = (x, Memᴰ.head refl, k)
      go below (inr k) = let w = below k in (w.0, Memᴰ.tail w.1, w.2)

  pub any-i : {x : A} {xs : List A} → Memᴰ x xs → T (f x) → T (any f xs)
  unfolding any
  any-i (Memᴰ.head {x = y} {xs = ys} e) h = or_l (f y) (any f ys) (subst (λ z. T (f z)) e h)
  any-i (Memᴰ.tail {x = y} {xs = ys} m) h = or_r (f y) (any f ys) (any-i m h)

  pub keep-e : (x : A) (xs : List A) → Memᴰ x (keep f xs) → Memᴰ x xs × T (f x)
  unfolding keep
  keep-e x [] m = absurd (Memᴰ.not-nil m)
  keep-e x (y ∷ ys) m = go (f y) refl (λ k. keep-e x ys k) m
    where
      go : (b : Bool) → f y ≡ b → (Memᴰ x (keep f ys) → Memᴰ x ys × T (f x)) → Memᴰ x (cons_if b y (keep f ys)) → Memᴰ x (y ∷ ys) × T (f x)
      go true e below k = at (Memᴰ.cases_cons k)
        where
          at : (x ≡ y) ⊎ Memᴰ x (keep f ys) → Memᴰ x (y ∷ ys) × T (f x)
          at (inl q) = (Memᴰ.head q, subst (λ z. T (f z)) (sym q) (subst T (sym e) tt))
          at (inr l) = (Memᴰ.tail (below l).0, (below l).1)
      go false e below k = (Memᴰ.tail (below k).0, (below k).1)

  pub keep-i : {x : A} {xs : List A} → Memᴰ x xs → T (f x) → Memᴰ x (keep f xs)
  unfolding keep
  keep-i {x} (Memᴰ.head {x = y} {xs = ys} q) h = go (f y) (subst (λ z. T (f z)) q h)
    where
      go : (b : Bool) → T b → Memᴰ x (cons_if b y (keep f ys))
      go true k = Memᴰ.head q
      go false k = absurd k
  keep-i {x} (Memᴰ.tail {x = y} {xs = ys} m) h = go (f y) (keep-i m h)
    where
      go : (b : Bool) → Memᴰ x (keep f ys) → Memᴰ x (cons_if b y (keep f ys))
      go true k = Memᴰ.tail k
      go false k = k

  pub keep_append : (xs ys : List A) → keep f (xs ++ ys) ≡ keep f xs ++ keep f ys
  unfolding keep
  keep_append [] ys = refl
  keep_append (x ∷ xs) ys = go (f x) (keep_append xs ys)
    where
      go : (b : Bool) → keep f (xs ++ ys) ≡ keep f xs ++ keep f ys → cons_if b x (keep f (xs ++ ys)) ≡ cons_if b x (keep f xs) ++ keep f ys
      go true e = ap (λ l. x ∷ l) e
      go false e = e
