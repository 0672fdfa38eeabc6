-- The numbers below n that pass a test, in rising order of a key: each in turn is put before the first whose key is not smaller.
use mathlib.Core.Path.{◌≡◌, refl, sym, subst}
use mathlib.Core.Logic.{◌⊎◌, inl, inr, ⊎_elim}
use mathlib.Core.Bool.{Bool, true, false, cond}
use mathlib.Core.List.Memᴰ
use mathlib.Core.List.{List, [], ◌∷◌, Memᴰ}
use Prim.Native.Nat.{ℕ, zero, suc, ◌≤◌, ◌<◌}
use native.Mathlib.Omega.{arith}
use lib.Dec.{leb}
use borrow.Author.Tests.{leb-true, leb-false}
use Rattle.lists.proofs.Cases.{order}

module _ (key : ℕ → ℕ) where
  abbrev pub Rising : List ℕ → Type 0
  Rising [] = Unit {0}
  Rising (v ∷ ns) = ((w : ℕ) → Memᴰ w ns → key v ≤ key w) × Rising ns

  unfoldable pub put : ℕ → List ℕ → List ℕ
  put v [] = v ∷ []
  put v (w ∷ ns) = cond (leb (key v) (key w)) (v ∷ w ∷ ns) (w ∷ put v ns)

  put_in : (v : ℕ) (ns : List ℕ) → Memᴰ v (put v ns)
  unfolding put
  put_in v [] = Memᴰ.head refl
  put_in v (w ∷ ns) = go (leb (key v) (key w)) (put_in v ns)
    where
      go : (b : Bool) → Memᴰ v (put v ns) → Memᴰ v (cond b (v ∷ w ∷ ns) (w ∷ put v ns))
      go true m = Memᴰ.head refl
      go false m = Memᴰ.tail m

  put_keeps : (v : ℕ) (ns : List ℕ) (x : ℕ) → Memᴰ x ns → Memᴰ x (put v ns)
  unfolding put
  put_keeps v [] x m = absurd (Memᴰ.not-nil m)
  put_keeps v (w ∷ ns) x m = go (leb (key v) (key w)) (put_keeps v ns x) (Memᴰ.cases_cons m)
    where
      go : (b : Bool) → (Memᴰ x ns → Memᴰ x (put v ns)) → (x ≡ w) ⊎ Memᴰ x ns → Memᴰ x (cond b (v ∷ w ∷ ns) (w ∷ put v ns))
      go true below i = Memᴰ.tail m
      go false below (inl e) = Memᴰ.head e
      go false below (inr i) = Memᴰ.tail (below i)

  put-from : (v : ℕ) (ns : List ℕ) (x : ℕ) → Memᴰ x (put v ns) → (x ≡ v) ⊎ Memᴰ x ns
  unfolding put
  put-from v [] x m = Memᴰ.cases_cons m
  put-from v (w ∷ ns) x m = go (leb (key v) (key w)) (put-from v ns x) m
    where
      go : (b : Bool) → (Memᴰ x (put v ns) → (x ≡ v) ⊎ Memᴰ x ns) → Memᴰ x (cond b (v ∷ w ∷ ns) (w ∷ put v ns)) → (x ≡ v) ⊎ Memᴰ x (w ∷ ns)
      go true below m = Memᴰ.cases_cons m
      go false below m = ⊎_elim (λ e. inr (Memᴰ.head e)) (λ i. ⊎_elim inl (λ j. inr (Memᴰ.tail j)) (below i)) (Memᴰ.cases_cons m)

  put-rising : (v : ℕ) (ns : List ℕ) → Rising ns → Rising (put v ns)
  unfolding put
  put-rising v [] h = (λ w m. absurd (Memᴰ.not-nil m), tt)
  put-rising v (w ∷ ns) h = go (leb (key v) (key w)) refl (put-rising v ns h.1)
    where
      go : (b : Bool) → leb (key v) (key w) ≡ b → Rising (put v ns) → Rising (cond b (v ∷ w ∷ ns) (w ∷ put v ns))
      go true e below =
          let l : key v ≤ key w = leb-true (key v) (key w) e in
          (λ x m. ⊎_elim (λ i. subst (λ y. key v ≤ key y) (sym i) l) (λ i. omega (arith, l, h.0 x i)) (Memᴰ.cases_cons m), h)
      go false e below =
          let l : key w < key v = leb-false (key v) (key w) e in
          (λ x m. ⊎_elim (λ i. subst (λ y. key w ≤ key y) (sym i) (omega (arith, l))) (λ i. h.0 x i) (put-from v ns x m), below)

  module _ (test : ℕ → Bool) where
    unfoldable pub in_turn : ℕ → List ℕ
    unfolding put
    in_turn zero = []
    in_turn (suc n) = cond (test n) (put n (in_turn n)) (in_turn n)

    pub in-turn-rising : (n : ℕ) → Rising (in_turn n)
    unfolding in_turn
    in-turn-rising zero = tt
    in-turn-rising (suc n) = go (test n) (in-turn-rising n)
      where
        go : (b : Bool) → Rising (in_turn n) → Rising (cond b (put n (in_turn n)) (in_turn n))
        go true h = put-rising n (in_turn n) h
        go false h = h

    pub in-turn-e : (n v : ℕ) → Memᴰ v (in_turn n) → (v < n) × (test v ≡ true)
    unfolding in_turn
    in-turn-e zero v m = absurd (Memᴰ.not-nil m)
    in-turn-e (suc n) v m = go (test n) refl (in-turn-e n v) m
      where
        go : (b : Bool) → test n ≡ b → (Memᴰ v (in_turn n) → (v < n) × (test v ≡ true)) → Memᴰ v (cond b (put n (in_turn n)) (in_turn n)) → (v < suc n) × (test v ≡ true)
        go true e below m = ⊎_elim (λ i. subst (λ y. (y < suc n) × (test y ≡ true)) (sym i) (omega arith, e)) (λ i. let b = below i in (omega (arith, b.0), b.1)) (put-from n (in_turn n) v m)
        go false e below m = let b = below m in (omega (arith, b.0), b.1)

    pub in-turn-i : (n v : ℕ) → v < n → test v ≡ true → Memᴰ v (in_turn n)
    unfolding in_turn
    in-turn-i zero v h t = absurd (omega arith)
    in-turn-i (suc n) v h t = go (test n) refl (λ l. in-turn-i n v l t) (order n v)
      where
        go : (b : Bool) → test n ≡ b → (v < n → Memᴰ v (in_turn n)) → (n ≤ v) ⊎ (v < n) → Memᴰ v (cond b (put n (in_turn n)) (in_turn n))
        go true e below (inl l) =
            let i : n ≡ v = omega arith in
            subst (λ y. Memᴰ y (put n (in_turn n))) i (put_in n (in_turn n))
        go true e below (inr l) = put_keeps n (in_turn n) v (below l)
        go false e below (inl l) =
            let i : n ≡ v = omega arith in
            let z : true ≡ false = rw (sym t) (subst (λ y. test y ≡ false) i e) in
            absurd (subst lib.Dec.T z tt)
        go false e below (inr l) = below l
