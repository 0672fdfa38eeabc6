-- Lists of labels that go down. A list is its first label and the list behind it; what a store of one link does to a list.
use mathlib.Core.Path.{◌≡◌, refl, sym, ap, ap₂, ◌∙◌}
use mathlib.Core.List.Memᴰ
use mathlib.Core.List.{List, [], ◌∷◌, ◌++◌, Memᴰ}
use mathlib.Core.Logic.{⊎_elim, ◌≢◌}
use Prim.Native.Nat.{ℕ, zero, suc, ◌+◌, ◌-◌, ◌*◌, ◌^◌, ◌≤◌, ◌<◌}
use native.Mathlib.Omega.{arith}
use native.Mathlib.Numerals.{add-one}
use lib.ListN.{length}
use Rattle.words.proofs.NumberLaws.{num-put-same, length-put}
use Rattle.words.proofs.RecordLaws.{num-put-far}
use Rattle.lists.proofs.Cases.{three_ways}
use Rattle.labels.specs.Field.{label_bytes}
use Rattle.search_lists.specs.Link.{link_at, put_link, follow, list_at, Linked}

pub list-none : (l : List ℕ) (h : ℕ) → h ≡ 0 → list_at l h ≡ []
unfolding list_at follow
list-none l h e = rw e refl

follow-below : (f : ℕ) (l : List ℕ) (n h k : ℕ) → Linked l n → h ≤ n → Memᴰ k (follow f l h) → k < h
unfolding follow
follow-below zero l n h k d b m = absurd (Memᴰ.not-nil m)
follow-below (suc f) l n zero k d b m = absurd (Memᴰ.not-nil m)
follow-below (suc f) l n (suc i) k d b m =
    let w = d.links i (omega arith) in
    ⊎_elim (λ z. omega arith) (λ z. omega (arith, follow-below f l n (link_at l i) k d (omega arith) z)) (Memᴰ.cases_cons m)

-- what is followed depends on the links of its labels only
follow-cong : (f : ℕ) (l m : List ℕ) (h : ℕ) → ((k : ℕ) → Memᴰ k (follow f l h) → link_at m k ≡ link_at l k) → follow f m h ≡ follow f l h
unfolding follow
follow-cong zero l m h e = refl
follow-cong (suc f) l m zero e = refl
follow-cong (suc f) l m (suc i) e =
    ap₂ (λ x xs. x ∷ xs) refl (ap (follow f m) (e i (Memᴰ.head refl)) ∙ follow-cong f l m (link_at l i) (λ k z. e k (Memᴰ.tail z)))

pub list-cong : (l m : List ℕ) (h : ℕ) → ((k : ℕ) → Memᴰ k (list_at l h) → link_at m k ≡ link_at l k) → list_at m h ≡ list_at l h
unfolding list_at
list-cong l m h e = follow-cong h l m h e

module _ {l : List ℕ} {n : ℕ} (d : Linked l n) where
  enough : (f g h : ℕ) → h ≤ n → h ≤ f → h ≤ g → follow f l h ≡ follow g l h
  unfolding follow
  enough zero zero h b a c = refl
  enough zero (suc g) zero b a c = refl
  enough zero (suc g) (suc i) b a c = absurd (omega arith)
  enough (suc f) zero zero b a c = refl
  enough (suc f) zero (suc i) b a c = absurd (omega arith)
  enough (suc f) (suc g) zero b a c = refl
  enough (suc f) (suc g) (suc i) b a c =
      let w = d.links i (omega arith) in
      rw (enough f g (link_at l i) (omega arith) (omega arith) (omega arith))

  list-suc : (i : ℕ) → i < n → list_at l (suc i) ≡ i ∷ list_at l (link_at l i)
  unfolding list_at follow
  list-suc i h =
      let w = d.links i h in
      rw (enough i (link_at l i) (link_at l i) (omega arith) (omega arith) (omega arith))

  pub list-first : (i : ℕ) → i < n → list_at l (i + 1) ≡ i ∷ list_at l (link_at l i)
  list-first i h = ap (list_at l) (add-one i) ∙ list-suc i h

  -- from a head that is not 0
  pub list-step : (h k : ℕ) → h ≤ n → (h ≡ 0 → ⊥) → k ≡ h - 1 → list_at l h ≡ k ∷ list_at l (link_at l k)
  list-step h k b ne e =
      let w : h ≡ suc k = omega arith in
      rw w (list-suc k (omega arith))

  pub list-below : (h k : ℕ) → h ≤ n → Memᴰ k (list_at l h) → k < h
  unfolding list_at
  list-below h k b m = follow-below h l n h k d b m

-- ---- one link stored

module _ (l : List ℕ) (p v : ℕ) where
  pub link-new : p * label_bytes + label_bytes ≤ length l → v < 2 ^ 16 → link_at (put_link l p v) p ≡ v
  link-new h b = num-put-same 2 l (p * label_bytes + 30) v (omega arith) b

  pub link-other : (k : ℕ) → k ≢ p → link_at (put_link l p v) k ≡ link_at l k
  link-other k ne = num-put-far label_bytes 2 2 l p k 30 30 v (λ e. ne (sym e)) refl refl

  pub linked-put : {n : ℕ} → Linked l n → p < n → v ≤ p → v < 2 ^ 16 → Linked (put_link l p v) n
  linked-put {n} d h b s =
      record {
        room = rw (length-put 2 l (p * label_bytes + 30) v) d.room;
        links = λ i k. ⊎_elim (λ z. rw (link-other i (λ e. omega arith)) (d.links i k))
            (⊎_elim
            (λ z. rw (z, link-new (omega (arith, d.room)) s) b)
            (λ z. rw (link-other i (λ e. omega arith)) (d.links i k)))
            (three_ways i p);
      }

nil-not-cons : {x : ℕ} {xs : List ℕ} → ◌≡◌ {A = List ℕ} [] (x ∷ xs) → ⊥
nil-not-cons z = let y : ◌≡◌ {A = ℕ} 0 1 = cc in omega arith

-- a list in which p stands, once the link of p is stored anew
pub list-redirect : {l m : List ℕ} {n : ℕ} → Linked l n → Linked m n → (p : ℕ) → ((k : ℕ) → k ≢ p → link_at m k ≡ link_at l k) → (front rest : List ℕ) (h : ℕ) → h ≤ n
    → ((x : ℕ) → Memᴰ x front → p < x) → list_at l h ≡ front ++ (p ∷ rest) → list_at m h ≡ front ++ (p ∷ list_at m (link_at m p))
list-redirect {l} {m} d c p e [] rest zero b a w = absurd (nil-not-cons (sym (list-none l 0 refl) ∙ w))
list-redirect {l} {m} d c p e [] rest (suc i) b a w =
    let z : i ∷ list_at l (link_at l i) ≡ p ∷ rest = sym (list-suc d i (omega arith)) ∙ w in
    let y : i ≡ p = cc in
    rw y (list-suc c p (omega arith))
list-redirect {l} {m} d c p e (x ∷ front) rest zero b a w = absurd (nil-not-cons (sym (list-none l 0 refl) ∙ w))
list-redirect {l} {m} d c p e (x ∷ front) rest (suc i) b a w =
    let z : i ∷ list_at l (link_at l i) ≡ x ∷ (front ++ (p ∷ rest)) = sym (list-suc d i (omega arith)) ∙ w in
    let y : i ≡ x = cc in
    let t : list_at l (link_at l i) ≡ front ++ (p ∷ rest) = cc in
    let k : link_at m i ≡ link_at l i = e i (λ q. omega (arith, a x (Memᴰ.head refl))) in
    let j = d.links i (omega arith) in
    list-suc c i (omega arith) ∙ ap₂ (λ u us. u ∷ us) y (ap (list_at m) k ∙ list-redirect d c p e front rest (link_at l i) (omega arith) (λ u n. a u (Memᴰ.tail n)) t)
