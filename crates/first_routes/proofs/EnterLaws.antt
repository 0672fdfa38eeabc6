-- The room when a node is entered: its last arc and its rank are stored, and nothing else changes. A node is seen when its rank is set.
use mathlib.Core.Path.{◌≡◌, refl, ap, ◌∙◌}
use mathlib.Core.Logic.{◌≢◌}
use mathlib.Core.Bool.{Bool, true, false, not, cond}
use mathlib.Core.List.{List}
use Prim.Native.Nat.{ℕ, ◌+◌, ◌*◌, ◌^◌, ◌≤◌, ◌<◌}
use native.Mathlib.Omega.{arith}
use native.Mathlib.Decide.{ℕ_discrete}
use lib.Dec.{T, T_not, ltb, eqb}
use lib.ListN.{length}
use borrow.Author.Tests.{ltb-true, lt-ltb, eq-eqb, ne_eqb}
use Rattle.lists.proofs.TestLaws.{eq→eqb}
use Rattle.words.proofs.NumberLaws.{length-put}
use Rattle.working_room.specs.Field.{room_bytes, put_word, Within}
use Rattle.working_room.proofs.RoomLaws.{word-put, word-put-node, within_word, within-trans, within_wider, within-long_at, within-word_at}
use Rattle.reach.specs.Stand.{dist_in, last_in}
use Rattle.first_routes.specs.Firsts.{forth, none, rank_in, seen_in}
use Rattle.first_routes.specs.Walking.{entered}
use Rattle.first_routes.proofs.OutLaws.{dist_same}

pub seen-e : (n : ℕ) (l : List ℕ) (v : ℕ) → T (seen_in n l v) → (v < n) × (rank_in l v ≢ none)
seen-e n l v h = go (ltb v n) refl h
  where
    go : (b : Bool) → ltb v n ≡ b → T (cond b (not (eqb (rank_in l v) none)) false) → (v < n) × (rank_in l v ≢ none)
    go true e k = (ltb-true v n e, λ z. T_not (eqb (rank_in l v) none) k (eq→eqb (rank_in l v) none z))
    go false e k = absurd k

pub seen-i : (n : ℕ) (l : List ℕ) (v : ℕ) → v < n → rank_in l v ≢ none → T (seen_in n l v)
seen-i n l v h k = rw (lt-ltb v n h, ne_eqb (rank_in l v) none k) tt

pub seen_same : (n : ℕ) (l m : List ℕ) (v : ℕ) → rank_in m v ≡ rank_in l v → seen_in n m v ≡ seen_in n l v
seen_same n l m v e = ap (λ k. cond (ltb v n) (not (eqb k none)) false) e

pub unseen : (n : ℕ) (l : List ℕ) (v : ℕ) → v < n → rank_in l v ≡ none → T (not (seen_in n l v))
unseen n l v h k = rw (lt-ltb v n h, eq-eqb (rank_in l v) none k) tt

pub forth-same : (n : ℕ) (l m : List ℕ) → Within 20 8 l m → dist_in forth n m ≡ dist_in forth n l
forth-same n l m w = dist_same forth n l m (λ v. within-long_at w 12 v refl refl)

module _ (l : List ℕ) (w a m : ℕ) (room : w * room_bytes + room_bytes ≤ length l) where
  pub enter-within : Within 20 8 l (entered l w a m)
  enter-within = within-trans (within_wider 20 8 (within_word 20 l w a refl) refl refl) (within_wider 20 8 (within_word 24 (put_word 20 l w a) w m refl) refl refl)

  pub enter-last : a < 2 ^ 32 → last_in forth (entered l w a m) w ≡ a
  enter-last h = within-word_at (within_word 24 (put_word 20 l w a) w m refl) 20 w refl refl ∙ word-put 20 l w a refl room h

  pub enter-last-other : (v : ℕ) → v ≢ w → last_in forth (entered l w a m) v ≡ last_in forth l v
  enter-last-other v ne = within-word_at (within_word 24 (put_word 20 l w a) w m refl) 20 v refl refl ∙ word-put-node 20 l w a refl v ne

  pub enter-rank : m < 2 ^ 32 → rank_in (entered l w a m) w ≡ m
  enter-rank h = word-put 24 (put_word 20 l w a) w m refl (omega (arith, length-put 4 l (w * room_bytes + 20) a)) h

  pub enter-rank-other : (v : ℕ) → v ≢ w → rank_in (entered l w a m) v ≡ rank_in l v
  enter-rank-other v ne = word-put-node 24 (put_word 20 l w a) w m refl v ne ∙ within-word_at (within_word 20 l w a refl) 24 v refl refl

-- a rank more is unset
pub unset-more : (l m : List ℕ) (n : ℕ) → n * room_bytes + room_bytes ≤ length m → Within 24 4 l m → ((v : ℕ) → v < n → rank_in m v ≡ none)
    → Within 24 4 l (put_word 24 m n none) × ((v : ℕ) → v < n + 1 → rank_in (put_word 24 m n none) v ≡ none)
unset-more l m n room w f = (within-trans w (within_word 24 m n none refl), λ v h. go v h (ℕ_discrete v n))
  where
    go : (v : ℕ) → v < n + 1 → Dec (v ≡ n) → rank_in (put_word 24 m n none) v ≡ none
    go v h (yes e) = ap (rank_in (put_word 24 m n none)) e ∙ word-put 24 m n none refl room (omega arith)
    go v h (no ne) = word-put-node 24 m n none refl v ne ∙ f v (omega (arith, ne))

-- all ranks unset, and then that of s
pub begun : (nodes s : ℕ) (l m : List ℕ) → s * room_bytes + room_bytes ≤ length m → Within 24 4 l m → ((v : ℕ) → v < nodes → rank_in m v ≡ none)
    → Within 20 8 l (put_word 24 m s 0) × (rank_in (put_word 24 m s 0) s ≡ 0) × ((v : ℕ) → v < nodes → v ≢ s → rank_in (put_word 24 m s 0) v ≡ none)
begun nodes s l m room w f = (
  within-trans (within_wider 20 8 w refl refl) (within_wider 20 8 (within_word 24 m s 0 refl) refl refl),
  word-put 24 m s 0 refl room (omega arith),
  λ v h ne. word-put-node 24 m s 0 refl v ne ∙ f v h,
)
