-- A field of a node's record stored: it is read back, those of other nodes and the other fields are as they were. What changed only within some bytes of each record
-- left every field that does not meet these. Side conditions on offsets are tests, which compute on numerals: `refl`.
use mathlib.Core.Path.{◌≡◌, refl, sym, subst, ◌∙◌}
use mathlib.Core.Logic.{◌≢◌, ⊎_elim}
use mathlib.Core.Bool.{Bool, true, false, ◌||◌}
use mathlib.Core.List.{List}
use Prim.Native.Nat.{ℕ, ◌+◌, ◌*◌, ◌^◌, ◌≤◌, ◌<◌}
use native.Mathlib.Decide.{ℕ_discrete}
use native.Mathlib.Omega.{arith}
use lib.Dec.{leb}
use lib.ListN.{length}
use borrow.Author.Tests.{le-leb, leb-true}
use Rattle.lists.proofs.Cases.{cases}
use Rattle.words.specs.Number.{num, put}
use Rattle.words.proofs.NumberLaws.{length-put}
use Rattle.words.proofs.RecordLaws.{apart, num-put-near, num-put-far, num-put-here}
use Rattle.working_room.specs.Field.{room_bytes, long_at, word_at, put_long, put_word, Within}

-- ---- a store, of k bytes at offset o of node v

module _ (k o : ℕ) (l : List ℕ) (v x : ℕ) (inside : leb (o + k) room_bytes ≡ true) where
  within-put : Within o k l (put k l (v * room_bytes + o) x)
  within-put = record { long = length-put k l (v * room_bytes + o) x; field = λ j w p a b. go j w p a b (ℕ_discrete v w) }
    where
      go : (j w p : ℕ) → apart o k p j ≡ true → leb (p + j) room_bytes ≡ true → Dec (v ≡ w)
          → num j (put k l (v * room_bytes + o) x) (w * room_bytes + p) ≡ num j l (w * room_bytes + p)
      go j w p a b (yes e) =
          subst (λ y. num j (put k l (v * room_bytes + o) x) (y * room_bytes + p) ≡ num j l (y * room_bytes + p)) e (num-put-near k j l (v * room_bytes) o p x a)
      go j w p a b (no ne) = num-put-far room_bytes k j l v w o p x ne inside b

module _ (o : ℕ) (l : List ℕ) (v x : ℕ) where
  module _ (inside : leb (o + 8) room_bytes ≡ true) where
    pub long-put : v * room_bytes + room_bytes ≤ length l → x < 2 ^ 64 → long_at o (put_long o l v x) v ≡ x
    long-put h f = num-put-here room_bytes 8 l (v * room_bytes) o x inside h f

    pub long-put-node : (w : ℕ) → w ≢ v → long_at o (put_long o l v x) w ≡ long_at o l w
    long-put-node w ne = num-put-far room_bytes 8 8 l v w o o x (λ e. ne (sym e)) inside inside

    pub within-long : Within o 8 l (put_long o l v x)
    within-long = within-put 8 o l v x inside

  module _ (inside : leb (o + 4) room_bytes ≡ true) where
    pub word-put : v * room_bytes + room_bytes ≤ length l → x < 2 ^ 32 → word_at o (put_word o l v x) v ≡ x
    word-put h f = num-put-here room_bytes 4 l (v * room_bytes) o x inside h f

    pub word-put-node : (w : ℕ) → w ≢ v → word_at o (put_word o l v x) w ≡ word_at o l w
    word-put-node w ne = num-put-far room_bytes 4 4 l v w o o x (λ e. ne (sym e)) inside inside

    pub within_word : Within o 4 l (put_word o l v x)
    within_word = within-put 4 o l v x inside

-- ---- what changed only within some bytes

pub within_same : (o k : ℕ) (l : List ℕ) → Within o k l l
within_same o k l = record { long = refl; field = λ j v p a b. refl }

pub within-trans : {o k : ℕ} {l m r : List ℕ} → Within o k l m → Within o k m r → Within o k l r
within-trans f g = record { long = g.long ∙ f.long; field = λ j v p a b. g.field j v p a b ∙ f.field j v p a b }

or_right : (a b : Bool) → b ≡ true → (a || b) ≡ true
or_right true b h = refl
or_right false b h = h

-- the bytes from o on are among those from q on
pub within_wider : {o k : ℕ} {l m : List ℕ} (q w : ℕ) → Within o k l m → leb q o ≡ true → leb (o + k) (q + w) ≡ true → Within q w l m
within_wider {o} {k} q w f lo hi =
    record {
      long = f.long;
      field = λ j v p a b. f.field j v p
          (⊎_elim
          (λ z. rw (le-leb (p + j) o (omega (arith, leb-true (p + j) q z, leb-true q o lo))))
          (λ z. or_right (leb (p + j) o) (leb (o + k) p)
          (le-leb (o + k) p (omega (arith, leb-true (q + w) p (rw z at a), leb-true (o + k) (q + w) hi))))
          (cases (leb (p + j) q))) b;
    }

-- a field that does not meet these bytes
module _ {o k : ℕ} {l m : List ℕ} (f : Within o k l m) (p v : ℕ) where
  pub within-long_at : apart o k p 8 ≡ true → leb (p + 8) room_bytes ≡ true → long_at p m v ≡ long_at p l v
  within-long_at a b = f.field 8 v p a b

  pub within-word_at : apart o k p 4 ≡ true → leb (p + 4) room_bytes ≡ true → word_at p m v ≡ word_at p l v
  within-word_at a b = f.field 4 v p a b
