-- A working field stored: it is read back, those of other labels and the other fields are as they were. A store of a winner leaves each label's candidate, so their order.
use mathlib.Core.Path.{◌≡◌, refl, sym}
use mathlib.Core.Logic.{◌≢◌}
use mathlib.Core.List.{List}
use Prim.Native.Nat.{ℕ, ◌+◌, ◌*◌, ◌^◌, ◌≤◌, ◌<◌}
use native.Mathlib.Decide.{ℕ_discrete}
use lib.ListN.{length}
use borrow.Author.Tests.{le-leb}
use Rattle.words.specs.Number.{num, put}
use Rattle.words.proofs.NumberLaws.{length-put}
use Rattle.words.proofs.RecordLaws.{num-put-near, num-put-far, num-put-in}
use Rattle.labels.specs.Field.{label_bytes}
use Rattle.search_queue.specs.Working.{cursor_at, winner_at, key_at, put_winner, put_own}
use Rattle.search_queue.specs.Only.{Only}
use Rattle.search_queue.specs.Order.{own_at, sooner, NotAfter}
use Rattle.search_queue.proofs.OnlyLaws.{only-trans, only-wide, only-put, chain-only}

-- ---- a winner

module _ (l : List ℕ) (x w : ℕ) where
  pub only-winner : (n : ℕ) → x < n → Only 28 2 n l (put_winner l x w)
  only-winner n h = only-put 28 2 n l x w refl h

  pub winner-same : x * label_bytes + label_bytes ≤ length l → w < 2 ^ 16 → winner_at (put_winner l x w) x ≡ w
  winner-same h f = num-put-in label_bytes 2 l (x * label_bytes) 28 w refl (le-leb _ _ h) f

  pub winner-other : (j : ℕ) → j ≢ x → winner_at (put_winner l x w) j ≡ winner_at l j
  winner-other j ne = num-put-far label_bytes 2 2 l x j 28 28 w (λ e. ne (sym e)) refl refl

-- ---- a candidate

module _ (l : List ℕ) (x arc key : ℕ) where
  pub only-own : (n : ℕ) → x < n → Only 20 20 n l (put_own l x arc key)
  only-own n h =
      let m = put 4 l (x * label_bytes + 24) arc in
      only-trans (only-wide 24 4 (only-put 24 4 n l x arc refl h) refl refl) (only-wide 32 8 (only-put 32 8 n m x key refl h) refl refl)

  module _ (room : x * label_bytes + label_bytes ≤ length l) where
    pub cursor-same : arc < 2 ^ 32 → cursor_at (put_own l x arc key) x ≡ arc
    cursor-same f = let r = le-leb (x * label_bytes + label_bytes) (length l) room in simp (num-put-near, num-put-in label_bytes, r, f)

    pub key-same : key < 2 ^ 64 → key_at (put_own l x arc key) x ≡ key
    key-same f = let r = le-leb (x * label_bytes + label_bytes) (length l) room in simp (num-put-in label_bytes, length-put, r, f)

  pub cursor-other : (j : ℕ) → x ≢ j → cursor_at (put_own l x arc key) j ≡ cursor_at l j
  cursor-other j ne = simp num-put-far

  pub key-other : (j : ℕ) → x ≢ j → key_at (put_own l x arc key) j ≡ key_at l j
  key-other j ne = simp num-put-far

  pub winner-kept : (j : ℕ) → winner_at (put_own l x arc key) j ≡ winner_at l j
  winner-kept j = go (ℕ_discrete x j)
    where
      go : Dec (x ≡ j) → num 2 (put 8 (put 4 l (x * label_bytes + 24) arc) (x * label_bytes + 32) key) (j * label_bytes + 28) ≡ num 2 l (j * label_bytes + 28)
      go (yes e) = rw (← e) (simp num-put-near)
      go (no ne) = simp num-put-far

-- ---- where only winners changed

module _ {n : ℕ} {l m : List ℕ} (o : Only 28 2 n l m) where
  pub only-working : Only 20 20 n l m
  only-working = only-wide 28 2 o refl refl

  pub cursor-only : (i : ℕ) → cursor_at m i ≡ cursor_at l i
  cursor-only i = o.field 4 i 24 refl refl

  pub key-only : (i : ℕ) → key_at m i ≡ key_at l i
  key-only i = o.field 8 i 32 refl refl

  pub own-only : (i : ℕ) → own_at m i ≡ own_at l i
  unfolding own_at
  own-only i = rw (chain-only only-working i, cursor-only i)

  pub sooner-only : (i j : ℕ) → sooner m i j ≡ sooner l i j
  unfolding sooner
  sooner-only i j = rw (key-only i, key-only j, own-only i, own-only j)

  pub not-after-only : (i j : ℕ) → NotAfter l i j → NotAfter m i j
  unfolding NotAfter
  not-after-only i j h = rw (sooner-only j i) h
