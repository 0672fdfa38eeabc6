-- The order by key, and a winner stored: it is read back, other winners and all keys are as they were, so the order is.
use mathlib.Core.Path.{◌≡◌, refl}
use mathlib.Core.Logic.{⊎_elim}
use mathlib.Core.List.{List}
use Prim.Native.Nat.{ℕ, suc, ◌+◌, ◌*◌, ◌≤◌, ◌<◌}
use native.Mathlib.Nat.{mul-le-mul_right}
use native.Mathlib.Omega.{arith}
use lib.ListN.{length}
use Rattle.working_room.specs.Field.{room_bytes, Within}
use Rattle.working_room.proofs.RoomLaws.{within-long_at}
use Rattle.node_queue.specs.Queue.{key_at, NotAfter, Roomy}
use Rattle.node_queue.specs.Choice.{Chosen}

module _ (l : List ℕ) where
  pub not-after-same : (a : ℕ) → NotAfter l a a
  not-after-same a = omega arith

  pub not-after-trans : (a b c : ℕ) → NotAfter l a b → NotAfter l b c → NotAfter l a c
  not-after-trans a b c h g = omega arith

  pub chosen-used : (n w v u : ℕ) → Chosen l w v u → w < n → v < n → u < n
  chosen-used n w v u c h k = ⊎_elim (λ z. omega (arith, z.0)) (λ z. omega (arith, z.0)) c

pub room_at : {n : ℕ} {l : List ℕ} → Roomy n l → (v : ℕ) → v < n → v * room_bytes + room_bytes ≤ length l
room_at {n} r v h = omega (arith, r.enough, mul-le-mul_right {m = suc v} {n = n} room_bytes h)

-- ---- where only winners changed

module _ {l m : List ℕ} (f : Within 8 4 l m) where
  pub key-kept : (v : ℕ) → key_at m v ≡ key_at l v
  key-kept v = within-long_at f 0 v refl refl

  pub not-after-kept : (v w : ℕ) → NotAfter l v w → NotAfter m v w
  not-after-kept v w h = rw (key-kept v, key-kept w) h

pub roomy-kept : {o k n : ℕ} {l m : List ℕ} → Within o k l m → Roomy n l → Roomy n m
roomy-kept f r = record { few = r.few; enough = rw f.long r.enough }
