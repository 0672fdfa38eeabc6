-- Where only the queue of a room, and numbers behind its fields, have changed, the candidates are as they were.
use mathlib.Core.Path.{◌≡◌, refl, ap, fun_ext, ◌∙◌}
use mathlib.Core.Bool.{Bool, true, false, ◌||◌}
use mathlib.Core.List.{List}
use Prim.Native.Nat.{ℕ, ◌+◌}
use native.Mathlib.Omega.{arith}
use lib.Dec.{leb}
use borrow.Author.Tests.{le-leb}
use Rattle.net.specs.Net.{Net}
use Rattle.working_room.specs.Field.{room_bytes, Within}
use Rattle.via_chains.specs.Chains.{joined_in, both_in, key_for}
use Rattle.via_chains.proofs.ChainsLaws as chains
use Rattle.via_drop.specs.Drop.{Beside}

module _ (l m : List ℕ) (b : Beside l m) where
  pub joined_same : (net : Net) (s t : ℕ) → joined_in net s t m ≡ joined_in net s t l
  joined_same net s t = fun_ext (chains.joined-beside net s t l m b.field)

  pub both-same : (n : ℕ) → both_in n m ≡ both_in n l
  both-same n = fun_ext (chains.both-beside n l m b.field)

  pub key-same : (n : ℕ) → key_for n m ≡ key_for n l
  key-same n = fun_ext (chains.key-beside n l m b.field)

pub queue-beside : (l m : List ℕ) → Within 0 12 l m → Beside l m
queue-beside l m h =
    record {
      long = h.long;
      field = λ j v p a b. h.field j v p (ap (λ x. leb (p + j) 0 || x) (le-leb 12 p a) ∙ or-true (leb (p + j) 0)) (le-leb (p + j) room_bytes (omega arith));
    }
  where
    or-true : (x : Bool) → (x || true) ≡ true
    or-true true = refl
    or-true false = refl
