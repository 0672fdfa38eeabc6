-- What is read of a way lies in bytes 12 to 39 of the records: it stays while only the bytes beside these change, and so do the candidates. A queue stays while its
-- own bytes do.
use mathlib.Core.Path.{◌≡◌, refl, ap, ◌∙◌}
use mathlib.Core.Bool.{Bool, true, false, ◌||◌, cond}
use mathlib.Core.List.{List, []}
use Prim.Native.Nat.{ℕ, ◌+◌, ◌<◌}
use native.Mathlib.Omega.{arith}
use lib.Dec.{ltb, leb}
use borrow.Author.Tests.{le-leb}
use Rattle.net.specs.Route.{overlap}
use Rattle.search_tree.proofs.TreeLaws.{first_below, tree-below}
use Rattle.working_room.specs.Field.{Within}
use Rattle.node_queue.specs.Queue.{key_at, winner_at, NotAfter, Roomy, Queue}
use Rattle.search_ask.specs.declared.Ask.{Ask}
use Rattle.search_ask.specs.Ask.{net_for}
use Rattle.first_routes.specs.Firsts.{far}
use Rattle.via_chains.proofs.ChainsLaws.{to-beside, on-beside}
use Rattle.via_drop.specs.Drop.{Beside}
use Rattle.via_drop.specs.Walks.{arc_by, dist_by, chain_by, total_by}

-- ---- which changes leave the ways

pub beside_same : (l : List ℕ) → Beside l l
beside_same l = record { long = refl; field = λ j v p a b. refl }

pub beside_trans : {l m r : List ℕ} → Beside l m → Beside m r → Beside l r
beside_trans f g = record { long = g.long ∙ f.long; field = λ j v p a b. g.field j v p a b ∙ f.field j v p a b }

or_right : (a b : Bool) → b ≡ true → (a || b) ≡ true
or_right true b h = refl
or_right false b h = h

module _ {l m : List ℕ} where
  pub numbers-beside : Within 40 16 l m → Beside l m
  numbers-beside f = record { long = f.long; field = λ j v p a b. f.field j v p (rw (le-leb (p + j) 40 b)) (le-leb (p + j) 64 (omega arith)) }

  pub keys-beside : Within 0 12 l m → Beside l m
  keys-beside f = record { long = f.long; field = λ j v p a b. f.field j v p (or_right (leb (p + j) 0) (leb 12 p) (le-leb 12 p a)) (le-leb (p + j) 64 (omega arith)) }

  pub roomy-beside : {n : ℕ} → Beside l m → Roomy n l → Roomy n m
  roomy-beside b r = record { few = r.few; enough = omega (arith, r.enough, b.long) }

  -- ---- a queue

  pub queue-kept : {n w : ℕ} → Within 40 16 l m → Queue n l w → Queue n m w
  queue-kept {n} f q =
      let key : (v : ℕ) → key_at m v ≡ key_at l v = λ v. f.field 8 v 0 refl refl in
      let less : (a b : ℕ) → a < n → b < n → NotAfter l a b → NotAfter m a b = λ a b i j h. omega (arith, key a, key b, h) in
      record {
        roomy = roomy-beside (numbers-beside f) q.roomy;
        tree = tree-below (NotAfter l) (NotAfter m) n less (winner_at l) (winner_at m) (λ j h. f.field 4 j 8 refl refl) q.tree;
        root = first_below (NotAfter l) (NotAfter m) n less q.root;
      }

-- ---- the ways

module _ {l m : List ℕ} (b : Beside l m) where
  pub arc-beside : (on : Bool) (v : ℕ) → arc_by on m v ≡ arc_by on l v
  unfolding arc_by
  arc-beside true v = b.field 4 v 28 (omega arith) (omega arith)
  arc-beside false v = b.field 4 v 20 (omega arith) (omega arith)

  pub dist-beside : (on : Bool) (n v : ℕ) → dist_by on n m v ≡ dist_by on n l v
  unfolding dist_by
  dist-beside true n v = ap (λ d. cond (ltb v n) d far) (b.field 8 v 32 (omega arith) (omega arith))
  dist-beside false n v = ap (λ d. cond (ltb v n) d far) (b.field 8 v 12 (omega arith) (omega arith))

  pub chain-beside : (on : Bool) (ask : Ask) (t : List ℕ) (v : ℕ) → chain_by on ask t m v ≡ chain_by on ask t l v
  unfolding chain_by
  chain-beside true ask t v = on-beside (net_for ask t []) ask.s ask.goal l m b.field v
  chain-beside false ask t v = to-beside (net_for ask t []) ask.s ask.goal l m b.field v

  pub total-beside : (on : Bool) (ask : Ask) (t e : List ℕ) (v : ℕ) → total_by on ask t e m v ≡ total_by on ask t e l v
  total-beside on ask t e v = ap (λ p. overlap (net_for ask t []) p e) (chain-beside on ask t v)
