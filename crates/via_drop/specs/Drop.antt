-- The candidates that are not within the threshold of a route that was kept leave the queue.
use Rattle.std.specs.Prelude.{◌≡◌, true, cond, List, ℕ, ◌+◌, ◌*◌, ◌≤◌, ◌<◌, length}
use Rattle.words.specs.Number.{num}
use Rattle.working_room.specs.Field.{room_bytes}
use Rattle.net.specs.Round.{Query}
use Rattle.net.specs.Route.{within}
use Rattle.node_queue.specs.Queue.{key_at, Queue}
use Rattle.via_chains.specs.Chains.{joined_in, both_in, no_key}

-- The keys and winners, and two numbers of each node behind its fields, have changed, and nothing else.
pub record Beside (l m : List ℕ) : Type 0 where
  pub long : length m ≡ length l
  pub field : (j v p : ℕ) → 12 ≤ p → p + j ≤ 40 → num j m (v * room_bytes + p) ≡ num j l (v * room_bytes + p)

-- A node keeps its key if its candidate is within the threshold of the route; else it has none. A node without a key stays so.
pub record Dropped (q : Query) (route l : List ℕ) (l' : List ℕ) (root : ℕ) : Type 0 where
  pub beside : Beside l l'
  pub queue : Queue q.net.nodes l' root
  pub keys : (v : ℕ) → v < q.net.nodes → both_in q.net.nodes l v ≡ true
      → key_at l' v ≡ cond (within q.net q.a q.b (joined_in q.net q.s q.t l v) route) (key_at l v) no_key
  pub others : (v : ℕ) → v < q.net.nodes → (both_in q.net.nodes l v ≡ true → ⊥) → key_at l' v ≡ key_at l v
