-- What both parts go by: the distances that a search has left in the room, and the notes of where runs start.
use Rattle.std.specs.Prelude.{◌≡◌, List, ℕ, ◌≤◌}
use Rattle.table.specs.Fault.{table_fault, good}
use Rattle.node_queue.specs.Queue.{Roomy}
use Rattle.run_notes.specs.Noted.{LeavingNoted}
use Rattle.reach.specs.declared.Stand.{Stand}
use Rattle.reach.specs.Stand.{dist_in}

-- A good table, and room with a distance and a note at each node.
pub record Measured (x : Stand) (nodes : ℕ) (t l : List ℕ) : Type 0 where
  pub no-fault : table_fault nodes t ≡ good
  pub roomy : Roomy nodes l
  pub most : (v : ℕ) → dist_in x nodes l v ≤ x.far
  pub noted : LeavingNoted nodes t l
