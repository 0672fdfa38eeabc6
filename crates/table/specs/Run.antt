-- The arcs that leave a node: a part of the lent table.
use Rattle.std.specs.Prelude.{Bool, ◌&&◌, cond, List, [], ℕ, ◌+◌, ◌-◌, ◌*◌, leb, ltb, eqb, take, drop}
use Rattle.lists.specs.Index.{first_at}
use Rattle.table.specs.Table.{record_bytes, records, from_at}
use Rattle.table.specs.Fault.{table_fault}

-- "Records stand in order of start node": the first record that starts at v or above, or the number of records. The run of v ends where that of v + 1 starts.
unfoldable pub run_start : List ℕ → ℕ → ℕ
unfolding first_at
run_start t v = first_at (λ i. leb v (from_at t i)) (records t) 0

-- "exactly the run of records with that start node"
unfoldable pub run_of : List ℕ → ℕ → List ℕ
unfolding run_start
run_of t v = take (run_start t (v + 1) * record_bytes - run_start t v * record_bytes) (drop (run_start t v * record_bytes) t)

-- "The arcs that leave a node are handed out as that part of the lent table itself. A table that 13 or 2 to 6 refuses, or a node not below the node count, gets
-- an empty part."
unfoldable pub arcs_from : ℕ → List ℕ → ℕ → List ℕ
unfolding table_fault run_of
arcs_from nodes t v = cond (eqb (table_fault nodes t).outcome 0 && ltb v nodes) (run_of t v) []

-- "the next arc from a place in a run then means the next open one" (02.3): from place a of a run that ends at e, the first that is usable, or e.
unfoldable pub next_arc : (ℕ → Bool) → ℕ → ℕ → ℕ
unfolding first_at
next_arc usable a e = first_at usable (e - a) a
