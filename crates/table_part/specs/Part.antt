-- The arcs of a node as a part of a table, told by the place of its first byte and its number of bytes.
use Rattle.std.specs.Prelude.{not, ◌&&◌, cond, List, ℕ, ◌+◌, ◌-◌, ◌*◌, ltb, eqb}
use Rattle.table.specs.Table.{record_bytes}
use Rattle.table.specs.Fault.{table_fault}
use Rattle.table.specs.Run.{run_start}
use Rattle.second.specs.Second.{wrong_second}
use Rattle.second.specs.Lookup.{coming_start}
use Rattle.table_part.specs.declared.Part.{Part}

-- The run of node v, by the place of its first byte and its number of bytes.
unfoldable pub run_part : List ℕ → ℕ → Part
unfolding run_start
run_part t v = record { place = run_start t v * record_bytes; bytes = run_start t (v + 1) * record_bytes - run_start t v * record_bytes }

-- "The arcs that leave a node are handed out as that part of the lent table itself. A table that 13 or 2 to 6 refuses, or a node not below the node count, gets
-- an empty part": an exported call hands out no reference, so the part is told by its place and its number of bytes.
unfoldable pub part_of : ℕ → List ℕ → ℕ → Part
unfolding table_fault run_part
part_of nodes t v = cond (eqb (table_fault nodes t).outcome 0 && ltb v nodes) (run_part t v) (record { place = 0; bytes = 0 })

-- The arcs that come to node v, by their place in the second table.
unfoldable pub coming_part : List ℕ → ℕ → Part
unfolding coming_start
coming_part second v =
    record { place = coming_start second v * record_bytes; bytes = coming_start second (v + 1) * record_bytes - coming_start second v * record_bytes }

-- "a part of either table according to direction": 0 the arcs that leave v, 1 those that come to it; another direction has none.
unfoldable pub part_by : ℕ → List ℕ → List ℕ → ℕ → Part
unfolding run_part coming_part
part_by direction t second v =
    cond (eqb direction 0) (run_part t v) (cond (eqb direction 1) (coming_part second v) (record { place = 0; bytes = 0 }))

-- "A lookup hands back the run of one node, a part of either table according to direction, empty also under 20."
unfoldable pub run_part_by : ℕ → List ℕ → List ℕ → ℕ → ℕ → Part
unfolding table_fault wrong_second part_by
run_part_by nodes t second direction v =
    cond (eqb (table_fault nodes t).outcome 0 && (ltb v nodes && not (wrong_second nodes t second))) (part_by direction t second v) (record { place = 0; bytes = 0 })
