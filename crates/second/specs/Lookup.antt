-- "A lookup hands back the run of one node, a part of either table according to direction, empty also under 20." (02.9)
use Rattle.std.specs.Prelude.{not, ◌&&◌, cond, List, [], ℕ, ◌+◌, ◌-◌, ◌*◌, leb, ltb, eqb, take, drop}
use Rattle.lists.specs.Index.{first_at}
use Rattle.table.specs.Table.{record_bytes, records, to_at}
use Rattle.table.specs.Fault.{table_fault}
use Rattle.table.specs.Run.{run_of}
use Rattle.second.specs.declared.Direction.{Direction}
use Rattle.second.specs.declared.Direction.TheVariants.{Leaving, Coming}
use Rattle.second.specs.Second.{wrong_second}

-- The first record of the second table that ends at v or above, or the number of records. The run of v ends where that of v + 1 starts.
unfoldable pub coming_start : List ℕ → ℕ → ℕ
unfolding first_at
coming_start second v = first_at (λ i. leb v (to_at second i)) (records second) 0

-- The records that end at v.
unfoldable pub coming_of : List ℕ → ℕ → List ℕ
unfolding coming_start
coming_of second v =
    take (coming_start second (v + 1) * record_bytes - coming_start second v * record_bytes) (drop (coming_start second v * record_bytes) second)

-- "a part of either table according to direction"
unfoldable pub part_by : Direction → List ℕ → List ℕ → ℕ → List ℕ
unfolding run_of coming_of
part_by Leaving t second v = run_of t v
part_by Coming t second v = coming_of second v

-- Empty where 13, 2 to 6 or 20 refuse, or v is no node.
unfoldable pub run_by : ℕ → List ℕ → List ℕ → Direction → ℕ → List ℕ
unfolding table_fault wrong_second part_by
run_by nodes t second direction v =
    cond (eqb (table_fault nodes t).outcome 0 && (ltb v nodes && not (wrong_second nodes t second))) (part_by direction t second v) []
