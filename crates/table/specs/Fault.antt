-- Refusals 13 and 2 to 6 of document 01.
use Rattle.std.specs.Prelude.{Bool, not, ◌&&◌, ◌||◌, cond, List, ℕ, zero, suc, ◌+◌, ◌%◌, ltb, leb, eqb, length}
use Rattle.net.specs.Limits.{most_nodes, most_arcs, most_length}
use Rattle.outcome.specs.declared.Told.{Told}
use Rattle.outcome.specs.Outcome.{found, node, loop, length_out, order, size, plain, beside}
use Rattle.table.specs.Table.{record_bytes, records, from_at, to_at, len_at}

-- 2: "a record names a node not below the node count"; 3: "a record starts and ends at one node"; 4: "a length is outside its limits"; 6: "a record's start node is
-- below the one before it", which is prev. "in it the lowest of 2 to 6"; 0: none of them. "5 is never given any longer" (02.5).
unfoldable pub fault_of : ℕ → ℕ → ℕ → ℕ → ℕ → ℕ
fault_of nodes prev from to len =
    cond (leb nodes from || leb nodes to) node
    (cond (eqb from to) loop
    (cond (not (leb 1 len && leb len most_length)) length_out
    (cond (ltb from prev) order 0)))

-- The start node of the record before number i; the first record is below none.
unfoldable pub prev_of : List ℕ → ℕ → ℕ
prev_of t zero = 0
prev_of t (suc i) = from_at t i

unfoldable pub fault_at : ℕ → List ℕ → ℕ → ℕ
unfolding fault_of prev_of
fault_at nodes t i = fault_of nodes (prev_of t i) (from_at t i) (to_at t i) (len_at t i)

abbrev pub good : Told
good = plain found

-- "The lowest faulty record decides, and in it the lowest of 2 to 6; its number is returned": of the n records from i on.
unfoldable pub lowest : ℕ → ℕ → List ℕ → ℕ → Told
unfolding fault_at
lowest zero nodes t i = good
lowest (suc n) nodes t i = cond (eqb (fault_at nodes t i) 0) (lowest n nodes t (i + 1)) (beside (fault_at nodes t i) i)

-- 13: "node count outside its limits, table bytes not a multiple of 16, or too many records"
unfoldable pub wrong_size : ℕ → List ℕ → Bool
wrong_size nodes t = not (leb 1 nodes && leb nodes most_nodes) || not (eqb (length t % record_bytes) 0) || ltb most_arcs (records t)

-- "Order: 13 first, then the records."
unfoldable pub table_fault : ℕ → List ℕ → Told
unfolding wrong_size lowest
table_fault nodes t = cond (wrong_size nodes t) (plain size) (lowest (records t) nodes t 0)
