-- What a write gives (documents 01 and 02.2): its answer, and the lent buffer afterwards.
use Rattle.std.specs.Prelude.{◌≡◌, not, List, ◌++◌, ◌≢◌, ℕ, ◌≤◌, ◌<◌, eqb, length, drop, Result}
use Rattle.lists.specs.Index.{first_at}
use Rattle.outcome.specs.declared.Told.{Told}
use Rattle.outcome.specs.Outcome.{buffers, numbered, plain, beside}
use Rattle.table.specs.Table.{records, road_at, arcs_of}
use Rattle.table.specs.Fault.{table_fault, good}
use Rattle.road_made.specs.declared.Made.{Made}
use Rattle.road_made.specs.Made.{Unchanged, Made-of}
use Rattle.road_write.specs.Text.{roads_text}

-- The text that is due.
abbrev pub text_of : ℕ → List ℕ → List ℕ
text_of nodes table = roads_text nodes (arcs_of table)

-- The lowest record with "a road number that isn't zero"; where there is none, the number of records.
unfoldable pub first_road : List ℕ → ℕ
unfolding first_at
first_road table = first_at (λ i. not (eqb (road_at table i) 0)) (records table) 0

pub record Written (nodes : ℕ) (table text : List ℕ) (answer : Result Made Told) (text' : List ℕ) : Type 0 where
  -- "The writer refuses a table as 01 does."
  pub faulty : table_fault nodes table ≢ good → Unchanged (table_fault nodes table) text answer text'
  -- "27, the writer meets a road number that isn't zero, with the lowest such record, after 6" (02.5)
  pub on-roads : table_fault nodes table ≡ good → first_road table < records table → Unchanged (beside numbered (first_road table)) text answer text'
  -- "then 10": "if an area lent for its answer is shorter than that answer's slots, summaries, records or bytes"
  pub small : table_fault nodes table ≡ good → first_road table ≡ records table → length text < length (text_of nodes table) → Unchanged (plain buffers) text answer text'
  -- "What lies past an answer is untouched"
  pub done : table_fault nodes table ≡ good → first_road table ≡ records table → length (text_of nodes table) ≤ length text
      → Made-of (length (text_of nodes table)) 0 (text_of nodes table ++ drop (length (text_of nodes table)) text) answer text'
