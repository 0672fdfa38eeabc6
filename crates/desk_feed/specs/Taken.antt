-- What is kept of the input while it comes: the state passed by value, the first bytes, and the table; and how a byte changes them.
use Rattle.std.specs.Prelude.{Bool, true, false, not, ◌&&◌, ◌||◌, cond, List, [], ◌∷◌, ℕ, ◌+◌, ◌*◌, ltb, eqb, length, set, replicate}
use Rattle.words.specs.Number.{put}
use Rattle.outcome.specs.declared.Told.{Told}
use Rattle.outcome.specs.Outcome.{found, text, file, plain, beside}
use Rattle.table.specs.Table.{record_bytes, put_arc}
use Rattle.road_file.specs.declared.Reader.{Reader}
use Rattle.road_file.specs.File.{unfed}
use Rattle.road_file.specs.Reader.{reader_of, fed_by, wrong_by}
use Rattle.desk_line.specs.Limits.{most_nodes_read, most_arcs_read}
use Rattle.desk_feed.specs.declared.Taken.{Taken}

-- As many bytes as a line of seven numbers has at most, and some more; a table of as many arcs as are taken.
abbrev pub first_bytes : ℕ
first_bytes = 80

abbrev pub table_bytes : ℕ
table_bytes = most_arcs_read * record_bytes

-- Before the first byte: to the reader the first line is a comment.
abbrev pub begun_with : Taken
begun_with = record { first = 0; started = false; reader = fed_by (reader_of unfed) 99; sized = 0 }

-- ---- a byte of the first ones

unfoldable pub kept_by : List ℕ → ℕ → ℕ → List ℕ
kept_by l n b = cond (ltb n (length l)) (set l n b) l

unfoldable pub kept_to : List ℕ → ℕ → ℕ
kept_to l n = cond (ltb n (length l)) (n + 1) n

-- ---- a byte of the road file

-- The number of the `p` line, if that has come now.
unfoldable pub sized_by : ℕ → Bool → Reader → ℕ
sized_by n begun r = cond (not begun && r.begun) r.lines n

-- The table, with the reader's last arc where one has come and there is room for it.
unfoldable pub stored_by : List ℕ → ℕ → Reader → List ℕ
stored_by t before r =
    cond (eqb r.count before) t
    (cond (ltb before most_arcs_read) (put 4 (put_arc t before (record { from = r.from; to = r.to; len = r.len })) (before * record_bytes + 12) before) t)

unfoldable pub road_taken : Taken → ℕ → ℕ → Taken
unfolding fed_by sized_by
road_taken x n b = record { first = n; started = true; reader = fed_by x.reader b; sized = sized_by x.sized x.reader.begun (fed_by x.reader b) }

unfoldable pub road_stored : List ℕ → Taken → ℕ → List ℕ
unfolding fed_by stored_by
road_stored t x b = stored_by t x.reader.count (fed_by x.reader b)

-- ---- a byte of the input: of the first line only its newline goes to the reader

unfoldable pub taken_by : Taken → ℕ → ℕ → Taken
unfolding road_taken
taken_by x n b = cond (x.started || eqb b 10) (road_taken x n b) (record { first = n; started = false; reader = x.reader; sized = x.sized })

unfoldable pub table_by : List ℕ → Taken → ℕ → List ℕ
unfolding road_stored
table_by t x b = cond (x.started || eqb b 10) (road_stored t x b) t

-- All that is kept.
pub record State : Type 0 where
  pub taken : Taken
  pub first : List ℕ
  pub table : List ℕ

abbrev pub state : Taken → List ℕ → List ℕ → State
state x first table = record { taken = x; first = first; table = table }

unfoldable pub state_byte : State → ℕ → State
unfolding taken_by kept_by kept_to table_by
state_byte s b = record {
  taken = taken_by s.taken (kept_to s.first s.taken.first) b;
  first = kept_by s.first s.taken.first b;
  table = table_by s.table s.taken b;
}

unfoldable pub state_from : State → List ℕ → State
unfolding state_byte
state_from s [] = s
state_from s (b ∷ l) = state_from (state_byte s b) l

-- What is kept of an input.
unfoldable pub state_of : List ℕ → State
unfolding state_from
state_of input = state_from (state begun_with (replicate first_bytes 0) (replicate table_bytes 0)) input

-- ---- where the input ends

unfoldable pub above_by : Reader → Bool
above_by r = ltb most_nodes_read r.nodes || ltb most_arcs_read r.wanted

-- Whether the `p` line comes before the first wrong line, 0 for none.
unfoldable pub sized_first : ℕ → ℕ → Bool
sized_first sized wrong = eqb wrong 0 || ltb sized wrong

unfoldable pub judged_by : Reader → ℕ → Told
unfolding above_by sized_first wrong_by
judged_by r sized =
    cond (above_by r && sized_first sized (wrong_by r)) (beside text sized)
    (cond (eqb (wrong_by r) 0) (plain found) (beside file (wrong_by r)))
