-- The converter (document 02, item 13): from a text of the old form to one of the new.
use Rattle.std.specs.Prelude.{◌≡◌, cond, List, [], ◌∷◌, ◌++◌, ℕ, ◌≤◌, ◌<◌, length, get_or}
use Rattle.outcome.specs.Outcome.{text, beside}
use Rattle.net.specs.Net.{Arc}
use Rattle.table.specs.Table.{table_of}
use Rattle.text_put.specs.Put.{Appended}
use Rattle.desk_output.specs.Line.{route_text}
use Rattle.road_write.specs.Written.{text_of}
use Rattle.query.specs.Query.{reaches, tells_due}
use Rattle.desk_text.specs.Desk.{refused_text}
use Rattle.desk_old_input.specs.Text.{Said, asks, malformed, said}
use Rattle.desk_old_input.specs.declared.Asked.{Asked}
use Rattle.desk_old.specs.Old.{asked_old}

-- "a query line `S T K A B`": a line of five numbers, as the output's lines are.
abbrev pub query_text : ℕ → ℕ → ℕ → ℕ → ℕ → List ℕ
query_text s t k a b = route_text s t k (a ∷ b ∷ [])

-- "turns an old input into the new one, with arcs in their order": the query line, and the road file that is written of the table.
abbrev pub new_text : List ℕ → List Arc → List ℕ
new_text vs xs = query_text (get_or vs 2 0) (get_or vs 3 0) (get_or vs 4 0) (get_or vs 5 0) (get_or vs 6 0) ++ text_of (get_or vs 0 0) (table_of xs)

-- "for each old input that gave outcome 0, 1 or 11": its query reached the rounds; "any other gets its `refused` line".
unfoldable pub turned_for : Said → List ℕ
unfolding refused_text reaches tells_due route_text table_of
turned_for (malformed n) = refused_text (beside text n)
turned_for (asks vs xs) = cond (reaches (asked_old vs xs)) (new_text vs xs) (refused_text (tells_due (asked_old vs xs)))

unfoldable pub turned_text : List ℕ → List ℕ
unfolding said turned_for
turned_text input = turned_for (said input)

-- The same of what was read, over the table.
abbrev pub written : Asked → List ℕ → List ℕ
written x table = query_text x.s x.goal x.k x.a x.b ++ text_of x.nodes table

-- The room that any text of the new form fits in, or any line.
abbrev pub most_turned : ℕ
most_turned = 294912

-- The whole text that is due, at the front of the buffer, and its length; a buffer that is too small for some text stays as it is.
pub record TurnedTo (input out out' : List ℕ) (n : ℕ) : Type 0 where
  pub due : most_turned ≤ length out → Appended out 0 (turned_text input) out' n
  pub small : length out < most_turned → (out' ≡ out) × (n ≡ 0)
