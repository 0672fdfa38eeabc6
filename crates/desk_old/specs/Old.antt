-- What the desk program printed for a text of the old form (document 01), which the converter is held against.
use Rattle.std.specs.Prelude.{List, [], ◌∷◌, ℕ, get_or}
use Rattle.outcome.specs.Outcome.{text, beside}
use Rattle.net.specs.Net.{Arc}
use Rattle.table.specs.Table.{table_of}
use Rattle.query.specs.Query.{Input}
use Rattle.desk_old_input.specs.Text.{Said, asks, malformed, said}
use Rattle.desk_text.specs.Desk.{refused_text, reply_text, asked}

-- Of the numbers N M S T K A B of the first line, those of the query.
abbrev pub query_numbers : List ℕ → List ℕ
query_numbers vs = get_or vs 2 0 ∷ get_or vs 3 0 ∷ get_or vs 4 0 ∷ get_or vs 5 0 ∷ get_or vs 6 0 ∷ []

-- The query that a text asked: the table held the arcs of its lines.
abbrev pub asked_old : List ℕ → List Arc → Input
asked_old vs xs = asked (query_numbers vs) (get_or vs 0 0) (table_of xs)

unfoldable pub old_text_for : Said → List ℕ
unfolding refused_text reply_text table_of
old_text_for (malformed n) = refused_text (beside text n)
old_text_for (asks vs xs) = reply_text (asked_old vs xs)

-- "12 comes before every other refusal."
unfoldable pub old_desk_text : List ℕ → List ℕ
unfolding said old_text_for
old_desk_text input = old_text_for (said input)
