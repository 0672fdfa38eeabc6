-- The desk program: from the text that it reads (document 02, item 13) to the text that it prints (document 01).
use Rattle.std.specs.Prelude.{Bool, ◌&&◌, ◌||◌, cond, List, [], ◌∷◌, ◌++◌, ℕ, ◌+◌, ◌-◌, ◌*◌, leb, eqb, length, get_or, replicate}
use Rattle.net.specs.Limits.{most_routes}
use Rattle.net.specs.Route.{length_of}
use Rattle.net.specs.Round.{Query, Ending, answered, unanswered, refused}
use Rattle.outcome.specs.declared.Told.{Told}
use Rattle.outcome.specs.Outcome.{node, order, text, file, old_form, plain, beside}
use Rattle.net.specs.Outcome.{answers}
use Rattle.table.specs.Table.{table_of}
use Rattle.labels.specs.Field.{label_bytes}
use Rattle.numerals.specs.Decimal.{decimal}
use Rattle.road_order.specs.Ordered.{ordered}
use Rattle.desk_line.specs.Limits.{most_nodes_read}
use Rattle.desk_query.specs.Query.{First, old, malformed, query, first_in}
use Rattle.desk_feed.specs.Road.{Judged, taken, road_in, judged}
use Rattle.text_put.specs.Put.{newline}
use Rattle.desk_output.specs.Line.{route_text}
use Rattle.query.specs.Query.{Input, input, query_of, reaches, rounds_of, tells_due}
use Rattle.desk_text.specs.declared.Asked.{Asked}

-- The fixed words of its output: `refused`, `end`, `routes`, `none`, each with the space that follows it, and for `routes` the one before it.
abbrev pub refused_word : List ℕ
refused_word = 114 ∷ 101 ∷ 102 ∷ 117 ∷ 115 ∷ 101 ∷ 100 ∷ 32 ∷ []

abbrev pub end_word : List ℕ
end_word = 101 ∷ 110 ∷ 100 ∷ 32 ∷ []

abbrev pub routes_word : List ℕ
routes_word = 32 ∷ 114 ∷ 111 ∷ 117 ∷ 116 ∷ 101 ∷ 115 ∷ 32 ∷ []

abbrev pub none_word : List ℕ
none_word = 110 ∷ 111 ∷ 110 ∷ 101 ∷ 32 ∷ []

-- "for 2 to 6 the record or for 12 the line", and of 12 and 14 "the lower line [...] is printed": whether a number stands beside the outcome, and the space and the number.
unfoldable pub has_number : ℕ → Bool
has_number o = (leb node o && leb o order) || (eqb o text || eqb o file)

unfoldable pub beside_text : ℕ → ℕ → List ℕ
unfolding decimal has_number
beside_text o n = cond (has_number o) (32 ∷ decimal n) []

-- "It prints `refused`, the number, and for 2 to 6 the record or for 12 the line", and for 14.
unfoldable pub refused_text : Told → List ℕ
unfolding decimal beside_text
refused_text x = refused_word ++ (decimal x.outcome ++ (beside_text x.outcome x.number ++ (newline ∷ [])))

-- "`none` and its label count"
unfoldable pub none_text : ℕ → List ℕ
unfolding decimal
none_text n = none_word ++ (decimal n ++ (newline ∷ []))

-- "then a line for each route with round, length, label count and arc numbers; then, if the last round has no answer, `none` and its label count. Under 11 that round is
-- the refused one, and the count is the room." The rounds from number j on.
unfoldable pub rounds_text : Query → ℕ → List Ending → List ℕ
unfolding route_text length_of none_text
rounds_text q j [] = []
rounds_text q j (answered p n ∷ rs) = route_text j (length_of q.net.arcs p) n p ++ rounds_text q (j + 1) rs
rounds_text q j (unanswered n ∷ rs) = none_text n
rounds_text q j (refused ∷ rs) = none_text q.room

-- "`end`, the outcome, `routes` and how many"
unfoldable pub head_text : ℕ → ℕ → List ℕ
unfolding decimal
head_text o n = end_word ++ (decimal o ++ (routes_word ++ (decimal n ++ (newline ∷ []))))

-- "Otherwise `end`, the outcome, `routes` and how many; then a line for each route": of the outcome o and the rounds rs.
unfoldable pub end_lines : Query → ℕ → List Ending → List ℕ
unfolding head_text rounds_text answers
end_lines q o rs = head_text o (length (answers rs)) ++ rounds_text q 1 rs

unfoldable pub end_text : Input → List ℕ
unfolding end_lines tells_due
end_text i = end_lines (query_of i) (tells_due i).outcome (rounds_of i)

unfoldable pub reply_text : Input → List ℕ
unfolding end_text refused_text reaches
reply_text i = cond (reaches i) (end_text i) (refused_text (tells_due i))

-- "It has 512 labels."
abbrev pub desk_labels : ℕ
desk_labels = 512

-- Slots for as many routes as may be wanted, among as many nodes as are read.
abbrev pub desk_words : ℕ
desk_words = most_routes * (most_nodes_read - 1)

-- The query that was read, over the table of its arcs: its labels and its area are zeros at first.
abbrev pub read_query : Asked → List ℕ → Input
read_query x table = input table x.nodes x.s x.goal x.k x.a x.b (replicate (desk_labels * label_bytes) 0) (replicate desk_words 0) most_routes

-- The query of the numbers S T K A B, over a table of so many nodes.
abbrev pub asked : List ℕ → ℕ → List ℕ → Input
asked vs nodes table = read_query (record { nodes = nodes; s = get_or vs 0 0; goal = get_or vs 1 0; k = get_or vs 2 0; a = get_or vs 3 0; b = get_or vs 4 0 }) table

-- What is printed for a road file under a query line: its refusal, or the reply over the table made, whose faults come first.
unfoldable pub file_text : List ℕ → Judged → List ℕ
unfolding refused_text reply_text table_of ordered
file_text vs (Rattle.desk_feed.specs.Road.refused told) = refused_text told
file_text vs (taken nodes arcs) = reply_text (asked vs nodes (table_of (ordered arcs)))

-- "25, old form, before 12 and 14; 12 also for [...]": a malformed query line is line 1, and none is lower.
unfoldable pub text_for : First → Judged → List ℕ
unfolding refused_text file_text
text_for old x = refused_text (plain old_form)
text_for malformed x = refused_text (beside text 1)
text_for (query vs) x = file_text vs x

unfoldable pub desk_text : List ℕ → List ℕ
unfolding first_in judged road_in text_for
desk_text input = text_for (first_in input) (judged (road_in input))
