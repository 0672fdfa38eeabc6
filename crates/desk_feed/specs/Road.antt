-- The road file in the desk program's input (document 02, item 13), which comes byte by byte: what it says, and else which refusal is due, with its line.
use Rattle.std.specs.Prelude.{Bool, not, ◌&&◌, ◌||◌, cond, List, [], ◌∷◌, ℕ, ltb, eqb}
use Rattle.outcome.specs.declared.Told.{Told}
use Rattle.outcome.specs.Outcome.{text, file, beside}
use Rattle.net.specs.Net.{Arc}
use Rattle.road_file.specs.File.{Said, Fed, unfed, feed_byte, Roads, malformed, roads, ended_of}
use Rattle.desk_line.specs.Limits.{most_nodes_read, most_arcs_read}

-- The input from the newline of its first line on.
unfoldable pub from_newline : List ℕ → List ℕ
from_newline [] = []
from_newline (b ∷ l) = cond (eqb b 10) (b ∷ l) (from_newline l)

-- "Lines are counted in the whole input": the road file as read, with a comment `c` in the place of the query line.
unfoldable pub road_file : List ℕ → List ℕ
unfolding from_newline
road_file input = 99 ∷ from_newline input

-- What was fed of it so far, and the number of its `p` line, 0 before that.
pub record Road : Type 0 where
  pub fed : Fed
  pub sized : ℕ

-- The `p` line has come, or not, between what was said before and what is said now.
unfoldable pub sized_next : ℕ → Said → Said → ℕ
sized_next n x y = cond (not x.begun && y.begun) y.lines n

unfoldable pub road_byte : Road → ℕ → Road
unfolding feed_byte sized_next
road_byte x b = record { fed = feed_byte x.fed b; sized = sized_next x.sized x.fed.said (feed_byte x.fed b).said }

unfoldable pub road_from : Road → List ℕ → Road
unfolding road_byte
road_from x [] = x
road_from x (b ∷ l) = road_from (road_byte x b) l

abbrev pub unread : Road
unread = record { fed = unfed; sized = 0 }

unfoldable pub road_in : List ℕ → Road
unfolding road_file road_from
road_in input = road_from unread (road_file input)

-- A refusal, or so many nodes and these arcs in file order.
pub data Judged : Type 0 where
  refused : Told → Judged
  taken : ℕ → List Arc → Judged

-- "a `p` line above the program's limits"
unfoldable pub above : Said → Bool
above x = ltb most_nodes_read x.nodes || ltb most_arcs_read x.wanted

-- "12 also for a `p` line above the program's limits; of 12 and 14 the lower line decides and is printed."
unfoldable pub judged_as : Road → Roads → Judged
unfolding above
judged_as x (malformed line) = cond (above x.fed.said && ltb x.sized line) (refused (beside text x.sized)) (refused (beside file line))
judged_as x (roads nodes arcs) = cond (above x.fed.said) (refused (beside text x.sized)) (taken nodes arcs)

unfoldable pub judged : Road → Judged
unfolding ended_of judged_as
judged x = judged_as x (ended_of x.fed)
