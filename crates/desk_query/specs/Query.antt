-- The first line of the desk program's input (document 02, item 13).
use Rattle.std.specs.Prelude.{List, ℕ}
use Rattle.std.proofs.Math.Option.{Option, none, some}
use Rattle.desk_line.specs.Line.{Row, line_from}

-- What the line is.
pub data First : Type 0 where
  old : First
  malformed : First
  query : List ℕ → First

-- "a query line `S T K A B`"
unfoldable pub as_query : Option Row → First
as_query none = malformed
as_query (some r) = query r.values

-- "A first line of seven numbers is the old form": before all else.
unfoldable pub unless_old : Option Row → First → First
unless_old none x = x
unless_old (some r) x = old

unfoldable pub first_in : List ℕ → First
unfolding line_from as_query unless_old
first_in text = unless_old (line_from 7 text 0) (as_query (line_from 5 text 0))
