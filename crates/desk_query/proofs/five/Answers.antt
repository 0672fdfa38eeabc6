-- A line of five numbers is the query, and its entries are the numbers; any other is refused.
use Rattle.std.proofs.Common.{sym, refl}
use Rattle.desk_line.specs.Line.{line_from}
use Rattle.desk_line.proofs.LineLaws.{by_entries}
use Rattle.desk_query.specs.Query.{malformed, query}
use Rattle.desk_query.proofs.FirstLaws.{five-none, five-some, read_as}
use Rattle.desk_query.proofs.five.Goals as goal

pub returns-in-Some : goal.returns-in-Some
returns-in-Some c =
    read_as _ (query c.line.new.into) _ (five-some (line_from 5 c.args.text.now 0) _ (sym c.in-Some.ensures.1)) (by_entries 5 c.line.new.into c.in-Some.ensures.0)

pub returns-in-None : goal.returns-in-None
returns-in-None c = read_as _ malformed _ (five-none (line_from 5 c.args.text.now 0) (sym c.in-None.ensures.1)) refl
