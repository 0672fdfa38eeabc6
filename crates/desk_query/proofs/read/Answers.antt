-- A line of seven numbers is the old form; any other is what its five numbers are.
use Rattle.std.proofs.Common.{sym}
use Rattle.desk_line.specs.Line.{line_from}
use Rattle.desk_query.specs.Query.{old, as_query}
use Rattle.desk_query.proofs.FirstLaws.{first-old, first-five, read_as}
use Rattle.desk_query.proofs.read.Goals as goal

pub returns-in-Some : goal.returns-in-Some
returns-in-Some c = read_as _ old _ (first-old c.args.text.now _ (sym c.in-Some.ensures.1)) c.plain.ensures

pub returns-in-None : goal.returns-in-None
returns-in-None c = read_as _ (as_query (line_from 5 c.args.text.now 0)) _ (first-five c.args.text.now (sym c.in-None.ensures.1)) c.five.ensures
