-- What is due for a text of the old form, by what was read of it.
use Rattle.std.specs.Prelude.{cond, List, ℕ}
use Rattle.query.specs.Query.{reaches, tells_due}
use Rattle.desk_text.specs.declared.Asked.{Asked}
use Rattle.desk_text.specs.Desk.{refused_text, read_query}
use Rattle.desk_old.specs.Turned.{written}

-- What is asked of the table.
abbrev pub asking : Rattle.desk_old_input.specs.declared.Asked.Asked → Asked
asking x = record { nodes = x.nodes; s = x.s; goal = x.goal; k = x.k; a = x.a; b = x.b }

abbrev pub turned_of : Rattle.desk_old_input.specs.declared.Asked.Asked → List ℕ → List ℕ
turned_of x table = cond (reaches (read_query (asking x) table)) (written x table) (refused_text (tells_due (read_query (asking x) table)))
