-- A label's own next candidate, by its last arc.
use Rattle.std.specs.Prelude.{Bool, true, cond, ◌&&◌, List, [], ◌∷◌, ◌++◌, ◌≢◌, ℕ, ◌<◌, ltb, eqb, length}
use Rattle.std.proofs.Math.Option.{Option, none, some}
use Rattle.lists.specs.Tests.{lex}
use Rattle.net.specs.Net.{Arc, arc}
use Rattle.net.specs.Route.{length_of}
use Rattle.table.specs.Table.{records, arcs_of}
use Rattle.labels.specs.Field.{no_number}
use Rattle.labels.specs.Chain.{chain_at, chains_in}
use Rattle.labels.specs.Standing.{Holding}
use Rattle.search_ahead.specs.Cursor.{Cursor}
use Rattle.search_ask.specs.declared.Ask.{Ask}
use Rattle.search_ask.specs.Ask.{Searching, net_for, query_for, width}
use Rattle.search_ask.specs.Earlier.{Earlier, earlier_of}
use Rattle.search_batch.specs.Batch.{rank_of}
use Rattle.search_driven.specs.Marks.{Filter}
use Rattle.search_lists.specs.Listed.{Listed}
use Rattle.search_lists.specs.Run.{Runs}
use Rattle.search_advance.specs.declared.Place.{Place}

-- The candidates of n labels can be put to the tests: the search goes on, its labels hold their overlaps, are listed by their ends and have their runs, and the
-- earlier answers have their slots, their lengths and their filter.
pub record Judging (ask : Ask) (table area lens marks labels : List ℕ) (n : ℕ) : Type 0 where
  pub searching : Searching ask table labels n
  pub holding : Holding (net_for ask table []) (earlier_of ask area lens) labels n
  pub earlier : Earlier (arcs_of table) (width ask) (length lens) area lens
  pub filter : Filter table (earlier_of ask area lens) marks
  pub listed : Listed ask (length lens) area labels n
  pub runs : Runs table labels n

-- x is an arc of the table, or none.
abbrev pub ArcOrNone : List ℕ → ℕ → Type 0
ArcOrNone table x = x ≢ no_number → x < records table

unfoldable pub arc_in : ℕ → Option ℕ
arc_in x = cond (eqb x no_number) none (some x)

-- What was looked at last of the chain p: itself, or with the arc `from`.
unfoldable pub own_last : List ℕ → ℕ → List ℕ
own_last p from = cond (eqb from no_number) p (p ++ (from ∷ []))

-- Arc a comes before arc c: "by length", and then by number.
unfoldable pub arc_first : List Arc → ℕ → ℕ → Bool
unfolding lex
arc_first arcs a c = lex (arc arcs a).len (arc arcs c).len (ltb a c)

-- Arc a comes after arc `from`, if there is one, and before arc `best`, if there is one.
unfoldable pub after_arc : List Arc → ℕ → ℕ → Bool
unfolding arc_first
after_arc arcs from a = cond (eqb from no_number) true (arc_first arcs from a)

unfoldable pub before_arc : List Arc → ℕ → ℕ → Bool
unfolding arc_first
before_arc arcs a best = cond (eqb best no_number) true (arc_first arcs a best)

unfoldable pub wanted_arc : List Arc → ℕ → ℕ → ℕ → Bool
unfolding after_arc before_arc
wanted_arc arcs from best a = after_arc arcs from a && before_arc arcs a best

-- The rank of arc `from` in a batch; that of none is below all.
unfoldable pub rank_from : List Arc → ℕ → ℕ
unfolding rank_of
rank_from arcs from = cond (eqb from no_number) 0 (rank_of arcs from)

-- Of the arcs below hi, the label's cursor stands at arc a, or at none.
abbrev pub AtCursor : Ask → List ℕ → List ℕ → List ℕ → List ℕ → List ℕ → Place → ℕ → ℕ → Type 0
AtCursor ask table closed area lens labels x hi a =
    Cursor (query_for ask table closed labels) (earlier_of ask area lens) (length_of (arcs_of table)) (chains_in labels x.n) (own_last (chain_at labels x.label) x.from) (chain_at labels x.label) hi (arc_in a)
