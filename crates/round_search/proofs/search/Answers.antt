-- The turns, and then the working bytes of the labels are cleared: what is left is the law `finished`. The slot is blank again, and the area as it was: `blank-again`.
use Rattle.std.proofs.Common.{◌∙◌, arith, length}
use Rattle.search_ask.specs.Ask.{query_for, width}
use Rattle.search_ask.specs.Earlier.{earlier_of}
use Rattle.round_search.proofs.SearchLaws.{searched-standing, finished, blank-again}
use Rattle.round_search.proofs.search.Goals as goal

pub clear_work-requires : goal.clear_work-requires
clear_work-requires c =
    omega (arith, (searched-standing (query_for c.args.ask c.args.table.now c.args.closed.now c.args.labels.now) (earlier_of c.args.ask c.args.area.now c.args.lens.now) c.args.labels.now _ c.turns-x.result c.turns-x.ensures.1).down.room)

pub overflow_sub-w : goal.overflow_sub-w
overflow_sub-w c = omega (arith, c.requires.0.accepted.s-below)

pub overflow_mul-from : goal.overflow_mul-from
overflow_mul-from c = omega (arith, c.requires.1.room)

pub overflow_add-to : goal.overflow_add-to
overflow_add-to c = omega (arith, c.requires.1.room)

pub fill_part-requires : goal.fill_part-requires
fill_part-requires c = (omega arith, omega (arith, c.requires.1.room, c.turns-x.ensures.2.long))

pub returns : goal.returns
returns c = (
  c.turns-x.ensures.0,
  finished (query_for c.args.ask c.args.table.now c.args.closed.now c.args.labels.now) (earlier_of c.args.ask c.args.area.now c.args.lens.now) c.args.labels.now _ c.turns-x.result c.turns-x.ensures.0
      c.turns-x.ensures.1 _ c.clear_work.ensures,
  c.fill_part.ensures ∙ blank-again (width c.args.ask) (length c.args.lens.now) c.args.area.now _ c.requires.1 c.turns-x.ensures.2,
)
