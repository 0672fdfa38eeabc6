-- Filled, sorted and cleared: `made_at`.
use Rattle.std.proofs.Common.{ap, ◌∙◌}
use Rattle.road_file.specs.File.{unfed, feed}
use Rattle.road_sort.specs.Sorted.{sorted_table}
use Rattle.road_fill.specs.Filled.{cleared}
use Rattle.road_fill.proofs.MadeLaws.{placed_at, made_at}
use Rattle.road_fill.proofs.make.make.Goals as goal

pub sort-requires : goal.sort-requires
sort-requires c =
    placed_at (feed unfed c.args.text.now).said.arcs c.args.table.now _ c.args.n c.requires.0 c.fill.ensures c.requires.1 c.requires.2

pub returns : goal.returns
returns c =
    c.clear.ensures
    ∙ ap (cleared c.args.n) (c.sort.ensures ∙ ap (sorted_table c.args.n) c.fill.ensures)
    ∙ made_at (feed unfed c.args.text.now).said.arcs c.args.table.now c.args.n c.requires.0 c.requires.1 c.requires.2 c.requires.3
