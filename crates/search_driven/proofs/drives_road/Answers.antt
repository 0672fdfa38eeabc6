-- From a blank word on the slot is blank, and a blank word is of no road (`any-blank`, `filler`); another decides, or is passed.
use Rattle.std.proofs.Common.{sym, ◌∙◌, arith}
use Rattle.net.specs.Net.{same_road}
use Rattle.table.specs.Table.{roads_of}
use Rattle.table.proofs.NetLaws.{road-past}
use Rattle.labels.specs.Field.{no_number}
use Rattle.search_driven.proofs.DrivenLaws.{any-done, any_step, any-stop, any-blank, filler}
use Rattle.search_driven.proofs.drives_road.Goals as goal

pub returns-then-word : goal.returns-then-word
returns-then-word c =
    let roads = roads_of c.args.table.now in
    sym (any-blank (same_road roads c.args.arc) (filler roads c.args.arc c.requires.3 (road-past c.args.table.now no_number (omega (arith, c.requires.4))))
    c.args.slot.now c.requires.2 c.loop-word.word-index c.loop-word-test.true c.if-word.true)
    ∙ c.loop-word.invariant

pub returns-then-same_road : goal.returns-then-same_road
returns-then-same_road c =
    sym (any-stop (same_road (roads_of c.args.table.now) c.args.arc) c.args.slot.now c.loop-word.word-index c.loop-word-test.true (sym c.same_road.ensures ∙ c.if-same_road.true))
    ∙ c.loop-word.invariant

pub loop-word-preserved : goal.loop-word-preserved
loop-word-preserved c =
    sym (any_step (same_road (roads_of c.args.table.now) c.args.arc) c.args.slot.now c.loop-word.word-index c.loop-word-test.true (sym c.same_road.ensures ∙ c.if-same_road.false))
    ∙ c.loop-word.invariant

pub returns : goal.returns
returns c =
    sym (any-done (same_road (roads_of c.args.table.now) c.args.arc) c.args.slot.now c.loop-word.word-index (omega arith)) ∙ c.loop-word.invariant
