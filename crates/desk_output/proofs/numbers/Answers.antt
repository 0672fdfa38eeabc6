-- There is room for one number more, and a turn is `numbers-turn`; at the end the numbers put are all.
use Rattle.std.proofs.Common.{arith, get_or}
use Rattle.numerals.proofs.DecimalLaws.{decimal-length}
use Rattle.text_put.proofs.AppendLaws.{appended-none}
use Rattle.desk_output.specs.Line.{numbers_text}
use Rattle.desk_output.proofs.TextLaws.{numbers-turn, numbers-all}
use Rattle.desk_output.proofs.numbers.Goals as goal

pub loop-v-init : goal.loop-v-init
unfolding numbers_text
loop-v-init c = (omega arith, appended-none _ _)

pub spaced-next-requires : goal.spaced-next-requires
spaced-next-requires c = omega (arith, c.requires, c.loop-v.invariant.0, c.loop-v.auto.out, decimal-length (get_or c.args.vs.now c.loop-v.v-index 0))

pub loop-v-preserved : goal.loop-v-preserved
loop-v-preserved c =
    let b = c.spaced-next.ensures in (
      omega (arith, c.loop-v.invariant.0, b.place, decimal-length (get_or c.args.vs.now c.loop-v.v-index 0)),
      numbers-turn _ _ c.args.vs.now _ _ c.loop-v.v-index _ _ c.loop-v.invariant.1 b (omega arith) (omega arith),
    )

pub returns : goal.returns
returns c = numbers-all _ _ _ _ _ c.loop-v.v-index c.loop-v.invariant.1 (omega arith)
