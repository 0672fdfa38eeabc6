-- The record in the middle lies before the start where it starts below v, and else no earlier than it.
use mathlib.Core.Logic.{⊎_elim}
use Rattle.std.proofs.Common.{arith, ◌+◌, ◌-◌, ◌/◌}
use Rattle.table.proofs.FaultLaws.{good-size}
use Rattle.table.proofs.RunLaws.{run_past, run-to}
use Rattle.run_starts.proofs.leaving.Goals as goal

pub guess-g-requires : goal.guess-g-requires
guess-g-requires c =
    let size = good-size c.args.nodes c.args.table.now c.requires in
    (omega (arith, size.0), omega (arith, size.3))

pub loop-size-preserved : goal.loop-size-preserved
loop-size-preserved c =
    let i = c.loop-size.at + (c.loop-size.size - c.loop-size.size / 2 - 1) in
    let past = run_past c.args.nodes c.args.table.now c.requires c.args.v i in
    ⊎_elim
    (λ w. record { from = omega (arith, w.1, past (omega arith) w.0); to = omega (arith, w.1); inside = omega (arith, w.1) })
    (λ w. record { from = omega (arith, w.1); to = omega (arith, w.1, run-to c.args.table.now c.args.v i w.0); inside = omega (arith, w.1) })
    c.behind-at.ensures
