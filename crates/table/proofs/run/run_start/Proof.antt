-- A search from both ends. Invariant: the run's start lies between `lo` and `hi`. In a good table start nodes never fall, so a
-- record that starts below v lies before the run's start (`run_past`), and one that does not is no earlier (`run-to`).
use native.Mathlib.Omega.{arith}
use borrow.Author.Rules.{rules}
use Prim.Native.Nat.{◌+◌, ◌-◌, ◌/◌, ◌≤◌}
use Rattle.table.specs.Table.{records}
use Rattle.table.specs.Run.{run_start}
use Rattle.table.proofs.RunLaws.{run-le, run-to, run_past}
use Rattle.table.proofs.run.run_start.Statement.{statement}
use Rattle.table.proofs.run.run_start.Tie as tie

abbrev invariant-loop-lo : tie.invariant-loop-lo
invariant-loop-lo t nodes v lo₀ hi₀ lo hi = (lo ≤ run_start t v) × (run_start t v ≤ hi) × (hi ≤ records t)

abbrev decreases-loop-lo : tie.decreases-loop-lo
decreases-loop-lo t nodes v lo₀ hi₀ lo hi = hi - lo

loop-again : tie.Need-loop-lo-preserved-then-from_of-v invariant-loop-lo decreases-loop-lo
loop-again c =
    let k = c.before.before.before in
    let s = k.before.before in
    omega (arith, run_past s.args.nodes s.args.table.now s.requires s.args.v (k.loop-lo.lo + (k.loop-lo.hi - k.loop-lo.lo) / 2) (omega arith) (omega arith))

loop-again-2 : tie.Need-loop-lo-preserved invariant-loop-lo decreases-loop-lo
loop-again-2 c =
    let k = c.before.before.before in
    let s = k.before.before in
    omega (arith, run-to s.args.table.now s.args.v (k.loop-lo.lo + (k.loop-lo.hi - k.loop-lo.lo) / 2) (omega arith))

pub run_start_spec : {M : Type 1} → statement M
run_start_spec =
    tie.close
    (tie.spec
    invariant-loop-lo
    decreases-loop-lo
    (λ c. omega (arith, run-le c.before.args.table.now c.before.args.v))
    (λ c. search rules)
    (λ c. search rules)
    (λ c κs. search rules)
    (λ c. search rules)
    (λ c. search rules)
    loop-again
    (λ c. search rules)
    loop-again-2
    (λ c. search rules))
