-- A record that does not start below v is no earlier than the start, and one that does lies before it.
use Rattle.std.proofs.Common.{arith, ◌-◌}
use Rattle.std.proofs.lemmas.Bool.Decides.{nat_tests}
use Rattle.table.proofs.RunLaws.{run_past, run-to}
use Rattle.run_starts.proofs.starts_at.Goals as goal
use Rattle.run_starts.proofs.starts_at.Goals.{then-g-gt0, else-g-gt0, then-g-table, else-g-table}

pub returns-then-v-from_of : goal.returns-then-v-from_of
returns-then-v-from_of c = λ below.
    elim c.if-g-table.branch [
      | else-g-table w ↦ grind arith
      | then-g-table w ↦ elim c.if-g-gt0.branch [
        | else-g-gt0 u ↦ grind arith
        | then-g-gt0 u ↦
            let after = run-to c.args.table.now c.args.v c.args.g in
            let before = run_past c.args.nodes c.args.table.now c.requires c.args.v (c.args.g - 1) in
            grind (arith, nat_tests, after, before)
      ]
    ]
