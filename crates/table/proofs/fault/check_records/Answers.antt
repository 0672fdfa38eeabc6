use Rattle.std.proofs.Common.{arith, refl, sym, ◌∙◌}
use native.Mathlib.Nat.{sub-zero}
use Rattle.table.specs.Table.{records}
use Rattle.outcome.proofs.OutcomeLaws.{not_found}
use Rattle.table.specs.Fault.{prev_of, fault_at}
use Rattle.table.proofs.FaultLaws.{prev-step, lowest-done, lowest_step, lowest-stop}
use Rattle.table.proofs.fault.check_records.Goals as goal

pub loop-i-init : goal.loop-i-init
unfolding prev_of
loop-i-init c = record { prev = refl; rest = rw sub-zero }

-- what the turn finds is the fault of record i
pub returns-in-Some : goal.returns-in-Some
unfolding fault_at
returns-in-Some c =
    let e = c.in-Some.ensures.number in
    let ne = not_found c.in-Some.outcome c.in-Some.ensures.refused in
    cc (e, lowest-stop c.args.nodes c.args.table.now (records c.args.table.now) c.loop-i.i (omega arith) (λ z. ne (cc (e, z))))

pub loop-i-preserved : goal.loop-i-preserved
unfolding fault_at
loop-i-preserved c =
    let e = c.in_default.ensures.number in
    record {
      prev = cc (prev-step c.args.table.now c.loop-i.i);
      rest = cc (e, lowest_step c.args.nodes c.args.table.now (records c.args.table.now) c.loop-i.i (omega arith) (cc e));
    }

pub returns : goal.returns
returns c = sym (sym c.loop-i.invariant.rest ∙ lowest-done c.args.nodes c.args.table.now (records c.args.table.now) c.loop-i.i (omega arith))
