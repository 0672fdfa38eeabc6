-- A table whose check tells an outcome other than 0 is refused with it. Else it is good, and its records are few enough to number and to add up: where a record has a
-- road number it is refused with 27, else there is none, and a buffer shorter than the sum is refused. Any other has room for the text, and it is written.
use Rattle.std.proofs.Common.{sym, ap, arith}
use Rattle.std.proofs.lemmas.Result.{err_from_is_err_and}
use Rattle.outcome.specs.Outcome.{numbered, beside}
use Rattle.table.proofs.FaultLaws.{good-size}
use Rattle.road_write.proofs.WrittenLaws.{written-faulty, written-on-roads, written_small, written-done}
use Rattle.road_write.proofs.write.Goals as goal

pub returns-in_err-check : goal.returns-in_err-check
returns-in_err-check c =
    let p = err_from_is_err_and c.from_residual.result c.from_residual.ensures.1 in
    rw (p.1, p.2) (written-faulty _ _ _ c.in_err-check.field-0.0 c.in_err-check.ensures)

pub overflow_cast-result : goal.overflow_cast-result
overflow_cast-result c = omega (arith, c.in-Some.ensures.0, (good-size _ _ (sym c.in_ok-check.ensures)).3)

pub returns-in-Some : goal.returns-in-Some
returns-in-Some c =
    written-on-roads _ _ _ (sym c.in_ok-check.ensures) _ (ap (beside numbered) c.in-Some.ensures.1) (omega (arith, c.in-Some.ensures.0, c.in-Some.ensures.1))

pub needed-requires : goal.needed-requires
needed-requires c = (good-size _ _ (sym c.in_ok-check.ensures)).3

pub returns-then-text-needed : goal.returns-then-text-needed
returns-then-text-needed c =
    written_small _ _ _ (sym c.in_ok-check.ensures) c.in_default.ensures _ c.plain.ensures (omega (arith, c.needed.ensures, c.if-text-needed.true))

pub returns : goal.returns
returns c =
    written-done _ _ _ (sym c.in_ok-check.ensures) c.in_default.ensures _ _ (omega (arith, c.needed.ensures, c.if-text-needed.false)) c.put.ensures
