-- The first line's numbers, then the arc lines: each way in which they are read is a law `told-..` over what the text says.
-- The first line's end lies within the text, so the arc lines are read from there.
use Rattle.std.proofs.Common.{refl, sym, arith, get_or, zero-le}
use Rattle.std.proofs.lemmas.Result.{err_from_is_err_and}
use Rattle.desk_old_input.specs.Text.{arcs_from}
use Rattle.desk_old_input.proofs.ArcsLaws.{line-ends}
use Rattle.desk_old_input.proofs.SaidLaws.{said-none, said-nodes, said-arcs, said-is, told-malformed, arcs-count, told-asks, told_line}
use Rattle.desk_line.proofs.LineLaws.{by_entries}
use Rattle.desk_old_input.proofs.read.Goals as goal

pub returns-in_default : goal.returns-in_default
returns-in_default c = record {
  long = refl;
  is = told-malformed _ 1 c.args.table.now c.args.table.now (said-none c.args.text.now (sym c.in_default.ensures.1));
}

pub returns-then-row-gt-MOST_NODES : goal.returns-then-row-gt-MOST_NODES
returns-then-row-gt-MOST_NODES c = record {
  long = refl;
  is = told-malformed _ 1 c.args.table.now c.args.table.now (said-nodes c.args.text.now c.line.new.into c.in-Some.next (sym c.in-Some.ensures.1) c.if-row-gt-MOST_NODES.true);
}

pub returns-then-row-gt-MOST_ARCS : goal.returns-then-row-gt-MOST_ARCS
returns-then-row-gt-MOST_ARCS c = record {
  long = refl;
  is = told-malformed _ 1 c.args.table.now c.args.table.now
      (said-arcs c.args.text.now c.line.new.into c.in-Some.next (sym c.in-Some.ensures.1) c.if-row-gt-MOST_NODES.false c.if-row-gt-MOST_ARCS.true);
}

pub arcs-requires : goal.arcs-requires
arcs-requires c =
    (line-ends 7 c.args.text.now 0 _ (sym c.in-Some.ensures.1) zero-le, c.if-row-gt-MOST_ARCS.false, omega (arith, c.if-row-gt-MOST_ARCS.false, c.requires))

pub returns-in_err-arcs : goal.returns-in_err-arcs
returns-in_err-arcs c =
    let p = err_from_is_err_and c.from_residual.result c.from_residual.ensures.1 in
    let lines = arcs_from (get_or c.line.new.into 1 0) c.args.text.now c.in-Some.next 2 in
    rw (p.1, p.2)
    (record {
      long = c.arcs.ensures.long;
      is =
          rw (said-is c.args.text.now c.line.new.into c.in-Some.next (sym c.in-Some.ensures.1) c.if-row-gt-MOST_NODES.false c.if-row-gt-MOST_ARCS.false)
          (told_line _ lines c.line.new.into c.in_err-arcs.field-0.0 c.args.table.now c.arcs.new.table c.in_err-arcs.ensures.is);
    })

pub returns : goal.returns
returns c =
    let row = c.line.new.into in
    let lines = arcs_from (get_or row 1 0) c.args.text.now c.in-Some.next 2 in
    record {
      long = c.arcs.ensures.long;
      is =
          rw (said-is c.args.text.now row c.in-Some.next (sym c.in-Some.ensures.1) c.if-row-gt-MOST_NODES.false c.if-row-gt-MOST_ARCS.false)
          (told-asks _ lines row _ c.args.table.now c.arcs.new.table (λ xs e. arcs-count (get_or row 1 0) c.args.text.now c.in-Some.next 2 xs e)
          (by_entries 7 row c.in-Some.ensures.0) c.in_ok-arcs.ensures.is);
    }
