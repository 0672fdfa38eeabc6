-- The line's three numbers, where it is well-formed, are those put.
-- Where it is malformed the table stays as it is.
use Rattle.std.proofs.Common.{refl, sym, rules}
use Rattle.desk_old_input.proofs.arc.Goals as goal

pub returns-in_err-next : goal.returns-in_err-next
returns-in_err-next c = rw c.from_residual.ensures (refl, sym c.in_err-next.ensures.1)

pub returns : goal.returns
returns c = (search rules, (c.line.new.into, sym c.in_ok-next.ensures.1, c.write.ensures))
