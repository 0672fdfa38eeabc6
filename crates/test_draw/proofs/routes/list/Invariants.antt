use Rattle.std.proofs.Common.{◌≡◌, ◌≤◌, get_or}
use Rattle.test_draw.proofs.routes.list.Given as goal

abbrev pub invariant-loop-row : goal.invariant-loop-row
invariant-loop-row l = record {
  least : 1 ≤ get_or l.rows 3328 0;
  most : get_or l.rows 3328 0 ≤ 256;
  start : get_or l.rows 0 0 ≡ get_or l.case 2 0;
}
