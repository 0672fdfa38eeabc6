-- `place` lies within the text, and i arcs are read and put, behind which what the lines left give is what all lines give (`Passed`).
-- A well-formed line is one arc more; a malformed one ends it, and so does text behind the last line.
use Rattle.std.proofs.Common.{◌≤◌, length}
use Rattle.desk_old_input.specs.Text.{arcs_from}
use Rattle.desk_old_input.proofs.ArcsLaws.{Passed}
use Rattle.desk_old_input.proofs.arcs.Given as goal

abbrev pub invariant-loop-i : goal.invariant-loop-i
invariant-loop-i l = (l.place ≤ length l.text) × Passed l.text l.m l.i l.place (arcs_from l.m l.text l.fn.at 2) l.fn.table l.table
