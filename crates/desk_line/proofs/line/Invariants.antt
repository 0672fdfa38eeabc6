-- `place` lies within the text, and the first i numbers of `into`, in front of what the line's other numbers from `place` on give, are what the whole line gives.
-- A number followed by what is to follow it is a step of that, anything else ends it: the laws `line-..`.
use Rattle.std.proofs.Common.{◌≡◌, ◌-◌, ◌≤◌, length, take}
use Rattle.desk_line.specs.Line.{line_from}
use Rattle.desk_line.proofs.LineLaws.{prepends}
use Rattle.desk_line.proofs.line.Given as goal

abbrev pub invariant-loop-i : goal.invariant-loop-i
invariant-loop-i l =
    (l.place ≤ length l.text) × (prepends (take l.i l.into) (line_from (length l.fn.into - l.i) l.text l.place) ≡ line_from (length l.fn.into) l.text l.fn.at)
