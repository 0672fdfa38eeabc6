-- The loop over the digits. Invariant: the number so far, followed by the digits left, has the value of all of them; the digits passed and those left are as
-- many as there are; and the number so far is not too large. A digit takes one step of each. Where the next one makes the number too large, further digits
-- make it no smaller, so there is no number.
use Rattle.std.proofs.Common.{◌≡◌, ◌+◌, ◌≤◌, length, drop}
use Rattle.numerals.specs.Decimal.{most_number, digits, value_after, value}
use Rattle.numerals.proofs.collect.Given as goal

abbrev pub invariant-loop-i : goal.invariant-loop-i
invariant-loop-i l =
    (l.value ≤ most_number)
    × (value_after l.value (digits (drop l.i l.text)) ≡ value (digits (drop l.at l.text)))
    × (l.i + length (digits (drop l.i l.text)) ≡ l.at + length (digits (drop l.at l.text)))
