-- The words are looked at in order. Whether the arc stands among the words from here on tells whether it stands on the slot; past the last word, and from a
-- blank one on, it stands among none.
use Rattle.std.proofs.Common.{◌≡◌, eqb, drop}
use Rattle.lists.specs.Tests.{any}
use Rattle.search_driven.proofs.stands_on.Given as goal

abbrev pub invariant-loop-word : goal.invariant-loop-word
invariant-loop-word l = any (eqb l.arc) (drop l.word-index l.slot) ≡ any (eqb l.arc) l.slot
