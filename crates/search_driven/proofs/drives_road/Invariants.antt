-- The words are looked at in order. Whether the words from here on have an arc of the road tells whether the slot has.
use Rattle.std.proofs.Common.{◌≡◌, drop}
use Rattle.lists.specs.Tests.{any}
use Rattle.net.specs.Net.{same_road}
use Rattle.table.specs.Table.{roads_of}
use Rattle.search_driven.proofs.drives_road.Given as goal

abbrev pub invariant-loop-word : goal.invariant-loop-word
invariant-loop-word l = any (same_road (roads_of l.table) l.arc) (drop l.word-index l.slot) ≡ any (same_road (roads_of l.table) l.arc) l.slot
