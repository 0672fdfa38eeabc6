-- Arcs whose numbers fit four bytes each: those of a table, and those of a road file.
use Rattle.std.specs.Prelude.{List, ℕ, ◌<◌, length}
use Rattle.net.specs.Net.{Arc, arc}

abbrev pub Small : Arc → Type 0
Small x = (x.from < 4294967296) × (x.to < 4294967296) × (x.len < 4294967296)

abbrev pub AllSmall : List Arc → Type 0
AllSmall xs = (i : ℕ) → i < length xs → Small (arc xs i)
