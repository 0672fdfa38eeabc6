-- The road table of document 01: from bytes to arcs.
use Rattle.std.specs.Prelude.{◌≡◌, Bool, cond, ℕ, ◌+◌, ◌*◌, ◌/◌, ◌<◌, ltb, eqb, length, get_or}
use mathlib.Core.List.{List, [], ◌∷◌, ◌++◌, flat_map}
use Rattle.lists.specs.Index.{tab}
use Rattle.words.specs.Number.{num, put, bytes_of}
use Rattle.net.specs.Net.{Arc, Net, plain, streets, only}

-- "Arc records are 16 bytes each, with no header"
abbrev pub record_bytes : ℕ
record_bytes = 16

abbrev pub records : List ℕ → ℕ
records t = length t / record_bytes

-- "little-endian: start node (bytes 0 to 3), end node (4 to 7), length (8 to 11)"
abbrev pub from_at : List ℕ → ℕ → ℕ
from_at t i = num 4 t (i * record_bytes + 0)

abbrev pub to_at : List ℕ → ℕ → ℕ
to_at t i = num 4 t (i * record_bytes + 4)

abbrev pub len_at : List ℕ → ℕ → ℕ
len_at t i = num 4 t (i * record_bytes + 8)

-- "Bytes 12 to 15 become a road number." (02.5)
abbrev pub road_at : List ℕ → ℕ → ℕ
road_at t i = num 4 t (i * record_bytes + 12)

abbrev pub arc_at : List ℕ → ℕ → Arc
arc_at t i = record { from = from_at t i; to = to_at t i; len = len_at t i }

-- "An arc's number is its record's position, from 0."
unfoldable pub arcs_of : List ℕ → List Arc
arcs_of t = tab (records t) (arc_at t)

unfoldable pub roads_of : List ℕ → List ℕ
roads_of t = tab (records t) (road_at t)

-- "A table of zeros"
abbrev pub NoRoads : List ℕ → Type 0
NoRoads t = (a : ℕ) → a < records t → road_at t a ≡ 0

-- "one byte for each arc, 0 open and 1 closed" (02.3). Past the bytes an arc is open: where none are lent none is closed.
abbrev pub is_open_at : List ℕ → ℕ → Bool
is_open_at closed a = eqb (get_or closed a 0) 0

-- "The number of nodes is given beside the table." Open arcs may be used, and arcs with one road number are one road.
abbrev pub net_of : ℕ → List ℕ → List ℕ → Net
net_of nodes t closed = only (is_open_at closed) (streets (roads_of t) (plain nodes (arcs_of t)))

-- The record of an arc, with no road number, and the table of arcs.
unfoldable pub record_of : Arc → List ℕ
unfolding bytes_of
record_of x = bytes_of 4 x.from ++ (bytes_of 4 x.to ++ (bytes_of 4 x.len ++ bytes_of 4 0))

unfoldable pub table_of : List Arc → List ℕ
unfolding record_of flat_map
table_of xs = flat_map record_of xs

-- The bytes with record i made of an arc; bytes 12 to 15 of the record stay.
unfoldable pub put_arc : List ℕ → ℕ → Arc → List ℕ
unfolding put
put_arc t i x = put 4 (put 4 (put 4 t (i * record_bytes + 0) x.from) (i * record_bytes + 4) x.to) (i * record_bytes + 8) x.len

-- The bytes with the records from i on made of arcs.
unfoldable pub put_arcs : List ℕ → ℕ → List Arc → List ℕ
unfolding put_arc
put_arcs t i [] = t
put_arcs t i (x ∷ xs) = put_arcs (put_arc t i x) (i + 1) xs

-- The same, where there is such a record; else the bytes as they are.
unfoldable pub with_record : List ℕ → ℕ → Arc → List ℕ
unfolding put_arc
with_record t i x = cond (ltb i (records t)) (put_arc t i x) t
