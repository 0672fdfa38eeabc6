-- The table of a road file's arcs while it is made: the arcs in file order with their places, and after sorting without them.
use Rattle.std.specs.Prelude.{cond, List, [], ◌∷◌, ◌++◌, ℕ, ◌+◌, ◌*◌, eqb, length, drop}
use Rattle.lists.specs.Index.{tab}
use Rattle.words.specs.Number.{put, bytes_of}
use Rattle.net.specs.Net.{Arc}
use Rattle.road_file.specs.declared.Reader.{Reader}
use Rattle.table.specs.Table.{record_bytes, arc_at, table_of, put_arc}

-- An arc's record that holds its place in the file in bytes 12 to 15.
unfoldable pub placed_of : ℕ → Arc → List ℕ
placed_of i x = bytes_of 4 x.from ++ (bytes_of 4 x.to ++ (bytes_of 4 x.len ++ bytes_of 4 i))

-- These arcs, the first of them at place i.
unfoldable pub placed_from : ℕ → List Arc → List ℕ
unfolding placed_of
placed_from i [] = []
placed_from i (x ∷ xs) = placed_of i x ++ placed_from (i + 1) xs

-- The bytes with the arcs in front.
unfoldable pub filled : List Arc → List ℕ → List ℕ
unfolding placed_from
filled xs t = placed_from 0 xs ++ drop (length xs * record_bytes) t

-- The bytes with bytes 12 to 15 of their first n records zero.
unfoldable pub cleared : ℕ → List ℕ → List ℕ
unfolding table_of
cleared n t = table_of (tab n (arc_at t)) ++ drop (n * record_bytes) t

-- The bytes after one byte more of the text: where an arc has come, it stands at its place.
abbrev pub place_next : List ℕ → ℕ → Reader → List ℕ
place_next t before r = cond (eqb r.count before) t (put 4 (put_arc t before (record { from = r.from; to = r.to; len = r.len })) (before * record_bytes + 12) before)
