-- A file of accepted plans (document 02, item 6): its records in bytes.
use Rattle.std.specs.Prelude.{Bool, ◌&&◌, cond, ℕ, ◌+◌, ◌-◌, ◌*◌, ◌/◌, ltb, leb, eqb, length, get_or, take, replicate}
use mathlib.Core.List.{List, [], ◌∷◌, ◌++◌, flat_map}
use Rattle.lists.specs.Tests.{up_from, every}
use Rattle.lists.specs.Index.{tab}
use Rattle.words.specs.Number.{num, bytes_of}
use Rattle.words.specs.Part.{patch, slot}
use Rattle.net.specs.Limits.{most_routes, most_arcs}
use Rattle.labels.specs.Field.{no_number}

-- "a file of 32-byte records, no header, little-endian"
abbrev pub record_bytes : ℕ
record_bytes = 32

abbrev pub records : List ℕ → ℕ
records f = length f / record_bytes

-- "plan number (4 bytes, zero for a free record)"
abbrev pub plan_at : List ℕ → ℕ → ℕ
plan_at f i = num 4 f (i * record_bytes + 0)

-- "rank of the route (1 byte, from 0)"
abbrev pub rank_at : List ℕ → ℕ → ℕ
rank_at f i = get_or f (i * record_bytes + 4) 0

-- "arcs used here (1 byte, 1 to 6)"
abbrev pub used_at : List ℕ → ℕ → ℕ
used_at f i = get_or f (i * record_bytes + 5) 0

-- "part number from 0 (2 bytes)"
abbrev pub part_at : List ℕ → ℕ → ℕ
part_at f i = num 2 f (i * record_bytes + 6)

-- "six arc numbers"
abbrev pub part_arcs : ℕ
part_arcs = 6

abbrev pub arc_at : List ℕ → ℕ → ℕ → ℕ
arc_at f i j = num 4 f (i * record_bytes + (8 + 4 * j))

-- Those used.
abbrev pub arcs_at : List ℕ → ℕ → List ℕ
arcs_at f i = take (used_at f i) (tab part_arcs (arc_at f i))

-- 16: "a free record not all zero"
unfoldable pub blank : List ℕ → ℕ → Bool
unfolding every slot
blank f i = every (λ b. eqb b 0) (slot record_bytes i f)

-- 16: "arc numbers to 262,143" (02.11); "unused ones 4,294,967,295"
unfoldable pub formed_arc : List ℕ → ℕ → ℕ → Bool
formed_arc f i j = cond (ltb j (used_at f i)) (ltb (arc_at f i j) most_arcs) (eqb (arc_at f i j) no_number)

-- 16: "a field outside its form": "rank runs to 11" (02.11), a record in use has 1 to 6 arcs.
unfoldable pub formed_use : List ℕ → ℕ → Bool
unfolding every up_from formed_arc
formed_use f i = ltb (rank_at f i) most_routes && (leb 1 (used_at f i) && leb (used_at f i) part_arcs) && every (formed_arc f i) (up_from 0 part_arcs)

unfoldable pub formed : List ℕ → ℕ → Bool
unfolding blank formed_use
formed f i = cond (eqb (plan_at f i) 0) (blank f i) (formed_use f i)

-- A record in use, and its bytes.
pub record Row : Type 0 where
  pub plan : ℕ
  pub rank : ℕ
  pub part : ℕ
  pub arcs : List ℕ

unfoldable pub record_of : Row → List ℕ
unfolding bytes_of flat_map
record_of x =
    bytes_of 4 x.plan
    ++ ((x.rank ∷ length x.arcs ∷ [])
    ++ (bytes_of 2 x.part
    ++ flat_map (bytes_of 4) (x.arcs ++ replicate (part_arcs - length x.arcs) no_number)))

-- The file with these bytes as record i.
unfoldable pub with_record : List ℕ → ℕ → List ℕ → List ℕ
unfolding patch
with_record f i bytes = patch (i * record_bytes) (i * record_bytes + record_bytes) f bytes

-- A free record: "a free record [...] all zero"
abbrev pub free : List ℕ
free = replicate record_bytes 0
