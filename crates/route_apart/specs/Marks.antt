-- What two routes share, by marks: one of them is marked at the nodes that its arcs leave, since a simple route leaves no node twice.
use Rattle.std.specs.Prelude.{◌≡◌, Bool, cond, ℕ, ◌+◌, ◌-◌, ◌*◌, ◌<◌, eqb}
use mathlib.Core.List.{List, [], ◌∷◌, Memᴰ}
use Rattle.lists.specs.Tests.{has, keep}
use Rattle.net.specs.Route.{length_of}
use Rattle.table.specs.Table.{records, from_at, len_at, arcs_of}
use Rattle.working_room.specs.Field.{word_at, put_word}
use Rattle.search_ask.specs.Earlier.{route_in}
use Rattle.products.specs.declared.Fraction.{Fraction}

-- Offset 20 of a node's record has the number of the marked arc that leaves it, and 1; 0 where none does.
abbrev pub mark_field : ℕ
mark_field = 20

abbrev pub marks : List ℕ → List ℕ → ℕ → Bool
marks t room a = eqb (word_at mark_field room (from_at t a)) (a + 1)

-- The arcs of p are marked, and no others.
abbrev pub Marked : List ℕ → List ℕ → List ℕ → Type 0
Marked t p room = (a : ℕ) → a < records t → marks t room a ≡ has a p

-- The length of an arc, where it is marked.
unfoldable pub part_of : List ℕ → List ℕ → ℕ → ℕ
part_of t room a = cond (marks t room a) (len_at t a) 0

-- The length of what is marked of a slot's route.
unfoldable pub marked_of : List ℕ → List ℕ → List ℕ → ℕ
unfolding length_of keep route_in
marked_of t room words = length_of (arcs_of t) (keep (marks t room) (route_in words))

-- No node has a mark.
abbrev pub Unmarked : List ℕ → Type 0
Unmarked room = (v : ℕ) → word_at mark_field room v ≡ 0

-- No two arcs of p leave one node.
abbrev pub StartsApart : List ℕ → List ℕ → Type 0
StartsApart t p = (a b : ℕ) → Memᴰ a p → Memᴰ b p → from_at t a ≡ from_at t b → a ≡ b

-- The arcs of p are marked one by one, or their marks taken away.
unfoldable pub put_marks : List ℕ → Bool → List ℕ → List ℕ → List ℕ
put_marks t on [] room = room
put_marks t on (a ∷ p) room = put_marks t on p (put_word mark_field room (from_at t a) (cond on (a + 1) 0))

-- The dissimilarity of a slot's route and the marked one, of this length.
abbrev pub apart_by : List ℕ → List ℕ → List ℕ → ℕ → Fraction
apart_by t room words size =
    record { over = length_of (arcs_of t) (route_in words) + size - 2 * marked_of t room words; under = length_of (arcs_of t) (route_in words) + size - marked_of t room words }
