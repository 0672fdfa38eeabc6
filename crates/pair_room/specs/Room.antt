-- What a node's record of the working room holds for the pair: the queue in bytes 0 to 11; the distance from s by the first search in bytes 12 to 19 and the last arc
-- of its route in 20 to 23; the same by the second search in bytes 24 to 31 and 32 to 35; two marks in bytes 36 to 39 and 40 to 43; where its run starts in 56 to 59.
use Rattle.std.specs.Prelude.{cond, List, ℕ, ltb}
use Rattle.working_room.specs.Field.{word_at}
use Rattle.reach.specs.declared.Stand.{Stand}

-- Beyond every length of a route, and beyond every length in the second search.
abbrev pub far : ℕ
far = 1099511627776

abbrev pub further : ℕ
further = 4611686018427387904

abbrev pub first : Stand
first = record { dist = 12; last = 20; far = far }

abbrev pub again : Stand
again = record { dist = 24; last = 32; far = further }

-- The mark of a node that has none.
abbrev pub none : ℕ
none = 4294967295

-- The mark at offset o of node v, of n. A number past the nodes has none.
abbrev pub mark_in : ℕ → ℕ → List ℕ → ℕ → ℕ
mark_in o n l v = cond (ltb v n) (word_at o l v) none

abbrev pub kept_in : ℕ → List ℕ → ℕ → ℕ
kept_in n l v = mark_in 36 n l v

abbrev pub added_in : ℕ → List ℕ → ℕ → ℕ
added_in n l v = mark_in 40 n l v
