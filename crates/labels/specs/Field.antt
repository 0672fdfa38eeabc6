-- The fields of a label in its bytes: a head, and then its overlap with each earlier route.
use Rattle.std.specs.Prelude.{cond, List, [], ◌∷◌, ℕ, zero, suc, ◌+◌, ◌-◌, ◌*◌, eqb}
use Rattle.lists.specs.Index.{tab}
use Rattle.words.specs.Number.{num, put}
use Rattle.net.specs.Limits.{most_routes}

-- A round has at most so many earlier routes.
abbrev pub most_earlier : ℕ
most_earlier = most_routes - 1

abbrev pub head_bytes : ℕ
head_bytes = 40

-- "Labels grow to 128 bytes" (02.11)
abbrev pub label_bytes : ℕ
label_bytes = head_bytes + 8 * most_earlier

-- The last arc of the chain that has none, and what stands in the words of a slot after its arcs.
abbrev pub no_number : ℕ
no_number = 4294967295

-- "by its last arc, if any, and the label it extends"
abbrev pub last_arc_at : List ℕ → ℕ → ℕ
last_arc_at l i = num 4 l (i * label_bytes + 0)

abbrev pub extends_at : List ℕ → ℕ → ℕ
extends_at l i = num 2 l (i * label_bytes + 4)

-- The length of its chain, and the node that it ends at.
abbrev pub length_at : List ℕ → ℕ → ℕ
length_at l i = num 8 l (i * label_bytes + 8)

abbrev pub end_at : List ℕ → ℕ → ℕ
end_at l i = num 2 l (i * label_bytes + 16)

-- The number of arcs of its chain, and a far ancestor: a lower label whose chain begins its own.
abbrev pub depth_at : List ℕ → ℕ → ℕ
depth_at l i = num 2 l (i * label_bytes + 18)

abbrev pub far_at : List ℕ → ℕ → ℕ
far_at l i = num 2 l (i * label_bytes + 6)

-- "its overlap with each earlier route": with the r-th, from 0; and with the first r.
abbrev pub overlap_at : List ℕ → ℕ → ℕ → ℕ
overlap_at l i r = num 8 l (i * label_bytes + (head_bytes + 8 * r))

abbrev pub overlaps_at : List ℕ → ℕ → ℕ → List ℕ
overlaps_at l i r = tab r (overlap_at l i)

pub record Row : Type 0 where
  pub last-arc : ℕ
  pub extends : ℕ
  pub len : ℕ
  pub end : ℕ
  pub overlaps : List ℕ

-- The far ancestor of a label that extends label x: where the way from x to its far ancestor is as long as the way on from there to the next, that next one;
-- else x.
unfoldable pub far_from : List ℕ → ℕ → ℕ
far_from l x =
    cond (eqb (depth_at l x - depth_at l (far_at l x)) (depth_at l (far_at l x) - depth_at l (far_at l (far_at l x)))) (far_at l (far_at l x)) x

-- What label i has that extends label x: label 0, which extends none, has no arcs and is its own far ancestor.
unfoldable pub far_of : List ℕ → ℕ → ℕ → ℕ
unfolding far_from
far_of l zero x = 0
far_of l (suc i) x = far_from l x

unfoldable pub depth_of : List ℕ → ℕ → ℕ → ℕ
depth_of l zero x = 0
depth_of l (suc i) x = depth_at l x + 1

-- The bytes with the head of label i made of the four, and of what follows from the label that it extends.
unfoldable pub put_head : List ℕ → ℕ → ℕ → ℕ → ℕ → ℕ → List ℕ
put_head l i arc extends len end =
    put 2 (put 2 (put 8 (put 2 (put 2 (put 4 l (i * label_bytes + 0) arc) (i * label_bytes + 4) extends) (i * label_bytes + 6) (far_of l i extends)) (i * label_bytes + 8) len) (i * label_bytes + 16) end)
    (i * label_bytes + 18) (depth_of l i extends)

-- Numbers of 64 bits, one after the other from `at` on.
unfoldable pub puts : List ℕ → ℕ → List ℕ → List ℕ
puts l at [] = l
puts l at (x ∷ xs) = puts (put 8 l at x) (at + 8) xs

-- The bytes with label i made of a row; the label's other bytes are left as they are.
unfoldable pub put_row : List ℕ → ℕ → Row → List ℕ
unfolding put_head puts
put_row l i x = puts (put_head l i x.last-arc x.extends x.len x.end) (i * label_bytes + head_bytes) x.overlaps
