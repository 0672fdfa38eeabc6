-- The two walks of the pair, by the marks in the working room, and what they leave in the slots.
use Rattle.std.specs.Prelude.{◌≡◌, cond, ℕ, zero, suc, ◌+◌, ◌-◌, ◌≤◌, ◌<◌, eqb, length}
use mathlib.Core.List.{List, [], ◌∷◌, Memᴰ}
use Rattle.std.proofs.Math.Option.{some}
use Rattle.net.specs.Net.{Arc, Net, arc}
use Rattle.net.specs.Route.{end_of, length_of}
use Rattle.table.specs.Table.{arcs_of}
use Rattle.table.specs.Fault.{table_fault, good}
use Rattle.working_room.specs.Field.{room_bytes}
use Rattle.node_queue.specs.Queue.{Roomy}
use Rattle.query_rounds.specs.Area.{area_with}
use Rattle.pair.specs.Pair.{LeastPair, least_total}
use Rattle.pair.specs.Walked.{pick}
use Rattle.pair_room.specs.Room.{none, mark_in}
use Rattle.pair_walks.specs.declared.Way.{Way}
use Rattle.pair_walks.specs.declared.Ways.{Ways}

-- From v to t by the arcs that `next` tells, f of them at most.
unfoldable pub following : List Arc → (ℕ → ℕ) → ℕ → ℕ → ℕ → List ℕ
following arcs next t zero v = []
following arcs next t (suc f) v = cond (eqb v t) [] (next v ∷ following arcs next t f (arc arcs (next v)).to)

-- They come to t, by arcs of the table.
pub record Arrives (arcs : List Arc) (next : ℕ → ℕ) (t f v : ℕ) : Type 0 where
  pub ends : end_of arcs v (following arcs next t f v) ≡ t
  pub inside : (a : ℕ) → Memᴰ a (following arcs next t f v) → a < length arcs

-- By the marks at offset `own`, or, where there is none, at offset `other`.
abbrev pub next_in : ℕ → ℕ → ℕ → List ℕ → ℕ → ℕ
next_in own other n l v = pick none (mark_in own n l v) (mark_in other n l v)

unfoldable pub way_in : List ℕ → ℕ → ℕ → ℕ → List ℕ → ℕ → ℕ → List ℕ
unfolding following
way_in t n s goal l own other = following (arcs_of t) (next_in own other n l) goal (n - 1) s

-- The walk can be taken.
pub record Walking (t : List ℕ) (n s goal : ℕ) (l : List ℕ) (own other : ℕ) : Type 0 where
  pub no-fault : table_fault n t ≡ good
  pub roomy : Roomy n l
  pub s-below : s < n
  pub own_in : own + 4 ≤ room_bytes
  pub other-in : other + 4 ≤ room_bytes
  pub arrives : Arrives (arcs_of t) (next_in own other n l) goal (n - 1) s

-- The number of arcs of a route, and its length.
abbrev pub way_of : List Arc → List ℕ → Way
way_of arcs p = record { arcs = length p; length = length_of arcs p }

-- Routes p and q stand in the first two slots of w words.
pub record Written (arcs : List Arc) (w : ℕ) (p q area area' : List ℕ) (x : Ways) : Type 0 where
  pub area-is : area' ≡ area_with w 2 area (p ∷ q ∷ [])
  pub ways : x ≡ record { first = way_of arcs p; second = way_of arcs q }
  pub p-fits : length p ≤ w
  pub q-fits : length q ≤ w

-- "the least total length of two routes that share no arc [...] The one that precedes stands first"
pub record Paired (net : Net) (s t : ℕ) (area area' : List ℕ) (x : Ways) : Type 0 where
  pub p : List ℕ
  pub q : List ℕ
  pub least : LeastPair net s t p q
  pub total : least_total net s t ≡ some (length_of net.arcs p + length_of net.arcs q)
  pub written : Written net.arcs (net.nodes - 1) p q area area' x
