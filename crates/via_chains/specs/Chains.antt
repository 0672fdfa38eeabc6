-- The candidates of all nodes, in the working room.
use Rattle.std.specs.Prelude.{Bool, ◌&&◌, cond, List, [], ◌∷◌, ◌++◌, ℕ, zero, suc, ◌+◌, ◌*◌, ltb, eqb}
use Rattle.net.specs.Net.{Arc, Net, arc}
use Rattle.distances.specs.Search.{Found}
use Rattle.distances.specs.Turned.{reversed}
use Rattle.node_queue.specs.Queue.{Roomy}
use Rattle.reach.specs.Stand.{dist_in, last_in}
use Rattle.first_routes.specs.Firsts.{far, forth, back, rank_in, Ranked, Picked}

-- What the candidates are read from: the distances from s and to t, and the arcs of the first routes.
pub record Prepared (net : Net) (s t : ℕ) (l : List ℕ) : Type 0 where
  pub roomy : Roomy net.nodes l
  pub from-s : (parent : ℕ → ℕ) × Found net s far (dist_in forth net.nodes l) parent
  pub to-t : (parent : ℕ → ℕ) × Found (reversed net) t far (dist_in back net.nodes l) parent
  pub ranked : Ranked net s l
  pub picked : Picked net t l

-- The chain to v by last arcs, and the chain from v by first arcs: at most f arcs of them.
unfoldable pub climb : List Arc → ℕ → List ℕ → ℕ → ℕ → List ℕ
climb arcs s l zero v = []
climb arcs s l (suc f) v = cond (eqb v s) [] (climb arcs s l f (arc arcs (last_in forth l v)).from ++ (last_in forth l v ∷ []))

unfoldable pub descend : List Arc → ℕ → List ℕ → ℕ → ℕ → List ℕ
descend arcs t l zero v = []
descend arcs t l (suc f) v = cond (eqb v t) [] (last_in back l v ∷ descend arcs t l f (arc arcs (last_in back l v)).to)

-- "the first route from s to it" and "the first route from it to t": neither visits a node twice, so the number of nodes is enough.
unfoldable pub to_in : Net → ℕ → List ℕ → ℕ → List ℕ
unfolding climb
to_in net s l v = climb net.arcs s l net.nodes v

unfoldable pub on_in : Net → ℕ → List ℕ → ℕ → List ℕ
unfolding descend
on_in net t l v = descend net.arcs t l net.nodes v

-- "joined"
unfoldable pub joined_in : Net → ℕ → ℕ → List ℕ → ℕ → List ℕ
unfolding to_in on_in
joined_in net s t l v = to_in net s l v ++ on_in net t l v

-- The node has both.
abbrev pub both_in : ℕ → List ℕ → ℕ → Bool
both_in n l v = ltb (dist_in forth n l v) far && ltb (dist_in back n l v) far

-- The key of a node's candidate: by length, and where lengths are equal by when the node was entered, which is the order of the arc numbers. No candidate has the
-- greatest key.
abbrev pub no_key : ℕ
no_key = 9223372036854775808

unfoldable pub key_for : ℕ → List ℕ → ℕ → ℕ
key_for n l v = cond (both_in n l v) ((dist_in forth n l v + dist_in back n l v) * 65536 + rank_in l v) no_key
