-- One node's candidate, while it is written; and the keys of the first nodes, while they are lined up.
use Rattle.std.specs.Prelude.{◌≡◌, cond, List, ℕ, ◌<◌, ltb}
use Rattle.search_ask.specs.declared.Ask.{Ask}
use Rattle.search_ask.specs.Ask.{Accepted, net_for}
use Rattle.working_room.specs.Field.{Within}
use Rattle.node_queue.specs.Queue.{key_at, Queue}
use Rattle.via_chains.specs.Chains.{Prepared, to_in, on_in, no_key, key_for}

-- What the candidates of an ask are read from.
pub record Ready (ask : Ask) (table closed l : List ℕ) : Type 0 where
  pub accepted : Accepted ask table
  pub prepared : Prepared (net_for ask table closed) ask.s ask.goal l

-- The two parts of node v's candidate.
abbrev pub to_of : Ask → List ℕ → List ℕ → List ℕ → ℕ → List ℕ
to_of ask table closed l v = to_in (net_for ask table closed) ask.s l v

abbrev pub on_of : Ask → List ℕ → List ℕ → List ℕ → ℕ → List ℕ
on_of ask table closed l v = on_in (net_for ask table closed) ask.goal l v

-- The nodes below v have the keys of their candidates, the others none.
pub record Lined (n v : ℕ) (l l' : List ℕ) (root : ℕ) : Type 0 where
  pub within : Within 0 12 l l'
  pub queue : Queue n l' root
  pub keys : (w : ℕ) → w < n → key_at l' w ≡ cond (ltb w v) (key_for n l w) no_key
