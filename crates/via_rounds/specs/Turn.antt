-- Between two routes of a profile.
use Rattle.std.specs.Prelude.{◌≡◌, Bool, true, false, ◌&&◌, List, [], ℕ, ◌+◌, ◌*◌, ◌≤◌, ◌<◌, ltb, length}
use Rattle.words.specs.Part.{patch}
use Rattle.labels.specs.Chain.{slot_of}
use Rattle.net.specs.Limits.{most_routes}
use Rattle.net.specs.Route.{length_of}
use Rattle.net.specs.Round.{Query}
use Rattle.search_ask.specs.declared.Ask.{Ask}
use Rattle.search_ask.specs.Ask.{Accepted, net_for, width}
use Rattle.summary.specs.Sums.{set_entry}
use Rattle.node_queue.specs.Queue.{key_at, Queue}
use Rattle.via_chains.specs.Chains.{Prepared, joined_in, both_in, key_for, no_key}
use Rattle.via_drop.specs.Drop.{Dropped}
use Rattle.query_rounds.specs.Area.{area_with}
use Rattle.via_rounds.specs.declared.Turn.{Turn}

-- The slots are blank, and all candidates stand in the queue, `root` first.
pub record Begun (ask : Ask) (table closed : List ℕ) (k : ℕ) (area₀ room₀ area' room' : List ℕ) (root : ℕ) : Type 0 where
  pub area : area' ≡ area_with (width ask) k area₀ []
  pub long : length room' ≡ length room₀
  pub prepared : Prepared (net_for ask table closed) ask.s ask.goal room'
  pub queue : Queue ask.nodes room' root
  pub keys : (v : ℕ) → v < ask.nodes → key_at room' v ≡ key_for ask.nodes room' v

-- After r routes one more is to be kept, of at most k, if the first left has a key.
abbrev pub going_on : ℕ → ℕ → List ℕ → ℕ → Bool
going_on r k room root = ltb r k && ltb (key_at room root) no_key

-- The route of node `root` may be kept as route r, from 0: there is a slot for it, and it fits.
pub record Taking (ask : Ask) (table closed : List ℕ) (k : ℕ) (area room : List ℕ) (r root : ℕ) : Type 0 where
  pub accepted : Accepted ask table
  pub prepared : Prepared (net_for ask table closed) ask.s ask.goal room
  pub queue : Queue ask.nodes room root
  pub both : both_in ask.nodes room root ≡ true
  pub short : length (joined_in (net_for ask table closed) ask.s ask.goal room root) ≤ width ask
  pub below : r < k
  pub few : k ≤ most_routes
  pub slots : k * width ask ≤ length area

-- What is left in the queue once a route was kept: after the last it does not matter, and nothing is done.
pub record Left (q : Query) (last : Bool) (route room room' : List ℕ) (root root' : ℕ) : Type 0 where
  pub at_last : last ≡ true → (room' ≡ room) × (root' ≡ root)
  pub before : last ≡ false → Dropped q route room room' root'

-- The route p was kept: it stands in its slot, with its summary and a label count of 0.
pub record Taken (q : Query) (w k : ℕ) (p area₀ room : List ℕ) (x : Turn) (area' room' : List ℕ) (y : Turn) : Type 0 where
  pub count : y.r ≡ x.r + 1
  pub area : area' ≡ patch (x.r * w) (x.r * w + w) area₀ (slot_of w p)
  pub sums : y.sums ≡ set_entry x.sums x.r (record { length = length_of q.net.arcs p; arcs = length p; labels = 0 })
  pub at_last : y.r ≡ k → (room' ≡ room) × (y.root ≡ x.root)
  pub before : y.r < k → Dropped q p room room' y.root
