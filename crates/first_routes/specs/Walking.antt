-- The walk of the first routes from s: where it stands, what each function of it does, and a number that falls at each step.
use Rattle.std.specs.Prelude.{◌≡◌, List, Option, Some, None, Bool, ◌&&◌, cond, ℕ, zero, suc, ◌+◌, ◌-◌, ◌*◌, ◌≤◌, ◌<◌, eqb}
use Rattle.net.specs.Route.{end_of}
use Rattle.table.specs.Table.{records, from_at, to_at, len_at, arcs_of, net_of}
use Rattle.table.specs.Run.{run_start}
use Rattle.distances.specs.Search.{Steady}
use Rattle.distances.specs.Deep.{Deep}
use Rattle.working_room.specs.Field.{long_at, put_word}
use Rattle.reach.specs.Stand.{dist_in, last_in}
use Rattle.first_routes.specs.Firsts.{forth, none, rank_in, seen_in, Ranked}
use Rattle.first_routes.specs.Measured.{Measured}
use Rattle.first_routes.specs.declared.walk.At.{At}

-- The distances are those from s.
pub record Ready (nodes : ℕ) (t closed : List ℕ) (s : ℕ) (l : List ℕ) : Type 0 where
  pub measured : Measured forth nodes t l
  pub s-below : s < nodes
  pub steady : Steady (net_of nodes t closed) s (dist_in forth nodes l)

-- How many numbers below n pass a test.
unfoldable pub count_to : (ℕ → Bool) → ℕ → ℕ
count_to f zero = 0
count_to f (suc n) = count_to f n + cond (f n) 1 0

-- Of n nodes, those not entered.
abbrev pub unentered : ℕ → List ℕ → ℕ
unentered n l = count_to (λ v. eqb (rank_in l v) none) n

-- The walk is at node v and has tried its arcs below `arc`; `many` nodes were entered.
pub record OnWay (nodes : ℕ) (t closed : List ℕ) (s : ℕ) (l : List ℕ) (x : At) : Type 0 where
  pub stack : List ℕ
  pub ends : end_of (arcs_of t) s stack ≡ x.v
  pub deep : Deep (net_of nodes t closed) s (dist_in forth nodes l) (seen_in nodes l) (last_in forth l) (rank_in l) x.many stack x.arc
  pub counted : x.many + unentered nodes l ≡ nodes
  pub run-from : run_start t x.v ≤ x.arc
  pub run-to : x.arc ≤ run_start t (x.v + 1)

-- It goes on, or is over.
abbrev pub Stood : ℕ → List ℕ → List ℕ → ℕ → List ℕ → Option At → Type 0
Stood nodes t closed s l None = Ranked (net_of nodes t closed) s l
Stood nodes t closed s l (Some x) = OnWay nodes t closed s l x

-- The arcs above those that the walk went down by, from node v back to s by the last arcs, f of them at most.
unfoldable pub behind : ℕ → List ℕ → ℕ → List ℕ → ℕ → ℕ
behind zero t s l v = 0
behind (suc f) t s l v = cond (eqb v s) 0 (behind f t s l (from_at t (last_in forth l v)) + (records t - last_in forth l v))

-- What is left to do: it falls at each step.
unfoldable pub left : ℕ → List ℕ → ℕ → List ℕ → Option At → ℕ
unfolding count_to behind
left nodes t s l None = 0
left nodes t s l (Some x) = unentered nodes l * (records t + 2) + behind (long_at 12 l x.v) t s l x.v + (records t + 1 - x.arc)

-- Arc a of node v lies on a shortest chain, and leads to a node not entered.
unfoldable pub leads_on : List ℕ → List ℕ → ℕ → ℕ → Bool
leads_on t l v a = eqb (long_at 12 l v + len_at t a) (long_at 12 l (to_at t a)) && eqb (rank_in l (to_at t a)) none

-- Node w is entered by arc a.
abbrev pub entered : List ℕ → ℕ → ℕ → ℕ → List ℕ
entered l w a m = put_word 24 (put_word 20 l w a) w m

-- Back by the last arc; at s the walk is over.
unfoldable pub up_from : List ℕ → ℕ → List ℕ → At → Option At
up_from t s l x =
    cond (eqb x.v s) None (Some (record { v = from_at t (last_in forth l x.v); arc = last_in forth l x.v + 1; many = x.many }))
