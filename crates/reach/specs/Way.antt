-- What a search goes over, whichever way: a net's arcs, as the records of a table that stand in order of the node at which each begins.
use Rattle.std.specs.Prelude.{◌≡◌, ◌⊎◌, List, ℕ, ◌≤◌, ◌<◌}
use Rattle.net.specs.Net.{Arc, Net, plain, driven, arc}
use Rattle.distances.specs.Search.{Open}
use Rattle.distances.specs.Turned.{reversed}
use Rattle.table.specs.Table.{records, arcs_of, roads_of, is_open_at}
use Rattle.second.specs.Second.{number_at, Next}
use Rattle.second.specs.Lookup.{coming_start}
use Rattle.run_notes.specs.Noted.{start_by}
use Rattle.reach.specs.declared.Stand.{Stand}
use Rattle.reach.specs.Turn.{Turn}

-- The net of a table's arcs, as they are turned.
abbrev pub along : (List Arc → List Arc) → ℕ → List ℕ → List ℕ → Net
along turn nodes t closed = record { nodes = nodes; arcs = turn (arcs_of t); usable = is_open_at closed; drives = driven (roads_of t) }

-- each turned round
unfoldable pub turned_arcs : List Arc → List Arc
unfolding reversed
turned_arcs arcs = (reversed (plain 0 arcs)).arcs

-- Every open arc that leaves u has number lo or above; none has.
abbrev pub AllFrom : Net → ℕ → ℕ → Type 0
AllFrom net u lo = (e : ℕ) → Open net e → (arc net.arcs e).from ≡ u → lo ≤ e

abbrev pub NoneFrom : Net → ℕ → ℕ → Type 0
NoneFrom net u lo = (e : ℕ) → Open net e → (arc net.arcs e).from ≡ u → lo ≤ e → ⊥

-- A walk along the runs of a table, by the node `key` of each record: where u's run starts, every arc of u is yet to be looked at, and where it is over none is. `Place`
-- has the node, the record and the number from which on arcs are yet to be looked at.
pub record Walks (key : List ℕ → ℕ → ℕ) (Place : ℕ → ℕ → ℕ → Type 0) (net : Net) (walked : List ℕ) : Type 0 where
  pub begins : (u : ℕ) → (lo : ℕ) × Place u (start_by key walked u) lo × AllFrom net u lo
  pub ends : (u i lo : ℕ) → Place u i lo → (records walked ≤ i) ⊎ (key walked i ≡ u → ⊥) → NoneFrom net u lo

-- The turn of u has come to place i of its run: the arcs from some number lo on, which `Place` allows there, are yet to be looked at.
abbrev pub At : (ℕ → ℕ → Type 0) → Net → ℕ → Stand → List ℕ → List ℕ → ℕ → ℕ → ℕ → ℕ → Type 0
At Place net s x l m root u d i = (lo : ℕ) × Place i lo × Turn net s x l m root u d lo

-- Place j of u's run in a second table: the records before it are arcs below lo, and record j is the next arc from lo on that comes to u.
pub record Along (nodes : ℕ) (t second : List ℕ) (u end j lo : ℕ) : Type 0 where
  pub low : coming_start second u ≤ j
  pub high : j ≤ end
  pub behind : (i : ℕ) → coming_start second u ≤ i → i < j → number_at nodes t i < lo
  pub next : j < end → Next nodes t j lo
