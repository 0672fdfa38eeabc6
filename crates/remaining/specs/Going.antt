-- "the distance still to go": numbers of the nodes that fall, by arcs looked at again and again, until no arc's length falls short of what lies between its nodes.
use Rattle.std.specs.Prelude.{◌≡◌, List, ℕ, zero, suc, ◌+◌, ◌≤◌, ◌<◌, T}
use Rattle.net.specs.Net.{Net}
use Rattle.net.specs.Route.{end_of, chain, length_of}

-- A chain of this length goes from v to t.
pub record Goes (net : Net) (t v n : ℕ) : Type 0 where
  pub by : List ℕ
  pub is-chain : T (chain net v by)
  pub ends : end_of net.arcs v by ≡ t
  pub is-long : length_of net.arcs by ≡ n

-- t is at 0, and what is less than `far` is the length of a chain to t.
pub record Going (net : Net) (t far : ℕ) (D : ℕ → ℕ) : Type 0 where
  pub zero-t : D t ≡ 0
  pub most : (v : ℕ) → D v ≤ far
  pub real : (v : ℕ) → D v < far → Goes net t v (D v)

-- The sum of the first n: it falls with each.
unfoldable pub total : ℕ → (ℕ → ℕ) → ℕ
total zero f = 0
total (suc n) f = total n f + f n
