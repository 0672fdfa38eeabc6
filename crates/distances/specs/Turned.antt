-- A net with some of its arcs turned round, and other lengths: the arcs keep their numbers.
use Rattle.std.specs.Prelude.{List, map, Bool, true, false, cond, ℕ, ◌+◌, ◌-◌, length}
use Rattle.lists.specs.Tests.{has, up_from}
use Rattle.net.specs.Net.{Arc, Net, arc}

unfoldable pub turned_if : Bool → Arc → ℕ → Arc
turned_if true x c = record { from = x.to; to = x.from; len = c }
turned_if false x c = record { from = x.from; to = x.to; len = c }

unfoldable pub turned : Net → (ℕ → Bool) → (ℕ → ℕ) → Net
unfolding turned_if up_from
turned net f c =
    record { nodes = net.nodes; arcs = map (λ a. turned_if (f a) (arc net.arcs a) (c a)) (up_from 0 (length net.arcs)); usable = net.usable; drives = net.drives }

-- every arc turned round
unfoldable pub reversed : Net → Net
unfolding turned
reversed net = turned net (λ a. true) (λ a. (arc net.arcs a).len)

-- The length of arc a beyond what it brings nearer, where π v is how far node v is.
unfoldable pub detour : Net → (ℕ → ℕ) → ℕ → ℕ
detour net π a = (arc net.arcs a).len + π (arc net.arcs a).from - π (arc net.arcs a).to

-- The arcs of P turned round, at no cost; the others at their detour.
unfoldable pub residual : Net → (ℕ → ℕ) → List ℕ → Net
unfolding turned has detour
residual net π P = turned net (λ a. has a P) (λ a. cond (has a P) 0 (detour net π a))
