-- Two routes with nothing in common (02.10), of least total length.
use mathlib.Core.List.{List, [], ◌∷◌, map, flat_map}
use Rattle.std.proofs.Math.Option.{Option, none, some}
use Rattle.std.specs.Prelude.{Bool, not, ◌&&◌, cond, ℕ, ◌+◌, ◌≤◌, T, ltb, eqb}
use Rattle.lists.specs.Tests.{has, every, keep}
use Rattle.net.specs.Net.{Net}
use Rattle.net.specs.Route.{end_of, route, length_of, precedes, partials_by, partials}

-- "share no arc": "Shared is by arc number, road numbers set aside."
unfoldable pub apart : List ℕ → List ℕ → Bool
unfolding every has
apart p q = every (λ a. not (has a q)) p

-- Two routes from s to t that share no arc.
unfoldable pub pair : Net → ℕ → ℕ → List ℕ → List ℕ → Bool
unfolding route apart
pair net s t p q = route net s t p && route net s t q && apart p q

-- "The one that precedes stands first", and no pair has a lesser total length.
pub record LeastPair (net : Net) (s t : ℕ) (p q : List ℕ) : Type 0 where
  pub is-pair : T (pair net s t p q)
  pub in_order : T (precedes net.arcs p q)
  pub least : (x y : List ℕ) → T (pair net s t x y) → length_of net.arcs p + length_of net.arcs q ≤ length_of net.arcs x + length_of net.arcs y

-- "refused exactly if no such pair exists"
abbrev pub NoPair : Net → ℕ → ℕ → Type 0
NoPair net s t = (x y : List ℕ) → T (pair net s t x y) → ⊥

-- ---- The same, computed.

-- All routes from s to t, in the order of rule 3.
unfoldable pub routes : Net → ℕ → ℕ → List (List ℕ)
unfolding keep end_of partials_by
routes net s t = keep (λ p. eqb (end_of net.arcs s p) t) (partials net s)

-- The total lengths of the pairs.
unfoldable pub totals : Net → ℕ → ℕ → List ℕ
unfolding flat_map keep apart length_of routes
totals net s t = flat_map (λ p. map (λ q. length_of net.arcs p + length_of net.arcs q) (keep (apart p) (routes net s t))) (routes net s t)

unfoldable pub lesser : ℕ → Option ℕ → ℕ
lesser n none = n
lesser n (some m) = cond (ltb m n) m n

unfoldable pub least_of : List ℕ → Option ℕ
unfolding lesser
least_of [] = none
least_of (n ∷ ns) = some (lesser n (least_of ns))

-- "the least total length of two routes that share no arc"; none where there is no pair.
unfoldable pub least_total : Net → ℕ → ℕ → Option ℕ
unfolding totals least_of
least_total net s t = least_of (totals net s t)
