-- The share of a route with one before it. A route has as many arcs at most as there are nodes, so its length, and with it each overlap, is at most the most nodes
-- times the greatest length, 65,536 times 1,000,000, which is below 2 ^ 40 (`overlap-small`).
use mathlib.Core.Path.{◌≡◌, sym, ap, ◌∙◌}
use mathlib.Core.List.{List, [], ◌∷◌}
use Prim.Native.Nat.{ℕ, ◌+◌, ◌*◌, ◌≤◌, ◌<◌}
use native.Mathlib.Omega.{arith}
use native.Mathlib.Nat.{mul-le-mul_right, le_trans}
use native.Mathlib.Numerals.{add-one}
use lib.ListN.{length, get_or, take}
use lib.Seq.{take-suc, length-take-le}
use Rattle.net.specs.Net.{Net, arc}
use Rattle.net.specs.Route.{overlap}
use Rattle.net.specs.Limits.{most_nodes, most_length}
use Rattle.net.proofs.Overlap.{overlap-append}
use Rattle.net.proofs.Lengths.{length_of-most, overlap-most}

module _ (net : Net) where
  pub overlap-turn : (q p : List ℕ) (i : ℕ) → i < length q → overlap net (take i q) p + overlap net (get_or q i 0 ∷ []) p ≡ overlap net (take (i + 1) q) p
  overlap-turn q p i h = sym (ap (λ l. overlap net l p) (ap (λ n. take n q) (add-one i) ∙ take-suc q i 0 h) ∙ overlap-append net (take i q) (get_or q i 0 ∷ []) p)

  module _ (most : (a : ℕ) → (arc net.arcs a).len ≤ most_length) where
    pub overlap-small : (q p : List ℕ) → length q ≤ most_nodes → overlap net q p ≤ most_nodes * most_length
    overlap-small q p h = le_trans (overlap-most net q p) (le_trans (length_of-most net.arcs most_length most q) (mul-le-mul_right most_length h))

    pub overlap-room : (q p : List ℕ) (i : ℕ) → i < length q → length q ≤ most_nodes → overlap net (take (i + 1) q) p ≤ most_nodes * most_length
    overlap-room q p i h k = overlap-small (take (i + 1) q) p (omega (arith, length-take-le (i + 1) q (omega arith)))
