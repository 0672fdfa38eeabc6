-- What the labels in the bytes have while a search goes on.
use Rattle.std.specs.Prelude.{◌≡◌, List, ℕ, ◌*◌, ◌<◌, ◌≤◌, length}
use Rattle.net.specs.Net.{Arc, Net}
use Rattle.net.specs.Route.{end_of, length_of}
use Rattle.net.specs.Limits.{most_nodes, most_length, most_labels}
use Rattle.labels.specs.Field.{label_bytes, most_earlier, last_arc_at, extends_at, length_at, end_at, depth_at, far_at, far_of, overlaps_at}
use Rattle.labels.specs.Chain.{chain_at}
use Rattle.labels.specs.Rows.{overlaps_of}

-- There is room for n labels, and each but the first extends a lower one.
pub record Down (l : List ℕ) (n : ℕ) : Type 0 where
  pub room : n * label_bytes ≤ length l
  pub lower : (i : ℕ) → i < n → (i ≡ 0 → ⊥) → extends_at l i < i

-- Each label has the number of arcs of its chain, and the far ancestor of the rule.
pub record Jumping (l : List ℕ) (n : ℕ) : Type 0 where
  pub depths : (i : ℕ) → i < n → depth_at l i ≡ length (chain_at l i)
  pub far : (i : ℕ) → i < n → far_at l i ≡ far_of l i (extends_at l i)

-- Two labels can be compared by their far ancestors: no two of them stand for one chain.
pub record Comparable (l : List ℕ) (n : ℕ) : Type 0 where
  pub down : Down l n
  pub jumping : Jumping l n
  pub once : (i j : ℕ) → i < n → j < n → chain_at l i ≡ chain_at l j → i ≡ j

-- The first n labels stand for chains of arcs from s: each has one of the arcs, its chain's number of arcs, length and end, and its far ancestor.
pub record Standing (arcs : List Arc) (s : ℕ) (l : List ℕ) (n : ℕ) : Type 0 where
  pub down : Down l n
  pub jumping : Jumping l n
  pub few : n ≤ most_labels
  pub is-arc : (i : ℕ) → i < n → (i ≡ 0 → ⊥) → last_arc_at l i < length arcs
  pub lengths : (i : ℕ) → i < n → length_at l i ≡ length_of arcs (chain_at l i)
  pub ends : (i : ℕ) → i < n → end_at l i ≡ end_of arcs s (chain_at l i)
  pub short : (i : ℕ) → i < n → length (chain_at l i) < most_nodes
  pub most : (i : ℕ) → i < n → length_at l i ≤ most_nodes * most_length

-- The first n labels hold the overlap of their chains with each earlier route.
pub record Holding (net : Net) (earlier : List (List ℕ)) (l : List ℕ) (n : ℕ) : Type 0 where
  pub few : length earlier ≤ most_earlier
  pub overlaps : (i : ℕ) → i < n → overlaps_at l i (length earlier) ≡ overlaps_of net earlier (chain_at l i)
