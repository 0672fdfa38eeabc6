-- The lists of all nodes, by their heads in the round's own slot of the route area.
use Rattle.std.specs.Prelude.{◌≡◌, Bool, cond, ◌&&◌, ◌≢◌, ℕ, ◌+◌, ◌-◌, ◌*◌, ◌≤◌, ◌<◌, T, leb, ltb, eqb, length, get_or}
use mathlib.Core.List.{List, Memᴰ}
use Rattle.lists.specs.Tests.{up_from, every, any}
use Rattle.labels.specs.Field.{no_number, end_at, overlap_at}
use Rattle.search_ask.specs.declared.Ask.{Ask}
use Rattle.search_ask.specs.Ask.{width}
use Rattle.search_lists.specs.Link.{list_at, Linked, covers_at}

-- Of n labels, of which i ends at `end i`: each that is listed at v is a label at v, and each label at v is covered by one that is listed.
pub record Shown (end : ℕ → ℕ) (covers : ℕ → ℕ → Bool) (n v : ℕ) (ks : List ℕ) : Type 0 where
  pub sound : (k : ℕ) → Memᴰ k ks → (k < n) × (end k ≡ v)
  pub full : (i : ℕ) → i < n → end i ≡ v → (k : ℕ) × Memᴰ k ks × T (covers k i)

-- Every node but s has a word of the slot.
unfoldable pub place_of : ℕ → ℕ → ℕ
place_of s v = cond (ltb s v) (v - 1) v

-- A word that is blank is the head of no list.
unfoldable pub head_of : ℕ → ℕ
head_of word = cond (eqb word no_number) 0 word

abbrev pub head_at : Ask → ℕ → List ℕ → ℕ → ℕ
head_at ask r area v = head_of (get_or area (r * width ask + place_of ask.s v) 0)

-- The first label is at s, which is a node, and has overlapped nothing.
pub record FirstAt (ask : Ask) (r : ℕ) (l : List ℕ) : Type 0 where
  pub node : ask.s < ask.nodes
  pub end : end_at l 0 ≡ ask.s
  pub overlaps : (j : ℕ) → j < r → overlap_at l 0 j ≡ 0

-- After r earlier answers the lists of n labels are right.
pub record Listed (ask : Ask) (r : ℕ) (area l : List ℕ) (n : ℕ) : Type 0 where
  pub slot : r * width ask + width ask ≤ length area
  pub linked : Linked l n
  pub first : FirstAt ask r l
  pub below : (v : ℕ) → v < ask.nodes → v ≢ ask.s → head_at ask r area v ≤ n
  pub shown : (v : ℕ) → v < ask.nodes → v ≢ ask.s → Shown (end_at l) (covers_at l r) n v (list_at l (head_at ask r area v))

-- Label k has "no greater overlap with each earlier route".
unfoldable pub none_greater : List ℕ → ℕ → List ℕ → Bool
unfolding every up_from
none_greater labels k own = every (λ j. leb (overlap_at labels k j) (get_or own j 0)) (up_from 0 (length own))

-- One of n labels does that ends at this node.
unfoldable pub covered_at : List ℕ → ℕ → ℕ → List ℕ → Bool
unfolding any up_from none_greater
covered_at labels n end own = any (λ k. eqb (end_at labels k) end && none_greater labels k own) (up_from 0 n)
