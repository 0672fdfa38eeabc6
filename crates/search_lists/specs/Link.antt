-- Lists of labels in the bytes: each label has the number, and one more, of the label that comes after it; 0 ends the list.
use Rattle.std.specs.Prelude.{◌≡◌, Bool, not, ℕ, zero, suc, ◌+◌, ◌*◌, ◌≤◌, ◌<◌, leb, length}
use mathlib.Core.List.{List, [], ◌∷◌, Memᴰ}
use Rattle.lists.specs.Tests.{every, keep, up_from}
use Rattle.words.specs.Number.{num, put}
use Rattle.labels.specs.Field.{label_bytes, overlap_at}
use Rattle.search_queue.specs.Only.{Only}

abbrev pub link_at : List ℕ → ℕ → ℕ
link_at l i = num 2 l (i * label_bytes + 30)

abbrev pub put_link : List ℕ → ℕ → ℕ → List ℕ
put_link l i h = put 2 l (i * label_bytes + 30) h

-- At most f labels, from a head on: 0 is the end, and i + 1 is label i.
unfoldable pub follow : ℕ → List ℕ → ℕ → List ℕ
follow zero l h = []
follow (suc f) l zero = []
follow (suc f) l (suc i) = i ∷ follow f l (link_at l i)

-- A link leads to a lower label, so the head's own number is enough.
unfoldable pub list_at : List ℕ → ℕ → List ℕ
unfolding follow
list_at l h = follow h l h

-- The links of n labels lead down.
pub record Linked (l : List ℕ) (n : ℕ) : Type 0 where
  pub room : n * label_bytes ≤ length l
  pub links : (i : ℕ) → i < n → link_at l i ≤ i

-- Label k has no greater overlap than label i with each of r earlier routes.
unfoldable pub covers_at : List ℕ → ℕ → ℕ → ℕ → Bool
unfolding every up_from
covers_at l r k i = every (λ j. leb (overlap_at l k j) (overlap_at l i j)) (up_from 0 r)

-- The list that begins with label i is label i, and those behind it that it does not cover; no link of another list has changed.
pub record Swept (l : List ℕ) (n i r : ℕ) (l' : List ℕ) : Type 0 where
  pub only : Only 30 2 n l l'
  pub linked : Linked l' n
  pub list : list_at l' (i + 1) ≡ i ∷ keep (λ k. not (covers_at l r i k)) (list_at l (link_at l i))
  pub others : (k : ℕ) → (Memᴰ k (i ∷ list_at l (link_at l i)) → ⊥) → link_at l' k ≡ link_at l k
