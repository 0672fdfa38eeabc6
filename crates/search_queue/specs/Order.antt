-- The order of the labels' own candidates: by key, then by arc numbers from the start. The number of a label decides nothing.
use Rattle.std.specs.Prelude.{Bool, not, List, [], ◌∷◌, ◌++◌, ◌⊎◌, ◌≡◌, ℕ, T}
use Rattle.lists.specs.Tests.{lex}
use Rattle.net.specs.Route.{numbers_first}
use Rattle.labels.specs.Chain.{chain_at}
use Rattle.search_queue.specs.Working.{cursor_at, key_at}

-- Label i's own candidate.
unfoldable pub own_at : List ℕ → ℕ → List ℕ
unfolding chain_at
own_at l i = chain_at l i ++ (cursor_at l i ∷ [])

-- Label i's comes before label j's.
unfoldable pub sooner : List ℕ → ℕ → ℕ → Bool
unfolding lex numbers_first own_at
sooner l i j = lex (key_at l i) (key_at l j) (numbers_first (own_at l i) (own_at l j))

-- Label i's does not come after label j's.
unfoldable pub NotAfter : List ℕ → ℕ → ℕ → Type 0
unfolding sooner
NotAfter l i j = T (not (sooner l j i))

-- u is one of i and j whose candidate does not come after the other's.
abbrev pub Chosen : List ℕ → ℕ → ℕ → ℕ → Type 0
Chosen l i j u = ((u ≡ i) × NotAfter l i j) ⊎ ((u ≡ j) × NotAfter l j i)
