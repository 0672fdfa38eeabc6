-- Each label's own next candidate, in the order by f, while the labels' chains are `taken` and `last` is the chain last looked at.
use Rattle.std.specs.Prelude.{◌≡◌, ◌⊎◌, List, [], ◌∷◌, ◌++◌, map, ℕ, ◌<◌, T, length}
use Rattle.std.proofs.Math.Option.{Option, none, some}
use Rattle.lists.specs.Tests.{up_from}
use Rattle.net.specs.Route.{end_of, leaves, before}
use Rattle.net.specs.Round.{Query}
use Rattle.net.proofs.Order.{AtMost}
use Rattle.net.proofs.Step.{Fails}

-- p with arc a is a candidate after `last`.
pub record Waits (q : Query) (f : List ℕ → ℕ) (last p : List ℕ) (a : ℕ) : Type 0 where
  pub leaves-end : T (leaves q.net (end_of q.net.arcs q.s p) a)
  pub after : T (before f last (p ++ (a ∷ [])))

module _ (q : Query) (earlier : List (List ℕ)) (f : List ℕ → ℕ) (taken : List (List ℕ)) (last p : List ℕ) (hi : ℕ) where
  -- Of p's candidates after `last` with an arc below hi: each fails a test; or a's is one of them, and each before it fails.
  abbrev pub Cursor : Option ℕ → Type 0
  Cursor none = (b : ℕ) → b < hi → Waits q f last p b → Fails q earlier taken (p ++ (b ∷ []))
  Cursor (some a) =
      Waits q f last p a × ((b : ℕ) → b < hi → Waits q f last p b → Fails q earlier taken (p ++ (b ∷ [])) ⊎ AtMost f (p ++ (a ∷ [])) (p ++ (b ∷ [])))

-- The chains of the first n labels.
abbrev pub taken_of : (ℕ → List ℕ) → ℕ → List (List ℕ)
taken_of chain n = map chain (up_from 0 n)

-- Label i's cursor is right.
abbrev pub Right : Query → List (List ℕ) → (List ℕ → ℕ) → List (List ℕ) → List ℕ → (ℕ → List ℕ) → (ℕ → Option ℕ) → ℕ → Type 0
Right q earlier f taken last chain o i = Cursor q earlier f taken last (chain i) (length q.net.arcs) (o i)

-- So is that of each of the n labels.
pub record Cursors (q : Query) (earlier : List (List ℕ)) (f : List ℕ → ℕ) (last : List ℕ) (chain : ℕ → List ℕ) (n : ℕ) (o : ℕ → Option ℕ) : Type 0 where
  pub right : (i : ℕ) → i < n → Right q earlier f (taken_of chain n) last chain o i

-- Label w's candidate, with arc a, is the first of all.
pub record Wins (f : List ℕ → ℕ) (chain : ℕ → List ℕ) (n : ℕ) (o : ℕ → Option ℕ) (w a : ℕ) : Type 0 where
  pub below : w < n
  pub has-it : o w ≡ some a
  pub first : (j b : ℕ) → j < n → o j ≡ some b → AtMost f (chain w ++ (a ∷ [])) (chain j ++ (b ∷ []))
