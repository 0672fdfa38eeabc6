-- What planners may be told about longer lists and looser thresholds (02.8), of the rounds of a query.
use Rattle.std.specs.Prelude.{◌≡◌, ℕ, ◌*◌, ◌≤◌, ◌<◌, take}
use mathlib.Core.List.{List, [], ◌∷◌, Memᴰ}
use Rattle.outcome.specs.Outcome.{room}
use Rattle.net.specs.Net.{Arc}
use Rattle.net.specs.Route.{length_of}
use Rattle.net.specs.Round.{Query}
use Rattle.net.specs.Outcome.{rounds, answers, summaries, told}

-- "the answers for k"
abbrev pub answers_for : Query → ℕ → List (List ℕ)
answers_for q k = answers (rounds q k [])

-- A call for k that reaches the rounds "ends in 11".
abbrev pub EndsIn11 : Query → ℕ → Type 0
EndsIn11 q k = (told 1 (rounds q k [])).outcome ≡ room

-- "Lengths never fall from one answer to the next": each is no longer than any after it.
abbrev pub NeverFall : List Arc → List (List ℕ) → Type 0
NeverFall arcs [] = Unit {0}
NeverFall arcs (p ∷ ps) = ((r : List ℕ) → Memᴰ r ps → length_of arcs p ≤ length_of arcs r) × NeverFall arcs ps

-- The same question at the threshold a/b, with another room.
abbrev pub at : Query → ℕ → ℕ → ℕ → Query
at q a b labels = record { net = q.net; s = q.s; t = q.t; a = a; b = b; room = labels }

-- "every greater permitted one": the threshold a/b is no less than that of q. The thresholds permitted have b from 1.
abbrev pub Greater : Query → ℕ → ℕ → Type 0
Greater q a b = q.a * b ≤ a * q.b

-- Of the second route: "it exists", and it is no longer than `most`.
pub record SecondWithin (q : Query) (k most : ℕ) : Type 0 where
  pub first : List ℕ
  pub second : List ℕ
  pub further : List (List ℕ)
  pub exists : answers_for q k ≡ first ∷ second ∷ further
  pub no_longer : length_of q.net.arcs second ≤ most

pub record Longer (q : Query) : Type 0 where
  -- "Where both calls reach the rounds with the same room, the answers for k are the first k of those for any greater k." One query has one room.
  pub begins : (k n : ℕ) → k ≤ n → answers_for q k ≡ take k (answers_for q n)
  pub begins-summaries : (k n : ℕ) → k ≤ n → summaries q k (rounds q k []) ≡ take k (summaries q n (rounds q n []))
  -- "Lengths never fall from one answer to the next."
  pub never-fall : (k : ℕ) → NeverFall q.net.arcs (answers_for q k)
  -- "For the second route only, where neither call ends in 11: if it exists at a threshold, it exists at every greater permitted one, and is there no longer." It is
  -- enough that the call at the greater threshold does not end in 11; k, n and the rooms may differ.
  pub looser : (a b labels k n : ℕ) (p w : List ℕ) (ps : List (List ℕ)) → 0 < q.b → Greater q a b
      → answers_for q k ≡ p ∷ w ∷ ps
      → 2 ≤ n → (EndsIn11 (at q a b labels) n → ⊥)
      → SecondWithin (at q a b labels) n (length_of q.net.arcs w)
