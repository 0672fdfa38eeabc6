-- What is known of what a query gave, and what is printed of it.
use Rattle.std.specs.Prelude.{◌≡◌, true, List, ℕ}
use Rattle.text_put.specs.Put.{Appended}
use Rattle.query.specs.Query.{Input, query_of, rounds_of, reaches, Cored}
use Rattle.query_rounds.specs.declared.Got.{Got}
use Rattle.desk_text.specs.Desk.{reply_text, end_lines}

-- The query of an input for k routes among so many nodes gave g, and left the area so.
pub record Gave (i : Input) (g : Got) (n m : ℕ) (area : List ℕ) : Type 0 where
  pub nodes : i.ask.nodes ≡ n
  pub k : i.k ≡ m
  pub labels : List ℕ
  pub cored : Cored i g labels area

-- It is what some query gave; one that reached the rounds.
abbrev pub Known : Got → ℕ → ℕ → List ℕ → Type 0
Known g nodes k area = (i : Input) × Gave i g nodes k area

abbrev pub KnownEnd : Got → ℕ → ℕ → List ℕ → Type 0
KnownEnd g nodes k area = (i : Input) × (Gave i g nodes k area × (reaches i ≡ true))

-- The reply to any query that gave it; the lines of any that reached the rounds.
abbrev pub Shown : Got → ℕ → ℕ → List ℕ → List ℕ → List ℕ → ℕ → Type 0
Shown g nodes k area out out' n = (i : Input) → Gave i g nodes k area → Appended out 0 (reply_text i) out' n

abbrev pub ShownEnd : Got → ℕ → ℕ → List ℕ → List ℕ → List ℕ → ℕ → Type 0
ShownEnd g nodes k area out out' n =
    (i : Input) → Gave i g nodes k area → reaches i ≡ true → Appended out 0 (end_lines (query_of i) g.told.outcome (rounds_of i)) out' n
