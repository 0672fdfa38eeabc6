-- What is told of the first line.
use Rattle.std.specs.Prelude.{◌≡◌, List, [], ◌∷◌, ℕ, Result, Ok, Err}
use Rattle.outcome.specs.declared.Refusal.{Refusal}
use Rattle.outcome.specs.Outcome.{text, old_form, plain, beside, told_by}
use Rattle.desk_query.specs.declared.Query.{Query}
use Rattle.desk_query.specs.Query.{First, old, malformed, query}

-- The numbers are those of the query; it is not refused.
abbrev pub NumbersRead : List ℕ → Result Query Refusal → Type 0
NumbersRead vs (Ok q) = vs ≡ q.s ∷ q.goal ∷ q.k ∷ q.a ∷ q.b ∷ []
NumbersRead vs (Err x) = ⊥

-- "25, old form", with no line; "12 [...] for a malformed query line", which is line 1; else the five numbers.
abbrev pub FirstRead : First → Result Query Refusal → Type 0
FirstRead old r = told_by r ≡ plain old_form
FirstRead malformed r = told_by r ≡ beside text 1
FirstRead (query vs) r = NumbersRead vs r
