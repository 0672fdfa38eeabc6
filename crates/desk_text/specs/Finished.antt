-- What is printed where an input ends, of what was kept of it.
use Rattle.std.specs.Prelude.{◌≡◌, List, [], ◌∷◌, ◌++◌, ℕ}
use Rattle.text_put.specs.Put.{Appended}
use Rattle.desk_query.specs.declared.Query.{Query}
use Rattle.desk_feed.specs.declared.Taken.{Taken}
use Rattle.desk_feed.specs.Road.{judged, road_in}
use Rattle.desk_feed.specs.Taken.{state, state_of}
use Rattle.desk_text.specs.Desk.{file_text, desk_text}

-- All that is kept is that of the input; and its part that is not of the first bytes.
abbrev pub KeptOf : Taken → List ℕ → List ℕ → List ℕ → Type 0
KeptOf x first table input = state x first table ≡ state_of input

abbrev pub RoadOf : Taken → List ℕ → List ℕ → Type 0
RoadOf x table input = (x ≡ (state_of input).taken) × (table ≡ (state_of input).table)

-- It is that of some input.
abbrev pub Kept : Taken → List ℕ → List ℕ → Type 0
Kept x first table = (input : List ℕ) × KeptOf x first table input

abbrev pub RoadKept : Taken → List ℕ → Type 0
RoadKept x table = (input : List ℕ) × RoadOf x table input

-- A part fed behind any input that it is of.
abbrev pub PartFed : Taken → List ℕ → List ℕ → List ℕ → Taken → List ℕ → List ℕ → Type 0
PartFed x first table part y first' table' = (input : List ℕ) → KeptOf x first table input → KeptOf y first' table' (input ++ part)

-- What is due for any input that it is of.
abbrev pub Finished : Taken → List ℕ → List ℕ → List ℕ → List ℕ → ℕ → Type 0
Finished x first table out out' n = (input : List ℕ) → KeptOf x first table input → Appended out 0 (desk_text input) out' n

abbrev pub RoadFinished : Taken → Query → List ℕ → List ℕ → List ℕ → ℕ → Type 0
RoadFinished x q table out out' n =
    (input : List ℕ) → RoadOf x table input → Appended out 0 (file_text (q.s ∷ q.goal ∷ q.k ∷ q.a ∷ q.b ∷ []) (judged (road_in input))) out' n
