-- An arc told by its two nodes and its length.
use Rattle.std.specs.Prelude.{◌≡◌, ◌⊎◌, List, Option, Some, None, Bool, true, false, ◌&&◌, ℕ, ◌≤◌, ◌<◌, eqb}
use Rattle.table.specs.Table.{records, from_at, to_at, len_at, is_open_at}
use Rattle.working_room.specs.Field.{long_at}
use Rattle.reach.specs.declared.Stand.{Stand}
use Rattle.reach.specs.Steps.{Looked}

-- Arc a comes to v, has this length and is open.
unfoldable pub fits : List ℕ → List ℕ → ℕ → ℕ → ℕ → Bool
fits t closed v len a = eqb (to_at t a) v && (eqb (len_at t a) len && is_open_at closed a)

-- Arc a does, and starts at w; no arc does.
abbrev pub Fitting : List ℕ → List ℕ → ℕ → ℕ → ℕ → ℕ → Type 0
Fitting t closed w v len a = (a < records t) × (from_at t a ≡ w) × (fits t closed v len a ≡ true)

abbrev pub NoFitting : List ℕ → List ℕ → ℕ → ℕ → ℕ → Type 0
NoFitting t closed w v len = (a : ℕ) → a < records t → from_at t a ≡ w → fits t closed v len a ≡ false

-- What is found is such an arc, or nothing where there is none.
abbrev pub Chosen : List ℕ → List ℕ → ℕ → ℕ → ℕ → Option ℕ → Type 0
Chosen t closed w v len None = NoFitting t closed w v len
Chosen t closed w v len (Some a) = Fitting t closed w v len a

-- An arc from w to v of this length brings w to c: nothing has changed where w is no further or no such arc is open, and else one of them is looked at.
abbrev pub Brought : List ℕ → List ℕ → Stand → ℕ → List ℕ → ℕ → ℕ → ℕ → ℕ → ℕ → List ℕ → ℕ → Type 0
Brought t closed x n l root w v len c m r =
    (((long_at x.dist l w ≤ c) ⊎ NoFitting t closed w v len) × (m ≡ l) × (r ≡ root)) ⊎ ((a : ℕ) × Fitting t closed w v len a × Looked x n l root w a c m r)
