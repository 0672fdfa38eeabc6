-- What a pass over the records of a file knows before record i, so that it need not look back.
use Rattle.std.specs.Prelude.{◌≡◌, Bool, true, List, ◌⊎◌, ℕ, ◌-◌, ◌≤◌, ◌<◌}
use Rattle.plan_record.specs.Record.{plan_at, rank_at, part_at}

-- The part in record k comes before the part in record i, by rank and then by part.
abbrev pub Lower : List ℕ → ℕ → ℕ → Type 0
Lower f k i = (rank_at f k < rank_at f i) ⊎ ((rank_at f k ≡ rank_at f i) × (part_at f k < part_at f i))

-- Record i has the highest part so far of its plan.
abbrev pub Highest : List ℕ → ℕ → Type 0
Highest f i = (k : ℕ) → k < i → plan_at f k ≡ plan_at f i → Lower f k i

-- No plan number so far is above `top`; and where the pass is in a run, the record just before has the highest part so far of its plan.
pub record Passed (f : List ℕ) (i top : ℕ) (run : Bool) : Type 0 where
  pub most : (k : ℕ) → k < i → plan_at f k ≤ top
  pub last : run ≡ true → (0 < i) × Highest f (i - 1)
