-- "Fetching gives the plan last stored under that number and not withdrawn since; collection changes no fetch" (document 02, item 6), over any sequence of calls.
use Rattle.std.specs.Prelude.{◌≡◌, Bool, cond, List, [], ◌∷◌, ◌++◌, ℕ, ◌*◌, ◌<◌, eqb, length, replicate}
use Rattle.outcome.specs.declared.Told.{Told}
use Rattle.outcome.specs.Outcome.{found}
use Rattle.plan_record.specs.Record.{record_bytes}
use Rattle.plan_store.specs.Slots.{routes_in}
use Rattle.plan_store.specs.Store.{Stored}
use Rattle.plan_change.specs.Change.{Withdrawn, Collected}

-- A call that may change the file, by what it was given.
pub data Call : Type 0 where
  store : ℕ → List ℕ → ℕ → ℕ → Call
  withdraw : ℕ → Call
  collect : Call

-- A plan number has four bytes.
abbrev pub Fits : Call → Type 0
Fits (store plan slots routes width) = plan < 4294967296
Fits (withdraw plan) = plan < 4294967296
Fits collect = 0 < 1

-- What the call's contract says of the file before it, its answer and the file after it.
abbrev pub Done : Call → List ℕ → Told → List ℕ → Type 0
Done (store plan slots routes width) f r f' = Stored f plan slots routes width r f'
Done (withdraw plan) f r f' = Withdrawn f plan r f'
Done collect f r f' = Collected f r f'

-- What a caller knows of the plans after a call: the plan under each number, none where there is none. A call with another answer than 0 changes nothing.
abbrev pub after : Call → Bool → (ℕ → List (List ℕ)) → ℕ → List (List ℕ)
after (store plan slots routes width) done plans n = cond done (cond (eqb n plan) (routes_in slots routes width) (plans n)) (plans n)
after (withdraw plan) done plans n = cond done (cond (eqb n plan) [] (plans n)) (plans n)
after collect done plans n = plans n

-- A sequence of calls, each on the file that the one before it left: from an empty file of n records to the file f, and the plans that a caller then expects.
pub data History (n : ℕ) : List ℕ → (ℕ → List (List ℕ)) → Type 0 where
  empty : History n (replicate (n * record_bytes) 0) (λ plan. [])
  next : {f f' : List ℕ} → {plans : ℕ → List (List ℕ)} → (x : Call) → (r : Told) → Fits x → History n f plans → Done x f r f'
      → History n f' (after x (eqb r.outcome found) plans)
