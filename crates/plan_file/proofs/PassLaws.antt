-- What a pass knows: where a record has the highest part so far of its plan no record before it is the same part; and what is known before the first record, and after a record.
use mathlib.Core.Path.{◌≡◌, ap, subst}
use mathlib.Core.Bool.{Bool, true, false}
use mathlib.Core.List.{List}
use mathlib.Core.Logic.{⊎_elim}
use Prim.Native.Nat.{ℕ, ◌+◌, ◌-◌, ◌≤◌, ◌<◌}
use native.Mathlib.Omega.{arith}
use Rattle.lists.proofs.Cases.{order}
use Rattle.plan_record.specs.Record.{plan_at}
use Rattle.plan_file.specs.File.{is_double}
use Rattle.plan_file.specs.Pass.{Highest, Passed}
use Rattle.plan_file.proofs.FileLaws.{single-i}

module _ (f : List ℕ) (i : ℕ) where
  pub highest-single : Highest f i → is_double f i ≡ false
  highest-single h = single-i f i (λ k b p r q. ⊎_elim (λ l. omega arith) (λ l. omega arith) (h k b p))

-- ---- before the first record, and after a record

pub passed_none : (f : List ℕ) → Passed f 0 0 false
passed_none f = record { most = λ k h. absurd (omega arith); last = λ e. absurd (apart e) }
  where
    apart : false ≡ true → ⊥
    apart e = let z : ◌≡◌ {A = ℕ} 0 1 = cc in omega arith

pub passed-more : (f : List ℕ) (i top t : ℕ) (run s : Bool) → Passed f i top run → (s ≡ true → Highest f i) → top ≤ t → plan_at f i ≤ t → Passed f (i + 1) t s
passed-more f i top t run s p h a b = record { most = most; last = last }
  where
    most : (k : ℕ) → k < i + 1 → plan_at f k ≤ t
    most k c =
        ⊎_elim
        (λ w.
        let e : k ≡ i = omega arith in
        omega (arith, ap (plan_at f) e))
        (λ w. omega (arith, p.most k w))
        (order i k)

    last : s ≡ true → (0 < i + 1) × Highest f (i + 1 - 1)
    last e =
        let z : i ≡ i + 1 - 1 = omega arith in
        (omega arith, subst (Highest f) z (h e))
