-- What one write more makes of cells that are written one after another.
use Rattle.std.proofs.Common.{◌≡◌, ℕ, zero, suc, ◌+◌, ◌<◌, List, set, cond, eqb, refl, add-one, arith}
use Rattle.std.proofs.lemmas.Bool.Decides.{nat_tests}
use Rattle.test_draw.specs.Written.{written}

-- No write leaves the cells.
pub written_none : (at value : ℕ → ℕ) (s : List ℕ) → written at value 0 s ≡ s
unfolding written
written_none at value s = refl

-- One write more.
pub written_more : (at value : ℕ → ℕ) (n : ℕ) (s : List ℕ) → written at value (n + 1) s ≡ set (written at value n s) (at n) (value n)
unfolding written
written_more at value n s = rw add-one refl

-- The same, of the cells as a loop has them.
pub written_step : (at value : ℕ → ℕ) (n place v : ℕ) (s t u : List ℕ) → t ≡ written at value n s → place ≡ at n → v ≡ value n → u ≡ set t place v → u ≡ written at value (n + 1) s
written_step at value n place v s t u before here number last =
    let more = written_more at value n s in
    cc

-- The same numbers, but v at n.
unfoldable pub but : (ℕ → ℕ) → ℕ → ℕ → ℕ → ℕ
but value n v k = cond (eqb k n) v (value k)

-- At n they have v.
pub but_there : (value : ℕ → ℕ) (n v : ℕ) → but value n v n ≡ v
unfolding but
but_there value n v = grind (arith, nat_tests)

-- Below n they are the same.
pub but_below : (value : ℕ → ℕ) (n v k : ℕ) → k < n → but value n v k ≡ value k
unfolding but
but_below value n v k h = grind (arith, nat_tests)

-- The same writes leave the same cells.
pub written_same : (at from value other : ℕ → ℕ) (n : ℕ) (s : List ℕ) → ((k : ℕ) → k < n → at k ≡ from k) → ((k : ℕ) → k < n → value k ≡ other k) → written at value n s ≡ written from other n s
unfolding written
written_same at from value other zero s places values = refl
written_same at from value other (suc n) s places values =
    let before : written at value n s ≡ written from other n s = written_same at from value other n s (λ k h. places k (omega arith)) (λ k h. values k (omega arith)) in
    let place : at n ≡ from n = places n (omega arith) in
    let number : value n ≡ other n = values n (omega arith) in
    cc

-- A write after n writes is the last of n + 1.
pub written_then : (at value : ℕ → ℕ) (n place v : ℕ) (s t u : List ℕ) → t ≡ written at value n s → u ≡ set t place v → u ≡ written (but at n place) (but value n v) (n + 1) s
written_then at value n place v s t u before last =
    let more = written_more (but at n place) (but value n v) n s in
    let same = written_same (but at n place) at (but value n v) value n s (but_below at n place) (but_below value n v) in
    let there = but_there at n place in
    let number = but_there value n v in
    cc

-- The same, where the write is at the place that is next.
pub written_next : (at value : ℕ → ℕ) (n place v : ℕ) (s t u : List ℕ) → t ≡ written at value n s → place ≡ at n → u ≡ set t place v → u ≡ written at (but value n v) (n + 1) s
written_next at value n place v s t u before here last =
    let more = written_more at (but value n v) n s in
    let same = written_same at at (but value n v) value n s (λ k h. refl) (but_below value n v) in
    let number = but_there value n v in
    cc
