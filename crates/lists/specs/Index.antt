-- Lists told by their entries, and the first index at which a test passes.
use Rattle.std.specs.Prelude.{Bool, cond, List, [], ◌∷◌, ℕ, zero, suc, ◌+◌}

-- f 0, .., f (n - 1)
abbrev pub tab : {A : Type 0} → ℕ → (ℕ → A) → List A
tab zero f = []
tab (suc n) f = f 0 ∷ tab n (λ i. f (suc i))

-- of the n indices from i on, the first at which p passes, or i + n where there is none
unfoldable pub first_at : (ℕ → Bool) → ℕ → ℕ → ℕ
first_at p zero i = i
first_at p (suc n) i = cond (p i) i (first_at p n (i + 1))
