-- Numbers below n that pass a test: where one of them no longer passes there is one fewer.
use mathlib.Core.Path.{◌≡◌, refl, ap, ◌∙◌}
use mathlib.Core.Logic.{◌≢◌}
use mathlib.Core.Bool.{Bool, true, false, cond}
use Prim.Native.Nat.{ℕ, zero, suc, ◌+◌, ◌<◌}
use native.Mathlib.Omega.{arith}
use native.Mathlib.Decide.{ℕ_discrete}
use Rattle.first_routes.specs.Walking.{count_to}

count_same : (f g : ℕ → Bool) (n : ℕ) → ((v : ℕ) → v < n → g v ≡ f v) → count_to g n ≡ count_to f n
unfolding count_to
count_same f g zero h = refl
count_same f g (suc n) h = omega (arith, count_same f g n (λ v k. h v (omega arith)), ap (λ b. cond {A = ℕ} b 1 0) (h n (omega arith)))

count-all : (f : ℕ → Bool) (n : ℕ) → ((v : ℕ) → v < n → f v ≡ true) → count_to f n ≡ n
unfolding count_to
count-all f zero h = refl
count-all f (suc n) h = omega (arith, count-all f n (λ v k. h v (omega arith)), ap (λ b. cond {A = ℕ} b 1 0) (h n (omega arith)))

pub count-fewer : (f g : ℕ → Bool) (n w : ℕ) → w < n → f w ≡ true → g w ≡ false → ((v : ℕ) → v < n → v ≢ w → g v ≡ f v) → count_to g n + 1 ≡ count_to f n
unfolding count_to
count-fewer f g zero w h y z o = absurd (omega arith)
count-fewer f g (suc n) w h y z o = go (λ k. count-fewer f g n w k y z (λ v u. o v (omega arith))) (ℕ_discrete n w)
  where
    go : (w < n → count_to g n + 1 ≡ count_to f n) → Dec (n ≡ w) → count_to g n + cond (g n) 1 0 + 1 ≡ count_to f n + cond (f n) 1 0
    go below (yes e) =
        omega (arith, count_same f g n (λ v k. o v (omega arith) (λ q. absurd (omega (arith, k, q, e)))), ap (λ b. cond {A = ℕ} b 1 0) (ap g e ∙ z), ap (λ b. cond {A = ℕ} b 1 0) (ap f e ∙ y))
    go below (no e) = omega (arith, below (omega (arith, h, e)), ap (λ b. cond {A = ℕ} b 1 0) (o n (omega arith) e))

-- all of them but one
pub count-but-one : (g : ℕ → Bool) (n w : ℕ) → w < n → g w ≡ false → ((v : ℕ) → v < n → v ≢ w → g v ≡ true) → count_to g n + 1 ≡ n
count-but-one g n w h z o = count-fewer (λ v. true) g n w h refl z o ∙ count-all (λ v. true) n (λ v k. refl)
