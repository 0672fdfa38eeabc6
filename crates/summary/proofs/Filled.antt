-- A slice whose first records are written: to store the next one to its place is to write one more. `stored` says so of records of any type, behind any records
-- that are as many as its place counts; `written_step` of the summaries as the contract writes them.
use Rattle.std.proofs.Common.{◌≡◌, refl, sym, ◌∙◌, ap, ℕ, zero, suc, ◌+◌, ◌<◌, List, [], ◌∷◌, ◌++◌, length, set, drop, length-append, add-one}
use Rattle.std.proofs.Math.Seq.{drop-cons, set_at, append_snoc}
use Rattle.summary.specs.declared.Summary.{Summary}
use Rattle.summary.specs.declared.Sums.{Sums}
use Rattle.summary.specs.Sums.{record_at, firsts, written}

pub stored : {A : Type 0} (front ys : List A) (n : ℕ) (x : A) → length front ≡ n → n < length ys → set (front ++ drop n ys) n x ≡ (front ++ (x ∷ [])) ++ drop (suc n) ys
stored front ys n x e h =
    ap (λ r. set (front ++ r) n x) (drop-cons ys n x h) ∙ set_at front _ (drop (suc n) ys) x n e ∙ sym (append_snoc front x (drop (suc n) ys))

pub length-firsts : (t : Sums) (i : ℕ) → length (firsts t i) ≡ i
length-firsts t zero = refl
length-firsts t (suc i) = length-append (firsts t i) (record_at t i ∷ []) ∙ add-one (length (firsts t i)) ∙ ap suc (length-firsts t i)

pub written_step : (t : Sums) (i : ℕ) (ys : List Summary) → i < length ys → set (written t i ys) i (record_at t i) ≡ written t (i + 1) ys
written_step t i ys h = stored (firsts t i) ys i (record_at t i) (length-firsts t i) h ∙ ap (λ k. written t k ys) (sym (add-one i))
