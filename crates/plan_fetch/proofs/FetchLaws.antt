-- The refusals in their order, one by one, and the answer where none of the first three holds.
use mathlib.Core.Path.{◌≡◌, refl, ◌∙◌}
use mathlib.Core.Bool.{true, false, cond}
use mathlib.Core.List.{List}
use mathlib.Core.Logic.{◌≢◌, ⊎_elim}
use Prim.Native.Nat.{ℕ}
use lib.Dec.{eqb}
use lib.ListN.{length}
use borrow.Author.Tests.{eq-eqb, ne_eqb}
use Rattle.lists.proofs.Cases.{cases}
use Rattle.outcome.specs.declared.Told.{Told}
use Rattle.outcome.specs.Outcome.{found, plan_file, plan_request, plan_there, buffers, beside, plain}
use Rattle.plan_file.specs.File.{wrong_file}
use Rattle.plan_file.specs.Meaning.{has_plan, plan_in}
use Rattle.plan_fetch.specs.Fetch.{too_small, fetch_outcome, slots_with, Fetched}

module _ (f : List ℕ) (plan : ℕ) (slots : List ℕ) (width : ℕ) (answer : Told) (slots' : List ℕ) where
  refused : (k : ℕ) → fetch_outcome f plan slots width ≡ k → eqb k found ≡ false → answer ≡ plain k → slots' ≡ slots → Fetched f plan slots width answer slots'
  refused k e z a s = record { told = rw (e, z) a; area = rw (e, z) s }

  pub refused-file : wrong_file f ≡ true → answer ≡ plain plan_file → slots' ≡ slots → Fetched f plan slots width answer slots'
  unfolding fetch_outcome
  refused-file h = refused plan_file (rw h) refl

  module _ (right : wrong_file f ≡ false) where
    pub refused-request : plan ≡ 0 → answer ≡ plain plan_request → slots' ≡ slots → Fetched f plan slots width answer slots'
    unfolding fetch_outcome
    refused-request h = refused plan_request (rw (right, eq-eqb plan 0 h)) refl

    module _ (some : plan ≢ 0) where
      pub refused-there : has_plan f plan ≡ false → answer ≡ plain plan_there → slots' ≡ slots → Fetched f plan slots width answer slots'
      unfolding fetch_outcome
      refused-there h = refused plan_there (rw (right, ne_eqb plan 0 some, h)) refl

      module _ (there : has_plan f plan ≡ true) where
        decided : fetch_outcome f plan slots width ≡ cond (too_small (plan_in f plan) slots width) buffers found
        unfolding fetch_outcome
        decided = rw (right, ne_eqb plan 0 some, there)

        pub answered : answer ≡ cond (too_small (plan_in f plan) slots width) (plain buffers) (beside found (length (plan_in f plan)))
            → slots' ≡ cond (too_small (plan_in f plan) slots width) slots (slots_with width (plan_in f plan) slots) → Fetched f plan slots width answer slots'
        answered a s = ⊎_elim small large (cases (too_small (plan_in f plan) slots width))
          where
            small : too_small (plan_in f plan) slots width ≡ true → Fetched f plan slots width answer slots'
            small t = refused buffers (decided ∙ rw t) refl (rw t at a) (rw t at s)

            large : too_small (plan_in f plan) slots width ≡ false → Fetched f plan slots width answer slots'
            large t =
                let e : fetch_outcome f plan slots width ≡ found = decided ∙ rw t in
                record { told = rw e (rw t at a); area = rw e (rw t at s) }
