-- The next open arc is the first usable one; an arc past the bytes is open. From a closed arc it is the next from the place after it.
use mathlib.Core.Path.{◌≡◌, sym, ◌∙◌}
use mathlib.Core.Bool.{true, false}
use mathlib.Core.List.{List}
use mathlib.Core.Logic.{⊎_elim}
use Prim.Native.Nat.{ℕ, ◌+◌, ◌≤◌, ◌<◌}
use native.Mathlib.Omega.{arith}
use lib.ListN.{length, get_or, get_or-eq_default}
use borrow.Author.Tests.{lt-ltb, le-ltb, eq-eqb}
use Rattle.lists.proofs.Cases.{order}
use Rattle.lists.proofs.IndexLaws.{first_done, first_step, first-stop}
use Rattle.table.specs.Table.{is_open_at}
use Rattle.table.specs.Run.{next_arc}
use Rattle.closures.specs.Closed.{next_open}

pub open-past : (closed : List ℕ) (a : ℕ) → length closed ≤ a → is_open_at closed a ≡ true
open-past closed a h = eq-eqb (get_or closed a 0) 0 (get_or-eq_default closed 0 {n = a} h)

module _ (closed : List ℕ) (a e : ℕ) where
  pub next-open : a ≤ e → next_open closed a e ≡ next_arc (is_open_at closed) a e
  unfolding next_open next_arc
  next-open h = ⊎_elim (λ w. rw (le-ltb a e w) (sym (first_done (is_open_at closed) e a (omega arith)))) (λ w. rw (lt-ltb a e w)) (order e a)

  pub next-end : e ≤ a → next_open closed a e ≡ e
  unfolding next_open
  next-end h = rw (le-ltb a e h)

  pub next-stop : a < e → is_open_at closed a ≡ true → next_open closed a e ≡ a
  unfolding next_arc
  next-stop h z = next-open (omega arith) ∙ first-stop (is_open_at closed) e a h z

pub next-step : (closed : List ℕ) (a e : ℕ) → a < e → is_open_at closed a ≡ false → next_open closed a e ≡ next_open closed (a + 1) e
unfolding next_arc
next-step closed a e h z = next-open closed a e (omega arith) ∙ first_step (is_open_at closed) e a h z ∙ sym (next-open closed (a + 1) e (omega arith))
