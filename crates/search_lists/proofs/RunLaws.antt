-- The starts of the labels' runs. All labels of a list end at one node, so the head has what a new label before it is to have.
use mathlib.Core.Path.{◌≡◌, refl, sym, ap, subst, ◌∙◌}
use mathlib.Core.List.{List, Memᴰ}
use mathlib.Core.Logic.{◌≢◌, ⊎_elim}
use Prim.Native.Nat.{ℕ, zero, suc, ◌+◌, ◌-◌, ◌*◌, ◌^◌, ◌≤◌, ◌<◌}
use native.Mathlib.Omega.{arith}
use native.Mathlib.Decide.{ℕ_discrete}
use lib.ListN.{length}
use borrow.Author.Tests.{le-leb}
use Rattle.lists.proofs.Cases.{order}
use Rattle.words.proofs.RecordLaws.{num-put-near, num-put-far, num-put-in}
use Rattle.table.specs.Run.{run_start}
use Rattle.labels.specs.Field.{label_bytes, end_at}
use Rattle.search_ask.specs.declared.Ask.{Ask}
use Rattle.search_queue.specs.Only.{Only}
use Rattle.search_queue.proofs.OnlyLaws.{only-put}
use Rattle.search_lists.specs.Link.{follow, list_at}
use Rattle.search_lists.specs.Listed.{Listed, head_at}
use Rattle.search_lists.specs.Run.{run_at, put_run, Runs}

list-head : (l : List ℕ) (h : ℕ) → h ≢ 0 → Memᴰ (h - 1) (list_at l h)
unfolding list_at follow
list-head l zero ne = absurd (ne refl)
list-head l (suc i) ne = let e : i ≡ suc i - 1 = omega arith in subst (λ k. Memᴰ k (list_at l (suc i))) e (Memᴰ.head refl)

pub head-run : (ask : Ask) (t area l : List ℕ) (r n v : ℕ) → Listed ask r area l n → Runs t l n → v < ask.nodes → v ≢ ask.s → head_at ask r area v ≢ 0
    → (head_at ask r area v - 1 < n) × (run_at l (head_at ask r area v - 1) ≡ run_start t v)
head-run ask t area l r n v d runs h away ne =
    let k = (d.shown v h away).sound (head_at ask r area v - 1) (list-head l (head_at ask r area v) ne) in
    (k.0, runs (head_at ask r area v - 1) k.0 ∙ ap (run_start t) k.1)

pub runs-like : (t l m : List ℕ) (n : ℕ) → ((i : ℕ) → i < n → run_at m i ≡ run_at l i) → ((i : ℕ) → i < n → end_at m i ≡ end_at l i) → Runs t l n → Runs t m n
runs-like t l m n a b h i k = a i k ∙ h i k ∙ ap (run_start t) (sym (b i k))

-- the start of label n's run is put
module _ (t l : List ℕ) (n a : ℕ) where
  pub only-run : (k : ℕ) → n < k → Only 20 4 k l (put_run l n a)
  only-run k h = only-put 20 4 k l n a refl h

  pub runs-more : n * label_bytes + label_bytes ≤ length l → a < 2 ^ 32 → a ≡ run_start t (end_at l n) → Runs t l n → Runs t (put_run l n a) (n + 1)
  runs-more room fits e runs i h = go (ℕ_discrete i n)
    where
      go : Dec (i ≡ n) → run_at (put_run l n a) i ≡ run_start t (end_at (put_run l n a) i)
      go (yes z) =
          subst (λ y. run_at (put_run l n a) y ≡ run_start t (end_at (put_run l n a) y)) (sym z)
          (num-put-in label_bytes 4 l (n * label_bytes) 20 a refl (le-leb _ _ room) fits ∙ e ∙ ap (run_start t) (sym (num-put-near 4 2 l (n * label_bytes) 20 16 a refl)))
      go (no z) =
          num-put-far label_bytes 4 4 l n i 20 20 a (λ y. z (sym y)) refl refl
          ∙ runs i (⊎_elim (λ y. absurd (z (omega arith))) (λ y. y) (order n i))
          ∙ ap (run_start t) (sym (num-put-far label_bytes 4 2 l n i 20 16 a (λ y. z (sym y)) refl refl))
