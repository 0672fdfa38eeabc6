-- What a caller stores, and what that leaves of the tree. A candidate stored changes its own label's place in the order only, so the tree is right but for that label,
-- and that of the labels before it is as it was. A label put behind the others changes nothing of theirs, so their tree and its root stay.
use mathlib.Core.Path.{◌≡◌, sym}
use mathlib.Core.Logic.{◌≢◌}
use mathlib.Core.List.{List}
use Prim.Native.Nat.{ℕ, ◌+◌, ◌<◌}
use native.Mathlib.Omega.{arith}
use Rattle.labels.specs.Field.{Row, put_row}
use Rattle.labels.specs.Standing.{Down}
use Rattle.labels.proofs.StoreLaws.{as_before, chain-other}
use Rattle.search_tree.specs.Tree.{First, Tree, TreeBut}
use Rattle.search_tree.proofs.TreeLaws.{but-carried, first_below, tree-below}
use Rattle.search_queue.specs.Working.{winner_at, key_at, put_own}
use Rattle.search_queue.specs.Order.{own_at, sooner, NotAfter}
use Rattle.search_queue.proofs.OnlyLaws.{chain-only}
use Rattle.search_queue.proofs.WorkingLaws.{only-own, cursor-other, key-other, winner-kept}

-- the order of two labels, by what it is made of
order-kept : (l m : List ℕ) (i j : ℕ) → key_at m i ≡ key_at l i → key_at m j ≡ key_at l j → own_at m i ≡ own_at l i → own_at m j ≡ own_at l j → NotAfter l i j → NotAfter m i j
unfolding NotAfter sooner
order-kept l m i j ki kj oi oj h = rw (ki, kj, oi, oj) h

-- ---- a candidate stored

module _ (l : List ℕ) (x arc key : ℕ) where
  pub own-other : (i : ℕ) → i ≢ x → own_at (put_own l x arc key) i ≡ own_at l i
  unfolding own_at
  own-other i ne = rw (chain-only (only-own l x arc key (x + 1) (omega arith)) i, cursor-other l x arc key i (λ e. ne (sym e)))

  pub not-after-own : (i j : ℕ) → i ≢ x → j ≢ x → NotAfter l i j → NotAfter (put_own l x arc key) i j
  not-after-own i j ni nj =
      order-kept l (put_own l x arc key) i j (key-other l x arc key i (λ e. ni (sym e))) (key-other l x arc key j (λ e. nj (sym e))) (own-other i ni) (own-other j nj)

  pub but-own : {n : ℕ} → TreeBut (NotAfter l) (winner_at l) n x → TreeBut (NotAfter (put_own l x arc key)) (winner_at (put_own l x arc key)) n x
  but-own {n} t = but-carried (NotAfter l) (NotAfter (put_own l x arc key)) (winner_at l) (winner_at (put_own l x arc key)) n x not-after-own (winner-kept l x arc key) t

  -- the labels before x
  not-after-before : (i j : ℕ) → i < x → j < x → NotAfter l i j → NotAfter (put_own l x arc key) i j
  not-after-before i j hi hj = not-after-own i j (λ e. omega arith) (λ e. omega arith)

  pub tree-before : Tree (NotAfter l) (winner_at l) x → Tree (NotAfter (put_own l x arc key)) (winner_at (put_own l x arc key)) x
  tree-before t =
      tree-below (NotAfter l) (NotAfter (put_own l x arc key)) x not-after-before (winner_at l) (winner_at (put_own l x arc key)) (λ j h. winner-kept l x arc key j) t

  pub first-before : {root : ℕ} → First (NotAfter l) x 0 x root → First (NotAfter (put_own l x arc key)) x 0 x root
  first-before f = first_below (NotAfter l) (NotAfter (put_own l x arc key)) x not-after-before f

-- ---- a label put behind the others

module _ (l : List ℕ) {n : ℕ} (x : Row) (d : Down l n) where
  pub own_row : (i : ℕ) → i < n → own_at (put_row l n x) i ≡ own_at l i
  unfolding own_at
  own_row i h = rw (chain-other x d i h, as_before l n x i h 4 24 (omega arith))

  not-after-row : (i j : ℕ) → i < n → j < n → NotAfter l i j → NotAfter (put_row l n x) i j
  not-after-row i j hi hj =
      order-kept l (put_row l n x) i j (as_before l n x i hi 8 32 (omega arith)) (as_before l n x j hj 8 32 (omega arith)) (own_row i hi) (own_row j hj)

  pub tree-row : Tree (NotAfter l) (winner_at l) n → Tree (NotAfter (put_row l n x)) (winner_at (put_row l n x)) n
  tree-row t =
      tree-below (NotAfter l) (NotAfter (put_row l n x)) n not-after-row (winner_at l) (winner_at (put_row l n x)) (λ j h. as_before l n x j h 2 28 (omega arith)) t

  pub first-row : {root : ℕ} → First (NotAfter l) n 0 n root → First (NotAfter (put_row l n x)) n 0 n root
  first-row f = first_below (NotAfter l) (NotAfter (put_row l n x)) n not-after-row f
