-- A label that has come in leaves the cursors, keys and winners of the labels before it, and their order. What failed a test fails it still, so their cursors are
-- right with its chain taken up.
use mathlib.Core.Path.{◌≡◌, refl, sym, subst}
use mathlib.Core.List.Memᴰ
use mathlib.Core.List.{List, [], ◌∷◌, ◌++◌}
use Prim.Native.Nat.{ℕ, ◌+◌, ◌*◌, ◌≤◌, ◌<◌}
use native.Mathlib.Omega.{arith}
use lib.ListN.{length}
use Rattle.net.specs.Route.{length_of}
use Rattle.net.specs.Round.{Query}
use Rattle.labels.specs.Field.{label_bytes, Row, put_row}
use Rattle.labels.specs.Chain.{chain_at, chains_in}
use Rattle.labels.specs.Standing.{Down}
use Rattle.labels.proofs.StoreLaws.{Fits, as_before, chain-other, chains-more}
use Rattle.search_tree.proofs.TreeLaws.{first_below, tree-below}
use Rattle.search_ahead.proofs.CursorLaws.{cursor-more}
use Rattle.search_queue.specs.Working.{cursor_at, winner_at, key_at}
use Rattle.search_queue.specs.Only.{Only}
use Rattle.search_queue.specs.Order.{own_at, sooner, NotAfter}
use Rattle.search_queue.proofs.OnlyLaws.{only-wide, chain-only, chains-only}
use Rattle.search_queue.proofs.QueueLaws.{tree-row, first-row}
use Rattle.search_advance.specs.Own.{arc_in}
use Rattle.search_cursor.specs.Queue.{Kept, Queued, QueuedBehind}
use Rattle.search_cursor.proofs.QueueLaws.{kept-carried}

-- label n has come in
pub queued-behind : (q : Query) (earlier : List (List ℕ)) (last l : List ℕ) (n w : ℕ) (x : Row) → Down l n → n * label_bytes + label_bytes ≤ length l → Fits x → (n ≡ 0 → ⊥) → x.extends < n
    → Queued q earlier last l n w → QueuedBehind q earlier last (put_row l n x) n w
queued-behind q earlier last l n w x down room f ne low qu =
    let up = chains-more x down room f ne low in
    record {
      kept = λ i b.
          let k = qu.kept i b in
          kept-carried q earlier (chains_in (put_row l n x) (n + 1)) last l (put_row l n x) i (chain-other x down i b) (as_before l n x i b 4 24 (omega arith)) (as_before l n x i b 8 32 (omega arith))
          (record {
            cursor = rw up
                (cursor-more q earlier (length_of q.net.arcs) (chains_in l n) (chains_in l n ++ ((chain_at l x.extends ++ (x.last-arc ∷ [])) ∷ [])) (λ r z. Memᴰ.append_left _ z) last (chain_at l i) _
                (arc_in (cursor_at l i)) k.cursor);
            key = k.key;
          });
      tree = tree-row l x down qu.tree;
      root = first-row l x down qu.root;
    }

-- where a link changed, or a run was put
pub link-working : {k : ℕ} {l m : List ℕ} → Only 30 2 k l m → Only 20 20 k l m
link-working o = only-wide 30 2 o refl refl

pub run-working : {k : ℕ} {l m : List ℕ} → Only 20 4 k l m → Only 20 20 k l m
run-working o = only-wide 20 4 o refl refl

module _ {k : ℕ} {l m : List ℕ} (o : Only 20 20 k l m) (cursors : (i : ℕ) → cursor_at m i ≡ cursor_at l i) (keys : (i : ℕ) → key_at m i ≡ key_at l i) (winners : (i : ℕ) → winner_at m i ≡ winner_at l i) where
  not-after-linked : (i j : ℕ) → NotAfter l i j → NotAfter m i j
  unfolding NotAfter sooner own_at
  not-after-linked i j h =
      rw (keys i, keys j, chain-only o i, chain-only o j, cursors i, cursors j) h

  pub queued-linked : (q : Query) (earlier : List (List ℕ)) (last : List ℕ) (n w : ℕ) → QueuedBehind q earlier last l n w → QueuedBehind q earlier last m n w
  queued-linked q earlier last n w qu =
      record {
        kept = λ i h. subst (λ z. Kept q earlier z last m i) (sym (chains-only o (n + 1)))
            (kept-carried q earlier (chains_in l (n + 1)) last l m i (chain-only o i) (cursors i) (keys i) (qu.kept i h));
        tree = tree-below (NotAfter l) (NotAfter m) n (λ i j hi hj. not-after-linked i j) (winner_at l) (winner_at m) (λ j h. winners j) qu.tree;
        root = first_below (NotAfter l) (NotAfter m) n (λ i j hi hj. not-after-linked i j) qu.root;
      }
