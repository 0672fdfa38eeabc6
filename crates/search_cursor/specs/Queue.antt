-- The labels' own candidates in the bytes, and the label whose candidate is the first of all.
use Rattle.std.specs.Prelude.{◌≡◌, cond, ◌≢◌, List, [], ◌∷◌, ◌++◌, ℕ, ◌+◌, ◌<◌, eqb}
use Rattle.std.proofs.Math.Option.{Option}
use Rattle.net.specs.Net.{Arc}
use Rattle.net.specs.Route.{length_of}
use Rattle.net.specs.Round.{Query}
use Rattle.labels.specs.Field.{no_number}
use Rattle.labels.specs.Chain.{chain_at, chains_in}
use Rattle.search_tree.specs.Tree.{First, Tree, TreeBut}
use Rattle.search_ahead.specs.Cursor.{Right}
use Rattle.search_queue.specs.Working.{cursor_at, winner_at, key_at}
use Rattle.search_queue.specs.Order.{NotAfter}
use Rattle.search_lists.specs.Link.{link_at}
use Rattle.search_lists.specs.Run.{run_at}
use Rattle.search_advance.specs.Own.{arc_in}

-- The key of the label's candidate: its length, and that of none, which is greater than any.
abbrev pub no_key : ℕ
no_key = 18446744073709551615

unfoldable pub key_for : List Arc → List ℕ → ℕ → ℕ
unfolding length_of
key_for arcs p a = cond (eqb a no_number) no_key (length_of arcs (p ++ (a ∷ [])))

-- The arc of label i's own candidate, or none.
abbrev pub own_arc : List ℕ → ℕ → Option ℕ
own_arc l i = arc_in (cursor_at l i)

-- Label i's own candidate is right, in the order of rule 3, and so is its key.
pub record Kept (q : Query) (earlier taken : List (List ℕ)) (last l : List ℕ) (i : ℕ) : Type 0 where
  pub cursor : Right q earlier (length_of q.net.arcs) taken last (chain_at l) (own_arc l) i
  pub key : key_at l i ≡ key_for q.net.arcs (chain_at l i) (cursor_at l i)

-- So for each of the n labels, the tree is right, and label w's candidate is the first.
pub record Queued (q : Query) (earlier : List (List ℕ)) (last l : List ℕ) (n w : ℕ) : Type 0 where
  pub kept : (i : ℕ) → i < n → Kept q earlier (chains_in l n) last l i
  pub tree : Tree (NotAfter l) (winner_at l) n
  pub root : First (NotAfter l) n 0 n w

-- The same but for label x.
pub record QueuedBut (q : Query) (earlier : List (List ℕ)) (last l : List ℕ) (n x : ℕ) : Type 0 where
  pub kept : (i : ℕ) → i < n → i ≢ x → Kept q earlier (chains_in l n) last l i
  pub tree : TreeBut (NotAfter l) (winner_at l) n x

-- The same of the first n labels, where label n has come in behind them and has no candidate of its own yet.
pub record QueuedBehind (q : Query) (earlier : List (List ℕ)) (last l : List ℕ) (n w : ℕ) : Type 0 where
  pub kept : (i : ℕ) → i < n → Kept q earlier (chains_in l (n + 1)) last l i
  pub tree : Tree (NotAfter l) (winner_at l) n
  pub root : First (NotAfter l) n 0 n w

-- Every label links as before, and has its run.
abbrev pub SameLists : List ℕ → List ℕ → Type 0
SameLists l m = (i : ℕ) → (link_at m i ≡ link_at l i) × (run_at m i ≡ run_at l i)
