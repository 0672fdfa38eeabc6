-- A candidate is a label's chain and one arc behind it, and so is its length.
use mathlib.Core.Path.{◌≡◌, ap}
use mathlib.Core.List.{List, [], ◌∷◌, ◌++◌}
use mathlib.Core.Logic.{◌≢◌}
use Prim.Native.Nat.{ℕ, ◌+◌, ◌<◌}
use native.Mathlib.Omega.{arith}
use borrow.Author.Tests.{eq-eqb, ne_eqb}
use Rattle.net.specs.Route.{length_of}
use Rattle.net.proofs.Order.{length_of-append}
use Rattle.table.specs.Table.{records, len_at, arcs_of}
use Rattle.table.proofs.NetLaws.{arc-is}
use Rattle.labels.specs.Field.{no_number, length_at}
use Rattle.labels.specs.Chain.{chain_at}
use Rattle.labels.specs.Standing.{Standing}
use Rattle.search_ask.specs.declared.Candidate.{Candidate}
use Rattle.search_ask.specs.Ask.{chain_of, last_in}

-- a candidate's length, as the label and the table have it
pub candidate-sum : (t : List ℕ) {s : ℕ} {b : List ℕ} {n : ℕ} (st : Standing (arcs_of t) s b n) (i a x y : ℕ)
    → i < n → a < records t → x ≡ length_at b i → y ≡ len_at t a → x + y ≡ length_of (arcs_of t) (chain_at b i ++ (a ∷ []))
unfolding length_of
candidate-sum t {s} {b} st i a x y h k e f =
    omega (arith, st.lengths i h, length_of-append (arcs_of t) (chain_at b i) (a ∷ []), ap (λ r. r.len) (arc-is t a k))

-- the chain last looked at
module _ (labels : List ℕ) (c : Candidate) where
  pub last_none : c.arc ≡ no_number → last_in labels c ≡ []
  unfolding last_in
  last_none e = rw (eq-eqb c.arc no_number e)

  pub last_some : c.arc ≢ no_number → last_in labels c ≡ chain_of labels c
  unfolding last_in
  last_some ne = rw (ne_eqb c.arc no_number ne)
