-- A label holds its overlaps, so a candidate's are those and what its arc adds; an overlap is at most the chain's length, which a label keeps below its limit.
use mathlib.Core.Path.{◌≡◌, sym, ap, ◌∙◌}
use mathlib.Core.List.{List, [], ◌∷◌, ◌++◌}
use Prim.Native.Nat.{ℕ, ◌+◌, ◌*◌, ◌≤◌, ◌<◌}
use native.Mathlib.Omega.{arith}
use native.Mathlib.Numerals.{add-one}
use lib.ListN.{length, get_or, set, take}
use lib.Seq.{take-suc, take-suc-set}
use Rattle.net.specs.Net.{Net, arc}
use Rattle.net.specs.Route.{end_of, length_of, overlap}
use Rattle.net.specs.Limits.{most_nodes, most_length}
use Rattle.net.proofs.Chains.{end_of-more}
use Rattle.net.proofs.Overlap.{overlap-append}
use Rattle.net.proofs.Lengths.{overlap-most}
use Rattle.net.proofs.Order.{length_of-append}
use Rattle.table.specs.Table.{records, to_at, arcs_of}
use Rattle.table.proofs.NetLaws.{arc-is}
use Rattle.labels.specs.Field.{overlap_at}
use Rattle.labels.specs.Chain.{chain_at}
use Rattle.labels.specs.Standing.{Standing, Holding}
use Rattle.labels.proofs.OverlapLaws.{overlap-held}

-- ---- a candidate's chain, of label i's and one arc more, with the j-th earlier route

module _ (net : Net) {s : ℕ} {b : List ℕ} {n : ℕ} (st : Standing net.arcs s b n) (most : (a : ℕ) → (arc net.arcs a).len ≤ most_length) (i a : ℕ) (h : i < n) where
  pub candidate-most : length_of net.arcs (chain_at b i ++ (a ∷ [])) ≤ most_nodes * most_length + most_length
  unfolding length_of
  candidate-most = omega (arith, length_of-append net.arcs (chain_at b i) (a ∷ []), st.lengths i h, st.most i h, most a)

  module _ {earlier : List (List ℕ)} (hold : Holding net earlier b n) (j : ℕ) (g : j < length earlier) where
    pub candidate-overlap : overlap_at b i j + overlap net (a ∷ []) (get_or earlier j []) ≡ overlap net (chain_at b i ++ (a ∷ [])) (get_or earlier j [])
    candidate-overlap =
        ap (λ o. o + overlap net (a ∷ []) (get_or earlier j [])) (overlap-held net hold i j h g) ∙ sym (overlap-append net (chain_at b i) (a ∷ []) (get_or earlier j []))

    pub candidate-limit : overlap_at b i j + overlap net (a ∷ []) (get_or earlier j []) ≤ most_nodes * most_length + most_length
    candidate-limit = omega (arith, candidate-overlap, overlap-most net (chain_at b i ++ (a ∷ [])) (get_or earlier j []), candidate-most)

-- a chain ends where its last arc does
pub end_is : (t : List ℕ) (s : ℕ) (p : List ℕ) (a : ℕ) → a < records t → to_at t a ≡ end_of (arcs_of t) s (p ++ (a ∷ []))
end_is t s p a h = sym (end_of-more (arcs_of t) s p a ∙ ap (λ x. x.to) (arc-is t a h))

-- ---- the overlaps one after the other

pub sums-step : (os own : List ℕ) (j v : ℕ) → j < length own → j < length os → take j own ≡ take j os → v ≡ get_or os j 0 → take (j + 1) (set own j v) ≡ take (j + 1) os
sums-step os own j v e h k g = rw (add-one j, take-suc-set own j v (omega arith), take-suc os j 0 h, k, g)
