-- The overlaps of a chain with the earlier routes, one by one: each is no more than the chain's length, and a label that holds them holds each.
use mathlib.Core.Path.{◌≡◌, refl, sym, ap, ◌∙◌}
use mathlib.Core.List.{List, [], ◌∷◌}
use Prim.Native.Nat.{ℕ, zero, suc, ◌≤◌, ◌<◌}
use native.Mathlib.Omega.{arith}
use lib.ListN.{length, get_or, replicate, length-map}
use Rattle.lists.specs.Tests.{keep}
use Rattle.lists.proofs.IndexLaws.{get_or-tab}
use Rattle.net.specs.Net.{Net}
use Rattle.net.specs.Route.{length_of, overlap}
use Rattle.net.proofs.Lengths.{overlap-most}
use Rattle.labels.specs.Field.{overlap_at}
use Rattle.labels.specs.Chain.{chain_at}
use Rattle.labels.specs.Rows.{overlaps_of}
use Rattle.labels.specs.Standing.{Holding}

module _ (net : Net) where
  pub length-overlaps_of : (earlier : List (List ℕ)) (p : List ℕ) → length (overlaps_of net earlier p) ≡ length earlier
  unfolding overlaps_of
  length-overlaps_of earlier p = length-map earlier (overlap net p)

  pub overlaps-most : (earlier : List (List ℕ)) (p : List ℕ) (r : ℕ) → get_or (overlaps_of net earlier p) r 0 ≤ length_of net.arcs p
  unfolding overlaps_of
  overlaps-most [] p r = omega arith
  overlaps-most (e ∷ es) p zero = overlap-most net p e
  overlaps-most (e ∷ es) p (suc r) = overlaps-most es p r

  pub overlaps-at : (earlier : List (List ℕ)) (p : List ℕ) (r : ℕ) → r < length earlier → get_or (overlaps_of net earlier p) r 0 ≡ overlap net p (get_or earlier r [])
  unfolding overlaps_of
  overlaps-at [] p r h = absurd (omega arith)
  overlaps-at (e ∷ es) p zero h = refl
  overlaps-at (e ∷ es) p (suc r) h = overlaps-at es p r (omega arith)

  -- the empty chain has none
  pub overlaps-empty : (earlier : List (List ℕ)) → overlaps_of net earlier [] ≡ replicate (length earlier) 0
  unfolding overlaps_of overlap length_of keep
  overlaps-empty [] = refl
  overlaps-empty (e ∷ es) = ap (λ os. 0 ∷ os) (overlaps-empty es)

  pub overlap-held : {earlier : List (List ℕ)} {l : List ℕ} {n : ℕ} → Holding net earlier l n → (i r : ℕ) → i < n → r < length earlier
      → overlap_at l i r ≡ overlap net (chain_at l i) (get_or earlier r [])
  overlap-held {earlier} {l} hold i r h b =
      sym (get_or-tab (length earlier) (overlap_at l i) r 0 b) ∙ ap (λ os. get_or os r 0) (hold.overlaps i h) ∙ overlaps-at earlier (chain_at l i) r b
