-- The first route from one node to another by rule 6 is what `FirstRoute` says, and there is none where no chain comes there.
use mathlib.Core.Path.{◌≡◌, refl, sym}
use mathlib.Core.Logic.{inl, inr, ⊎_elim}
use mathlib.Core.Option.{none, some}
use mathlib.Core.List.Memᴰ
use mathlib.Core.List.{List, []}
use Prim.Native.Nat.{ℕ, ◌<◌}
use lib.Dec.{T}
use Rattle.net.specs.Net.{Net}
use Rattle.net.specs.Route.{end_of, partial, length_of}
use Rattle.net.proofs.Valid.{Valid, Sound}
use Rattle.net.proofs.Order.{not_after, empty-first}
use Rattle.net.proofs.Chains.{partial-nil, partial-chain}
use Rattle.net.proofs.Answer.{Eligible, answer-some, answer-none, answer-is, answer-is-none}
use Rattle.distances.specs.Distance.{FirstRoute, Unreached}
use Rattle.via.specs.Via.{between, first_route}

module _ (net : Net) where
  module _ (sound : Sound net) (s t : ℕ) (s-below : s < net.nodes) where
    valid : Valid (between net s t)
    valid = record { s-below = s-below; sound = sound }

    any-route : (p : List ℕ) → T (partial net s p) → end_of net.arcs s p ≡ t → Eligible (between net s t) [] p
    any-route p h e = record { is-partial = h; ends = e; is_within = λ x m. absurd (Memᴰ.not-nil m) }

    pub first-route-e : (w : List ℕ) → first_route net s t ≡ some w → FirstRoute net s t w
    unfolding first_route
    first-route-e w e =
        let a = answer-some (between net s t) [] valid w e in
        record {
          is-partial = a.is-eligible.is-partial;
          ends = a.is-eligible.ends;
          leads = λ p h k. ⊎_elim (λ i. inl (sym i)) inr (a.precedes-all p (any-route p h k));
        }

    pub first-route-is : (w : List ℕ) → FirstRoute net s t w → first_route net s t ≡ some w
    unfolding first_route
    first-route-is w f =
        answer-is (between net s t) [] valid w
        (record { is-eligible = any-route w f.is-partial f.ends; precedes-all = λ p h. ⊎_elim (λ i. inl (sym i)) inr (f.leads p h.is-partial h.ends) })

    pub first-route-some : first_route net s t ≡ none → (p : List ℕ) → T (partial net s p) → end_of net.arcs s p ≡ t → ⊥
    unfolding first_route
    first-route-some e p h k = answer-none (between net s t) [] valid e p (any-route p h k)

    pub first-route-none : Unreached net s t → first_route net s t ≡ none
    unfolding first_route
    first-route-none h = answer-is-none (between net s t) [] valid (λ p k. h p (partial-chain net s p k.is-partial) k.ends)

  -- from a node to itself it is the empty chain
  pub first-route-self : (sound : Sound net) (s : ℕ) → s < net.nodes → first_route net s s ≡ some []
  unfolding end_of
  first-route-self sound s b =
      first-route-is sound s s b []
      (record { is-partial = partial-nil net s; ends = refl; leads = λ p h k. not_after (length_of net.arcs) [] p (empty-first net.arcs p) })
