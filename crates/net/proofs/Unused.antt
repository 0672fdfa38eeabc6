-- Two nets of the same arcs and roads, over which the same chains are partial routes, give the same rounds: every list of a round is made of the list of partial
-- routes, which is settled by its members. So closing arcs that no partial route could use changes nothing.
use mathlib.Core.Path.{◌≡◌, refl, ap, ap₂, fun_ext, ◌∙◌}
use mathlib.Core.Bool.{Bool, not, ◌&&◌}
use mathlib.Core.List.{List, [], ◌∷◌, ◌++◌, head?}
use mathlib.Core.Logic.{◌↔◌}
use mathlib.Core.Option.{Option, none, some}
use Prim.Native.Nat.{ℕ, zero, suc, ◌<◌}
use lib.Dec.{T, ltb, eqb}
use lib.ListN.{length}
use Rattle.lists.specs.Tests.{every, any, keep}
use Rattle.net.specs.Net.{Net, only, arc}
use Rattle.net.specs.Route.{end_of, length_of, before, overlap, within, partial, partials_by, partials}
use Rattle.net.specs.Round.{Query, within_all, eligible, answer, no_greater, beats, live, lives_by, counted_with, counted_by, count_by, judged, ending_by}
use Rattle.net.specs.Outcome.{go_on, rounds_by, rounds}
use Rattle.net.proofs.Sorted.{increasing-unique}
use Rattle.net.proofs.Listing.{listed-is-partial, partial-is-listed, partials-increasing}

module _ (net : Net) (s t a b room : ℕ) (u v : ℕ → Bool) (s-below : s < net.nodes) (to_below : (x : ℕ) → (arc net.arcs x).to < net.nodes)
    (same : (p : List ℕ) → T (partial (only u net) s p) ↔ T (partial (only v net) s p)) where
  abbrev over : (ℕ → Bool) → Query
  over w = record { net = only w net; s = s; t = t; a = a; b = b; room = room }

  abbrev f : List ℕ → ℕ
  f = length_of net.arcs

  pub partials-same : partials (only u net) s ≡ partials (only v net) s
  partials-same =
      increasing-unique f (partials (only u net) s) (partials (only v net) s) (partials-increasing (only u net) s f) (partials-increasing (only v net) s f)
      (λ p m. partial-is-listed (only v net) s s-below to_below p ((same p).0 (listed-is-partial (only u net) s p m)))
      (λ p m. partial-is-listed (only u net) s s-below to_below p ((same p).1 (listed-is-partial (only v net) s p m)))

  module _ (earlier : List (List ℕ)) where
    answer-same : answer (over u) earlier ≡ answer (over v) earlier
    unfolding answer eligible within_all within overlap
    answer-same = ap (λ ps. head? (keep (λ p. eqb (end_of net.arcs s p) t && within_all (over v) earlier p) ps)) partials-same

    live_same : (p : List ℕ) → live (over u) earlier p ≡ live (over v) earlier p
    unfolding live beats no_greater within_all within overlap
    live_same p = ap (λ ps. within_all (over v) earlier p && not (any (λ r. beats (over v) earlier r p) ps)) partials-same

    lives-same : lives_by f (over u) earlier ≡ lives_by f (over v) earlier
    unfolding lives_by
    lives-same = ap₂ keep (fun_ext live_same) partials-same

    counted-with : (w : Option (List ℕ)) → counted_with f (over u) earlier w ≡ counted_with f (over v) earlier w
    unfolding counted_with
    counted-with none = lives-same
    counted-with (some w) = ap (λ ps. keep (λ p. before f p w) ps ++ (w ∷ [])) lives-same

    counted_same : counted_by f (over u) earlier ≡ counted_by f (over v) earlier
    unfolding counted_by
    counted_same = counted-with (answer (over u) earlier) ∙ ap (counted_with f (over v) earlier) answer-same

    ending-same : ending_by f (over u) earlier ≡ ending_by f (over v) earlier
    unfolding ending_by count_by
    ending-same = ap₂ (λ c w. judged (ltb room (length c)) (length c) w) counted_same answer-same

  pub rounds-same : (k : ℕ) (earlier : List (List ℕ)) → rounds (over u) k earlier ≡ rounds (over v) k earlier
  unfolding rounds_by
  rounds-same zero earlier = refl
  rounds-same (suc k) earlier = ap₂ go_on (ending-same earlier) (fun_ext (λ p. rounds-same k (earlier ++ (p ∷ []))))
