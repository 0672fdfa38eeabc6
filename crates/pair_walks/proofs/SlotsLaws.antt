-- Two routes in two slots, read again and written anew.
use mathlib.Core.Path.{◌≡◌, refl, sym, ap, ap₂, ◌∙◌}
use mathlib.Core.List.{List, [], ◌++◌, append-nil, append_assoc}
use Prim.Native.Nat.{ℕ, ◌+◌, ◌*◌, ◌-◌}
use native.Mathlib.Omega.{arith}
use lib.ListN.{length, take, drop, replicate}
use lib.Seq.{take_at, drop_at, drop-drop}
use Rattle.lists.specs.Tests.{lex}
use Rattle.net.specs.Net.{Arc}
use Rattle.net.specs.Route.{length_of, numbers_first, before, precedes}
use Rattle.labels.specs.Field.{no_number}
use Rattle.labels.specs.Chain.{slot_of}
use Rattle.round.proofs.EarlierLaws.{length-slot_of}
use Rattle.query_rounds.specs.Area.{area_with}
use Rattle.pair_walks.specs.declared.Ways.{Ways}
use Rattle.pair_walks.specs.Way.{Written}

module _ (arcs : List Arc) (w : ℕ) (p q area a₁ : List ℕ) (x : Ways) (k : Written arcs w p q area a₁ x) where
  -- the slots one after the other
  apart : a₁ ≡ slot_of w p ++ (slot_of w q ++ drop (2 * w) area)
  unfolding area_with
  apart = k.area-is ∙ append_assoc (slot_of w p) (slot_of w q ++ []) (drop (2 * w) area) ∙ ap (λ y. slot_of w p ++ (y ++ drop (2 * w) area)) (append-nil (slot_of w q))

  first-in : take (length p) a₁ ≡ p
  first-in =
      ap (take (length p)) (apart ∙ append_assoc p (replicate (w - length p) no_number) (slot_of w q ++ drop (2 * w) area))
      ∙ take_at p (replicate (w - length p) no_number ++ (slot_of w q ++ drop (2 * w) area)) (length p) refl

  second_from : drop w a₁ ≡ slot_of w q ++ drop (2 * w) area
  second_from = ap (drop w) apart ∙ drop_at (slot_of w p) (slot_of w q ++ drop (2 * w) area) w (length-slot_of w p k.p-fits)

  second-in : take (length q) (drop w a₁) ≡ q
  second-in =
      ap (take (length q)) (second_from ∙ append_assoc q (replicate (w - length q) no_number) (drop (2 * w) area))
      ∙ take_at q (replicate (w - length q) no_number ++ drop (2 * w) area) (length q) refl

  pub written-order : lex x.second.length x.first.length (numbers_first (take x.second.arcs (drop w a₁)) (take x.first.arcs a₁)) ≡ precedes arcs q p
  unfolding before
  written-order =
      ap (λ y. lex y.second.length y.first.length (numbers_first (take y.second.arcs (drop w a₁)) (take y.first.arcs a₁))) k.ways
      ∙ ap₂ (λ i j. lex (length_of arcs q) (length_of arcs p) (numbers_first i j)) second-in first-in

  -- what lies past the slots stayed
  past : drop (2 * w) a₁ ≡ drop (2 * w) area
  past =
      let n : w + w ≡ 2 * w = omega arith in
      sym (ap (λ i. drop i a₁) n) ∙ sym (drop-drop w w a₁) ∙ ap (drop w) second_from ∙ drop_at (slot_of w q) (drop (2 * w) area) w (length-slot_of w q k.q-fits)

  pub written-anew : (a₂ : List ℕ) (y : Ways) → Written arcs w q p a₁ a₂ y → Written arcs w q p area a₂ y
  unfolding area_with
  written-anew a₂ y v = record { area-is = v.area-is ∙ ap (λ r. (slot_of w q ++ (slot_of w p ++ [])) ++ r) past; ways = v.ways; p-fits = v.p-fits; q-fits = v.q-fits }
