-- Which road an arc is of, by the words of a slot. A search for a word that passes a test goes word by word. The number that fills a slot's other words is no arc's
-- and has no road number, so a slot's words pass the test for an arc's road exactly where those of its route do; and a chain of one arc has that arc's length
-- as its overlap where the route drives the arc's road, and else none.
use mathlib.Core.Path.{◌≡◌, refl, sym, ap, ◌∙◌}
use mathlib.Core.Bool.{Bool, true, false, not, ◌&&◌, ◌||◌}
use mathlib.Core.List.{List, [], ◌∷◌}
use mathlib.Core.Logic.{◌≢◌, ◌⊎◌, inl, inr, ⊎_elim}
use Prim.Native.Nat.{ℕ, zero, suc, ◌+◌, ◌-◌, ◌≤◌, ◌<◌}
use native.Mathlib.Omega.{arith}
use native.Mathlib.Numerals.{add-one}
use lib.Dec.{eqb}
use lib.ListN.{length, get_or, drop, drop_of_length-le}
use lib.Seq.{drop-cons}
use borrow.Author.Tests.{eq-eqb, ne_eqb, eqb-true, eqb-false}
use Rattle.lists.specs.Tests.{any, keep, cons_if}
use Rattle.lists.proofs.Cases.{cases, order}
use Rattle.net.specs.Net.{road, same_road, driven}
use Rattle.net.specs.Route.{length_of, overlap}
use Rattle.net.specs.Limits.{most_arcs}
use Rattle.table.specs.Table.{records, len_at, road_at, roads_of, net_of}
use Rattle.table.proofs.NetLaws.{arc-is, road-is, road-past}
use Rattle.labels.specs.Field.{no_number}
use Rattle.search_ask.specs.Earlier.{route_in, Formed}

-- ---- a word among those from i on

module _ (f : ℕ → Bool) (l : List ℕ) (i : ℕ) where
  pub any-done : length l ≤ i → any f (drop i l) ≡ false
  unfolding any
  any-done h = ap (any f) (drop_of_length-le l h)

  pub any_step : i < length l → f (get_or l i 0) ≡ false → any f (drop i l) ≡ any f (drop (i + 1) l)
  unfolding any
  any_step h e = rw (drop-cons l i 0 h, e, add-one i)

  pub any-stop : i < length l → f (get_or l i 0) ≡ true → any f (drop i l) ≡ true
  unfolding any
  any-stop h e = rw (drop-cons l i 0 h, e)

-- a blank word ends what a slot has
blank-on : (f : ℕ → Bool) → f no_number ≡ false → (l : List ℕ) → Formed l → (n i : ℕ) → i < length l → get_or l i 0 ≡ no_number → length l ≡ i + n → any f (drop i l) ≡ false
blank-on f none l formed zero i h e m = absurd (omega arith)
blank-on f none l formed (suc n) i h e m =
    any_step f l i h (ap f e ∙ none)
    ∙ on (λ k. blank-on f none l formed n (i + 1) (omega arith) (formed i (i + 1) (omega arith) (omega arith) e) (omega arith)) (order (i + 2) (length l))
  where
    on : (i + 2 ≤ length l → any f (drop (i + 1) l) ≡ false) → (i + 2 ≤ length l) ⊎ (length l < i + 2) → any f (drop (i + 1) l) ≡ false
    on again (inl k) = again k
    on again (inr k) = any-done f l (i + 1) (omega arith)

pub any-blank : (f : ℕ → Bool) → f no_number ≡ false → (l : List ℕ) → Formed l → (i : ℕ) → i < length l → get_or l i 0 ≡ no_number → any f (drop i l) ≡ false
any-blank f none l formed i h e = blank-on f none l formed (length l - i) i h e (omega arith)

-- ---- one word, against an arc whose road number is not zero

eqb_swap : (x y : ℕ) → eqb x y ≡ eqb y x
eqb_swap x y = ⊎_elim (λ e. e ∙ sym (eq-eqb y x (sym (eqb-true x y e)))) (λ e. e ∙ sym (ne_eqb y x (λ z. eqb-false x y e (sym z)))) (cases (eqb x y))

module _ (t : List ℕ) (a number x : ℕ) (is : number ≡ road (roads_of t) a) (some : 0 < number) where
  pub same-past : x ≢ a → records t ≤ x → same_road (roads_of t) a x ≡ false
  same-past ne past = rw (ne_eqb a x (λ e. ne (sym e)), road-past t x past, ne_eqb (road (roads_of t) a) 0 (λ z. omega arith))

  pub same_number : x ≢ a → x < records t → eqb (road_at t x) number ≡ same_road (roads_of t) a x
  same_number ne below =
      rw (ne_eqb a x (λ e. ne (sym e)), ne_eqb (road (roads_of t) a) 0 (λ z. omega arith), road-is t x below, ← is) (eqb_swap (road_at t x) number)

-- ---- the route of a slot

any-route : (f : ℕ → Bool) → f no_number ≡ false → (l : List ℕ) → any f (route_in l) ≡ any f l
unfolding any route_in keep cons_if
any-route f none [] = refl
any-route f none (y ∷ ys) = go (eqb y no_number) refl (any-route f none ys)
  where
    go : (x : Bool) → eqb y no_number ≡ x → any f (route_in ys) ≡ any f ys → any f (cons_if (not x) y (route_in ys)) ≡ (f y || any f ys)
    go true e h = rw (ap f (eqb-true y no_number e) ∙ none) h
    go false e h = ap (λ x. f y || x) h

pub filler : (roads : List ℕ) (a : ℕ) → a ≢ no_number → road roads no_number ≡ 0 → same_road roads a no_number ≡ false
filler roads a ne past = rw (ne_eqb a no_number ne, past) (go (eqb (road roads a) 0))
  where
    go : (x : Bool) → (not x && x) ≡ false
    go true = refl
    go false = refl

module _ (nodes : ℕ) (t l : List ℕ) (a : ℕ) (few : records t ≤ most_arcs) (below : a < records t) where
  pub driven-slot : driven (roads_of t) (route_in l) a ≡ any (same_road (roads_of t) a) l
  unfolding driven
  driven-slot = any-route (same_road (roads_of t) a) (filler (roads_of t) a (λ e. omega arith) (road-past t no_number (omega arith))) l

  pub shared-some : driven (roads_of t) (route_in l) a ≡ true → overlap (net_of nodes t []) (a ∷ []) (route_in l) ≡ len_at t a
  unfolding overlap length_of keep cons_if
  shared-some e = rw (e, arc-is t a below) (omega arith)

  pub shared-none : driven (roads_of t) (route_in l) a ≡ false → overlap (net_of nodes t []) (a ∷ []) (route_in l) ≡ 0
  unfolding overlap length_of keep cons_if
  shared-none e = rw e
