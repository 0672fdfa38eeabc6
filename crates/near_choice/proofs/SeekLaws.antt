-- The search in the buffers, one rank after the other: a whole choice is weighed against the best so far (`weighed`); a rank without hope is passed by (`skipped`), and one
-- with hope is searched from (`went_on`); with no rank left the best so far is what was sought (`turn-done`).
use mathlib.Core.Path.{◌≡◌, refl, sym, ap, subst, ◌∙◌}
use mathlib.Core.Logic.{◌≢◌, ◌⊎◌, inl, inr}
use mathlib.Core.Option.{Option, none, some}
use Rattle.std.specs.Prelude.{None, Some}
use mathlib.Core.List.{List, [], ◌∷◌, ◌++◌}
use mathlib.Core.Bool.{Bool, true, false, cond}
use Prim.Native.Nat.{ℕ, suc, ◌+◌, ◌-◌, ◌≤◌, ◌<◌}
use native.Mathlib.Omega.{arith}
use native.Mathlib.Nat.{sub-zero}
use native.Mathlib.Numerals.{add-one}
use lib.ListN.{length, get_or, set, take, length-append, length-set, get_or-append}
use lib.Seq.{take-suc-set, take-set-le, take-take, take_all, get_or-append_seam}
use Rattle.lists.specs.Tests.{up_from}
use Rattle.lists.proofs.Cases.{order}
use Rattle.table.specs.Table.{arcs_of}
use Rattle.search_ask.specs.Earlier.{earlier_in}
use Rattle.search_ask.proofs.EarlierLaws.{length-earlier_in}
use Rattle.route_apart.specs.Marks.{Unmarked}
use Rattle.products.specs.declared.Fraction.{Fraction}
use Rattle.variety.specs.Choice.{hope, better, search_from}
use Rattle.variety.specs.Variety.{varied, variety, pairwise, least, chosen}
use Rattle.variety.proofs.Fractions.{chosen-search}
use Rattle.variety.proofs.Best.{chosen-best}
use Rattle.near_choice.specs.Best.{Best}
use Rattle.near_choice.specs.Choosing.{Routes, Blank, Tells, best_in, Stands, hope_by, Weighed, Below, sought_from, Seeks, Sought, Turning}
use Rattle.near_choice.proofs.LeastLaws.{hope-tells}

-- ---- the search, a rank at a time

up_step : (i n : ℕ) → i < n → up_from i (n - i) ≡ i ∷ up_from (i + 1) (n - (i + 1))
unfolding up_from
up_step i n h =
    let e : n - i ≡ suc (n - (i + 1)) = omega arith in
    rw (e, add-one)

up_done : (i n : ℕ) → n ≤ i → up_from i (n - i) ≡ []
unfolding up_from
up_done i n h =
    let e : n - i ≡ 0 = omega arith in
    rw e

module _ (beats : List ℕ → List ℕ → Bool) where
  search-whole : (rs picked : List ℕ) (best : Option (List ℕ)) → search_from beats rs 0 picked best ≡ better beats best picked
  unfolding search_from
  search-whole [] picked best = refl
  search-whole (r ∷ rs) picked best = refl

  search-step : (i n left more : ℕ) (picked : List ℕ) (best : Option (List ℕ)) → left ≡ suc more → i < n
      → search_from beats (up_from i (n - i)) left picked best
      ≡ search_from beats (up_from (i + 1) (n - (i + 1))) left picked (cond (hope beats best (picked ++ (i ∷ []))) (search_from beats (up_from (i + 1) (n - (i + 1))) more (picked ++ (i ∷ [])) best) best)
  unfolding search_from
  search-step i n left more picked best e h =
      subst (λ m. search_from beats (up_from i (n - i)) m picked best
      ≡ search_from beats (up_from (i + 1) (n - (i + 1))) m picked (cond (hope beats best (picked ++ (i ∷ []))) (search_from beats (up_from (i + 1) (n - (i + 1))) more (picked ++ (i ∷ [])) best) best)) (sym e)
      (ap (λ l. search_from beats l (suc more) picked best) (up_step i n h))

  search-done : (i n left more : ℕ) (picked : List ℕ) (best : Option (List ℕ)) → left ≡ suc more → n ≤ i → search_from beats (up_from i (n - i)) left picked best ≡ best
  unfolding search_from
  search-done i n left more picked best e h = ap (λ m. search_from beats (up_from i (n - i)) m picked best) e ∙ ap (λ l. search_from beats l (suc more) picked best) (up_done i n h)

-- ---- lists of ranks

below_more : (n : ℕ) (ranks : List ℕ) (i : ℕ) → Below n ranks → i < n → Below n (ranks ++ (i ∷ []))
below_more n ranks i b h j k = go (order (length ranks) j)
  where
    go : (length ranks ≤ j) ⊎ (j < length ranks) → get_or (ranks ++ (i ∷ [])) j 0 < n
    go (inl l) =
        let e : length ranks ≡ j = omega (arith, length-append ranks (i ∷ [])) in
        subst (λ z. get_or (ranks ++ (i ∷ [])) z 0 < n) e (omega (arith, get_or-append_seam ranks i [] 0))
    go (inr l) = omega (arith, get_or-append ranks (i ∷ []) 0 j l, b j l)

pub taken-set : (l : List ℕ) (j x : ℕ) → j < length l → take (j + 1) (set l j x) ≡ take j l ++ (x ∷ [])
taken-set l j x h = rw (add-one j) (take-suc-set l j x h)

-- ---- the search from `depth` ranks

module _ (t : List ℕ) (nodes w n : ℕ) (list room ranks best : List ℕ) (depth from : ℕ) (least : Fraction) (b : Best) (s : Seeks t nodes w n list room ranks best depth from least b) where
  abbrev beats : List ℕ → List ℕ → Bool
  beats = varied (arcs_of t) (earlier_in w n list)

  abbrev picked : List ℕ
  picked = take depth ranks

  -- what was sought, where nothing is left to choose
  sought-whole : depth ≡ length ranks → sought_from t w n list from (length ranks - depth) (take depth ranks) (best_in b best) ≡ cond (hope_by b least) (some ranks) (best_in b best)
  unfolding better
  sought-whole e =
      let z : length ranks - depth ≡ 0 = omega arith in
      let f : take depth ranks ≡ ranks = take_all depth ranks (omega arith) in
      ap (λ m. sought_from t w n list from m (take depth ranks) (best_in b best)) z
      ∙ search-whole beats (up_from from (n - from)) (take depth ranks) (best_in b best)
      ∙ ap (λ f. cond f (some (take depth ranks)) (best_in b best)) (sym (hope-tells t w n list s.routes.long b best (take depth ranks) least s.stands s.tells))
      ∙ ap (λ l. cond (hope_by b least) (some l) (best_in b best)) f

  pub weighed : depth ≡ length ranks → (best' : List ℕ) (r : Best) → Weighed ranks best least b best' r → Sought t nodes w n list room ranks best depth from b room ranks best' r
  weighed e best' r (inl h) =
      record {
        room-long = refl;
        unmarked = s.blank.unmarked;
        ranks-long = refl;
        ranks-kept = refl;
        best-long = ap length h.1 ∙ s.same-long;
        is = ap (λ z. best_in z best') h.2 ∙ ap some h.1 ∙ sym (sought-whole e ∙ ap (λ f. cond f (some ranks) (best_in b best)) h.0);
        stands = subst (λ z. Stands t w n list z best') (sym h.2) (subst (λ l. Tells t w n list l least) (take_all depth ranks (omega arith) ∙ sym h.1) s.tells);
      }
  weighed e best' r (inr h) =
      record {
        room-long = refl;
        unmarked = s.blank.unmarked;
        ranks-long = refl;
        ranks-kept = refl;
        best-long = ap length h.1;
        is = ap (λ z. best_in z best') h.2 ∙ ap (best_in b) h.1 ∙ sym (sought-whole e ∙ ap (λ f. cond f (some ranks) (best_in b best)) h.0);
        stands = subst (λ z. Stands t w n list z best') (sym h.2) (subst (Stands t w n list b) (sym h.1) s.stands);
      }

  pub turn-begin : Turning t nodes w n list room ranks best depth from b from room ranks best b
  turn-begin =
      record { up_to = s.up_to; room-long = refl; unmarked = s.blank.unmarked; ranks-long = refl; ranks-kept = refl; best-long = refl; whole = refl; stands = s.stands }

  module _ (deep : depth ≢ length ranks) (i : ℕ) (room' ranks' best' : List ℕ) (r : Best) (g : Turning t nodes w n list room ranks best depth from b i room' ranks' best' r) where
    left_is : length ranks - depth ≡ suc (length ranks - (depth + 1))
    left_is = omega (arith, s.deep, deep)

    pub turn-done : n ≤ i → Sought t nodes w n list room ranks best depth from b room' ranks' best' r
    turn-done h =
        record {
          room-long = g.room-long;
          unmarked = g.unmarked;
          ranks-long = g.ranks-long;
          ranks-kept = g.ranks-kept;
          best-long = g.best-long;
          is = sym (search-done beats i n (length ranks - depth) (length ranks - (depth + 1)) (take depth ranks) (best_in r best') left_is h) ∙ g.whole;
          stands = g.stands;
        }

    module _ (h : i < n) where
      first-is : take (depth - 0) ranks' ≡ take depth ranks
      first-is = ap (λ m. take m ranks') (sub-zero depth) ∙ g.ranks-kept

      pub rank-asks : Routes t nodes w n list × Blank nodes room' × Below n (take (depth - 0) ranks') × Tells t w n list (take (depth - 0) ranks') least × (i < n)
      rank-asks = (
        s.routes,
        record { roomy = omega (arith, g.room-long, s.blank.roomy); unmarked = g.unmarked },
        subst (Below n) (sym first-is) s.below,
        subst (λ l. Tells t w n list l least) (sym first-is) s.tells,
        h,
      )

      place_in : depth < length ranks'
      place_in = omega (arith, s.deep, deep, g.ranks-long)

      module _ (x : Fraction) (room₂ : List ℕ) (tells : Tells t w n list (take (depth - 0) ranks' ++ (i ∷ [])) x) (long₂ : length room₂ ≡ length room') (clean : Unmarked room₂) where
        tells-picked : Tells t w n list (take depth ranks ++ (i ∷ [])) x
        tells-picked = subst (λ l. Tells t w n list (l ++ (i ∷ [])) x) first-is tells

        -- the turn at rank i
        turn_is : (f : Bool) → hope_by r x ≡ f
            → sought_from t w n list (i + 1) (length ranks - depth) (take depth ranks)
            (cond f (sought_from t w n list (i + 1) (length ranks - (depth + 1)) (take depth ranks ++ (i ∷ [])) (best_in r best')) (best_in r best'))
            ≡ sought_from t w n list from (length ranks - depth) (take depth ranks) (best_in b best)
        turn_is f e =
            ap (λ z. sought_from t w n list (i + 1) (length ranks - depth) (take depth ranks)
            (cond z (sought_from t w n list (i + 1) (length ranks - (depth + 1)) (take depth ranks ++ (i ∷ [])) (best_in r best')) (best_in r best')))
            (sym e ∙ hope-tells t w n list s.routes.long r best' (take depth ranks ++ (i ∷ [])) x g.stands tells-picked)
            ∙ sym (search-step beats i n (length ranks - depth) (length ranks - (depth + 1)) (take depth ranks) (best_in r best') left_is h)
            ∙ g.whole

        pub skipped : hope_by r x ≡ false → Turning t nodes w n list room ranks best depth from b (i + 1) room₂ ranks' best' r
        skipped e =
            record {
              up_to = omega arith;
              room-long = long₂ ∙ g.room-long;
              unmarked = clean;
              ranks-long = g.ranks-long;
              ranks-kept = g.ranks-kept;
              best-long = g.best-long;
              whole = turn_is false e;
              stands = g.stands;
            }

        picked-on : take (depth + 1) (set ranks' depth i) ≡ take depth ranks ++ (i ∷ [])
        picked-on = taken-set ranks' depth i place_in ∙ ap (λ l. l ++ (i ∷ [])) g.ranks-kept

        long-on : length (set ranks' depth i) ≡ length ranks
        long-on = length-set ranks' depth i ∙ g.ranks-long

        pub call_asks : (next : ℕ) → next ≤ n → Seeks t nodes w n list room₂ (set ranks' depth i) best' (depth + 1) next x r
        call_asks next k =
            record {
              routes = s.routes;
              blank = record { roomy = omega (arith, long₂, g.room-long, s.blank.roomy); unmarked = clean };
              same-long = long-on ∙ s.same-long ∙ sym g.best-long;
              deep = omega (arith, place_in, length-set ranks' depth i);
              up_to = k;
              below = subst (Below n) (sym picked-on) (below_more n (take depth ranks) i s.below h);
              tells = subst (λ l. Tells t w n list l x) (sym picked-on) tells-picked;
              stands = g.stands;
            }

        pub call-falls : length (set ranks' depth i) - (depth + 1) < length ranks - depth
        call-falls = omega (arith, long-on, left_is)

        pub went_on : hope_by r x ≡ true → (room₃ ranks₃ best₃ : List ℕ) (r₃ : Best) → Sought t nodes w n list room₂ (set ranks' depth i) best' (depth + 1) (i + 1) r room₃ ranks₃ best₃ r₃
            → Turning t nodes w n list room ranks best depth from b (i + 1) room₃ ranks₃ best₃ r₃
        went_on e room₃ ranks₃ best₃ r₃ v =
            let k : depth ≤ depth + 1 = omega arith in
            record {
              up_to = omega arith;
              room-long = v.room-long ∙ long₂ ∙ g.room-long;
              unmarked = v.unmarked;
              ranks-long = v.ranks-long ∙ long-on;
              ranks-kept = sym (take-take depth (depth + 1) ranks₃ k) ∙ ap (take depth) v.ranks-kept ∙ take-take depth (depth + 1) (set ranks' depth i) k ∙ take-set-le depth ranks' depth i (omega arith) ∙ g.ranks-kept;
              best-long = v.best-long ∙ g.best-long;
              whole = ap (sought_from t w n list (i + 1) (length ranks - depth) (take depth ranks))
                  (v.is ∙ ap (λ m. sought_from t w n list (i + 1) (m - (depth + 1)) (take (depth + 1) (set ranks' depth i)) (best_in r best')) long-on
                  ∙ ap (λ l. sought_from t w n list (i + 1) (length ranks - (depth + 1)) l (best_in r best')) picked-on)
                  ∙ turn_is true e;
              stands = v.stands;
            }

-- ---- from nothing chosen

taken : Option (List ℕ) → ℕ
taken none = 0
taken (some l) = 1

abbrev pub one : Fraction
one = record { over = 1; under = 1 }

abbrev pub nothing : Best
nothing = None

module _ (t : List ℕ) (nodes w n : ℕ) (list room ranks best : List ℕ) (routes : Routes t nodes w n list) (blank : Blank nodes room) (same-long : length ranks ≡ length best) where
  pub seek-asks : Seeks t nodes w n list room ranks best 0 0 one nothing
  unfolding variety pairwise least
  seek-asks =
      record {
        routes = routes;
        blank = blank;
        same-long = same-long;
        deep = omega arith;
        up_to = omega arith;
        below = λ j h. absurd (omega arith);
        tells = record { same = refl; proper = omega arith; over-few = omega arith; under-few = omega arith };
        stands = tt;
      }

  -- k of at least k routes: there is a choice
  pub all-chosen : length best ≤ n → (room' ranks' best' : List ℕ) (r : Best) → Sought t nodes w n list room ranks best 0 0 nothing room' ranks' best' r
      → some best' ≡ chosen (arcs_of t) (earlier_in w n list) (length best)
  unfolding taken
  all-chosen few room' ranks' best' r v = go r arcs-is
    where
      arcs-is : best_in r best' ≡ chosen (arcs_of t) (earlier_in w n list) (length best)
      arcs-is =
          let e : length ranks - 0 ≡ length best = omega arith in
          let f : n - 0 ≡ length (earlier_in w n list) = omega (arith, length-earlier_in w n list) in
          v.is
          ∙ ap (λ m. search_from (varied (arcs_of t) (earlier_in w n list)) (up_from 0 (n - 0)) m [] none) e
          ∙ ap (λ m. search_from (varied (arcs_of t) (earlier_in w n list)) (up_from 0 m) (length best) [] none) f
          ∙ chosen-search (arcs_of t) (earlier_in w n list) routes.long (length best)

      go : (b : Best) → best_in b best' ≡ chosen (arcs_of t) (earlier_in w n list) (length best) → some best' ≡ chosen (arcs_of t) (earlier_in w n list) (length best)
      go (Some x) e = e
      go None e =
          let w = chosen-best (arcs_of t) (earlier_in w n list) routes.long (length best) (omega (arith, length-earlier_in w n list)) in
          let k : ◌≡◌ {A = Option (List ℕ)} none (some w.0) = e ∙ w.1 in
          absurd (never w.0 k)
        where
          never : (l : List ℕ) → ◌≡◌ {A = Option (List ℕ)} none (some l) → ⊥
          never l z = let y : ◌≡◌ {A = ℕ} 0 1 = ap taken z in omega arith
