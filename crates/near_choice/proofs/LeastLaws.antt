-- One rank more: the fraction that tells how varied the ranks are, lowered by the dissimilarities of the new route one by one, tells it of the ranks with the new one
-- (`lowest-same`). Both are above exactly the same fractions. And fractions that tell how varied choices are compare as the definition compares the choices.
use mathlib.Core.Path.{◌≡◌, refl, sym, subst}
use mathlib.Core.Logic.{⊎_elim}
use Rattle.std.specs.Prelude.{None, Some}
use mathlib.Core.List.Memᴰ
use mathlib.Core.List.{List, [], ◌∷◌, ◌++◌, map, Memᴰ}
use mathlib.Core.Bool.{Bool, true, false}
use Prim.Native.Nat.{ℕ, ◌<◌}
use lib.Dec.{T}
use lib.ListN.{get_or}
use Rattle.net.specs.Net.{Arc}
use Rattle.net.specs.Route.{length_of}
use Rattle.table.specs.Table.{arcs_of}
use Rattle.search_ask.specs.Earlier.{earlier_in}
use Rattle.products.specs.declared.Fraction.{Fraction}
use Rattle.variety.specs.Choice.{hope}
use Rattle.variety.specs.Variety.{less, apart, pairwise, lower, least, variety, varied, no_route}
use Rattle.variety.proofs.Fractions.{Proper, AllProper, lower-e, lower-i, lower-proper, least-proper, least-e, least-i, union-positive, named, proper}
use Rattle.variety.proofs.Steps.{Same, same_by, less-same, variety-more}
use Rattle.variety.proofs.Best.{variety-proper}
use Rattle.near_choice.specs.Best.{Best}
use Rattle.near_choice.specs.Choosing.{Tells, best_in, Stands, hope_by, lowest}

both_ways : (a b : Bool) → (T a → T b) → (T b → T a) → a ≡ b
both_ways true true f g = refl
both_ways true false f g = absurd (f tt)
both_ways false true f g = absurd (g tt)
both_ways false false f g = refl

-- ---- the lowest is above b exactly if each is

lowest-e : (b x : Fraction) (ys : List Fraction) → Proper b → Proper x → AllProper ys → T (less b (lowest x ys)) → T (less b x) × ((y : Fraction) → Memᴰ y ys → T (less b y))
unfolding lowest AllProper
lowest-e b x [] pb px h k = (k, λ y m. absurd (Memᴰ.not-nil m))
lowest-e b x (y ∷ ys) pb px h k =
    let py = h y (Memᴰ.head refl) in
    let i = lowest-e b (lower x y) ys pb (lower-proper x y px py) (λ z m. h z (Memᴰ.tail m)) k in
    let l = lower-e b x y pb px py i.0 in
    (l.0, λ z m. ⊎_elim (λ e. subst (λ v. T (less b v)) (sym e) l.1) (i.1 z) (Memᴰ.cases_cons m))

lowest-i : (b x : Fraction) (ys : List Fraction) → T (less b x) → ((y : Fraction) → Memᴰ y ys → T (less b y)) → T (less b (lowest x ys))
unfolding lowest
lowest-i b x [] h k = h
lowest-i b x (y ∷ ys) h k = lowest-i b (lower x y) ys (lower-i b x y h (k y (Memᴰ.head refl))) (λ z m. k z (Memᴰ.tail m))

pub lowest-proper : (x : Fraction) (ys : List Fraction) → Proper x → AllProper ys → Proper (lowest x ys)
unfolding lowest AllProper
lowest-proper x [] px h = px
lowest-proper x (y ∷ ys) px h = lowest-proper (lower x y) ys (lower-proper x y px (h y (Memᴰ.head refl))) (λ z m. h z (Memᴰ.tail m))

-- ---- with one rank more

module _ (arcs : List Arc) (rs : List (List ℕ)) (long : (i : ℕ) → 0 < length_of arcs (get_or rs i no_route)) where
  -- the dissimilarities of the routes of these ranks and the one of rank r
  abbrev pub aparts_of : List ℕ → ℕ → List Fraction
  aparts_of ranks r = map (λ i. apart arcs (get_or rs i no_route) (get_or rs r no_route)) ranks

  pub aparts-proper : (ranks : List ℕ) (r : ℕ) → AllProper (aparts_of ranks r)
  unfolding AllProper apart
  aparts-proper ranks r x m =
      let w = Memᴰ.of_map (λ i. apart arcs (get_or rs i no_route) (get_or rs r no_route)) ranks m in
      subst Proper w.2 (union-positive arcs (get_or rs w.0 no_route) (get_or rs r no_route) (long w.0))

  -- no choice is more varied than one
  below_one : (b : Fraction) (ranks : List ℕ) → Proper b → T (less b (variety arcs rs ranks)) → T (less b (record { over = 1; under = 1 }))
  unfolding variety named
  below_one b ranks pb h = (least-e b (pairwise arcs (named arcs rs long ranks)) pb (proper arcs rs long ranks) h).0

  pub lowest-same : (ranks : List ℕ) (r : ℕ) (x : Fraction) → Proper x → Same x (variety arcs rs ranks) → Same (lowest x (aparts_of ranks r)) (variety arcs rs (ranks ++ (r ∷ [])))
  lowest-same ranks r x px s =
      let v = variety arcs rs ranks in
      let v' = variety arcs rs (ranks ++ (r ∷ [])) in
      let ys = aparts_of ranks r in
      let l = lower v (least ys) in
      let pv = variety-proper arcs rs long ranks in
      let pv' = variety-proper arcs rs long (ranks ++ (r ∷ [])) in
      let pys = aparts-proper ranks r in
      let pm = least-proper ys pys in
      let pl = lower-proper v (least ys) pv pm in
      let e = variety-more arcs rs long ranks r in
      same_by (lowest x ys) v' (lowest-proper x ys px pys) pv'
      (λ b pb k. let i = lowest-e b x ys pb px pys k in
      let j = less-same b b x v pb pb px pv refl s i.0 in
      less-same b b l v' pb pb pl pv' refl (sym e) (lower-i b v (least ys) j (least-i b ys (below_one b ranks pb j) i.1)))
      (λ b pb k. let m = lower-e b v (least ys) pb pv pm (less-same b b v' l pb pb pv' pl refl e k) in
      lowest-i b x ys (less-same b b v x pb pb pv px refl (sym s) m.0) (least-e b ys pb pys m.1).1)

-- ---- what tells how varied choices are compares as they do

module _ (t : List ℕ) (w n : ℕ) (list : List ℕ) (long : (i : ℕ) → 0 < length_of (arcs_of t) (get_or (earlier_in w n list) i no_route)) where
  pub less-tells : (ps qs : List ℕ) (x y : Fraction) → Tells t w n list ps x → Tells t w n list qs y → less x y ≡ varied (arcs_of t) (earlier_in w n list) ps qs
  unfolding varied
  less-tells ps qs x y k l =
      let u = variety (arcs_of t) (earlier_in w n list) ps in
      let v = variety (arcs_of t) (earlier_in w n list) qs in
      let pu = variety-proper (arcs_of t) (earlier_in w n list) long ps in
      let pv = variety-proper (arcs_of t) (earlier_in w n list) long qs in
      both_ways (less x y) (less u v) (less-same x u y v k.proper pu l.proper pv k.same l.same) (less-same u x v y pu k.proper pv l.proper (sym k.same) (sym l.same))

  -- so there is hope by the fractions where there is by the definition
  pub hope-tells : (b : Best) (best ranks : List ℕ) (x : Fraction) → Stands t w n list b best → Tells t w n list ranks x → hope_by b x ≡ hope (varied (arcs_of t) (earlier_in w n list)) (best_in b best) ranks
  unfolding hope_by hope
  hope-tells None best ranks x s k = refl
  hope-tells (Some y) best ranks x s k = less-tells best ranks y x s k
