-- Routes in their slots. The first words of a slot are its route (`Routes.front`), so a route has no more arcs than a slot has words, and its overlaps and
-- lengths are below 2 ^ 40; what route_in takes out of a route is the route (`route-again`). The routes before one more are those before it, and it
-- (`earlier-snoc`), so by induction the greatest share with them is 0 over 1 or a share with one of them, whose parts are below 2 ^ 40 (`greatest-small`).
use mathlib.Core.Path.{◌≡◌, refl, sym, ap, ap₂, subst, ◌∙◌}
use mathlib.Core.Bool.{Bool, true, false, not}
use mathlib.Core.List.{List, [], ◌∷◌, ◌++◌}
use Prim.Native.Nat.{ℕ, zero, suc, ◌+◌, ◌*◌, ◌≤◌, ◌<◌}
use native.Mathlib.Omega.{arith}
use native.Mathlib.Nat.{le_of_lt, mul-le-mul_right}
use native.Mathlib.Numerals.{add-one}
use lib.Dec.{eqb}
use lib.ListN.{length, get_or, drop, length-drop}
use lib.Seq.{length-take-le}
use Rattle.lists.specs.Tests.{keep, cons_if, up_from}
use Rattle.lists.proofs.LoopLaws.{map-up_from-more}
use Rattle.words.specs.Part.{slot}
use Rattle.products.specs.Product.{most_factor}
use Rattle.net.specs.Net.{Net}
use Rattle.net.specs.Route.{overlap}
use Rattle.net.specs.Limits.{most_nodes}
use Rattle.labels.specs.Field.{no_number}
use Rattle.search_ask.specs.declared.Ask.{Ask}
use Rattle.search_ask.specs.Ask.{net_for, width}
use Rattle.search_ask.specs.Earlier.{route_in, earlier_in}
use Rattle.search_ask.proofs.AskLaws.{nodes-most, lengths-most}
use Rattle.search_ask.proofs.EarlierLaws.{slot-end}
use Rattle.ratios.specs.Ratios.{share_with, no_share, greater_of, greatest_from, first_of}
use Rattle.ratios.specs.Routes.{Routes, route_at}
use Rattle.products.specs.declared.Fraction.{Fraction}
use Rattle.ratios.proofs.GreatestLaws.{greater-cases, greatest-more}
use Rattle.ratios.proofs.ShareLaws.{overlap-small}

pub slot-length : (w j : ℕ) (area : List ℕ) → j * w + w ≤ length area → length (slot w j area) ≡ w
unfolding slot
slot-length w j area h = length-take-le w (drop (j * w) area) (simp length-drop (omega arith))

-- what was taken out already is taken out again
pub route-again : (l : List ℕ) → route_in (route_in l) ≡ route_in l
unfolding route_in keep cons_if
route-again [] = refl
route-again (x ∷ l) = go (eqb x no_number) refl (route-again l)
  where
    go : (b : Bool) → eqb x no_number ≡ b → route_in (route_in l) ≡ route_in l → route_in (cons_if (not b) x (route_in l)) ≡ cons_if (not b) x (route_in l)
    go true e h = h
    go false e h = rw e (ap {B = List ℕ} (λ t. x ∷ t) h)

pub earlier-snoc : (w r : ℕ) (area : List ℕ) → earlier_in w (r + 1) area ≡ earlier_in w r area ++ (route_in (slot w r area) ∷ [])
unfolding earlier_in
earlier-snoc w r area = map-up_from-more (λ j. route_in (slot w j area)) r

-- Both parts of the fraction are below 2 ^ 40, and the lower one is above 0.
abbrev pub Small : Fraction → Type 0
Small f = (f.over < most_factor) × (0 < f.under) × (f.under < most_factor)

pub small_is : (f g : Fraction) → f ≡ g → Small g → Small f
small_is f g e s = subst Small (sym e) s

module _ {ask : Ask} {table area lens counts : List ℕ} {n : ℕ} (r : Routes ask table area lens counts n) where
  pub slot-within : (j : ℕ) → j < n → j * width ask + width ask ≤ length area
  slot-within j h = slot-end (width ask) n (length area) j h r.slots

  pub route-short : (j : ℕ) → j < n → length (route_at ask area j) ≤ most_nodes
  route-short j h =
      let w : length (slot (width ask) j area) ≡ width ask = slot-length (width ask) j area (slot-within j h) in
      let c : get_or counts j 0 ≤ width ask = r.fits j h in
      omega (arith, ap length (r.front j h), nodes-most r.accepted, length-take-le (get_or counts j 0) (slot (width ask) j area) (omega arith))

  abbrev net : Net
  net = net_for ask table []

  -- the overlap found between two parts is that of two routes, where the parts are the routes
  pub overlap-is : (i j : ℕ) (q p : List ℕ) (o : ℕ) → q ≡ route_at ask area i → p ≡ route_at ask area j → o ≡ overlap net q (route_in p)
      → o ≡ overlap net (route_at ask area i) (route_at ask area j)
  overlap-is i j q p o h k e = e ∙ ap₂ (λ x y. overlap net x (route_in y)) h k ∙ ap (overlap net (route_at ask area i)) (route-again (slot (width ask) j area))

  share-small : (i j : ℕ) → i < n → j < n → Small (share_with net (route_at ask area i) (route_at ask area j))
  share-small i j h k = (
    omega (arith, overlap-small net (lengths-most r.accepted) (route_at ask area i) (route_at ask area j) (route-short i h)),
    omega (arith, r.lengths j k, r.positive j k),
    omega (arith, r.lengths j k, r.most j k),
  )

  -- the greatest share of q with the first j
  abbrev pub best : List ℕ → ℕ → Fraction
  best q j = greatest_from net q no_share (earlier_in (width ask) j area)

  greatest-step : (q : List ℕ) (j : ℕ) → best q (j + 1) ≡ greater_of (best q j) (share_with net q (route_at ask area j))
  greatest-step q j = ap (greatest_from net q no_share) (earlier-snoc (width ask) j area) ∙ greatest-more net q no_share (earlier_in (width ask) j area) (route_at ask area j)

  pub greatest-turn : (q : List ℕ) (j : ℕ) (f x : Fraction) → f ≡ best q j → x ≡ share_with net q (route_at ask area j) → greater_of f x ≡ best q (j + 1)
  greatest-turn q j f x h k = ap₂ greater_of h k ∙ sym (greatest-step q j)

  greatest-small-more : (i j : ℕ) → i < n → j < n → Small (best (route_at ask area i) j) → Small (best (route_at ask area i) (j + 1))
  greatest-small-more i j h k s =
      let q = route_at ask area i in
      let x = share_with net q (route_at ask area j) in
      small_is (best q (j + 1)) (greater_of (best q j) x) (greatest-step q j) (greater-cases (best q j) x Small (λ _. share-small i j h k) (λ _. s))

  pub greatest-small : (i j : ℕ) → i < n → j ≤ n → Small (best (route_at ask area i) j)
  unfolding greatest_from earlier_in
  greatest-small i zero h k = (omega arith, omega arith, omega arith)
  greatest-small i (suc j) h k = subst (λ m. Small (best (route_at ask area i) m)) (add-one j) (greatest-small-more i j h k (greatest-small i j h (le_of_lt k)))

-- The first of the routes before route i, and of i itself, is the route of slot 0.
pub first-route : (ask : Ask) (area : List ℕ) (i : ℕ) → first_of (route_at ask area i) (earlier_in (width ask) i area) ≡ route_at ask area 0
unfolding earlier_in up_from
first-route ask area zero = refl
first-route ask area (suc i) = refl

-- Fewer routes stand where more do.
pub routes-fewer : {ask : Ask} {table area lens counts : List ℕ} {n : ℕ} → Routes ask table area lens counts n → (m : ℕ) → m ≤ n → Routes ask table area lens counts m
routes-fewer {ask} {area = area} {n = n} r m h = record {
  accepted = r.accepted;
  few = omega (arith, r.few);
  slots = omega (arith, mul-le-mul_right {m = m} {n = n} (width ask) h, r.slots);
  lens-enough = omega (arith, r.lens-enough);
  counts-enough = omega (arith, r.counts-enough);
  fits = λ j k. r.fits j (omega arith);
  front = λ j k. r.front j (omega arith);
  arcs = λ j k. r.arcs j (omega arith);
  lengths = λ j k. r.lengths j (omega arith);
  positive = λ j k. r.positive j (omega arith);
  most = λ j k. r.most j (omega arith);
}
