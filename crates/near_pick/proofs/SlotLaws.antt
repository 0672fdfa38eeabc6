-- A slot whose blank words stand behind its numbers is the slot of its route; so routes copied slot by slot stand as `area_with` lays them out.
use mathlib.Core.Path.{◌≡◌, refl, sym, ap, ap₂, subst, ◌∙◌}
use mathlib.Core.Bool.{not}
use mathlib.Core.List.Memᴰ
use mathlib.Core.List.{List, [], ◌∷◌, ◌++◌, map-append, append-nil, append_assoc, Memᴰ}
use Prim.Native.Nat.{ℕ, zero, suc, ◌+◌, ◌-◌, ◌*◌, ◌≤◌, ◌<◌}
use native.Mathlib.Omega.{arith}
use native.Mathlib.Decide.{ℕ_discrete}
use native.Mathlib.Nat.{mul-le-mul_right}
use native.Mathlib.Numerals.{add-one}
use lib.Dec.{eqb}
use lib.ListN.{length, get_or, take, drop, replicate, length-take, length-append, length-drop, length-map, take-append-drop}
use lib.Seq.{take_at, take-suc, take_all, length-take-le, drop-append-add, drop-drop}
use borrow.Author.Tests.{eq-eqb, ne_eqb}
use Rattle.lists.specs.Tests.{keep, cons_if, up_from}
use Rattle.lists.proofs.MemberLaws.{length-up_from}
use Rattle.words.specs.Part.{patch, slot}
use Rattle.net.proofs.Turns.{length-keep}
use Rattle.labels.specs.Field.{no_number}
use Rattle.labels.specs.Chain.{slot_of}
use Rattle.search_ask.specs.Earlier.{route_in, earlier_in, Formed}
use Rattle.round.proofs.EarlierLaws.{length-slot_of}
use Rattle.query_rounds.specs.Area.{slots, area_with}
use Rattle.route_list.specs.Listed.{Listed}
use Rattle.near_pick.specs.Pick.{routes_at, Fits}

-- ---- a slot is the slot of its route

tail-formed : (x : ℕ) (l : List ℕ) → Formed (x ∷ l) → Formed l
tail-formed x l f i j h k e = f (suc i) (suc j) (omega arith) (omega arith) e

all-blank : (l : List ℕ) → ((j : ℕ) → j < length l → get_or l j 0 ≡ no_number) → (route_in l ≡ []) × (l ≡ replicate (length l) no_number)
unfolding route_in keep cons_if
all-blank [] h = (refl, refl)
all-blank (x ∷ l) h =
    let e : x ≡ no_number = h 0 (omega arith) in
    let r = all-blank l (λ j k. h (suc j) (omega arith)) in
    (rw (eq-eqb x no_number e) r.0, ap₂ ◌∷◌ e r.1)

pub formed-slot : (l : List ℕ) → Formed l → slot_of (length l) (route_in l) ≡ l
unfolding route_in keep cons_if
formed-slot [] f = refl
formed-slot (x ∷ l) f = go (ℕ_discrete x no_number) (formed-slot l (tail-formed x l f))
  where
    go : Dec (x ≡ no_number) → slot_of (length l) (route_in l) ≡ l → slot_of (suc (length l)) (route_in (x ∷ l)) ≡ x ∷ l
    go (yes e) again =
        let b = all-blank (x ∷ l) (λ j h. f 0 j (omega arith) h e) in
        ap (slot_of (suc (length l))) b.0 ∙ ap (λ n. replicate n no_number) all ∙ sym b.1
      where
        all : suc (length l) - 0 ≡ suc (length l)
        all = omega arith
    go (no e) again =
        rw (ne_eqb x no_number e) (ap (λ n. x ∷ (route_in l ++ replicate n no_number)) (less (length l) (length (route_in l))) ∙ ap (λ z. x ∷ z) again)
      where
        less : (a b : ℕ) → suc a - suc b ≡ a - b
        less a b = omega arith

-- as many words as places
pub slot-words : (w r : ℕ) (l : List ℕ) → r * w + w ≤ length l → length (slot w r l) ≡ w
unfolding slot
slot-words w r l h = length-take-le w (drop (r * w) l) (omega (arith, length-drop (r * w) l))

-- ---- one slot more

slots-more : (w j : ℕ) (ps : List (List ℕ)) (p : List ℕ) → length ps ≡ j → slots w (suc j) (ps ++ (p ∷ [])) ≡ slots w j ps ++ slot_of w p
unfolding slots
slots-more w zero [] p e = append-nil (slot_of w p)
slots-more w zero (x ∷ ps) p e = absurd (omega arith)
slots-more w (suc j) [] p e = absurd (omega arith)
slots-more w (suc j) (x ∷ ps) p e = ap (λ z. slot_of w x ++ z) (slots-more w j ps p (omega arith)) ∙ sym (append_assoc (slot_of w x) (slots w j ps) (slot_of w p))

length-slots : (w j : ℕ) (ps : List (List ℕ)) → length ps ≡ j → ((p : List ℕ) → Memᴰ p ps → length p ≤ w) → length (slots w j ps) ≡ j * w
unfolding slots
length-slots w zero ps e h = omega arith
length-slots w (suc j) [] e h = absurd (omega arith)
length-slots w (suc j) (p ∷ ps) e h =
    omega (arith, length-append (slot_of w p) (slots w j ps), length-slot_of w p (h p (Memᴰ.head refl)), length-slots w j ps (omega arith) (λ q m. h q (Memᴰ.tail m)))

-- the area with the first j routes in their slots
abbrev pub at_turn : ℕ → List ℕ → List ℕ → List ℕ → ℕ → List ℕ
at_turn w list ranks area j = area_with w j area (routes_at w list (take j ranks))

module _ (w : ℕ) (list ranks area : List ℕ) (fits : Fits w list ranks area) where
  short : (j : ℕ) (p : List ℕ) → Memᴰ p (routes_at w list (take j ranks)) → length p ≤ w
  unfolding route_in slot
  short j p m =
      let o = Memᴰ.of_map (λ r. route_in (slot w r list)) (take j ranks) m in
      omega (arith, ap length o.2, length-keep (λ x. not (eqb x no_number)) (slot w o.0 list), length-take w (drop (o.0 * w) list))

  pub turn-first : at_turn w list ranks area 0 ≡ area
  unfolding area_with slots
  turn-first = let e : 0 * w ≡ 0 = omega arith in ap (λ k. drop k area) e

  pub turn-next : (j : ℕ) → j < length ranks → patch (j * w) (j * w + w) (at_turn w list ranks area j) (slot w (get_or ranks j 0) list) ≡ at_turn w list ranks area (j + 1)
  unfolding area_with patch
  turn-next j h =
      let ps = routes_at w list (take j ranks) in
      let p = route_in (slot w (get_or ranks j 0) list) in
      let few : length ps ≡ j = length-map (take j ranks) (λ r. route_in (slot w r list)) ∙ length-take-le j ranks (omega arith) in
      let long : length (slots w j ps) ≡ j * w = length-slots w j ps few (short j) in
      let is : slot w (get_or ranks j 0) list ≡ slot_of w p = sym (formed-slot (slot w (get_or ranks j 0) list) (fits.formed j h)) ∙ ap (λ n. slot_of n p) (slot-words w (get_or ranks j 0) list (fits.ranked j h)) in
      let front : take (j * w) (at_turn w list ranks area j) ≡ slots w j ps = take_at (slots w j ps) (drop (j * w) area) (j * w) long in
      let on : drop (j * w + w) (at_turn w list ranks area j) ≡ drop (j * w + w) area =
      ap (λ n. drop (n + w) (slots w j ps ++ drop (j * w) area)) (sym long) ∙ drop-append-add (slots w j ps) (drop (j * w) area) w ∙ drop-drop w (j * w) area in
      let more : routes_at w list (take (j + 1) ranks) ≡ ps ++ (p ∷ []) =
      ap (λ n. routes_at w list (take n ranks)) (add-one j) ∙ ap (routes_at w list) (take-suc ranks j 0 h) ∙ map-append (λ r. route_in (slot w r list)) (take j ranks) (get_or ranks j 0 ∷ []) in
      let z : j * w + w ≡ (j + 1) * w = omega arith in
      ap₂ (λ x y. x ++ (slot w (get_or ranks j 0) list ++ y)) front on
      ∙ ap (λ x. slots w j ps ++ (x ++ drop (j * w + w) area)) is
      ∙ sym (append_assoc (slots w j ps) (slot_of w p) (drop (j * w + w) area))
      ∙ ap (λ x. x ++ drop (j * w + w) area) (sym (slots-more w j ps p few))
      ∙ ap₂ (λ x y. x ++ drop y area) (ap₂ (slots w) (sym (add-one j)) (sym more)) z

  pub turn_last : (j : ℕ) → length ranks ≤ j → j ≤ length ranks → at_turn w list ranks area j ≡ area_with w (length ranks) area (routes_at w list ranks)
  unfolding area_with
  turn_last j h k =
      let e : j ≡ length ranks = omega arith in
      ap₂ (λ x y. area_with w x area (routes_at w list y)) e (take_all j ranks h)

get_or-up_from : (i n j : ℕ) → j < n → get_or (up_from i n) j 0 ≡ i + j
unfolding up_from
get_or-up_from i zero j h = absurd (omega arith)
get_or-up_from i (suc n) zero h = omega arith
get_or-up_from i (suc n) (suc j) h = get_or-up_from (suc i) n j (omega arith) ∙ omega arith

-- ---- a list of routes is slot after slot the routes that stand in it

patch-own : (w r : ℕ) (l : List ℕ) → patch (r * w) (r * w + w) l (slot w r l) ≡ l
unfolding patch slot
patch-own w r l =
    ap (λ x. take (r * w) l ++ (take w (drop (r * w) l) ++ x)) (sym (drop-drop w (r * w) l)) ∙ ap (λ x. take (r * w) l ++ x) (take-append-drop w (drop (r * w) l)) ∙ take-append-drop (r * w) l

module _ (t : List ℕ) (w n : ℕ) (l : List ℕ) (h : Listed t w n l) where
  own : Fits w l (up_from 0 n) l
  own =
      record {
        ranked = λ j k. let i = rank j (omega (arith, length-up_from 0 n)) in omega (arith, mul-le-mul_right w (next j i (omega (arith, length-up_from 0 n))), h.slots);
        formed = λ j k. let m : j < n = omega (arith, length-up_from 0 n) in subst (λ r. Formed (slot w r l)) (sym (rank j m)) (h.words j m).formed;
        words = omega (arith, ap (λ k. k * w) (length-up_from 0 n), h.slots);
      }
    where
      rank : (j : ℕ) → j < n → get_or (up_from 0 n) j 0 ≡ j
      rank j k = get_or-up_from 0 n j k ∙ omega arith

      next : (j : ℕ) → get_or (up_from 0 n) j 0 ≡ j → j < n → get_or (up_from 0 n) j 0 + 1 ≤ n
      next j e k = omega arith

  turns : (j : ℕ) → j ≤ n → at_turn w l (up_from 0 n) l j ≡ l
  turns zero k = turn-first w l (up_from 0 n) l own
  turns (suc j) k =
      ap (at_turn w l (up_from 0 n) l) (sym (add-one j))
      ∙ sym (turn-next w l (up_from 0 n) l own j (omega (arith, length-up_from 0 n)))
      ∙ ap₂ (λ x r. patch (j * w) (j * w + w) x (slot w r l)) (turns j (omega arith)) (get_or-up_from 0 n j (omega arith) ∙ omega arith)
      ∙ patch-own w j l

  pub listed-slots : (b : List ℕ) → drop (n * w) l ≡ drop (n * w) b → l ≡ area_with w n b (earlier_in w n l)
  unfolding area_with earlier_in
  listed-slots b e =
      sym (turns n (omega arith))
      ∙ ap (λ r. area_with w n l (routes_at w l r)) (take_all n (up_from 0 n) (omega (arith, length-up_from 0 n)))
      ∙ ap (λ x. slots w n (routes_at w l (up_from 0 n)) ++ x) e
