-- The slots of a query. Blank slots are one fill; an answer more takes the place of the first blank slot, by induction over the slots before it.
use mathlib.Core.Path.{◌≡◌, refl, sym, ap, ap₂, subst, ◌∙◌}
use mathlib.Core.List.{List, [], ◌∷◌, ◌++◌, append_assoc, Memᴰ}
use Prim.Native.Nat.{ℕ, zero, suc, ◌+◌, ◌-◌, ◌*◌, ◌≤◌, ◌<◌}
use native.Mathlib.Omega.{arith}
use mathlib.Core.Bool.{not}
use lib.Dec.{eqb}
use lib.ListN.{length, get_or, take, drop, replicate, length-replicate, length-take}
use lib.Seq.{take_at, take-append-add, drop-append-add, drop_at}
use Rattle.lists.specs.Tests.{up_from}
use Rattle.lists.proofs.LoopLaws.{length-map-up_from}
use Rattle.words.specs.Part.{patch, slot}
use Rattle.net.specs.Round.{answered}
use Rattle.net.proofs.Turns.{length-keep}
use Rattle.labels.specs.Field.{no_number}
use Rattle.search_ask.specs.Earlier.{route_in, earlier_in}
use Rattle.labels.specs.Chain.{slot_of}
use Rattle.round.specs.Round.{area_after}
use Rattle.round.proofs.EarlierLaws.{length-slot_of}
use Rattle.query_rounds.specs.Area.{slots, area_with}

replicate-add : (m n v : ℕ) → replicate (m + n) v ≡ replicate m v ++ replicate n v
replicate-add zero n v =
    let e : 0 + n ≡ n = omega arith in
    ap (λ k. replicate k v) e
replicate-add (suc m) n v =
    let e : suc m + n ≡ suc (m + n) = omega arith in
    ap (λ k. replicate k v) e ∙ ap (λ l. v ∷ l) (replicate-add m n v)

pub slots-none : (w k : ℕ) → slots w k [] ≡ replicate (k * w) no_number
unfolding slots
slots-none w zero =
    let e : 0 * w ≡ 0 = omega arith in
    sym (ap (λ n. replicate n no_number) e)
slots-none w (suc k) =
    let e : suc k * w ≡ w + k * w = omega arith in
    ap (λ l. replicate w no_number ++ l) (slots-none w k) ∙ sym (replicate-add w (k * w) no_number) ∙ ap (λ n. replicate n no_number) (sym e)

-- the blank slots of a query
pub area-blank : (w k : ℕ) (area : List ℕ) → patch 0 (k * w) area (replicate (k * w - 0) no_number) ≡ area_with w k area []
unfolding patch area_with
area-blank w k area =
    let e : k * w - 0 ≡ k * w = omega arith in
    ap (λ n. replicate n no_number ++ drop (k * w) area) e ∙ ap (λ l. l ++ drop (k * w) area) (sym (slots-none w k))

-- a change past a front part
patch-past : (xs l ys : List ℕ) (w a e : ℕ) → length xs ≡ w → patch (w + a) (w + e) (xs ++ l) ys ≡ xs ++ patch a e l ys
unfolding patch
patch-past xs l ys w a e h =
    let t : take (w + a) (xs ++ l) ≡ xs ++ take a l = subst (λ n. take (n + a) (xs ++ l) ≡ xs ++ take a l) h (take-append-add xs l a) in
    let d : drop (w + e) (xs ++ l) ≡ drop e l = subst (λ n. drop (n + e) (xs ++ l) ≡ drop e l) h (drop-append-add xs l e) in
    ap₂ (λ x y. x ++ (ys ++ y)) t d ∙ append_assoc xs (take a l) (ys ++ drop e l)

-- an answer more in its slot
pub slots-more : (w k : ℕ) (ps : List (List ℕ)) (p rest : List ℕ) → length ps < k → ((x : List ℕ) → Memᴰ x ps → length x ≤ w)
    → patch (length ps * w) (length ps * w + w) (slots w k ps ++ rest) (slot_of w p) ≡ slots w k (ps ++ (p ∷ [])) ++ rest
unfolding slots patch
slots-more w zero ps p rest h s = absurd (omega arith)
slots-more w (suc k) [] p rest h s =
    let a : 0 * w ≡ 0 = omega arith in
    let e : 0 * w + w ≡ w = omega arith in
    ap₂ (λ i j. patch i j ((replicate w no_number ++ slots w k []) ++ rest) (slot_of w p)) a e
    ∙ ap (λ l. slot_of w p ++ l) (ap (drop w) (append_assoc (replicate w no_number) (slots w k []) rest) ∙ drop_at (replicate w no_number) (slots w k [] ++ rest) w (length-replicate w no_number))
    ∙ sym (append_assoc (slot_of w p) (slots w k []) rest)
slots-more w (suc k) (x ∷ ps) p rest h s =
    let n : length (slot_of w x) ≡ w = length-slot_of w x (s x (Memᴰ.head refl)) in
    let a : suc (length ps) * w ≡ w + length ps * w = omega arith in
    let e : suc (length ps) * w + w ≡ w + (length ps * w + w) = omega arith in
    ap₂ (λ i j. patch i j ((slot_of w x ++ slots w k ps) ++ rest) (slot_of w p)) a e
    ∙ ap (λ l. patch (w + length ps * w) (w + (length ps * w + w)) l (slot_of w p)) (append_assoc (slot_of w x) (slots w k ps) rest)
    ∙ patch-past (slot_of w x) (slots w k ps ++ rest) (slot_of w p) w (length ps * w) (length ps * w + w) n
    ∙ ap (λ l. slot_of w x ++ l) (slots-more w k ps p rest (omega arith) (λ y m. s y (Memᴰ.tail m)))
    ∙ sym (append_assoc (slot_of w x) (slots w k (ps ++ (p ∷ []))) rest)

-- what stands in a slot is no longer than it
route-short : (w j : ℕ) (area : List ℕ) → length (route_in (slot w j area)) ≤ w
unfolding route_in slot
route-short w j area = omega (arith, length-keep (λ x. not (eqb x no_number)) (take w (drop (j * w) area)), length-take w (drop (j * w) area))

earlier-short : (w a n : ℕ) (area : List ℕ) (x : List ℕ) → Memᴰ x (mathlib.Core.List.map (λ j. route_in (slot w j area)) (up_from a n)) → length x ≤ w
unfolding up_from
earlier-short w a zero area x m = absurd (mathlib.Core.List.Memᴰ.not-nil m)
earlier-short w a (suc n) area x (Memᴰ.head e) = subst (λ y. length y ≤ w) (sym e) (route-short w a area)
earlier-short w a (suc n) area x (Memᴰ.tail m) = earlier-short w (suc a) n area x m

pub area-more : (w k r : ℕ) (l area p : List ℕ) (n : ℕ) → r < k → area ≡ area_with w k l (earlier_in w r area) → area_after w r area (answered p n) ≡ area_with w k l (earlier_in w r area ++ (p ∷ []))
unfolding area_with area_after earlier_in
area-more w k r l area p n h e =
    let ps = mathlib.Core.List.map (λ j. route_in (slot w j area)) (up_from 0 r) in
    let m : length ps ≡ r = length-map-up_from (λ j. route_in (slot w j area)) 0 r in
    ap (λ b. patch (r * w) (r * w + w) b (slot_of w p)) e
    ∙ ap (λ i. patch (i * w) (i * w + w) (slots w k ps ++ drop (k * w) l) (slot_of w p)) (sym m)
    ∙ slots-more w k ps p (drop (k * w) l) (omega arith) (λ x i. earlier-short w 0 r area x i)

-- the first slot, and those after it
slot-first : (w : ℕ) (x ss rest : List ℕ) → length x ≤ w → slot w 0 ((slot_of w x ++ ss) ++ rest) ≡ slot_of w x
unfolding slot
slot-first w x ss rest h =
    let z : 0 * w ≡ 0 = omega arith in
    ap (λ i. take w (drop i ((slot_of w x ++ ss) ++ rest))) z ∙ ap (take w) (append_assoc (slot_of w x) ss rest) ∙ take_at (slot_of w x) (ss ++ rest) w (length-slot_of w x h)

slot_next : (w : ℕ) (x ss rest : List ℕ) (j : ℕ) → length x ≤ w → slot w (suc j) ((slot_of w x ++ ss) ++ rest) ≡ slot w j (ss ++ rest)
unfolding slot
slot_next w x ss rest j h =
    let z : suc j * w ≡ length (slot_of w x) + j * w = omega (arith, length-slot_of w x h) in
    ap (λ i. take w (drop i ((slot_of w x ++ ss) ++ rest))) z
    ∙ ap (λ y. take w (drop (length (slot_of w x) + j * w) y)) (append_assoc (slot_of w x) ss rest)
    ∙ ap (take w) (drop-append-add (slot_of w x) (ss ++ rest) (j * w))

blank : (w : ℕ) → replicate w no_number ≡ slot_of w []
blank w =
    let e : w ≡ w - 0 = omega arith in
    ap (λ n. replicate n no_number) e

-- slot j of k slots
pub slots_at : (w k : ℕ) (ps : List (List ℕ)) (rest : List ℕ) (j : ℕ) → ((i : ℕ) → i < length ps → length (get_or ps i []) ≤ w) → j < k
    → slot w j (slots w k ps ++ rest) ≡ slot_of w (get_or ps j [])
unfolding slots slot
slots_at w zero ps rest j s h = absurd (omega arith)
slots_at w (suc k) [] rest zero s h = ap (λ l. slot w 0 ((l ++ slots w k []) ++ rest)) (blank w) ∙ slot-first w [] (slots w k []) rest (omega arith)
slots_at w (suc k) [] rest (suc j) s h =
    ap (λ l. slot w (suc j) ((l ++ slots w k []) ++ rest)) (blank w) ∙ slot_next w [] (slots w k []) rest j (omega arith) ∙ slots_at w k [] rest j s (omega arith)
slots_at w (suc k) (x ∷ ps) rest zero s h = slot-first w x (slots w k ps) rest (s 0 (omega arith))
slots_at w (suc k) (x ∷ ps) rest (suc j) s h = slot_next w x (slots w k ps) rest j (s 0 (omega arith)) ∙ slots_at w k ps rest j (λ i m. s (suc i) (omega arith)) (omega arith)

-- each slot of a query is blank at first
pub blank-at : (w k : ℕ) (area a : List ℕ) → a ≡ patch 0 (k * w) area (replicate (k * w - 0) no_number) → (j : ℕ) → j < k → slot w j a ≡ replicate w no_number
unfolding area_with
blank-at w k area a e j h = ap (slot w j) (e ∙ area-blank w k area) ∙ slots_at w k [] (drop (k * w) area) j (λ i m. absurd (omega arith)) h ∙ sym (blank w)
