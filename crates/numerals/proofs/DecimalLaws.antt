-- The digits of a number, and the number of digits. With enough places the number of places does not matter, so all but the last digit are
-- the digits of a tenth; by that the digits of a number have its value, and lead with no zero but for 0. Read back, they are the number. The
-- other way each digit more makes the number ten times as large, so digits that lead with no zero are those of their value.
use mathlib.Core.Path.{◌≡◌, refl, sym, ap, subst, ◌∙◌}
use mathlib.Core.Bool.{Bool, true, false, ◌&&◌}
use mathlib.Core.List.{List, [], ◌∷◌, ◌++◌, append_assoc, append-nil, Memᴰ}
use mathlib.Core.Logic.{⊎_elim}
use mathlib.Core.Option.{some}
use Prim.Native.Nat.{ℕ, zero, suc, ◌+◌, ◌-◌, ◌*◌, ◌/◌, ◌%◌, ◌^◌, ◌≤◌, ◌<◌}
use native.Mathlib.Nat.{pow-suc, mod-eq_of_lt}
use native.Mathlib.Omega.{arith}
use lib.Arith.{digits_div, digits_mod}
use lib.Dec.{T, ltb, leb, eqb}
use lib.ListN.{length, get_or, take, length-append, get_or-append}
use borrow.Author.Tests.{ltb-true, ltb-false, leb-true, eqb-false, not-true, lt-ltb, le-ltb, le-leb, ne_eqb}
use Rattle.lists.specs.Tests.{every}
use Rattle.lists.proofs.Cases.{cases, order}
use Rattle.lists.proofs.TestLaws.{every-e}
use Rattle.numerals.specs.Decimal.{most_number, is_digit, digits, value_after, value, well_formed, Number, number_of, number, decimal_in, decimal}

-- ---- a digit

both : (x y : Bool) → (x && y) ≡ true → (x ≡ true) × (y ≡ true)
both true y e = (refl, e)
both false y e = absurd (let z : ◌≡◌ {A = ℕ} 0 1 = cc in omega arith)

is_true : (b : Bool) → T b → b ≡ true
is_true true h = refl
is_true false h = absurd h

pub digit-e : (b : ℕ) → is_digit b ≡ true → (48 ≤ b) × (b ≤ 57)
digit-e b e =
    let p = both (leb 48 b) (leb b 57) e in
    (leb-true 48 b p.0, leb-true b 57 p.1)

pub digit-i : (b : ℕ) → 48 ≤ b → b ≤ 57 → is_digit b ≡ true
digit-i b h k = rw (le-leb 48 b h, le-leb b 57 k)

-- ---- the places do not matter

enough : (f n : ℕ) → n < 10 ^ suc f → decimal_in (suc f) n ≡ decimal_in f n
unfolding decimal_in
enough zero n h =
    let g : n < 10 = omega (arith, pow-suc 10 0) in
    rw (lt-ltb n 10 g, mod-eq_of_lt g)
enough (suc f) n h =
    ⊎_elim
    (λ e. rw e)
    (λ e. rw e (ap (λ l. l ++ ((48 + n % 10) ∷ [])) (enough f (n / 10) (omega (arith, pow-suc 10 (suc f))))))
    (cases (ltb n 10))

pub decimal-one : (v : ℕ) → v < 10 → decimal v ≡ (48 + v) ∷ []
unfolding decimal decimal_in
decimal-one v h = rw (lt-ltb v 10 h)

first-in : (f v : ℕ) → 10 ≤ v → decimal_in (suc f) v ≡ decimal_in f (v / 10) ++ ((48 + v % 10) ∷ [])
unfolding decimal_in
first-in f v h = rw (le-ltb v 10 h)

more-in : (f v : ℕ) → 10 ≤ v → v < 10 ^ suc (suc f) → decimal_in (suc f) v ≡ decimal_in (suc f) (v / 10) ++ ((48 + v % 10) ∷ [])
more-in f v h k =
    first-in f v h ∙ ap (λ l. l ++ ((48 + v % 10) ∷ [])) (sym (enough f (v / 10) (omega (arith, pow-suc 10 (suc f)))))

pub decimal-more : (v : ℕ) → 10 ≤ v → v < 2 ^ 64 → decimal v ≡ decimal (v / 10) ++ ((48 + v % 10) ∷ [])
unfolding decimal
decimal-more v h k = more-in 18 v h (omega arith)

-- ---- how many, and which

length-in : (f v : ℕ) → (1 ≤ length (decimal_in f v)) × (length (decimal_in f v) ≤ suc f)
unfolding decimal_in
length-in zero v = omega arith
length-in (suc f) v =
    ⊎_elim (λ e. rw e (omega arith)) (λ e. rw e (simp length-append (omega (arith, length-in f (v / 10))))) (cases (ltb v 10))

pub decimal-length : (v : ℕ) → (1 ≤ length (decimal v)) × (length (decimal v) ≤ 20)
unfolding decimal
decimal-length v = length-in 19 v

every-snoc : (l : List ℕ) (b : ℕ) → every is_digit l ≡ true → is_digit b ≡ true → every is_digit (l ++ (b ∷ [])) ≡ true
unfolding every
every-snoc [] b h d = rw d
every-snoc (x ∷ l) b h d =
    let p = both (is_digit x) (every is_digit l) h in
    rw p.0 (every-snoc l b p.1 d)

digits_in : (f v : ℕ) → every is_digit (decimal_in f v) ≡ true
unfolding decimal_in every
digits_in zero v = rw (digit-i (48 + v % 10) (omega arith) (omega arith))
digits_in (suc f) v =
    ⊎_elim
    (λ e. rw e (rw (digit-i (48 + v) (omega arith) (omega (arith, ltb-true v 10 e)))))
    (λ e. rw e (every-snoc (decimal_in f (v / 10)) (48 + v % 10) (digits_in f (v / 10)) (digit-i (48 + v % 10) (omega arith) (omega arith))))
    (cases (ltb v 10))

pub decimal-digits : (v : ℕ) → every is_digit (decimal v) ≡ true
unfolding decimal
decimal-digits v = digits_in 19 v

-- each byte of it is a digit
pub decimal-bytes : (v b : ℕ) → Memᴰ b (decimal v) → (48 ≤ b) × (b ≤ 57)
decimal-bytes v b m = digit-e b (is_true (is_digit b) (every-e is_digit (subst T (sym (decimal-digits v)) tt) m))

-- ---- their value

value-append : (n : ℕ) (l m : List ℕ) → value_after n (l ++ m) ≡ value_after (value_after n l) m
unfolding value_after
value-append n [] m = refl
value-append n (b ∷ l) m = value-append (n * 10 + (b - 48)) l m

value_in : (f v : ℕ) → v < 10 ^ suc f → value_after 0 (decimal_in f v) ≡ v
unfolding decimal_in value_after
value_in zero v h = omega (arith, pow-suc 10 0)
value_in (suc f) v h =
    ⊎_elim
    (λ e. rw e (omega arith))
    (λ e. rw (e, value-append 0 (decimal_in f (v / 10)) ((48 + v % 10) ∷ []), value_in f (v / 10) (omega (arith, pow-suc 10 (suc f)))) (omega arith))
    (cases (ltb v 10))

pub decimal-value : (v : ℕ) → v < 2 ^ 64 → value (decimal v) ≡ v
unfolding decimal value
decimal-value v h = value_in 19 v (omega arith)

-- ---- no zero leads

leads-in : (f v : ℕ) → 1 ≤ v → v < 10 ^ suc f → 49 ≤ get_or (decimal_in f v) 0 0
unfolding decimal_in
leads-in zero v h k = omega (arith, pow-suc 10 0)
leads-in (suc f) v h k =
    ⊎_elim
    (λ e. rw e (omega arith))
    (λ e.
    let g = ltb-false v 10 e in
    let o = length-in f (v / 10) in
    rw (e, get_or-append (decimal_in f (v / 10)) ((48 + v % 10) ∷ []) 0 0 o.0) (leads-in f (v / 10) (omega arith) (omega (arith, pow-suc 10 (suc f)))))
    (cases (ltb v 10))

leads : (v : ℕ) → 1 ≤ v → v < 2 ^ 64 → 49 ≤ get_or (decimal v) 0 0
unfolding decimal
leads v h k = leads-in 19 v h (omega arith)

pub well-formed-lead : (ds : List ℕ) → 49 ≤ get_or ds 0 0 → well_formed ds ≡ true
unfolding well_formed
well-formed-lead [] h = absurd (omega arith)
well-formed-lead (b ∷ []) h = refl
well-formed-lead (b ∷ d ∷ ds) h = rw (ne_eqb b 48 (λ e. omega arith))

pub decimal-well-formed : (v : ℕ) → v < 2 ^ 64 → well_formed (decimal v) ≡ true
unfolding well_formed
decimal-well-formed v h =
    ⊎_elim
    (λ z. rw (decimal-one v (omega arith)))
    (λ p. well-formed-lead (decimal v) (leads v p h))
    (order v 0)

-- ---- written, then read

pub digits_append : (l m : List ℕ) → every is_digit l ≡ true → digits (l ++ m) ≡ l ++ digits m
unfolding every digits
digits_append [] m h = refl
digits_append (b ∷ l) m h =
    let p = both (is_digit b) (every is_digit l) h in
    rw p.0 (ap (λ x. b ∷ x) (digits_append l m p.1))

-- a number of good digits that is not too large
pub number-of : (l : List ℕ) → well_formed (digits l) ≡ true → value (digits l) ≤ most_number → number l ≡ some (record { is = value (digits l); takes = length (digits l) })
unfolding number number_of
number-of l w h = rw (w, le-leb (value (digits l)) most_number h)

pub number-decimal : (v : ℕ) (rest : List ℕ) → v ≤ most_number → digits rest ≡ [] → number (decimal v ++ rest) ≡ some (record { is = v; takes = length (decimal v) })
number-decimal v rest h e =
    let d : digits (decimal v ++ rest) ≡ decimal v = digits_append (decimal v) rest (decimal-digits v) ∙ ap (λ x. decimal v ++ x) e ∙ append-nil (decimal v) in
    let w = decimal-value v (omega arith) in
    let n = number-of (decimal v ++ rest) (rw d (decimal-well-formed v (omega arith))) (rw d (omega (arith, w))) in
    n ∙ rw (d, w)

-- ---- read, then written

-- more digits make the number no smaller
pub value_grows : (n : ℕ) (ds : List ℕ) → n ≤ value_after n ds
unfolding value_after
value_grows n [] = omega arith
value_grows n (b ∷ ds) = omega (arith, value_grows (n * 10 + (b - 48)) ds)

next-digit : (n b : ℕ) → 1 ≤ n → 48 ≤ b → b ≤ 57 → n * 10 + (b - 48) < 2 ^ 64 → decimal (n * 10 + (b - 48)) ≡ decimal n ++ (b ∷ [])
next-digit n b h i j k =
    let r : b - 48 < 10 = omega arith in
    let s : 48 + (b - 48) ≡ b = omega arith in
    decimal-more (n * 10 + (b - 48)) (omega arith) k ∙ rw (digits_div n r, digits_mod n r, s)

written_after : (n : ℕ) (ds : List ℕ) → 1 ≤ n → every is_digit ds ≡ true → value_after n ds < 2 ^ 64 → decimal (value_after n ds) ≡ decimal n ++ ds
unfolding value_after every
written_after n [] h d k = sym (append-nil (decimal n))
written_after n (b ∷ ds) h d k =
    let p = both (is_digit b) (every is_digit ds) d in
    let r = digit-e b p.0 in
    let g = value_grows (n * 10 + (b - 48)) ds in
    written_after (n * 10 + (b - 48)) ds (omega arith) p.1 k
    ∙ ap (λ x. x ++ ds) (next-digit n b h r.0 r.1 (omega arith))
    ∙ append_assoc (decimal n) (b ∷ []) ds

-- digits that lead with no zero are the digits of their value
pub value-decimal : (ds : List ℕ) → well_formed ds ≡ true → every is_digit ds ≡ true → value ds < 2 ^ 64 → decimal (value ds) ≡ ds
unfolding value value_after well_formed every
value-decimal [] w d k = absurd (let z : ◌≡◌ {A = ℕ} 0 1 = cc in omega arith)
value-decimal (b ∷ []) w d k =
    let r = digit-e b (both (is_digit b) true d).0 in
    let e : 0 * 10 + (b - 48) ≡ b - 48 = omega arith in
    let s : 48 + (b - 48) ≡ b = omega arith in
    rw (e, decimal-one (b - 48) (omega arith), s)
value-decimal (b ∷ x ∷ ds) w d k =
    let p = both (is_digit b) (every is_digit (x ∷ ds)) d in
    let r = digit-e b p.0 in
    let e : 0 * 10 + (b - 48) ≡ b - 48 = omega arith in
    let s : 48 + (b - 48) ≡ b = omega arith in
    let ne = eqb-false b 48 (not-true (eqb b 48) w) in
    let g : 49 ≤ b = ⊎_elim (λ o. absurd (ne (omega arith))) (λ o. o) (order b 48) in
    ap (λ n. decimal (value_after n (x ∷ ds))) e
    ∙ written_after (b - 48) (x ∷ ds) (omega arith) p.1 (rw e at k)
    ∙ rw (decimal-one (b - 48) (omega arith), s)

digits-all : (l : List ℕ) → every is_digit (digits l) ≡ true
unfolding digits every
digits-all [] = refl
digits-all (b ∷ l) = ⊎_elim (λ e. rw e (rw e (digits-all l))) (λ e. rw e) (cases (is_digit b))

take-digits : (l : List ℕ) → take (length (digits l)) l ≡ digits l
unfolding digits
take-digits [] = refl
take-digits (b ∷ l) = ⊎_elim (λ e. rw e (ap (λ x. b ∷ x) (take-digits l))) (λ e. rw e) (cases (is_digit b))

-- what a number that was read says of the text
pub number-e : (l : List ℕ) (n : Number) → number l ≡ some n → (well_formed (digits l) ≡ true) × (value (digits l) ≤ most_number) × (n.is ≡ value (digits l)) × (n.takes ≡ length (digits l))
unfolding number number_of
number-e l n h =
    ⊎_elim
    (λ e.
    let p = both (well_formed (digits l)) (leb (value (digits l)) most_number) e in
    let s = rw e at h in
    (p.0, leb-true (value (digits l)) most_number p.1, cc, cc))
    (λ e.
    let s = rw e at h in
    absurd (let z : ◌≡◌ {A = ℕ} 0 1 = cc in omega arith))
    (cases (well_formed (digits l) && leb (value (digits l)) most_number))

pub number-written : (l : List ℕ) (n : Number) → number l ≡ some n → take n.takes l ≡ decimal n.is
number-written l n h =
    let k = number-e l n h in
    rw (k.2, k.3) (take-digits l ∙ sym (value-decimal (digits l) k.0 (digits-all l) (omega (arith, k.1))))
