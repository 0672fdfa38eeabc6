-- What the scan makes of the numbers of a line. While a number is read, the digits that are left decide: after a zero that leads, or with a value too large, the line is
-- spoilt, and else the value of all is in hand where they end (`digits-read`). There the line ends, or a space brings the next number. So the scan of n more numbers
-- gives what `numbers_in` gives (`numbers-read`), by induction over n. Throughout k is the kind of the line, a the place after its start, f and s are the two numbers
-- before the one in hand, n is how many follow it, g whether it has a digit, and v its value.
use mathlib.Core.Path.{◌≡◌, refl, sym, ap, ◌∙◌}
use mathlib.Core.Bool.{Bool, true, false, not, ◌&&◌, cond}
use mathlib.Core.List.{List, [], ◌∷◌}
use mathlib.Core.Logic.{◌⊎◌, inl, inr, ⊎_elim}
use mathlib.Core.Option.{Option, none, some}
use Prim.Native.Nat.{ℕ, zero, suc, ◌+◌, ◌-◌, ◌*◌, ◌≤◌, ◌<◌}
use native.Mathlib.Numerals.{add-one}
use native.Mathlib.Omega.{arith}
use lib.Dec.{ltb, leb, eqb, eqb-zero-suc, eqb-suc-zero, eqb-suc-suc}
use lib.ListN.{length, get_or, drop}
use borrow.Author.Tests.{leb-true, leb-false, eqb-true, eqb-false, lt-ltb, le-leb, lt-leb, eq-eqb, ne_eqb}
use Rattle.lists.proofs.Cases.{cases}
use Rattle.numerals.specs.Decimal.{most_number, is_digit, digits, value_after, value, well_formed, Number, number_of, number}
use Rattle.numerals.proofs.DecimalLaws.{digit-e, value_grows}
use Rattle.road_line.specs.Line.{Line, other, prepend, last_number, with_number, past, numbers_in}
use Rattle.road_line.specs.Scan.{expected_at, unknown, numbered, commented, spoilt, grown_by, with_digit, with_space, number_byte, scan_byte, scan_from, whole_of, read_of}
use Rattle.road_line.specs.declared.Kind.{Kind}
use Rattle.road_line.specs.declared.Scan.{Scan}
use Rattle.road_line.proofs.EndingLaws.{ending, moves, spoils}
use Rattle.road_line.proofs.NumbersLaws.{Sized, numbers-sized}

-- ---- a state in the numbers of a line

abbrev pub reading : Kind → ℕ → ℕ → ℕ → ℕ → Bool → ℕ → Scan
reading k a f s n g v = record { kind = k; at = a; left = n; begun = g; value = v; first = f; second = s }

-- the line whose last number is v
abbrev pub answer : Kind → ℕ → ℕ → ℕ → ℕ → Line
answer k a f s v = whole_of (reading k a f s 0 true v)

-- the line, where the number v in hand takes m bytes of l and n more are to come
next : Kind → ℕ → ℕ → ℕ → ℕ → ℕ → ℕ → List ℕ → Line
next k a f s zero v m l = cond (eqb m (length l)) (answer k a f s v) other
next k a f s (suc n) v m l = cond (eqb (get_or l m 0) 32) (ending (reading k a s v n false 0) (drop (m + 1) l)) other

next_more : (k : Kind) (a f s n v m b : ℕ) (l : List ℕ) → next k a f s n v (suc m) (b ∷ l) ≡ next k a f s n v m l
unfolding next
next_more k a f s zero v m b l = rw (eqb-suc-suc m (length l))
next_more k a f s (suc n) v m b l = rw (add-one (suc m), add-one m)

-- digits may follow a number so far, if it is not a zero
goes : ℕ → List ℕ → Bool
goes v [] = true
goes v (d ∷ ds) = not (eqb v 0)

goes_on : (v : ℕ) (ds : List ℕ) → eqb v 0 ≡ false → goes v ds ≡ true
unfolding goes
goes_on v [] e = refl
goes_on v (d ∷ ds) e = rw e

formed-goes : (b : ℕ) (ds : List ℕ) → 48 ≤ b → well_formed (b ∷ ds) ≡ goes (b - 48) ds
unfolding goes well_formed
formed-goes b [] h = refl
formed-goes b (d ∷ ds) h =
    ap not
    (⊎_elim
    (λ e. e ∙ sym (eq-eqb (b - 48) 0 (omega (arith, eqb-true b 48 e))))
    (λ e. e ∙ sym (ne_eqb (b - 48) 0 (λ z. eqb-false b 48 e (omega arith))))
    (cases (eqb b 48)))

grown-led : (v b : ℕ) → eqb v 0 ≡ true → grown_by true v b ≡ most_number + 1
unfolding grown_by
grown-led v b z = rw z

grown-more : (v b : ℕ) → eqb v 0 ≡ false → grown_by true v b ≡ v * 10 + (b - 48)
unfolding grown_by
grown-more v b z = rw z

-- the line, where the digits at the front of l end the number v so far
due : Kind → ℕ → ℕ → ℕ → ℕ → ℕ → List ℕ → Line
unfolding goes next
due k a f s n v l = cond (goes v (digits l) && leb (value_after v (digits l)) most_number) (next k a f s n (value_after v (digits l)) (length (digits l)) l) other

due-digit : (k : Kind) (a f s n v b : ℕ) (l : List ℕ) → is_digit b ≡ true
    → due k a f s n v (b ∷ l)
    ≡ cond (not (eqb v 0) && leb (value_after (v * 10 + (b - 48)) (digits l)) most_number) (next k a f s n (value_after (v * 10 + (b - 48)) (digits l)) (length (digits l)) l) other
unfolding due digits goes value_after
due-digit k a f s n v b l d = rw d (rw (next_more k a f s n (value_after (v * 10 + (b - 48)) (digits l)) (length (digits l)) b l))

due-on : (k : Kind) (a f s n w : ℕ) (l : List ℕ) → eqb w 0 ≡ false → due k a f s n w l ≡ cond (leb (value_after w (digits l)) most_number) (next k a f s n (value_after w (digits l)) (length (digits l)) l) other
unfolding due
due-on k a f s n w l e = rw (goes_on w (digits l) e)

due-end : (k : Kind) (a f s n v b : ℕ) (l : List ℕ) → is_digit b ≡ false → v ≤ most_number → due k a f s n v (b ∷ l) ≡ next k a f s n v 0 (b ∷ l)
unfolding due digits goes value_after
due-end k a f s n v b l d h = rw d (rw (le-leb v most_number h))

-- the line, where the number at the front of l comes next
with_read : Kind → ℕ → ℕ → ℕ → ℕ → List ℕ → Option Number → Line
unfolding next
with_read k a f s n l none = other
with_read k a f s n l (some x) = next k a f s n x.is x.takes l

-- the line of the numbers that are left, after f and s
unfoldable pub final : Kind → ℕ → ℕ → ℕ → List ℕ → Line
final k a f s [] = other
final k a f s (v ∷ []) = answer k a f s v
final k a f s (v ∷ w ∷ vs) = final k a s v (w ∷ vs)

unfoldable pub line_for : Kind → ℕ → ℕ → ℕ → Option (List ℕ) → Line
unfolding final
line_for k a f s none = other
line_for k a f s (some vs) = final k a f s vs

-- a number at the front of l, by its first digit and those after it
number_digits : (b : ℕ) (l : List ℕ) → is_digit b ≡ true → number (b ∷ l) ≡ number_of (b ∷ digits l)
unfolding number digits
number_digits b l d = rw d

number-goes : (b : ℕ) (ds : List ℕ) → 48 ≤ b
    → number_of (b ∷ ds) ≡ cond (goes (b - 48) ds && leb (value_after (b - 48) ds) most_number) (some (record { is = value_after (b - 48) ds; takes = suc (length ds) })) none
unfolding number_of value value_after
number-goes b ds h =
    let e : 0 * 10 + (b - 48) ≡ b - 48 = omega arith in
    rw (formed-goes b ds h) (rw e)

due-number : (k : Kind) (a f s n b : ℕ) (l : List ℕ) → is_digit b ≡ true → due k a f s n (b - 48) l ≡ with_read k a f s n (b ∷ l) (number (b ∷ l))
unfolding due with_read
due-number k a f s n b l d =
    let w = value_after (b - 48) (digits l) in
    rw (number_digits b l d, number-goes b (digits l) (digit-e b d).0)
    (⊎_elim (λ t. rw t (sym (next_more k a f s n w (length (digits l)) b l))) (λ t. rw t) (cases (goes (b - 48) (digits l) && leb w most_number)))

-- ---- the numbers in a row

-- a number more before others
line-shift : (k : Kind) (a f s v n : ℕ) (o : Option (List ℕ)) → Sized (suc n) o → line_for k a s v o ≡ line_for k a f s (prepend v o)
unfolding line_for final prepend
line-shift k a f s v n none h = refl
line-shift k a f s v n (some []) h = absurd (omega arith)
line-shift k a f s v n (some (w ∷ vs)) h = refl

-- ---- the numbers of a line are scanned

module _ (k : Kind) (a : ℕ) (known : unknown k ≡ false) (whole : expected_at k a ≡ 256) (few : numbered k ≡ true) (plain : commented k ≡ false) where
  byte-is : (f s n v b : ℕ) (g : Bool) → scan_byte (reading k a f s n g v) b ≡ number_byte (reading k a f s n g v) b
  unfolding scan_byte
  byte-is f s n v b g = rw (known, whole, few)

  digit-is : (f s n v b : ℕ) (g : Bool) → is_digit b ≡ true → scan_byte (reading k a f s n g v) b ≡ with_digit (reading k a f s n g v) b
  unfolding number_byte
  digit-is f s n v b g d = byte-is f s n v b g ∙ rw (ne_eqb b 32 (λ z. omega (arith, digit-e b d)), d)

  digit-kept : (f s n v b : ℕ) (g : Bool) (w : ℕ) → is_digit b ≡ true → grown_by g v b ≡ w → leb w most_number ≡ true → scan_byte (reading k a f s n g v) b ≡ reading k a f s n true w
  unfolding with_digit
  digit-kept f s n v b g w d e t = digit-is f s n v b g d ∙ rw (e, t)

  digit-lost : (f s n v b : ℕ) (g : Bool) (w : ℕ) → is_digit b ≡ true → grown_by g v b ≡ w → leb w most_number ≡ false → scan_byte (reading k a f s n g v) b ≡ spoilt
  unfolding with_digit
  digit-lost f s n v b g w d e t = digit-is f s n v b g d ∙ rw (e, t)

  space-next : (f s n v b : ℕ) → eqb b 32 ≡ true → scan_byte (reading k a f s (suc n) true v) b ≡ reading k a s v n false 0
  unfolding number_byte with_space
  space-next f s n v b e =
      let p : ltb 0 (suc n) ≡ true = lt-ltb 0 (suc n) (omega arith) in
      let q : suc n - 1 ≡ n = omega arith in
      byte-is f s (suc n) v b true ∙ rw (e, p, q)

  space-last : (f s v b : ℕ) → eqb b 32 ≡ true → scan_byte (reading k a f s 0 true v) b ≡ spoilt
  unfolding number_byte with_space
  space-last f s v b e = byte-is f s 0 v b true ∙ rw e

  space-early : (f s n v b : ℕ) → eqb b 32 ≡ true → scan_byte (reading k a f s n false v) b ≡ spoilt
  unfolding number_byte with_space
  space-early f s n v b e = byte-is f s n v b false ∙ rw e

  neither : (f s n v b : ℕ) (g : Bool) → eqb b 32 ≡ false → is_digit b ≡ false → scan_byte (reading k a f s n g v) b ≡ spoilt
  unfolding number_byte
  neither f s n v b g e d = byte-is f s n v b g ∙ rw (e, d)

  -- a digit more, where the rest is read from any number
  digit-step : (l : List ℕ) (f s n v b : ℕ) → is_digit b ≡ true → ((w : ℕ) → w ≤ most_number → ending (reading k a f s n true w) l ≡ due k a f s n w l)
      → ending (reading k a f s n true v) (b ∷ l) ≡ due k a f s n v (b ∷ l)
  unfolding scan_from
  digit-step l f s n v b d more =
      ⊎_elim
      (λ z. spoils l (digit-lost f s n v b true (most_number + 1) d (grown-led v b z) refl) ∙ sym (due-digit k a f s n v b l d ∙ rw z))
      (λ z. longer z (cases (leb (v * 10 + (b - 48)) most_number)))
      (cases (eqb v 0))
    where
      longer : eqb v 0 ≡ false → (leb (v * 10 + (b - 48)) most_number ≡ true) ⊎ (leb (v * 10 + (b - 48)) most_number ≡ false)
          → ending (reading k a f s n true v) (b ∷ l) ≡ due k a f s n v (b ∷ l)
      longer z (inl t) =
          let one : eqb (v * 10 + (b - 48)) 0 ≡ false = ne_eqb (v * 10 + (b - 48)) 0 (λ q. eqb-false v 0 z (omega arith)) in
          moves l (digit-kept f s n v b true (v * 10 + (b - 48)) d (grown-more v b z) t)
          ∙ more (v * 10 + (b - 48)) (leb-true (v * 10 + (b - 48)) most_number t)
          ∙ due-on k a f s n (v * 10 + (b - 48)) l one
          ∙ sym (due-digit k a f s n v b l d ∙ rw z)
      longer z (inr t) =
          let large : most_number < value_after (v * 10 + (b - 48)) (digits l) =
          omega (arith, leb-false (v * 10 + (b - 48)) most_number t, value_grows (v * 10 + (b - 48)) (digits l)) in
          spoils l (digit-lost f s n v b true (v * 10 + (b - 48)) d (grown-more v b z) t)
          ∙ sym (due-digit k a f s n v b l d ∙ rw (z, lt-leb (value_after (v * 10 + (b - 48)) (digits l)) most_number large))

  -- what is no digit ends the number
  end_step : (l : List ℕ) (f s n v b : ℕ) → is_digit b ≡ false → v ≤ most_number
      → ending (reading k a f s n true v) (b ∷ l) ≡ due k a f s n v (b ∷ l)
  unfolding scan_from next
  end_step l f s zero v b d h =
      spoils l (⊎_elim (λ e. space-last f s v b e) (λ e. neither f s 0 v b true e d) (cases (eqb b 32)))
      ∙ sym (due-end k a f s 0 v b l d h ∙ rw (eqb-zero-suc (length l)))
  end_step l f s (suc n) v b d h =
      ⊎_elim
      (λ e. moves l (space-next f s n v b e) ∙ sym (due-end k a f s (suc n) v b l d h ∙ rw e))
      (λ e. spoils l (neither f s (suc n) v b true e d) ∙ sym (due-end k a f s (suc n) v b l d h ∙ rw e))
      (cases (eqb b 32))

  -- the digits that are left of a number so far
  digits-read : (l : List ℕ) (f s n v : ℕ) → v ≤ most_number → ending (reading k a f s n true v) l ≡ due k a f s n v l
  unfolding scan_from read_of digits value_after goes next due
  digits-read [] f s zero v h = rw (le-leb v most_number h, plain)
  digits-read [] f s (suc n) v h = rw (le-leb v most_number h, plain, eqb-suc-zero n)
  digits-read (b ∷ l) f s n v h =
      ⊎_elim
      (λ d. digit-step l f s n v b d (λ w g. digits-read l f s n w g))
      (λ d. end_step l f s n v b d h)
      (cases (is_digit b))

  first-digit : (l : List ℕ) (f s n v b : ℕ) → is_digit b ≡ true → ending (reading k a f s n false v) (b ∷ l) ≡ with_read k a f s n (b ∷ l) (number (b ∷ l))
  unfolding scan_from grown_by
  first-digit l f s n v b d =
      let r = digit-e b d in
      let small : b - 48 ≤ most_number = omega arith in
      moves l (digit-kept f s n v b false (b - 48) d refl (le-leb (b - 48) most_number small))
      ∙ digits-read l f s n (b - 48) small ∙ due-number k a f s n b l d

  -- a number of which no digit was read
  number_read : (l : List ℕ) (f s n v : ℕ) → ending (reading k a f s n false v) l ≡ with_read k a f s n l (number l)
  unfolding scan_from read_of number number_of digits well_formed with_read
  number_read [] f s n v = rw plain
  number_read (b ∷ l) f s n v =
      ⊎_elim
      (λ d. first-digit l f s n v b d)
      (λ d. spoils l (⊎_elim (λ e. space-early f s n v b e) (λ e. neither f s n v b false e d) (cases (eqb b 32))) ∙ rw d)
      (cases (is_digit b))

  -- the numbers to the end of the line
  last-is : (l : List ℕ) (f s : ℕ) (o : Option Number) → with_read k a f s 0 l o ≡ line_for k a f s (last_number l o)
  unfolding with_read next line_for final last_number
  last-is l f s none = refl
  last-is l f s (some x) = ⊎_elim (λ e. rw e) (λ e. rw e) (cases (eqb x.takes (length l)))

  with-is : (l : List ℕ) (f s n : ℕ) (o : Option Number) → ((r : List ℕ) (v : ℕ) → ending (reading k a s v n false 0) r ≡ line_for k a s v (numbers_in (suc n) r))
      → with_read k a f s (suc n) l o ≡ line_for k a f s (with_number l o (numbers_in (suc n) (past l o)))
  unfolding with_read next line_for with_number past
  with-is l f s n none rest = refl
  with-is l f s n (some x) rest =
      let r = drop (x.takes + 1) l in
      ⊎_elim
      (λ e. rw e (rest r x.is ∙ line-shift k a f s x.is n (numbers_in (suc n) r) (numbers-sized (suc n) r)))
      (λ e. rw e)
      (cases (eqb (get_or l x.takes 0) 32))

  pub numbers-read : (n : ℕ) (l : List ℕ) (f s v : ℕ) → ending (reading k a f s n false v) l ≡ line_for k a f s (numbers_in (suc n) l)
  unfolding numbers_in
  numbers-read zero l f s v = number_read l f s 0 v ∙ last-is l f s (number l)
  numbers-read (suc n) l f s v = number_read l f s (suc n) v ∙ with-is l f s n (number l) (λ r w. numbers-read n r s w 0)
