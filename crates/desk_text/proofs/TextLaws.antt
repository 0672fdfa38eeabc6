-- The texts and their lengths. A number has at most 20 digits, so a route's line of n arcs has at most 64 + n * 21 bytes, and the lines of n routes of at most
-- 1023 arcs at most n times 21547. One route more is one line more at the end. The texts that are put one after the other are the lines that are due.
use mathlib.Core.Path.{◌≡◌, refl, sym}
use mathlib.Core.Bool.{Bool, true, false, cond}
use mathlib.Core.List.{List, [], ◌∷◌, ◌++◌, append_assoc, append-nil}
use Prim.Native.Nat.{ℕ, zero, suc, ◌+◌, ◌-◌, ◌*◌, ◌≤◌, ◌<◌}
use native.Mathlib.Nat.{add-zero, suc-mul, mul-le-mul_right}
use native.Mathlib.Numerals.{add-one}
use native.Mathlib.Omega.{arith}
use lib.ListN.{length, get_or, take, drop, length-append, length-take}
use Rattle.numerals.specs.Decimal.{decimal}
use Rattle.numerals.proofs.DecimalLaws.{decimal-length}
use Rattle.text_put.specs.Put.{Appended, newline}
use Rattle.desk_output.specs.Line.{route_text}
use Rattle.summary.specs.declared.Summary.{Summary}
use Rattle.summary.specs.declared.Sums.{Sums}
use Rattle.summary.specs.Sums.{record_at}
use Rattle.desk_output.proofs.TextLaws.{route-length}
use Rattle.desk_text.specs.Desk.{refused_word, end_word, routes_word, none_word, has_number, beside_text, refused_text, head_text, none_text}
use Rattle.desk_text.specs.Lines.{line_at, lines_from}
use Rattle.text_put.proofs.AppendLaws.{appended-more}

-- ---- the parts of each text, one after the other

pub refused-parts : (o n : ℕ) → refused_word ++ decimal o ++ beside_text o n ++ (newline ∷ []) ≡ refused_text (record { outcome = o; number = n })
unfolding refused_text
refused-parts o n = simp append_assoc

pub head-parts : (o n : ℕ) → end_word ++ decimal o ++ routes_word ++ decimal n ++ (newline ∷ []) ≡ head_text o n
unfolding head_text
head-parts o n = simp append_assoc

pub none-parts : (n : ℕ) → none_word ++ decimal n ++ (newline ∷ []) ≡ none_text n
unfolding none_text
none-parts n = simp append_assoc

pub beside-some : (o n : ℕ) → has_number o ≡ true → beside_text o n ≡ 32 ∷ decimal n
unfolding beside_text
beside-some o n e = rw e

pub beside_none : (o n : ℕ) → has_number o ≡ false → beside_text o n ≡ []
unfolding beside_text
beside_none o n e = rw e

pub beside-length : (o n : ℕ) → length (beside_text o n) ≤ 21
unfolding beside_text
beside-length o n = go (has_number o)
  where
    go : (b : Bool) → length (cond b (32 ∷ decimal n) []) ≤ 21
    go true = omega (arith, decimal-length n)
    go false = omega arith

pub head-length : (o n : ℕ) → length (head_text o n) ≤ 53
unfolding head_text
head-length o n = simp length-append (omega (arith, decimal-length o, decimal-length n))

pub none-length : (n : ℕ) → length (none_text n) ≤ 26
unfolding none_text
none-length n = simp length-append (omega (arith, decimal-length n))

-- ---- the lines

module _ (sums : Sums) (w : ℕ) (area : List ℕ) where
  -- one more at the end
  lines_end : (n i : ℕ) → lines_from sums w area (suc n) i ≡ lines_from sums w area n i ++ line_at sums w area (i + n)
  unfolding lines_from
  lines_end zero i = rw add-zero (append-nil (line_at sums w area i))
  lines_end (suc n) i =
      let e : i + suc n ≡ i + 1 + n = omega arith in
      rw (lines_end n (i + 1), e) (sym (append_assoc (line_at sums w area i) (lines_from sums w area n (i + 1)) (line_at sums w area (i + 1 + n))))

  pub lines_more : (n : ℕ) → lines_from sums w area (n + 1) 0 ≡ lines_from sums w area n 0 ++ line_at sums w area n
  lines_more n =
      let e : 0 + n ≡ n = omega arith in
      rw (add-one n) (rw e at (lines_end n 0))

  line-length : (i : ℕ) → get_or sums.arcs i 0 ≤ 1023 → length (line_at sums w area i) ≤ 21547
  unfolding line_at
  line-length i h =
      let t = take (get_or sums.arcs i 0) (drop (i * w) area) in
      omega (arith, route-length (i + 1) (get_or sums.length i 0) (get_or sums.labels i 0) t, length-take (get_or sums.arcs i 0) (drop (i * w) area))

  pub lines_none : (i : ℕ) → lines_from sums w area 0 i ≡ []
  unfolding lines_from
  lines_none i = refl

  pub lines-first : (n i : ℕ) → lines_from sums w area (suc n) i ≡ line_at sums w area i ++ lines_from sums w area n (i + 1)
  unfolding lines_from
  lines-first n i = refl

  lines-most : (n i : ℕ) → ((j : ℕ) → j < i + n → get_or sums.arcs j 0 ≤ 1023) → length (lines_from sums w area n i) ≤ n * 21547
  lines-most zero i h = rw (lines_none i) (omega arith)
  lines-most (suc n) i h =
      rw (lines-first n i, length-append (line_at sums w area i) (lines_from sums w area n (i + 1)))
      (omega (arith, line-length i (h i (omega arith)), lines-most n (i + 1) (λ j g. h j (omega arith))))

  pub lines-length : (n : ℕ) → ((j : ℕ) → j < n → get_or sums.arcs j 0 ≤ w) → w ≤ 1023 → length (lines_from sums w area n 0) ≤ n * 21547
  lines-length n h g = lines-most n 0 (λ j l. omega (arith, h j (omega arith)))

  line_of : (j : ℕ) (x : Summary) → x ≡ record_at sums j
      → line_at sums w area j ≡ route_text (j + 1) x.length x.labels (take (j * w + x.arcs - j * w) (drop (j * w) area))
  unfolding line_at
  line_of j x e =
      let k : j * w + get_or sums.arcs j 0 - j * w ≡ get_or sums.arcs j 0 = omega arith in
      rw (e, k)

  -- the turn of a loop: the line of slot j, from its summary
  pub lines-turn : (l : List ℕ) (at : ℕ) (m : List ℕ) (p j : ℕ) (x : Summary) (n : List ℕ) (r : ℕ) → Appended l at (lines_from sums w area j 0) m p → x ≡ record_at sums j
      → Appended m p (route_text (j + 1) x.length x.labels (take (j * w + x.arcs - j * w) (drop (j * w) area))) n r → at ≤ length l
      → Appended l at (lines_from sums w area (j + 1) 0) n r
  lines-turn l at m p j x n r a e b h =
      rw (lines_more j) (appended-more l at (lines_from sums w area j 0) m p (line_at sums w area j) n r a (rw (line_of j x e) b) h)

-- a slot's part stands in the area
pub slot-in : (j n w m : ℕ) → j < n → m ≤ w → j * w + m ≤ n * w
slot-in j n w m h g = omega (arith, suc-mul j w, mul-le-mul_right {m = suc j} {n = n} w (omega arith))

pub part_length : (l : List ℕ) (a m : ℕ) → length (take (a + m - a) (drop a l)) ≤ m
part_length l a m = omega (arith, length-take (a + m - a) (drop a l))
