-- The arc lines are read one by one. The arcs read so far, in front of what the lines left give, are what all lines give; and a line's end lies within the text,
-- since a newline stands before it.
-- The arcs put so far, and one more put behind them, are one arc more put.
use mathlib.Core.Path.{◌≡◌, refl, sym, ap, ◌∙◌}
use mathlib.Core.Logic.{⊎_elim}
use mathlib.Core.List.{List, [], ◌∷◌, ◌++◌}
use mathlib.Core.Option.{Option, none, some}
use Prim.Native.Nat.{ℕ, zero, suc, ◌+◌, ◌-◌, ◌≤◌, ◌<◌}
use native.Mathlib.Omega.{arith}
use borrow.Author.Tests.{eq-eqb, ne_eqb}
use lib.Dec.{eqb}
use lib.ListN.{length, get_or, drop, length-append}
use Rattle.std.specs.Prelude.{Ok, Err}
use Rattle.lists.proofs.Cases.{cases}
use Rattle.net.specs.Net.{Arc}
use Rattle.numerals.specs.Decimal.{Number, number}
use Rattle.desk_line.specs.Line.{Row, separator, prepend, with_number, past, line_from, after}
use Rattle.desk_old_input.specs.Text.{ArcLines, all, bad, with_arc, arc_in, with_row, arcs_from}
use Rattle.table.specs.Table.{put_arc, put_arcs}
use Rattle.desk_old_input.specs.Parsed.{arcs_read}
use Rattle.desk_line.proofs.LineLaws.{marked-within}

-- ---- where a line ends

prepend-next : (v : ℕ) (o : Option Row) (r : Row) → prepend v o ≡ some r → (q : Row) × (o ≡ some q) × (q.next ≡ r.next)
unfolding prepend
prepend-next v none r e =
    let z : ◌≡◌ {A = ℕ} 0 1 = cc in
    absurd (omega arith)
prepend-next v (some q) r e = (q, refl, cc)

pub line-ends : (n : ℕ) (text : List ℕ) (at : ℕ) (r : Row) → line_from n text at ≡ some r → at ≤ length text → r.next ≤ length text
unfolding line_from with_number past
line-ends zero text at r e h =
    let k : at ≡ r.next = cc in
    omega arith
line-ends (suc n) text at r e h = go (λ p q. line-ends n text p q) (number (drop at text)) e
  where
    go : ((p : ℕ) (q : Row) → line_from n text p ≡ some q → p ≤ length text → q.next ≤ length text)
        → (o : Option Number) → with_number n text at o (line_from n text (past at o)) ≡ some r → r.next ≤ length text
    go below none k =
        let z : ◌≡◌ {A = ℕ} 0 1 = cc in
        absurd (omega arith)
    go below (some x) k =
        ⊎_elim
        (λ t.
        let w = prepend-next x.is (line_from n text (at + x.takes + 1)) r (rw t at k) in
        omega (arith, w.2, marked-within text n (at + x.takes) t, below (at + x.takes + 1) w.0 w.1 (omega (arith, marked-within text n (at + x.takes) t))))
        (λ t.
        let z : ◌≡◌ {A = ℕ} 0 1 = cc (rw t at k) in
        absurd (omega arith))
        (cases (eqb (get_or text (at + x.takes) 0) (separator n)))

-- ---- arcs put one behind the other

pub put_arcs-more : (l : List ℕ) (i : ℕ) (xs : List Arc) (x : Arc) → put_arcs l i (xs ++ (x ∷ [])) ≡ put_arc (put_arcs l i xs) (i + length xs) x
unfolding put_arcs
put_arcs-more l i [] x = ap (λ n. put_arc l n x) (omega arith)
put_arcs-more l i (y ∷ xs) x = put_arcs-more (put_arc l i y) (i + 1) xs x ∙ ap (λ n. put_arc (put_arcs (put_arc l i y) (i + 1) xs) n x) (omega arith)

-- ---- the arcs so far

unfoldable pub in_front : List Arc → ArcLines → ArcLines
unfolding with_arc
in_front [] r = r
in_front (x ∷ xs) r = with_arc x (in_front xs r)

in_front-more : (xs : List Arc) (x : Arc) (r : ArcLines) → in_front (xs ++ (x ∷ [])) r ≡ in_front xs (with_arc x r)
unfolding in_front
in_front-more [] x r = refl
in_front-more (y ∷ xs) x r = ap (with_arc y) (in_front-more xs x r)

in_front-bad : (xs : List Arc) (n : ℕ) → in_front xs (bad n) ≡ bad n
unfolding in_front with_arc
in_front-bad [] n = refl
in_front-bad (x ∷ xs) n = ap (with_arc x) (in_front-bad xs n)

in_front-none : (xs : List Arc) → in_front xs (all []) ≡ all xs
unfolding in_front with_arc
in_front-none [] = refl
in_front-none (x ∷ xs) = ap (with_arc x) (in_front-none xs)

-- ---- the loop over the m lines: what is left, behind the arcs read, gives the whole

pub record Passed (text : List ℕ) (m i p : ℕ) (whole : ArcLines) (l l' : List ℕ) : Type 0 where
  pub arcs : List Arc
  pub count : length arcs ≡ i
  pub table : l' ≡ put_arcs l 0 arcs
  pub rest : in_front arcs (arcs_from (m - i) text p (i + 2)) ≡ whole

pub passed_none : (text : List ℕ) (m p : ℕ) (l : List ℕ) → Passed text m 0 p (arcs_from m text p 2) l l
unfolding in_front put_arcs
passed_none text m p l =
    let e : m - 0 ≡ m = omega arith in
    record { arcs = []; count = refl; table = refl; rest = rw e }

module _ (text : List ℕ) (m i p : ℕ) (whole : ArcLines) (l l' : List ℕ) (h : Passed text m i p whole l l') where
  pub passed-more : i < m → (vs : List ℕ) (q : ℕ) → line_from 3 text p ≡ some (record { values = vs; next = q }) → (l'' : List ℕ) → l'' ≡ put_arc l' i (arc_in vs)
      → Passed text m (i + 1) q whole l l''
  unfolding arcs_from with_row after
  passed-more k vs q e l'' t =
      let left : m - i ≡ suc (m - (i + 1)) = omega arith in
      let number : i + 2 + 1 ≡ i + 1 + 2 = omega arith in
      let place : 0 + length h.arcs ≡ i = omega (arith, h.count) in
      record {
        arcs = h.arcs ++ (arc_in vs ∷ []);
        count = simp length-append (omega (arith, h.count));
        table = t ∙ ap (λ y. put_arc y i (arc_in vs)) h.table ∙ ap (λ n. put_arc (put_arcs l 0 h.arcs) n (arc_in vs)) (sym place) ∙ sym (put_arcs-more l 0 h.arcs (arc_in vs));
        rest = rw in_front-more (rw (left, e, number) at h.rest);
      }

  pub passed-stop : i < m → line_from 3 text p ≡ none → whole ≡ bad (i + 2)
  unfolding arcs_from with_row after
  passed-stop k e =
      let left : m - i ≡ suc (m - (i + 1)) = omega arith in
      sym (rw (left, e) at h.rest) ∙ in_front-bad h.arcs (i + 2)

  pub passed_over : i ≡ m → (p ≡ length text → ⊥) → whole ≡ bad (m + 2)
  unfolding arcs_from
  passed_over k ne =
      let left : m - i ≡ 0 = omega arith in
      sym (rw (left, ne_eqb p (length text) ne) at h.rest) ∙ in_front-bad h.arcs (i + 2) ∙ ap (λ n. bad (n + 2)) k

  pub passed-all : {X : Type 0} (x : X) → i ≡ m → p ≡ length text → arcs_read whole (Ok x) l l'
  unfolding arcs_from
  passed-all x k e =
      let left : m - i ≡ 0 = omega arith in
      let w : whole ≡ all h.arcs = sym (rw (left, eq-eqb p (length text) e) at h.rest) ∙ in_front-none h.arcs in
      rw w h.table

pub told-bad : (X : Type 0) (whole : ArcLines) (n : ℕ) (l l' : List ℕ) → whole ≡ bad n → arcs_read {X = X} whole (Err n) l l'
told-bad X whole n l l' e = rw e
