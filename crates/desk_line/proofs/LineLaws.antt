-- A line is read number by number. A number takes at least a byte, so the place of the byte after it tells how many it took; what may follow a number is never 0,
-- which is what stands past the text's end, so a number followed by it ends within the text.
-- The numbers read so far, in front of what the rest of the line gives, are what the whole line gives.
use mathlib.Core.Path.{◌≡◌, refl, sym, ap, ◌∙◌}
use mathlib.Core.Logic.{⊎_elim}
use mathlib.Core.Bool.{Bool, true, false, ◌&&◌, cond}
use mathlib.Core.List.{List, [], ◌∷◌, ◌++◌}
use mathlib.Core.Option.{Option, none, some}
use Prim.Native.Nat.{ℕ, zero, suc, ◌+◌, ◌-◌, ◌≤◌, ◌<◌}
use native.Mathlib.Omega.{arith}
use native.Mathlib.Numerals.{add-one}
use borrow.Author.Tests.{eqb-true, ne_eqb}
use lib.Dec.{leb, eqb}
use lib.ListN.{length, get_or, set, take, drop, get_or-eq_default}
use lib.Seq.{take_all, take-suc-set}
use Rattle.lists.specs.Index.{tab}
use Rattle.lists.proofs.Cases.{cases, order}
use Rattle.numerals.specs.Decimal.{Number, number, number_of, digits, well_formed, value, most_number}
use Rattle.desk_line.specs.Line.{Row, separator, prepend, with_number, past, line_from}
use Rattle.desk_line.specs.Parsed.{marked_by, number_before}

some-only : (b : Bool) (x y : Number) → cond b (some x) none ≡ some y → x ≡ y
some-only true x y e = cc
some-only false x y e =
    let z : ◌≡◌ {A = ℕ} 0 1 = cc in
    absurd (omega arith)

takes-some : (l : List ℕ) (x : Number) → number l ≡ some x → 0 < x.takes
unfolding number number_of well_formed
takes-some l x h = go (digits l) h
  where
    go : (ds : List ℕ) → number_of ds ≡ some x → 0 < x.takes
    go [] e =
        let z : ◌≡◌ {A = ℕ} 0 1 = cc in
        absurd (omega arith)
    go (d ∷ ds) e = omega (arith, ap (λ (y : Number). y.takes) (some-only (well_formed (d ∷ ds) && leb (value (d ∷ ds)) most_number) _ x e))

pub separator-positive : (n : ℕ) → 0 < separator n
separator-positive zero = omega arith
separator-positive (suc n) = omega arith

pub marked-within : (text : List ℕ) (n j : ℕ) → eqb (get_or text j 0) (separator n) ≡ true → j < length text
marked-within text n j t =
    ⊎_elim
    (λ w. absurd (omega (arith, separator-positive n, get_or-eq_default text 0 w, eqb-true (get_or text j 0) (separator n) t)))
    (λ w. w)
    (order (length text) j)

-- ---- a number and the byte after it

module _ (text : List ℕ) (at mark : ℕ) where
  pub before-none : none ≡ number (drop at text) → none ≡ number_before mark text at
  unfolding number_before marked_by
  before-none h = rw (sym h)

  module _ (v next : ℕ) (h : some (record { is = v; takes = next - at }) ≡ number (drop at text)) where
    later : at + (next - at) ≡ next
    later = omega (arith, takes-some (drop at text) (record { is = v; takes = next - at }) (sym h))

    pub before-other : (get_or text next 0 ≡ mark → ⊥) → none ≡ number_before mark text at
    unfolding number_before marked_by
    before-other ne = rw (sym h, later, ne_eqb (get_or text next 0) mark ne)

    pub before-past : 0 < mark → length text ≤ next → none ≡ number_before mark text at
    before-past m k = before-other (λ e. omega (arith, get_or-eq_default text 0 k))

    pub before-mark : eqb (get_or text next 0) mark ≡ true → some (record { is = v; takes = next - at }) ≡ number_before mark text at
    unfolding number_before marked_by
    before-mark e = rw (sym h, later, e)

-- ---- a line's first number

module _ (n : ℕ) (text : List ℕ) (at : ℕ) where
  first-none : none ≡ number_before (separator n) text at → line_from (suc n) text at ≡ none
  unfolding number_before marked_by line_from with_number past
  first-none h = go (number (drop at text)) refl h
    where
      go : (o : Option Number) → number (drop at text) ≡ o → none ≡ marked_by (separator n) text at o → line_from (suc n) text at ≡ none
      go none e k = rw e
      go (some x) e k =
          rw e
          (⊎_elim
          (λ t.
          let z : ◌≡◌ {A = ℕ} 0 1 = cc (rw t at k) in
          absurd (omega arith))
          (λ t. rw t)
          (cases (eqb (get_or text (at + x.takes) 0) (separator n))))

  module _ (v next : ℕ) (h : some (record { is = v; takes = next - at }) ≡ number_before (separator n) text at) where
    first_some : (at < next) × (next < length text) × (line_from (suc n) text at ≡ prepend v (line_from n text (next + 1)))
    unfolding number_before marked_by line_from with_number past
    first_some = go (number (drop at text)) refl h
      where
        go : (o : Option Number) → number (drop at text) ≡ o → some (record { is = v; takes = next - at }) ≡ marked_by (separator n) text at o
            → (at < next) × (next < length text) × (line_from (suc n) text at ≡ prepend v (line_from n text (next + 1)))
        go none e k =
            let z : ◌≡◌ {A = ℕ} 0 1 = cc in
            absurd (omega arith)
        go (some x) e k =
            ⊎_elim
            (λ t.
            let k' : some (record { is = v; takes = next - at }) ≡ some x = rw t at k in
            let takes : next - at ≡ x.takes = ap (λ (y : Number). y.takes) (same_some k') in
            let is : v ≡ x.is = ap (λ (y : Number). y.is) (same_some k') in
            let more : at < next = omega (arith, takes-some (drop at text) x e) in
            let place : at + x.takes ≡ next = omega arith in
            (more, rw place at (marked-within text n (at + x.takes) t), rw (e, t) (rw (is, place))))
            (λ t.
            let z : ◌≡◌ {A = ℕ} 0 1 = cc (rw t at k) in
            absurd (omega arith))
            (cases (eqb (get_or text (at + x.takes) 0) (separator n)))
          where
            same_some : {y z : Number} → some y ≡ some z → y ≡ z
            same_some q = cc

-- ---- a line's numbers so far

unfoldable pub prepends : List ℕ → Option Row → Option Row
unfolding prepend
prepends [] r = r
prepends (v ∷ vs) r = prepend v (prepends vs r)

prepends-more : (vs : List ℕ) (v : ℕ) (r : Option Row) → prepends (vs ++ (v ∷ [])) r ≡ prepends vs (prepend v r)
unfolding prepends
prepends-more [] v r = refl
prepends-more (w ∷ vs) v r = ap (prepend w) (prepends-more vs v r)

prepends-none : (vs : List ℕ) → prepends vs none ≡ none
unfolding prepends prepend
prepends-none [] = refl
prepends-none (v ∷ vs) = ap (prepend v) (prepends-none vs)

prepends-end : (vs : List ℕ) (p : ℕ) → prepends vs (some (record { values = []; next = p })) ≡ some (record { values = vs; next = p })
unfolding prepends prepend
prepends-end [] p = refl
prepends-end (v ∷ vs) p = ap (prepend v) (prepends-end vs p)

-- ---- the loop over the n numbers of a line: what is left, behind those read, gives the whole

module _ (text : List ℕ) (n i p : ℕ) (into : List ℕ) (whole : Option Row) (inv : prepends (take i into) (line_from (n - i) text p) ≡ whole) where
  pub line-done : length into ≡ n → n ≤ i → some (record { values = into; next = p }) ≡ whole
  unfolding line_from
  line-done k h =
      let e : n - i ≡ 0 = omega arith in
      sym (prepends-end into p) ∙ (rw (e, take_all i into (omega arith)) at inv)

  module _ (mark : ℕ) (m : mark ≡ separator (n - (i + 1))) (h : i < n) where
    pub line-stop : none ≡ number_before mark text p → none ≡ whole
    line-stop b =
        let e : n - i ≡ suc (n - (i + 1)) = omega arith in
        sym (prepends-none (take i into)) ∙ (rw (e, first-none (n - (i + 1)) text p (rw m at b)) at inv)

    module _ (v next : ℕ) (b : some (record { is = v; takes = next - p }) ≡ number_before mark text p) where
      pub line-within : next < length text
      line-within = (first_some (n - (i + 1)) text p v next (rw m at b)).1

      pub line_step : length into ≡ n → prepends (take (i + 1) (set into i v)) (line_from (n - (i + 1)) text (next + 1)) ≡ whole
      line_step k =
          let e : n - i ≡ suc (n - (i + 1)) = omega arith in
          let taken : take (i + 1) (set into i v) ≡ take i into ++ (v ∷ []) = rw (add-one i) (take-suc-set into i v (omega arith)) in
          rw (taken, prepends-more) (rw (e, (first_some (n - (i + 1)) text p v next (rw m at b)).2) at inv)

-- ---- a list by its entries
pub by_entries : (n : ℕ) (l : List ℕ) → length l ≡ n → l ≡ tab n (λ i. get_or l i 0)
by_entries zero [] h = refl
by_entries zero (x ∷ l) h = absurd (omega arith)
by_entries (suc n) [] h = absurd (omega arith)
by_entries (suc n) (x ∷ l) h = ap (λ t. x ∷ t) (by_entries n l (omega arith))
