-- Where a file ends. A line has begun exactly if its scan is of some kind: no byte brings the scan back to none. So the reader knows whether a line is missing, and
-- its number of the first wrong line tells what the file is.
use mathlib.Core.Path.{◌≡◌, refl, sym, ap, ◌∙◌}
use mathlib.Core.Bool.{Bool, true, false, not, ◌||◌, ◌&&◌, cond}
use mathlib.Core.List.{List, [], ◌∷◌}
use mathlib.Core.Logic.{◌⊎◌, inl, inr, ◌≢◌, ⊎_elim}
use Prim.Native.Nat.{ℕ, ◌+◌}
use native.Mathlib.Omega.{arith}
use lib.Dec.{ltb, leb, eqb}
use lib.ListN.{length}
use borrow.Author.Tests.{lt-ltb, le-ltb, eqb-false}
use Rattle.lists.proofs.Cases.{cases, order}
use Rattle.numerals.specs.Decimal.{most_number, is_digit}
use Rattle.road_line.specs.declared.Kind.TheVariants as kinds
use Rattle.road_line.specs.declared.Scan.{Scan}
use Rattle.road_line.specs.Scan.{unknown, numbered, started, spoilt, state_of, expected_at, kind_of, left_of, begun_by, compared, grown_by, with_digit, with_space, number_byte, scan_byte, scan_from, scanned}
use Rattle.road_file.specs.File.{Fed, next_line, missing, malformed, roads, ended_of}
use Rattle.road_file.specs.Reader.{reader_of, short_by, wrong_by}

-- what holds of both holds by any test
either : {A : Type 0} (P : A → Type 0) (b : Bool) (y z : A) → P y → P z → P (cond b y z)
either P true y z p q = p
either P false y z p q = q

abbrev Known : Scan → Type 0
Known x = unknown x.kind ≡ false

known-first : (b : ℕ) → unknown (kind_of b) ≡ false
unfolding kind_of unknown
known-first b =
    either (λ k. unknown k ≡ false) (eqb (expected_at kinds.Comment 0) b) kinds.Comment _ refl
    (either (λ k. unknown k ≡ false) (eqb (expected_at kinds.Sizes 0) b) kinds.Sizes _ refl
    (either (λ k. unknown k ≡ false) (eqb (expected_at kinds.Arc 0) b) kinds.Arc kinds.Other refl refl))

known-spoilt : Known spoilt
unfolding unknown
known-spoilt = refl

known-next : (x : Scan) (b : ℕ) → Known x → Known (scan_byte x b)
unfolding scan_byte begun_by compared number_byte with_space with_digit
known-next x b k =
    either Known (unknown x.kind) (state_of (kind_of b) 1 (left_of (kind_of b))) _ (known-first b)
    (either Known (ltb (expected_at x.kind x.at) 256) _ _ (either Known (eqb (expected_at x.kind x.at) b) (state_of x.kind (x.at + 1) x.left) spoilt k known-spoilt)
    (either Known (numbered x.kind) _ x
    (either Known (eqb b 32) _ _ (either Known (x.begun && ltb 0 x.left) _ spoilt k known-spoilt)
    (either Known (is_digit b) _ spoilt (either Known (leb (grown_by x.begun x.value b) most_number) _ spoilt k known-spoilt) known-spoilt)) k))

known-begin : (b : ℕ) → Known (scan_byte started b)
unfolding scan_byte unknown begun_by
known-begin b = known-first b

known-from : (x : Scan) (l : List ℕ) → Known x → Known (scan_from x l)
unfolding scan_from
known-from x [] k = k
known-from x (b ∷ l) k = known-from (scan_byte x b) l (known-next x b k)

-- a line has begun exactly if its scan is of some kind
begun-is : (l : List ℕ) → ltb 0 (length l) ≡ not (unknown (scanned l).kind)
unfolding scan_from unknown
begun-is [] = refl
begun-is (b ∷ l) = lt-ltb 0 (length (b ∷ l)) (omega arith) ∙ sym (ap not (known-from (scan_byte started b) l (known-begin b)))

short-is : (x : Fed) → missing x ≡ short_by (reader_of x)
unfolding missing short_by
short-is x = ap (λ z. z || not x.said.begun || ltb (length x.said.arcs) x.said.wanted) (begun-is x.rest)

next-some : (n : ℕ) → next_line n ≢ 0
unfolding next_line
next-some n e = ⊎_elim (λ w. omega (arith, rw (le-ltb n most_number w) at e)) (λ w. omega (arith, rw (lt-ltb n most_number w) at e)) (order most_number n)

module _ (x : Fed) where
  -- the file is permitted
  pub ended-good : wrong_by (reader_of x) ≡ 0 → ended_of x ≡ roads x.said.nodes x.said.arcs
  unfolding wrong_by ended_of
  ended-good e = go (cases (eqb x.said.wrong 0)) (cases (short_by (reader_of x)))
    where
      go : (eqb x.said.wrong 0 ≡ true) ⊎ (eqb x.said.wrong 0 ≡ false) → (short_by (reader_of x) ≡ true) ⊎ (short_by (reader_of x) ≡ false)
          → cond (not (eqb x.said.wrong 0)) (malformed x.said.wrong) (cond (missing x) (malformed (next_line x.said.lines)) (roads x.said.nodes x.said.arcs))
          ≡ roads x.said.nodes x.said.arcs
      go (inl a) (inr c) = rw (a, short-is x ∙ c)
      go (inl a) (inl c) = absurd (next-some x.said.lines (rw (a, c) at e))
      go (inr a) c = absurd (eqb-false x.said.wrong 0 a (rw a at e))

  -- or its first wrong line is told
  pub ended-wrong : wrong_by (reader_of x) ≢ 0 → ended_of x ≡ malformed (wrong_by (reader_of x))
  unfolding wrong_by ended_of
  ended-wrong ne = go (cases (eqb x.said.wrong 0)) (cases (short_by (reader_of x)))
    where
      go : (eqb x.said.wrong 0 ≡ true) ⊎ (eqb x.said.wrong 0 ≡ false) → (short_by (reader_of x) ≡ true) ⊎ (short_by (reader_of x) ≡ false)
          → cond (not (eqb x.said.wrong 0)) (malformed x.said.wrong) (cond (missing x) (malformed (next_line x.said.lines)) (roads x.said.nodes x.said.arcs))
          ≡ malformed (cond (not (eqb x.said.wrong 0)) x.said.wrong (cond (short_by (reader_of x)) (next_line x.said.lines) 0))
      go (inl a) (inr c) = absurd (ne (rw (a, c)))
      go (inl a) (inl c) = rw (a, short-is x ∙ c, c)
      go (inr a) c = rw a
