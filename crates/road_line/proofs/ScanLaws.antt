-- The scan of a line gives what the line is (`scanned-is`). The first byte says what the line may be, since the starts differ in it; each byte of the start is compared
-- in its turn, and another one spoils the line (`start-step`); after a whole start come the numbers (`numbers-read`), or the bytes of a comment, which are any.
use mathlib.Core.Path.{◌≡◌, refl, sym, ◌∙◌}
use mathlib.Core.Bool.{true, false, cond}
use mathlib.Core.List.{List, [], ◌∷◌}
use mathlib.Core.Logic.{⊎_elim}
use mathlib.Core.Option.{Option, none, some}
use Prim.Native.Nat.{ℕ, ◌+◌}
use native.Mathlib.Omega.{arith}
use lib.Dec.{ltb, eqb}
use borrow.Author.Tests.{eqb-true, ne_eqb}
use Rattle.lists.proofs.Cases.{cases}
use Rattle.road_line.specs.Line.{Line, comment, other, after, numbers_in, is_comment, sizes_in, arc_in, arc_line, sizes_line, line_of}
use Rattle.road_line.specs.declared.Kind.{Kind}
use Rattle.road_line.specs.declared.Kind.TheVariants as kinds
use Rattle.road_line.specs.Scan.{start_of, expected_at, unknown, numbered, commented, state_of, spoilt, kind_of, left_of, begun_by, compared, scan_byte, scan_from, scanned, whole_as, read_of}
use Rattle.road_line.proofs.EndingLaws.{ending, moves, spoils}
use Rattle.road_line.proofs.NumbersLaws.{Sized, numbers-sized}
use Rattle.road_line.proofs.NumberLaws.{final, line_for, numbers-read}

-- ---- comments

comment-stays : (l : List ℕ) → ending (state_of kinds.Comment 2 0) l ≡ comment
unfolding scan_from scan_byte unknown numbered commented expected_at start_of read_of
comment-stays [] = refl
comment-stays (b ∷ l) = comment-stays l

-- ---- a start is compared

start-yes : (k : Kind) (m n s b : ℕ) → unknown k ≡ false → expected_at k m ≡ s → ltb s 256 ≡ true → eqb s b ≡ true → scan_byte (state_of k m n) b ≡ state_of k (m + 1) n
unfolding scan_byte compared
start-yes k m n s b known here byte e = rw (known, here, byte, e)

start-no : (k : Kind) (m n s b : ℕ) → unknown k ≡ false → expected_at k m ≡ s → ltb s 256 ≡ true → eqb s b ≡ false → scan_byte (state_of k m n) b ≡ spoilt
unfolding scan_byte compared
start-no k m n s b known here byte e = rw (known, here, byte, e)

-- the byte s of a start, where what follows it is read
start-step : (k : Kind) (m n s : ℕ) (start : List ℕ) (f : Option (List ℕ) → Line) → f none ≡ other → unknown k ≡ false → expected_at k m ≡ s → ltb s 256 ≡ true → read_of (state_of k m n) ≡ other
    → ((l : List ℕ) → ending (state_of k (m + 1) n) l ≡ f (after start l)) → (l : List ℕ) → ending (state_of k m n) l ≡ f (after (s ∷ start) l)
unfolding scan_from after
start-step k m n s start f fails known here byte ends rest [] = ends ∙ sym fails
start-step k m n s start f fails known here byte ends rest (b ∷ l) =
    ⊎_elim
    (λ e. moves l (start-yes k m n s b known here byte e) ∙ rw e (rest l))
    (λ e. spoils l (start-no k m n s b known here byte e) ∙ rw e (sym fails))
    (cases (eqb s b))

-- ---- sizes

to-sizes : (o : Option (List ℕ)) → Sized 2 o → line_for kinds.Sizes 5 0 0 o ≡ sizes_in o
unfolding line_for final sizes_in whole_as
to-sizes none h = refl
to-sizes (some []) h = absurd (omega arith)
to-sizes (some (n ∷ [])) h = absurd (omega arith)
to-sizes (some (n ∷ m ∷ [])) h = refl
to-sizes (some (n ∷ m ∷ v ∷ vs)) h = absurd (omega arith)

-- the line after `p`, and after `p sp`
abbrev in_sizes : Option (List ℕ) → Line
in_sizes o = sizes_line o other

sizes-read : (l : List ℕ) → ending (state_of kinds.Sizes 5 1) l ≡ in_sizes (after [] l)
unfolding sizes_line after expected_at start_of unknown numbered commented
sizes-read l = numbers-read kinds.Sizes 5 refl refl refl refl 1 l 0 0 0 ∙ to-sizes (numbers_in 2 l) (numbers-sized 2 l)

sizes-begun : (l : List ℕ) → ending (state_of kinds.Sizes 1 1) l ≡ in_sizes (after (32 ∷ 115 ∷ 112 ∷ 32 ∷ []) l)
unfolding sizes_line expected_at start_of unknown commented read_of
sizes-begun =
    start-step kinds.Sizes 1 1 32 (115 ∷ 112 ∷ 32 ∷ []) in_sizes refl refl refl refl refl
    (start-step kinds.Sizes 2 1 115 (112 ∷ 32 ∷ []) in_sizes refl refl refl refl refl
    (start-step kinds.Sizes 3 1 112 (32 ∷ []) in_sizes refl refl refl refl refl
    (start-step kinds.Sizes 4 1 32 [] in_sizes refl refl refl refl refl sizes-read)))

-- ---- arcs

to-arc : (o : Option (List ℕ)) → Sized 3 o → line_for kinds.Arc 2 0 0 o ≡ arc_in o
unfolding line_for final arc_in whole_as
to-arc none h = refl
to-arc (some []) h = absurd (omega arith)
to-arc (some (t ∷ [])) h = absurd (omega arith)
to-arc (some (t ∷ d ∷ [])) h = absurd (omega arith)
to-arc (some (t ∷ d ∷ n ∷ [])) h = refl
to-arc (some (t ∷ d ∷ n ∷ v ∷ vs)) h = absurd (omega arith)

arc-read : (l : List ℕ) → ending (state_of kinds.Arc 2 2) l ≡ arc_line (after [] l)
unfolding arc_line after expected_at start_of unknown numbered commented
arc-read l = numbers-read kinds.Arc 2 refl refl refl refl 2 l 0 0 0 ∙ to-arc (numbers_in 3 l) (numbers-sized 3 l)

arc-begun : (l : List ℕ) → ending (state_of kinds.Arc 1 2) l ≡ arc_line (after (32 ∷ []) l)
unfolding arc_line expected_at start_of unknown commented read_of
arc-begun = start-step kinds.Arc 1 2 32 [] arc_line refl refl refl refl refl arc-read

-- ---- the first byte

after-c : (d : ℕ) → eqb 32 d ≡ true → scan_byte (state_of kinds.Comment 1 0) d ≡ state_of kinds.Comment 2 0
unfolding scan_byte unknown compared expected_at start_of
after-c d e = rw e

after-c-other : (d : ℕ) → eqb 32 d ≡ false → scan_byte (state_of kinds.Comment 1 0) d ≡ spoilt
unfolding scan_byte unknown compared expected_at start_of
after-c-other d e = rw e

module _ (b : ℕ) where
  -- what the line may be by its first byte
  begun-c : eqb (expected_at kinds.Comment 0) b ≡ true → begun_by b ≡ state_of kinds.Comment 1 0
  unfolding begun_by kind_of left_of
  begun-c e = rw e

  begun-p : eqb (expected_at kinds.Comment 0) b ≡ false → eqb (expected_at kinds.Sizes 0) b ≡ true → begun_by b ≡ state_of kinds.Sizes 1 1
  unfolding begun_by kind_of left_of
  begun-p e p = rw (e, p)

  begun-a : eqb (expected_at kinds.Comment 0) b ≡ false → eqb (expected_at kinds.Sizes 0) b ≡ false → eqb (expected_at kinds.Arc 0) b ≡ true → begun_by b ≡ state_of kinds.Arc 1 2
  unfolding begun_by kind_of left_of
  begun-a e p q = rw (e, p, q)

  begun-other : eqb (expected_at kinds.Comment 0) b ≡ false → eqb (expected_at kinds.Sizes 0) b ≡ false → eqb (expected_at kinds.Arc 0) b ≡ false → begun_by b ≡ spoilt
  unfolding begun_by kind_of left_of
  begun-other e p q = rw (e, p, q)

  comment-is : (l : List ℕ) → eqb 99 b ≡ true → ending (state_of kinds.Comment 1 0) l ≡ line_of (b ∷ l)
  unfolding scan_from commented read_of line_of is_comment after sizes_line arc_line
  comment-is [] e = rw e
  comment-is (d ∷ l) e =
      let p : eqb 112 b ≡ false = ne_eqb 112 b (λ z. omega (arith, eqb-true 99 b e)) in
      let q : eqb 97 b ≡ false = ne_eqb 97 b (λ z. omega (arith, eqb-true 99 b e)) in
      ⊎_elim
      (λ t. moves l (after-c d t) ∙ comment-stays l ∙ rw (e, t))
      (λ t. spoils l (after-c-other d t) ∙ rw (e, t, p, q))
      (cases (eqb 32 d))

  -- a line that begins with no `c`
  no-comment : (l : List ℕ) → eqb 99 b ≡ false → is_comment (b ∷ l) ≡ false
  unfolding is_comment
  no-comment [] e = e
  no-comment (d ∷ l) e = rw e

  line-is : (l : List ℕ) → eqb 99 b ≡ false → line_of (b ∷ l) ≡ sizes_line (cond (eqb 112 b) (after (32 ∷ 115 ∷ 112 ∷ 32 ∷ []) l) none) (arc_line (cond (eqb 97 b) (after (32 ∷ []) l) none))
  unfolding line_of after
  line-is l e = rw (no-comment l e)

  begun-is : (l : List ℕ) → ending (begun_by b) l ≡ line_of (b ∷ l)
  unfolding expected_at start_of sizes_line arc_line
  begun-is l =
      ⊎_elim
      (λ e. moves l (begun-c e) ∙ comment-is l e)
      (λ e.
      ⊎_elim
      (λ p.
      let q : eqb 97 b ≡ false = ne_eqb 97 b (λ z. omega (arith, eqb-true 112 b p)) in
      moves l (begun-p e p) ∙ sizes-begun l ∙ sym (line-is l e ∙ rw (p, q)))
      (λ p.
      ⊎_elim
      (λ q. moves l (begun-a e p q) ∙ arc-begun l ∙ sym (line-is l e ∙ rw (p, q)))
      (λ q. spoils l (begun-other e p q) ∙ sym (line-is l e ∙ rw (p, q)))
      (cases (eqb 97 b)))
      (cases (eqb 112 b)))
      (cases (eqb 99 b))

pub scanned-is : (l : List ℕ) → read_of (scanned l) ≡ line_of l
unfolding scan_from scan_byte unknown commented read_of line_of is_comment after sizes_line arc_line
scanned-is [] = refl
scanned-is (b ∷ l) = begun-is b l
