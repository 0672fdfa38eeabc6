-- One line of a road file (document 01), told by its bytes, without its newline.
use Rattle.std.specs.Prelude.{Bool, false, ◌&&◌, ◌||◌, cond, List, [], ◌∷◌, ℕ, zero, suc, ◌+◌, eqb, length, get_or, drop}
use Rattle.std.proofs.Math.Option.{Option, none, some}
use Rattle.numerals.specs.Decimal.{Number, number}

-- A comment; nodes and arcs; tail, head and length; and what "No other line is permitted" shuts out.
pub data Line : Type 0 where
  comment : Line
  sizes : ℕ → ℕ → Line
  arc : ℕ → ℕ → ℕ → Line
  other : Line

-- "`c`, a space", "`p sp` with", "`a` with": a space stands before each number.
abbrev pub comment_start : List ℕ
comment_start = 99 ∷ 32 ∷ []

abbrev pub sizes_start : List ℕ
sizes_start = 112 ∷ 32 ∷ 115 ∷ 112 ∷ 32 ∷ []

abbrev pub arc_start : List ℕ
arc_start = 97 ∷ 32 ∷ []

-- What follows a start in a line that begins with it.
unfoldable pub after : List ℕ → List ℕ → Option (List ℕ)
after [] l = some l
after (s ∷ start) [] = none
after (s ∷ start) (b ∷ l) = cond (eqb s b) (after start l) none

unfoldable pub prepend : ℕ → Option (List ℕ) → Option (List ℕ)
prepend v none = none
prepend v (some vs) = some (v ∷ vs)

-- The last number takes all bytes that are left.
unfoldable pub last_number : List ℕ → Option Number → Option (List ℕ)
last_number l none = none
last_number l (some x) = cond (eqb x.takes (length l)) (some (x.is ∷ [])) none

-- "one space between": a number that `rest` follows.
unfoldable pub with_number : List ℕ → Option Number → Option (List ℕ) → Option (List ℕ)
unfolding prepend
with_number l none rest = none
with_number l (some x) rest = cond (eqb (get_or l x.takes 0) 32) (prepend x.is rest) none

-- What follows a number and the byte after it.
unfoldable pub past : List ℕ → Option Number → List ℕ
past l none = []
past l (some x) = drop (x.takes + 1) l

-- "A road file has the desk program's numbers, spaces and line ends": n numbers, one space between, to the end of the line.
unfoldable pub numbers_in : ℕ → List ℕ → Option (List ℕ)
unfolding number last_number with_number past
numbers_in zero l = none
numbers_in (suc zero) l = last_number l (number l)
numbers_in (suc (suc n)) l = with_number l (number l) (numbers_in (suc n) (past l (number l)))

-- "Its lines are `c` alone, or `c`, a space and any bytes"
unfoldable pub is_comment : List ℕ → Bool
is_comment [] = false
is_comment (b ∷ []) = eqb 99 b
is_comment (b ∷ d ∷ l) = eqb 99 b && eqb 32 d

-- "with nodes and arcs"
unfoldable pub sizes_in : Option (List ℕ) → Line
sizes_in none = other
sizes_in (some vs) = sizes (get_or vs 0 0) (get_or vs 1 0)

-- "nodes counted from 1"
unfoldable pub arc_with : ℕ → ℕ → ℕ → Line
arc_with tail head len = cond (eqb tail 0 || eqb head 0) other (arc tail head len)

-- "with tail, head and length"
unfoldable pub arc_in : Option (List ℕ) → Line
unfolding arc_with
arc_in none = other
arc_in (some vs) = arc_with (get_or vs 0 0) (get_or vs 1 0) (get_or vs 2 0)

-- "and lines `a` with tail, head and length": what follows `a`, if the line begins so.
unfoldable pub arc_line : Option (List ℕ) → Line
unfolding numbers_in arc_in
arc_line none = other
arc_line (some l) = arc_in (numbers_in 3 l)

-- "one line `p sp` with nodes and arcs": what follows `p sp`, if the line begins so; else the line is as told.
unfoldable pub sizes_line : Option (List ℕ) → Line → Line
unfolding numbers_in sizes_in
sizes_line none instead = instead
sizes_line (some l) instead = sizes_in (numbers_in 2 l)

unfoldable pub line_of : List ℕ → Line
unfolding is_comment after sizes_line arc_line
line_of l = cond (is_comment l) comment (sizes_line (after sizes_start l) (arc_line (after arc_start l)))
