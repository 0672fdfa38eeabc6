-- The scan of a line byte by byte: the state after each byte, and what the line is if it ends there.
use Rattle.std.specs.Prelude.{Bool, true, false, ◌&&◌, cond, List, [], ◌∷◌, ℕ, ◌+◌, ◌-◌, ◌*◌, ltb, leb, eqb, get_or}
use Rattle.numerals.specs.Decimal.{most_number, is_digit}
use Rattle.road_line.specs.Line.{Line, comment, sizes, arc, other, comment_start, sizes_start, arc_start, arc_with}
use Rattle.road_line.specs.declared.Kind.{Kind}
use Rattle.road_line.specs.declared.Kind.TheVariants as kinds
use Rattle.road_line.specs.declared.Scan.{Scan}
use Rattle.road_line.specs.declared.Read.{Read}
use Rattle.road_line.specs.declared.Read.TheVariants.{Comment, Sizes, Arc, Other}

-- How a line of this kind starts.
unfoldable pub start_of : Kind → List ℕ
start_of kinds.Unknown = []
start_of kinds.Sizes = sizes_start
start_of kinds.Arc = arc_start
start_of kinds.Comment = comment_start
start_of kinds.Other = []

-- Whether the first byte is still to come.
unfoldable pub unknown : Kind → Bool
unknown kinds.Unknown = true
unknown kinds.Sizes = false
unknown kinds.Arc = false
unknown kinds.Comment = false
unknown kinds.Other = false

-- Whether numbers follow the start.
unfoldable pub numbered : Kind → Bool
numbered kinds.Unknown = false
numbered kinds.Sizes = true
numbered kinds.Arc = true
numbered kinds.Comment = false
numbered kinds.Other = false

-- The byte at a place of a start; past its end 256, which is no byte.
unfoldable pub expected_at : Kind → ℕ → ℕ
unfolding start_of
expected_at kind at = get_or (start_of kind) at 256

-- A state with no number.
abbrev pub state_of : Kind → ℕ → ℕ → Scan
state_of kind at left = record { kind = kind; at = at; left = left; begun = false; value = 0; first = 0; second = 0 }

abbrev pub started : Scan
started = state_of kinds.Unknown 0 0

-- The line is other, whatever follows.
abbrev pub spoilt : Scan
spoilt = state_of kinds.Other 1 0

-- What a line with this first byte may be.
unfoldable pub kind_of : ℕ → Kind
unfolding expected_at
kind_of b =
    cond (eqb (expected_at kinds.Comment 0) b) kinds.Comment
    (cond (eqb (expected_at kinds.Sizes 0) b) kinds.Sizes (cond (eqb (expected_at kinds.Arc 0) b) kinds.Arc kinds.Other))

-- How many numbers follow the first one.
unfoldable pub left_of : Kind → ℕ
left_of kinds.Unknown = 0
left_of kinds.Sizes = 1
left_of kinds.Arc = 2
left_of kinds.Comment = 0
left_of kinds.Other = 0

-- The first byte.
unfoldable pub begun_by : ℕ → Scan
unfolding kind_of left_of
begun_by b = state_of (kind_of b) 1 (left_of (kind_of b))

-- A byte of the start.
unfoldable pub compared : Scan → ℕ → Scan
unfolding expected_at
compared x b = cond (eqb (expected_at x.kind x.at) b) (state_of x.kind (x.at + 1) x.left) spoilt

-- A number with one digit more; where a zero leads, one that is too large.
unfoldable pub grown_by : Bool → ℕ → ℕ → ℕ
grown_by begun v b = cond begun (cond (eqb v 0) (most_number + 1) (v * 10 + (b - 48))) (b - 48)

unfoldable pub with_digit : Scan → ℕ → Scan
unfolding grown_by
with_digit x b =
    cond (leb (grown_by x.begun x.value b) most_number)
    (record { kind = x.kind; at = x.at; left = x.left; begun = true; value = grown_by x.begun x.value b; first = x.first; second = x.second })
    spoilt

-- The space after a number that another one follows: the last two whole numbers are kept.
unfoldable pub with_space : Scan → Scan
with_space x =
    cond (x.begun && ltb 0 x.left)
    (record { kind = x.kind; at = x.at; left = x.left - 1; begun = false; value = 0; first = x.second; second = x.value })
    spoilt

unfoldable pub number_byte : Scan → ℕ → Scan
unfolding with_space with_digit
number_byte x b = cond (eqb b 32) (with_space x) (cond (is_digit b) (with_digit x b) spoilt)

unfoldable pub scan_byte : Scan → ℕ → Scan
unfolding unknown begun_by expected_at compared numbered number_byte
scan_byte x b =
    cond (unknown x.kind) (begun_by b)
    (cond (ltb (expected_at x.kind x.at) 256) (compared x b)
    (cond (numbered x.kind) (number_byte x b) x))

unfoldable pub scan_from : Scan → List ℕ → Scan
unfolding scan_byte
scan_from x [] = x
scan_from x (b ∷ l) = scan_from (scan_byte x b) l

-- The state after the bytes of a line so far.
abbrev pub scanned : List ℕ → Scan
scanned l = scan_from started l

-- What a line of this kind is whose numbers are whole.
unfoldable pub whole_as : Kind → Scan → Line
unfolding arc_with
whole_as kinds.Unknown x = other
whole_as kinds.Sizes x = sizes x.second x.value
whole_as kinds.Arc x = arc_with x.first x.second x.value
whole_as kinds.Comment x = other
whole_as kinds.Other x = other

abbrev pub whole_of : Scan → Line
whole_of x = whole_as x.kind x

-- Whether such a line is a comment.
unfoldable pub commented : Kind → Bool
commented kinds.Unknown = false
commented kinds.Sizes = false
commented kinds.Arc = false
commented kinds.Comment = true
commented kinds.Other = false

-- What the line is if it ends here: a line of numbers is whole where the last one has a digit.
unfoldable pub read_of : Scan → Line
unfolding commented whole_as
read_of x = cond (commented x.kind) comment (cond (x.begun && eqb x.left 0) (whole_of x) other)

-- What each case of an answer means.
abbrev pub line_is : Read → Line
line_is Comment = comment
line_is (Sizes nodes arcs) = sizes nodes arcs
line_is (Arc tail head len) = arc tail head len
line_is Other = other
