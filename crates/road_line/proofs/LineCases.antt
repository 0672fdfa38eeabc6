-- Lines of each kind and lines that look like them, as the definition computes them; so by `scanned-is` the scan does.
use mathlib.Core.Path.{◌≡◌, refl}
use mathlib.Core.List.{List, [], ◌∷◌, map}
use Prim.Native.Nat.{ℕ}
use Rattle.numerals.specs.Decimal.{digits, value_after, value, well_formed, number_of, number}
use Rattle.road_line.specs.Line.{Line, comment, sizes, arc, other, after, prepend, last_number, with_number, past, numbers_in, is_comment, sizes_in, arc_with, arc_in, arc_line, sizes_line, line_of}

-- the bytes of a line, and what it is
pub record Case : Type 0 where
  pub bytes : List ℕ
  pub is : Line

abbrev says : List ℕ → Line → Case
says l x = record { bytes = l; is = x }

-- `p sp ` and `a ` before the bytes of numbers
abbrev p : List ℕ → List ℕ
p l = 112 ∷ 32 ∷ 115 ∷ 112 ∷ 32 ∷ l

abbrev a : List ℕ → List ℕ
a l = 97 ∷ 32 ∷ l

abbrev lines : List Case
lines =
    says [] other  -- nothing
    ∷ says (99 ∷ []) comment  -- `c`
    ∷ says (99 ∷ 32 ∷ []) comment  -- `c `
    ∷ says (99 ∷ 32 ∷ 0 ∷ 255 ∷ []) comment  -- `c ` and any bytes
    ∷ says (99 ∷ 99 ∷ []) other  -- `cc`
    ∷ says (p (52 ∷ 32 ∷ 53 ∷ [])) (sizes 4 5)  -- `p sp 4 5`
    ∷ says (p (48 ∷ 32 ∷ 48 ∷ [])) (sizes 0 0)  -- `p sp 0 0`
    ∷ says (p (52 ∷ [])) other  -- `p sp 4`
    ∷ says (p (52 ∷ 32 ∷ 53 ∷ 32 ∷ [])) other  -- `p sp 4 5 `
    ∷ says (a (49 ∷ 32 ∷ 50 ∷ 32 ∷ 51 ∷ 48 ∷ [])) (arc 1 2 30)  -- `a 1 2 30`
    ∷ says (a (49 ∷ 32 ∷ 50 ∷ 32 ∷ 48 ∷ [])) (arc 1 2 0)  -- `a 1 2 0`
    ∷ says (a (48 ∷ 32 ∷ 50 ∷ 32 ∷ 51 ∷ [])) other  -- `a 0 2 3`
    ∷ says (a (49 ∷ 32 ∷ 48 ∷ 32 ∷ 51 ∷ [])) other  -- `a 1 0 3`
    ∷ says (a (48 ∷ 49 ∷ 32 ∷ 50 ∷ 32 ∷ 51 ∷ [])) other  -- `a 01 2 3`
    ∷ says (a (49 ∷ 32 ∷ 32 ∷ 50 ∷ 32 ∷ 51 ∷ [])) other  -- `a 1  2 3`
    ∷ says (a (49 ∷ 32 ∷ 50 ∷ 32 ∷ 52 ∷ 50 ∷ 57 ∷ 52 ∷ 57 ∷ 54 ∷ 55 ∷ 50 ∷ 57 ∷ 53 ∷ [])) (arc 1 2 4294967295)
    ∷ says (a (49 ∷ 32 ∷ 50 ∷ 32 ∷ 52 ∷ 50 ∷ 57 ∷ 52 ∷ 57 ∷ 54 ∷ 55 ∷ 50 ∷ 57 ∷ 54 ∷ [])) other
    ∷ []

pub lines-hold : map (λ c. line_of c.bytes) lines ≡ map (λ c. c.is) lines
unfolding line_of after prepend last_number with_number past numbers_in is_comment sizes_in arc_with arc_in arc_line sizes_line digits value_after value well_formed number_of number
lines-hold = refl
