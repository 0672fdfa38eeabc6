-- A written file, byte by byte: its definition computes to the lines `p sp 10 2`, `a 1 2 7` and `a 3 10 20`.
use mathlib.Core.Path.{◌≡◌, refl}
use mathlib.Core.List.{[], ◌∷◌}
use Rattle.numerals.specs.Decimal.{decimal_in, decimal}
use Rattle.road_write.specs.Text.{sizes_text, line_text, lines_text, roads_text}

pub two-arcs : roads_text 10 (record { from = 0; to = 1; len = 7 } ∷ record { from = 2; to = 9; len = 20 } ∷ [])
    ≡ 112 ∷ 32 ∷ 115 ∷ 112 ∷ 32 ∷ 49 ∷ 48 ∷ 32 ∷ 50 ∷ 10
    ∷ 97 ∷ 32 ∷ 49 ∷ 32 ∷ 50 ∷ 32 ∷ 55 ∷ 10
    ∷ 97 ∷ 32 ∷ 51 ∷ 32 ∷ 49 ∷ 48 ∷ 32 ∷ 50 ∷ 48 ∷ 10 ∷ []
unfolding roads_text lines_text line_text sizes_text decimal decimal_in
two-arcs = refl
