-- The bytes of labels that stand for given chains.
use Rattle.std.specs.Prelude.{List, [], ◌∷◌, map, ℕ, ◌+◌}
use Rattle.net.specs.Net.{Net}
use Rattle.net.specs.Route.{end_of, length_of, overlap}
use Rattle.net.specs.Labels.{Label, start, extend, labels}
use Rattle.labels.specs.Field.{no_number, Row, put_row}

-- "Each label shall hold its overlap with each earlier route": those of a chain p.
unfoldable pub overlaps_of : Net → List (List ℕ) → List ℕ → List ℕ
unfolding overlap
overlaps_of net earlier p = map (overlap net p) earlier

-- The row of a label whose chain is p: "its last arc (4,294,967,295 for none) and the label it extends", 0 for none; its length, its end and its overlaps.
unfoldable pub row_of : Net → ℕ → List (List ℕ) → Label → List ℕ → Row
unfolding length_of end_of overlaps_of
row_of net s earlier start p =
    record { last-arc = no_number; extends = 0; len = length_of net.arcs p; end = end_of net.arcs s p; overlaps = overlaps_of net earlier p }
row_of net s earlier (extend i a) p =
    record { last-arc = a; extends = i; len = length_of net.arcs p; end = end_of net.arcs s p; overlaps = overlaps_of net earlier p }

unfoldable pub rows_of : Net → ℕ → List (List ℕ) → List Label → List (List ℕ) → List Row
unfolding row_of
rows_of net s earlier [] ps = []
rows_of net s earlier (x ∷ ls) [] = []
rows_of net s earlier (x ∷ ls) (p ∷ ps) = row_of net s earlier x p ∷ rows_of net s earlier ls ps

-- The rows put one after the other, from label i on.
unfoldable pub put_rows : List ℕ → ℕ → List Row → List ℕ
unfolding put_row
put_rows l i [] = l
put_rows l i (x ∷ xs) = put_rows (put_row l i x) (i + 1) xs

-- The bytes l with a label for each of the chains ps, from label 0 on, after these earlier routes; every other byte is as it was.
unfoldable pub labelled : Net → ℕ → List (List ℕ) → List ℕ → List (List ℕ) → List ℕ
unfolding rows_of put_rows labels
labelled net s earlier l ps = put_rows l 0 (rows_of net s earlier (labels ps) ps)
