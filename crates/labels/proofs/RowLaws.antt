-- Labels made of chains, one after the other: a chain more is a row more, put behind those before it. Each row lies behind the last, so the bytes past the
-- labels are as they were.
use mathlib.Core.Path.{◌≡◌, refl, ap, ◌∙◌}
use mathlib.Core.List.{List, [], ◌∷◌, ◌++◌}
use Prim.Native.Nat.{ℕ, suc, ◌+◌, ◌*◌, ◌≤◌, ◌<◌}
use native.Mathlib.Omega.{arith}
use lib.ListN.{length, get_or, drop, length-map}
use Rattle.net.specs.Net.{Net}
use Rattle.net.specs.Route.{end_of, length_of}
use Rattle.net.specs.Labels.{Label, start, extend, label_from, labels}
use Rattle.net.proofs.Labels.{Closed, labels-more}
use Rattle.net.proofs.Sorted.{Increasing}
use Rattle.labels.specs.Field.{label_bytes, most_earlier, Row, put_row}
use Rattle.labels.specs.Rows.{row_of, rows_of, put_rows, labelled}
use Rattle.labels.proofs.OverlapLaws.{length-overlaps_of}
use Rattle.labels.proofs.StoreLaws.{length-put_row, drop-put_row}
use Rattle.labels.proofs.StandingLaws.{empty_row}

-- ---- rows

pub put_rows-more : (l : List ℕ) (i : ℕ) (xs : List Row) (x : Row) → put_rows l i (xs ++ (x ∷ [])) ≡ put_row (put_rows l i xs) (i + length xs) x
unfolding put_rows
put_rows-more l i [] x = ap (λ n. put_row l n x) (omega arith)
put_rows-more l i (y ∷ xs) x = put_rows-more (put_row l i y) (i + 1) xs x ∙ ap (λ n. put_row (put_rows (put_row l i y) (i + 1) xs) n x) (omega arith)

pub length-put_rows : (l : List ℕ) (i : ℕ) (xs : List Row) → length (put_rows l i xs) ≡ length l
unfolding put_rows
length-put_rows l i [] = refl
length-put_rows l i (x ∷ xs) = length-put_rows (put_row l i x) (i + 1) xs ∙ length-put_row l i x

pub length-labels : (ps : List (List ℕ)) → length (labels ps) ≡ length ps
unfolding labels
length-labels ps = length-map ps (label_from ps [])

module _ (net : Net) (s : ℕ) (earlier : List (List ℕ)) where
  pub rows_of-more : (ls : List Label) (ps : List (List ℕ)) (x : Label) (p : List ℕ) → length ls ≡ length ps
      → rows_of net s earlier (ls ++ (x ∷ [])) (ps ++ (p ∷ [])) ≡ rows_of net s earlier ls ps ++ (row_of net s earlier x p ∷ [])
  unfolding rows_of
  rows_of-more [] [] x p h = refl
  rows_of-more [] (q ∷ ps) x p h = absurd (omega arith)
  rows_of-more (y ∷ ls) [] x p h = absurd (omega arith)
  rows_of-more (y ∷ ls) (q ∷ ps) x p h = ap (λ l. row_of net s earlier y q ∷ l) (rows_of-more ls ps x p (omega arith))

  length-row : (x : Label) (p : List ℕ) → length (row_of net s earlier x p).overlaps ≡ length earlier
  unfolding row_of
  length-row start p = length-overlaps_of net earlier p
  length-row (extend i a) p = length-overlaps_of net earlier p

  length-rows_of : (ls : List Label) (ps : List (List ℕ)) → length ls ≡ length ps → length (rows_of net s earlier ls ps) ≡ length ps
  unfolding rows_of
  length-rows_of [] [] h = refl
  length-rows_of [] (q ∷ ps) h = absurd (omega arith)
  length-rows_of (y ∷ ls) [] h = absurd (omega arith)
  length-rows_of (y ∷ ls) (q ∷ ps) h = ap suc (length-rows_of ls ps (omega arith))

  -- ---- labels of chains

  pub labelled-none : (l : List ℕ) → labelled net s earlier l [] ≡ l
  unfolding labelled labels rows_of put_rows
  labelled-none l = refl

  pub labelled-first : (l : List ℕ) → labelled net s earlier l ([] ∷ []) ≡ put_row l 0 (empty_row net s earlier)
  unfolding labelled labels label_from rows_of row_of put_rows length_of end_of
  labelled-first l = refl

  pub labelled-more : (l : List ℕ) (ps : List (List ℕ)) → Increasing (length_of net.arcs) ps → Closed ps → (i a : ℕ) → i < length ps
      → labelled net s earlier l (ps ++ ((get_or ps i [] ++ (a ∷ [])) ∷ []))
      ≡ put_row (labelled net s earlier l ps) (length ps)
      (row_of net s earlier (extend i a) (get_or ps i [] ++ (a ∷ [])))
  unfolding labelled row_of
  labelled-more l ps inc closed i a h =
      let p = get_or ps i [] ++ (a ∷ []) in
      let rows = rows_of net s earlier (labels ps) ps in
      let n : 0 + length rows ≡ length ps = omega (arith, length-rows_of (labels ps) ps (length-labels ps)) in
      ap (put_rows l 0) (ap (λ ls. rows_of net s earlier ls (ps ++ (p ∷ []))) (labels-more (length_of net.arcs) ps inc closed i a h) ∙ rows_of-more (labels ps) ps (extend i a) p (length-labels ps))
      ∙ put_rows-more l 0 rows (row_of net s earlier (extend i a) p) ∙ ap (λ k. put_row (put_rows l 0 rows) k (row_of net s earlier (extend i a) p)) n

  pub length-labelled : (l : List ℕ) (ps : List (List ℕ)) → length (labelled net s earlier l ps) ≡ length l
  unfolding labelled
  length-labelled l ps = length-put_rows l 0 (rows_of net s earlier (labels ps) ps)

  -- the rows from label i on end before byte m
  past : length earlier ≤ most_earlier → (l : List ℕ) (i : ℕ) (ls : List Label) (ps : List (List ℕ)) (m : ℕ) → (i + length (rows_of net s earlier ls ps)) * label_bytes ≤ m
      → drop m (put_rows l i (rows_of net s earlier ls ps)) ≡ drop m l
  unfolding rows_of put_rows
  past few l i [] ps m h = refl
  past few l i (y ∷ ls) [] m h = refl
  past few l i (y ∷ ls) (p ∷ ps) m h =
      past few (put_row l i (row_of net s earlier y p)) (i + 1) ls ps m (omega arith)
      ∙ drop-put_row l i (row_of net s earlier y p) (omega (arith, length-row y p)) m (omega arith)

  pub labelled-past : length earlier ≤ most_earlier → (l : List ℕ) (ps : List (List ℕ)) → drop (length ps * label_bytes) (labelled net s earlier l ps) ≡ drop (length ps * label_bytes) l
  unfolding labelled
  labelled-past few l ps = past few l 0 (labels ps) ps (length ps * label_bytes) (omega (arith, length-rows_of (labels ps) ps (length-labels ps)))
