-- Filled, sorted and cleared, the bytes are the table of the arcs in order. The records of the filled bytes are `placed_of i x`, i from 0: each holds its arc and its
-- place, so the places rise, and the sorted records are the records of the ordered arcs. Clearing makes the table of these, and nothing touches the bytes after.
use mathlib.Core.Path.{◌≡◌, refl, sym, ap, ap₂, subst, ◌∙◌}
use mathlib.Core.Logic.{⊎_elim}
use mathlib.Core.List.Memᴰ
use mathlib.Core.List.{List, [], ◌∷◌, ◌++◌, map, flatten, append_assoc, Memᴰ}
use Prim.Native.Nat.{ℕ, zero, suc, ◌+◌, ◌*◌, ◌≤◌, ◌<◌}
use native.Mathlib.Omega.{arith}
use native.Mathlib.Numerals.{add-one}
use lib.ListN.{length, get_or, take, drop, length-append}
use lib.Seq.{take_at, drop_at}
use Rattle.lists.specs.Index.{tab}
use Rattle.lists.proofs.IndexLaws.{get_or-tab, tab-cong}
use Rattle.words.specs.Number.{num, bytes_of}
use Rattle.words.proofs.BytesLaws.{num-bytes}
use Rattle.net.specs.Net.{Arc}
use Rattle.net.specs.Small.{Small, AllSmall}
use Rattle.table.specs.Table.{arc_at, table_of}
use Rattle.road_sort.specs.Sorted.{row_at, rows_in, place_of, rows_sorted, sorted_table, Placed}
use Rattle.road_sort.proofs.SwapLaws.{row-num}
use Rattle.road_sort.proofs.OrderLaws.{sorted-e, length-sorted}
use Rattle.road_sort.proofs.SortedLaws.{row-further, rows-sorted_table}
use Rattle.road_order.specs.Ordered.{ordered}
use Rattle.road_order.proofs.OrderedLaws.{arc_of, Rising, sorted-ordered}
use Rattle.road_fill.specs.Filled.{placed_of, placed_from, filled, cleared}
use Rattle.road_fill.proofs.FillLaws.{length-placed, length-placed_from, length-filled}

-- ---- a record that holds its place

pub place-placed_of : (i : ℕ) (x : Arc) → i < 4294967296 → place_of (placed_of i x) ≡ i
unfolding placed_of bytes_of
place-placed_of i x h = num-bytes 4 (bytes_of 4 x.from ++ (bytes_of 4 x.to ++ bytes_of 4 x.len)) [] 12 i refl h

pub arc-placed_of : (i : ℕ) (x : Arc) → Small x → arc_of (placed_of i x) ≡ x
unfolding placed_of bytes_of
arc-placed_of i x s =
    let a = num-bytes 4 [] (bytes_of 4 x.to ++ (bytes_of 4 x.len ++ bytes_of 4 i)) 0 x.from refl s.0 in
    let b = num-bytes 4 (bytes_of 4 x.from) (bytes_of 4 x.len ++ bytes_of 4 i) 4 x.to refl s.1 in
    let c = num-bytes 4 (bytes_of 4 x.from ++ bytes_of 4 x.to) (bytes_of 4 i) 8 x.len refl s.2 in
    ap₂ (λ (u : ℕ) (v : ℕ). record { from = u; to = v; len = num 4 (placed_of i x) 8 }) a b ∙ ap (λ (w : ℕ). record { from = x.from; to = x.to; len = w }) c

-- ---- the records of the filled bytes

unfoldable pub placed_rows : ℕ → List Arc → List (List ℕ)
placed_rows i [] = []
placed_rows i (x ∷ xs) = placed_of i x ∷ placed_rows (i + 1) xs

length-rows : (i : ℕ) (xs : List Arc) → length (placed_rows i xs) ≡ length xs
unfolding placed_rows
length-rows i [] = refl
length-rows i (x ∷ xs) = ap suc (length-rows (i + 1) xs)

rows_long : (z : List ℕ) (i : ℕ) (xs : List Arc) → Memᴰ z (placed_rows i xs) → length z ≡ 16
unfolding placed_rows
rows_long z i [] m = absurd (Memᴰ.not-nil m)
rows_long z i (x ∷ xs) m = ⊎_elim (λ e. ap length e ∙ length-placed i x) (λ k. rows_long z (i + 1) xs k) (Memᴰ.cases_cons m)

rows-from : (i : ℕ) (xs : List Arc) (l : List ℕ) → rows_in (length xs) (placed_from i xs ++ l) ≡ placed_rows i xs
unfolding placed_from placed_rows row_at
rows-from i [] l = refl
rows-from i (x ∷ xs) l =
    let r = placed_from (i + 1) xs ++ l in
    let t = placed_of i x ++ placed_from (i + 1) xs ++ l in
    let e : t ≡ placed_of i x ++ r = append_assoc (placed_of i x) (placed_from (i + 1) xs) l in
    let long = length-placed i x in
    let rest : drop 16 t ≡ r = ap (drop 16) e ∙ drop_at (placed_of i x) r 16 long in
    ap₂ ◌∷◌ (ap (take 16) e ∙ take_at (placed_of i x) r 16 long)
    (tab-cong (length xs) (λ j. row_at t (suc j)) (row_at r) (λ j b. row-further t j ∙ ap (λ y. row_at y j) rest) ∙ rows-from (i + 1) xs l)

arcs-rows : (i : ℕ) (xs : List Arc) → AllSmall xs → map arc_of (placed_rows i xs) ≡ xs
unfolding placed_rows
arcs-rows i [] s = refl
arcs-rows i (x ∷ xs) s = ap₂ ◌∷◌ (arc-placed_of i x (s 0 (omega arith))) (arcs-rows (i + 1) xs (λ j h. s (suc j) (omega arith)))

rising-rows : (i : ℕ) (xs : List Arc) → i + length xs ≤ 4294967296 → Rising i (placed_rows i xs)
unfolding placed_rows Rising
rising-rows i [] h = tt
rising-rows i (x ∷ xs) h = (place-placed_of i x (omega arith), rw (← add-one i) (rising-rows (i + 1) xs (omega arith)))

rising-at : (p : ℕ) (rs : List (List ℕ)) (j : ℕ) → Rising p rs → j < length rs → place_of (get_or rs j []) ≡ p + j
unfolding Rising
rising-at p [] j k h = absurd (omega arith)
rising-at p (r ∷ rs) zero k h = omega (arith, k.0)
rising-at p (r ∷ rs) (suc j) k h = omega (arith, rising-at (suc p) rs j k.1 (omega arith))

module _ (xs : List Arc) (t : List ℕ) where
  pub drop-filled : drop (length xs * 16) (filled xs t) ≡ drop (length xs * 16) t
  unfolding filled
  drop-filled = drop_at (placed_from 0 xs) (drop (length xs * 16) t) (length xs * 16) (length-placed_from 0 xs)

  pub filled-rows : rows_in (length xs) (filled xs t) ≡ placed_rows 0 xs
  unfolding filled
  filled-rows = rows-from 0 xs (drop (length xs * 16) t)

  pub filled-arcs : AllSmall xs → map arc_of (rows_in (length xs) (filled xs t)) ≡ xs
  filled-arcs s = ap (map arc_of) filled-rows ∙ arcs-rows 0 xs s

  pub filled-rising : length xs ≤ 4294967295 → Rising 0 (rows_in (length xs) (filled xs t))
  filled-rising h = rw filled-rows (rising-rows 0 xs (omega arith))

  pub filled-placed : length xs * 16 ≤ length t → length xs ≤ 4294967295 → Placed (filled xs t) (length xs)
  filled-placed room few =
      record {
        room = omega (arith, length-filled xs t room);
        few = few;
        placed =
            λ i h.
            sym (row-num (filled xs t) i 12 (omega arith))
            ∙ ap place_of (sym (get_or-tab (length xs) (row_at (filled xs t)) i [] h) ∙ ap (λ rs. get_or rs i []) filled-rows)
            ∙ rising-at 0 (placed_rows 0 xs) i (rising-rows 0 xs (omega arith)) (omega (arith, length-rows 0 xs))
            ∙ omega arith;
      }

-- ---- after sorting and clearing

length-flatten : (rs : List (List ℕ)) → ((z : List ℕ) → Memᴰ z rs → length z ≡ 16) → length (flatten rs) ≡ length rs * 16
unfolding flatten
length-flatten [] h = refl
length-flatten (r ∷ rs) h = simp length-append (omega (arith, h r (Memᴰ.head refl), length-flatten rs (λ z m. h z (Memᴰ.tail m))))

map-tab : (n : ℕ) (f : ℕ → List ℕ) → map arc_of (tab n f) ≡ tab n (λ i. arc_of (f i))
map-tab zero f = refl
map-tab (suc n) f = ap (λ l. arc_of (f 0) ∷ l) (map-tab n (λ i. f (suc i)))

arc-row : (t : List ℕ) (i : ℕ) → arc_at t i ≡ arc_of (row_at t i)
arc-row t i = rw (row-num t i 0 (omega arith), row-num t i 4 (omega arith), row-num t i 8 (omega arith))

arcs-tab : (n : ℕ) (t : List ℕ) → tab n (arc_at t) ≡ map arc_of (rows_in n t)
arcs-tab n t = tab-cong n (arc_at t) (λ i. arc_of (row_at t i)) (λ i h. arc-row t i) ∙ sym (map-tab n (row_at t))

module _ (xs : List Arc) (t : List ℕ) where
  drop-sorted : drop (length xs * 16) (sorted_table (length xs) (filled xs t)) ≡ drop (length xs * 16) t
  unfolding sorted_table
  drop-sorted =
      let rs = rows_sorted (rows_in (length xs) (filled xs t)) in
      let e : rs ≡ rows_sorted (placed_rows 0 xs) = ap rows_sorted (filled-rows xs t) in
      let long : length (flatten rs) ≡ length xs * 16 =
      ap (λ l. length (flatten l)) e
      ∙ length-flatten (rows_sorted (placed_rows 0 xs)) (λ z m. rows_long z 0 xs (sorted-e z (placed_rows 0 xs) m))
      ∙ ap (λ n. n * 16) (length-sorted (placed_rows 0 xs) ∙ length-rows 0 xs) in
      drop_at (flatten rs) (drop (length xs * 16) (filled xs t)) (length xs * 16) long ∙ drop-filled xs t

  pub made : length xs * 16 ≤ length t → length xs ≤ 4294967295 → AllSmall xs
      → cleared (length xs) (sorted_table (length xs) (filled xs t)) ≡ table_of (ordered xs) ++ drop (length xs * 16) t
  unfolding cleared
  made room few s =
      let n = length xs in
      let u = filled xs t in
      ap₂ (λ l r. table_of l ++ r)
      (arcs-tab n (sorted_table n u) ∙ ap (map arc_of) (rows-sorted_table n u (omega (arith, length-filled xs t room))) ∙ sorted-ordered 0 (rows_in n u) (filled-rising xs t few)
      ∙ ap ordered (filled-arcs xs t s))
      drop-sorted

-- ---- where the number of arcs is known by another name

pub placed_at : (xs : List Arc) (t u : List ℕ) (n : ℕ) → n ≡ length xs → u ≡ filled xs t → n * 16 ≤ length t → n ≤ 4294967295 → Placed u n
placed_at xs t u n e z room few = subst (λ k. Placed u k) (sym e) (subst (λ l. Placed l (length xs)) (sym z) (filled-placed xs t (omega arith) (omega arith)))

pub made_at : (xs : List Arc) (t : List ℕ) (n : ℕ) → n ≡ length xs → n * 16 ≤ length t → n ≤ 4294967295 → AllSmall xs
    → cleared n (sorted_table n (filled xs t)) ≡ table_of (ordered xs) ++ drop (n * 16) t
made_at xs t n e room few small =
    ap (λ k. cleared k (sorted_table k (filled xs t))) e ∙ made xs t (omega arith) (omega arith) small ∙ ap (λ k. table_of (ordered xs) ++ drop (k * 16) t) (sym e)
