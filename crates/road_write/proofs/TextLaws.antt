-- How long the lines are, and lines one after the other. A line's length is the sum of its parts', and a number has at most 20 digits. The lines of arcs and more
-- arcs are the ones and then the others; so the lines of the first i arcs, and one line more, are no longer than the lines of all.
use mathlib.Core.Path.{◌≡◌, refl, ap, sym, subst, ◌∙◌}
use mathlib.Core.List.{List, [], ◌∷◌, ◌++◌, append_assoc, append-nil}
use Prim.Native.Nat.{ℕ, zero, suc, ◌+◌, ◌-◌, ◌*◌, ◌≤◌, ◌<◌}
use native.Mathlib.Omega.{arith}
use lib.ListN.{length, length-append}
use Rattle.lists.specs.Index.{tab}
use Rattle.lists.proofs.IndexLaws.{length-tab, tab-more}
use Rattle.net.specs.Net.{Arc}
use Rattle.numerals.specs.Decimal.{decimal}
use Rattle.numerals.proofs.DecimalLaws.{decimal-length}
use Rattle.table.proofs.NetLaws.{arcs-length}
use Rattle.road_line.specs.Line.{sizes_start, arc_start}
use Rattle.text_put.specs.Put.{Appended, space, newline}
use Rattle.text_put.proofs.AppendLaws.{appended-more}
use Rattle.table.specs.Table.{records, arc_at, arcs_of}
use Rattle.road_write.specs.Text.{sizes_text, line_text, arc_text, ended, lines_text, roads_text}
use Rattle.road_write.specs.Written.{text_of}

-- ---- a line: its parts, one after the other, and its length

pub sizes-parts : (nodes arcs : ℕ) → sizes_start ++ decimal nodes ++ (space ∷ decimal arcs) ++ (newline ∷ []) ≡ ended (sizes_text nodes arcs)
unfolding sizes_text
sizes-parts nodes arcs = simp append_assoc

pub line-parts : (tail head len : ℕ) → arc_start ++ decimal tail ++ (space ∷ decimal head) ++ (space ∷ decimal len) ++ (newline ∷ []) ≡ ended (line_text tail head len)
unfolding line_text
line-parts tail head len = simp append_assoc

pub sizes-length : (nodes arcs : ℕ) → length (ended (sizes_text nodes arcs)) ≡ length (decimal nodes) + length (decimal arcs) + 7
sizes-length nodes arcs = rw (← sizes-parts nodes arcs) (simp length-append (omega arith))

pub line-length : (tail head len : ℕ) → length (ended (line_text tail head len)) ≡ length (decimal tail) + length (decimal head) + length (decimal len) + 5
line-length tail head len = rw (← line-parts tail head len) (simp length-append (omega arith))

pub sizes-most : (nodes arcs : ℕ) → length (ended (sizes_text nodes arcs)) ≤ 47
sizes-most nodes arcs = omega (arith, sizes-length nodes arcs, decimal-length nodes, decimal-length arcs)

pub arc-most : (x : Arc) → length (ended (arc_text x)) ≤ 65
arc-most x = omega (arith, line-length (x.from + 1) (x.to + 1) x.len, decimal-length (x.from + 1), decimal-length (x.to + 1), decimal-length x.len)

-- a line, told as another
pub line_as : (l : List ℕ) (at : ℕ) (m : List ℕ) (p : ℕ) (x y : List ℕ) → x ≡ y → Appended l at (ended x) m p → Appended l at (ended y) m p
line_as l at m p x y e a = subst (λ z. Appended l at (ended z) m p) e a

-- ---- the lines of arcs

lines-append : (xs ys : List Arc) → lines_text (xs ++ ys) ≡ lines_text xs ++ lines_text ys
unfolding lines_text
lines-append [] ys = refl
lines-append (x ∷ xs) ys = rw (lines-append xs ys) (sym (append_assoc (ended (arc_text x)) (lines_text xs) (lines_text ys)))

lines-one : (x : Arc) → lines_text (x ∷ []) ≡ ended (arc_text x)
unfolding lines_text
lines-one x = append-nil (ended (arc_text x))

lines-length-most : (xs : List Arc) → length (lines_text xs) ≤ length xs * 65
unfolding lines_text
lines-length-most [] = omega arith
lines-length-most (x ∷ xs) = rw (length-append (ended (arc_text x)) (lines_text xs)) (omega (arith, arc-most x, lines-length-most xs))

-- the lines of the first i arcs of a table
module _ (t : List ℕ) where
  abbrev pub lines_to : ℕ → List ℕ
  lines_to i = lines_text (tab i (arc_at t))

  pub lines_more : (i : ℕ) → lines_to (i + 1) ≡ lines_to i ++ ended (arc_text (arc_at t i))
  lines_more i = ap lines_text (tab-more i (arc_at t)) ∙ lines-append (tab i (arc_at t)) (arc_at t i ∷ []) ∙ ap (λ l. lines_to i ++ l) (lines-one (arc_at t i))

  pub lines-longer : (i : ℕ) → length (lines_to (i + 1)) ≡ length (lines_to i) + length (ended (arc_text (arc_at t i)))
  lines-longer i = ap length (lines_more i) ∙ length-append (lines_to i) (ended (arc_text (arc_at t i)))

  pub lines-most : (i : ℕ) → length (lines_to i) ≤ i * 65
  lines-most i = omega (arith, lines-length-most (tab i (arc_at t)), length-tab i (arc_at t))

  -- d lines more
  lines-grow : (i d : ℕ) → length (lines_to i) ≤ length (lines_to (i + d))
  lines-grow i zero =
      let e : i + 0 ≡ i = omega arith in
      rw e (omega arith)
  lines-grow i (suc d) =
      let e : i + suc d ≡ i + d + 1 = omega arith in
      rw e (omega (arith, lines-grow i d, lines-longer (i + d)))

  -- all arcs are the first ones, as many as there are records
  pub lines-all : (i : ℕ) → i ≡ records t → lines_to i ≡ lines_text (arcs_of t)
  unfolding arcs_of
  lines-all i e = rw e

  pub lines-room : (i : ℕ) → i < records t → length (lines_to i) + length (ended (arc_text (arc_at t i))) ≤ length (lines_text (arcs_of t))
  lines-room i h =
      let e : records t ≡ i + 1 + (records t - (i + 1)) = omega arith in
      omega (arith, lines-longer i, lines-grow (i + 1) (records t - (i + 1)), ap length (lines-all (i + 1 + (records t - (i + 1))) (sym e)))

  -- the turn of a loop that writes them
  pub lines-turn : (l : List ℕ) (at : ℕ) (m : List ℕ) (p i : ℕ) (n : List ℕ) (r : ℕ) → Appended l at (lines_to i) m p → Appended m p (ended (arc_text (arc_at t i))) n r → at ≤ length l
      → Appended l at (lines_to (i + 1)) n r
  lines-turn l at m p i n r a b h = rw (lines_more i) (appended-more l at _ m p _ n r a b h)

  -- ---- the whole text

  pub text-parts : (nodes : ℕ) → ended (sizes_text nodes (records t)) ++ lines_text (arcs_of t) ≡ text_of nodes t
  unfolding roads_text arcs_of
  text-parts nodes = rw (length-tab (records t) (arc_at t))

  pub text-length : (nodes : ℕ) → length (text_of nodes t) ≡ length (ended (sizes_text nodes (records t))) + length (lines_text (arcs_of t))
  text-length nodes = ap length (sym (text-parts nodes)) ∙ length-append (ended (sizes_text nodes (records t))) (lines_text (arcs_of t))

  pub text-most : (nodes : ℕ) → length (text_of nodes t) ≤ 47 + records t * 65
  text-most nodes = omega (arith, text-length nodes, sizes-most nodes (records t), lines-length-most (arcs_of t), arcs-length t)
