-- Roads that were written read as they were. The first line says the sizes; each line after it says one arc more, and it is not one too many, since there are as many
-- as the first line says. So at the end none is missing, nothing was refused, and the number of lines does not show.
use mathlib.Core.Path.{◌≡◌, refl, sym, ap, ◌∙◌}
use mathlib.Core.Bool.{true}
use mathlib.Core.List.{List, [], ◌∷◌, ◌++◌, append-nil, Memᴰ}
use Prim.Native.Nat.{ℕ, ◌+◌, ◌-◌, ◌≤◌, ◌<◌}
use native.Mathlib.Omega.{arith}
use lib.ListN.{length, length-append}
use lib.Seq.{append_snoc}
use borrow.Author.Tests.{lt-ltb, le-ltb}
use Rattle.net.specs.Net.{Arc}
use Rattle.numerals.specs.Decimal.{most_number}
use Rattle.road_line.specs.Line.{arc, line_of}
use Rattle.road_file.specs.File.{Said, Fed, nothing, next_line, sized, extended, saying, feed, roads, missing, ended_of, roads_in}
use Rattle.road_write.specs.Text.{sizes_text, arc_text, lines_text, roads_text}
use Rattle.road_trip.specs.Text.{Tellable}
use Rattle.road_trip.proofs.LineLaws.{line-sizes, line-arc, sizes-newline, arc-newline}
use Rattle.road_trip.proofs.FeedLine.{feed-ended}

-- k lines, the sizes n and m, and the arcs xs were said, and nothing was refused
abbrev underway : ℕ → ℕ → ℕ → List Arc → Said
underway k n m xs = record { lines = k; begun = true; nodes = n; wanted = m; arcs = xs; wrong = 0 }

abbrev fed : Said → Fed
fed s = record { said = s; rest = [] }

module _ (k n m : ℕ) (xs : List Arc) where
  -- an arc that is not one too many
  one_more : (a : Arc) → length xs < m → saying (underway k n m xs) (arc (a.from + 1) (a.to + 1) a.len) ≡ underway (next_line k) n m (xs ++ (a ∷ []))
  unfolding saying extended
  one_more a h =
      let e : a.from + 1 - 1 ≡ a.from = omega arith in
      let f : a.to + 1 - 1 ≡ a.to = omega arith in
      rw (lt-ltb (length xs) m h, e, f)

  all_said : length xs ≡ m → ended_of (fed (underway k n m xs)) ≡ roads n xs
  unfolding ended_of missing
  all_said h = rw (le-ltb (length xs) m (omega arith))

arcs-read : (k n m : ℕ) (xs ys : List Arc) → length xs + length ys ≡ m → ((a : Arc) → Memᴰ a ys → Tellable a)
    → ended_of (feed (fed (underway k n m xs)) (lines_text ys)) ≡ roads n (xs ++ ys)
unfolding lines_text feed
arcs-read k n m xs [] h t = all_said k n m xs (omega arith) ∙ ap (λ l. roads n l) (sym (append-nil xs))
arcs-read k n m xs (a ∷ ys) h t =
    let said : saying (underway k n m xs) (line_of (arc_text a)) ≡ underway (next_line k) n m (xs ++ (a ∷ [])) =
    rw (line-arc a (t a (Memᴰ.head refl))) (one_more k n m xs a (omega arith)) in
    let rest = arcs-read (next_line k) n m (xs ++ (a ∷ [])) ys (simp length-append (omega arith)) (λ b i. t b (Memᴰ.tail i)) in
    rw (feed-ended (underway k n m xs) (arc_text a) (lines_text ys) (arc-newline a), said) (rest ∙ ap (λ l. roads n l) (append_snoc xs a ys))

pub written-reads : (nodes : ℕ) (arcs : List Arc) → nodes ≤ most_number → length arcs ≤ most_number → ((a : Arc) → Memᴰ a arcs → Tellable a)
    → roads_in (roads_text nodes arcs) ≡ roads nodes arcs
unfolding roads_in roads_text saying sized
written-reads nodes arcs h k t =
    rw (feed-ended nothing (sizes_text nodes (length arcs)) (lines_text arcs) (sizes-newline nodes (length arcs)), line-sizes nodes (length arcs) h k)
    (arcs-read (next_line 0) nodes (length arcs) [] arcs (omega arith) t)
