-- What a text says is told by its first line, which is malformed where its numbers are above the most that are read, and by its arc lines: each way in which the
-- two are read gives what the text says. All lines well-formed, there are as many arcs as lines.
use mathlib.Core.Path.{◌≡◌, refl, ap, ◌∙◌}
use mathlib.Core.Bool.{Bool, true, false, ◌||◌, cond}
use mathlib.Core.Logic.{⊎_elim}
use mathlib.Core.List.{List, [], ◌∷◌}
use mathlib.Core.Option.{Option, none, some}
use Prim.Native.Nat.{ℕ, zero, suc, ◌+◌, ◌≤◌, ◌<◌}
use native.Mathlib.Omega.{arith}
use borrow.Author.Tests.{lt-ltb, le-ltb, ltb-false}
use lib.Dec.{ltb, eqb}
use lib.ListN.{length, get_or}
use Rattle.std.specs.Prelude.{Ok, Err}
use Rattle.lists.proofs.Cases.{cases}
use Rattle.net.specs.Net.{Arc}
use Rattle.desk_line.specs.Line.{Row, line_from, after}
use Rattle.desk_line.specs.Limits.{most_nodes_read, most_arcs_read}
use Rattle.desk_old_input.specs.Text.{ArcLines, all, bad, with_arc, arc_in, with_row, arcs_from, Said, asks, malformed, with_arcs, with_header, said}
use Rattle.desk_old_input.specs.Parsed.{arcs_read, text_read}
use Rattle.desk_old_input.specs.declared.Asked.{Asked}

-- ---- the first line

module _ (text : List ℕ) where
  pub said-none : line_from 7 text 0 ≡ none → said text ≡ malformed 1
  unfolding said with_header
  said-none e = rw e

  module _ (row : List ℕ) (next : ℕ) (h : line_from 7 text 0 ≡ some (record { values = row; next = next })) where
    pub said-nodes : most_nodes_read < get_or row 0 0 → said text ≡ malformed 1
    unfolding said with_header
    said-nodes k = rw (h, lt-ltb most_nodes_read (get_or row 0 0) k)

    pub said-arcs : get_or row 0 0 ≤ most_nodes_read → most_arcs_read < get_or row 1 0 → said text ≡ malformed 1
    unfolding said with_header
    said-arcs a k = rw (h, le-ltb most_nodes_read (get_or row 0 0) a, lt-ltb most_arcs_read (get_or row 1 0) k)

    pub said-is : get_or row 0 0 ≤ most_nodes_read → get_or row 1 0 ≤ most_arcs_read → said text ≡ with_arcs row (arcs_from (get_or row 1 0) text next 2)
    unfolding said with_header
    said-is a k = rw (h, le-ltb most_nodes_read (get_or row 0 0) a, le-ltb most_arcs_read (get_or row 1 0) k)

pub told-malformed : (w : Said) (n : ℕ) (l l' : List ℕ) → w ≡ malformed n → text_read w (Err n) l l'
told-malformed w n l l' e = rw e

-- ---- the arc lines

with_arc-all : (x : Arc) (a : ArcLines) (xs : List Arc) → with_arc x a ≡ all xs → (ys : List Arc) × (a ≡ all ys) × (xs ≡ x ∷ ys)
unfolding with_arc
with_arc-all x (all ys) xs e = (ys, refl, cc)
with_arc-all x (bad n) xs e =
    let z : ◌≡◌ {A = ℕ} 0 1 = cc in
    absurd (omega arith)

pub arcs-count : (m : ℕ) (text : List ℕ) (at n : ℕ) (xs : List Arc) → arcs_from m text at n ≡ all xs → length xs ≡ m
unfolding arcs_from with_row after
arcs-count zero text at n xs e = go (eqb at (length text)) e
  where
    go : (b : Bool) → cond b (all []) (bad n) ≡ all xs → length xs ≡ 0
    go true k =
        let none_left : xs ≡ [] = cc in
        ap length none_left
    go false k =
        let z : ◌≡◌ {A = ℕ} 0 1 = cc in
        absurd (omega arith)
arcs-count (suc m) text at n xs e = go (λ p ys. arcs-count m text p (n + 1) ys) (line_from 3 text at) e
  where
    go : ((p : ℕ) (ys : List Arc) → arcs_from m text p (n + 1) ≡ all ys → length ys ≡ m)
        → (o : Option Row) → with_row n o (arcs_from m text (after at o) (n + 1)) ≡ all xs → length xs ≡ suc m
    go below none k =
        let z : ◌≡◌ {A = ℕ} 0 1 = cc in
        absurd (omega arith)
    go below (some r) k =
        let w = with_arc-all (arc_in r.values) (arcs_from m text r.next (n + 1)) xs k in
        ap length w.2 ∙ ap suc (below r.next w.0 w.1)

pub told-asks : {X : Type 0} (x : X) (a : ArcLines) (row : List ℕ) (r : Asked) (l l' : List ℕ) → ((xs : List Arc) → a ≡ all xs → length xs ≡ r.arcs)
    → row ≡ r.nodes ∷ r.arcs ∷ r.s ∷ r.goal ∷ r.k ∷ r.a ∷ r.b ∷ [] → arcs_read a (Ok x) l l' → text_read (with_arcs row a) (Ok r) l l'
unfolding with_arcs
told-asks x (all xs) row r l l' count numbers h = (numbers, count xs refl, h)
told-asks x (bad n) row r l l' count numbers h = absurd h

pub told_line : (X : Type 0) (a : ArcLines) (row : List ℕ) (n : ℕ) (l l' : List ℕ) → arcs_read {X = X} a (Err n) l l' → text_read (with_arcs row a) (Err n) l l'
unfolding with_arcs
told_line X (all xs) row n l l' h = absurd h
told_line X (bad m) row n l l' h = h

-- ---- what a text says is within the limits

second : (x y : Bool) → (x || y) ≡ false → (x ≡ false) × (y ≡ false)
second true y e =
    let z : ◌≡◌ {A = ℕ} 0 1 = cc in
    absurd (omega arith)
second false y e = (refl, e)

module _ (text vs : List ℕ) (xs : List Arc) where
  arcs-limits : (row : List ℕ) (next : ℕ) (a : ArcLines) → get_or row 0 0 ≤ most_nodes_read → get_or row 1 0 ≤ most_arcs_read → arcs_from (get_or row 1 0) text next 2 ≡ a
      → with_arcs row a ≡ asks vs xs → (get_or vs 0 0 ≤ most_nodes_read) × (length xs ≤ most_arcs_read)
  unfolding with_arcs
  arcs-limits row next (all ys) h g e k =
      let same_row : row ≡ vs = cc in
      let same-arcs : ys ≡ xs = cc in
      (omega (arith, h, ap (λ l. get_or l 0 0) same_row), omega (arith, g, arcs-count (get_or row 1 0) text next 2 ys e, ap length same-arcs))
  arcs-limits row next (bad n) h g e k =
      let z : ◌≡◌ {A = ℕ} 0 1 = cc in
      absurd (omega arith)

  pub said-limits : said text ≡ asks vs xs → (get_or vs 0 0 ≤ most_nodes_read) × (length xs ≤ most_arcs_read)
  unfolding said with_header
  said-limits e = go (line_from 7 text 0) e
    where
      go : (o : Option Row) → with_header text o ≡ asks vs xs → (get_or vs 0 0 ≤ most_nodes_read) × (length xs ≤ most_arcs_read)
      go none k =
          let z : ◌≡◌ {A = ℕ} 0 1 = cc in
          absurd (omega arith)
      go (some r) k =
          ⊎_elim
          (λ t.
          let z : ◌≡◌ {A = ℕ} 0 1 = cc (rw t at k) in
          absurd (omega arith))
          (λ t.
          let l = second _ _ t in
          arcs-limits r.values r.next (arcs_from (get_or r.values 1 0) text r.next 2) (ltb-false most_nodes_read _ l.0) (ltb-false most_arcs_read _ l.1) refl (rw t at k))
          (cases (ltb most_nodes_read (get_or r.values 0 0) || ltb most_arcs_read (get_or r.values 1 0)))
