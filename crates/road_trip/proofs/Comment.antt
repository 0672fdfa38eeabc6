-- A comment between two lines changes no roads. It changes only how many lines there were. Every line that follows keeps two states alike but for that and for which line
-- is the first wrong one, if there is one: each tests only what is alike. At the end, where nothing is wrong and nothing is missing, the roads are what is alike.
use mathlib.Core.Path.{◌≡◌, refl, sym, ap, ◌∙◌}
use mathlib.Core.Bool.{Bool, true, false, ◌&&◌, cond}
use mathlib.Core.List.{List, [], ◌∷◌, ◌++◌}
use mathlib.Core.Logic.{⊎_elim}
use Prim.Native.Nat.{ℕ, ◌+◌, ◌-◌}
use native.Mathlib.Omega.{arith}
use lib.Dec.{ltb, eqb}
use lib.ListN.{length}
use borrow.Author.Tests.{ltb-false, ne_eqb}
use Rattle.lists.specs.Tests.{has}
use Rattle.lists.proofs.Cases.{cases}
use Rattle.net.specs.Net.{Arc}
use Rattle.numerals.specs.Decimal.{most_number}
use Rattle.road_line.specs.Line.{Line, comment, sizes, arc, other, line_of}
use Rattle.road_file.specs.File.{Said, unfed, next_line, passed, refused, sized, extended, saying, feed_byte, feed, roads, missing, ended_of, roads_in}
use Rattle.road_file.proofs.FeedLaws.{feed-append}
use Rattle.road_write.specs.Text.{ended}
use Rattle.road_trip.specs.Text.{whole}
use Rattle.road_trip.proofs.FeedLine.{feed-ended, whole-rest}

-- the same was said, but for the numbers of lines
record Alike (x y : Said) : Type 0 where
  begun : x.begun ≡ y.begun
  nodes : x.nodes ≡ y.nodes
  wanted : x.wanted ≡ y.wanted
  arcs : x.arcs ≡ y.arcs
  wrong : eqb x.wrong 0 ≡ eqb y.wrong 0

-- ---- each line keeps it

-- no line has the number 0
line-number : (n : ℕ) → eqb (next_line n) 0 ≡ false
unfolding next_line
line-number n =
    ⊎_elim
    (λ e. rw e (ne_eqb (n + 1) 0 (λ z. omega arith)))
    (λ e. rw e (ne_eqb n 0 (λ z. omega (arith, ltb-false n most_number e))))
    (cases (ltb n most_number))

-- where a line is refused, one is wrong
refused-wrong : (x : Said) → eqb (refused x).wrong 0 ≡ false
refused-wrong x = ⊎_elim (λ e. rw e (line-number x.lines)) (λ e. rw e e) (cases (eqb x.wrong 0))

-- two tests that agree go the same way
alike-cond : {x y u v : Said} (b c : Bool) → b ≡ c → Alike x y → Alike u v → Alike (cond b x u) (cond c y v)
alike-cond true true e h k = h
alike-cond true false e h k = absurd (let z : ◌≡◌ {A = ℕ} 0 1 = cc in omega arith)
alike-cond false true e h k = absurd (let z : ◌≡◌ {A = ℕ} 0 1 = cc in omega arith)
alike-cond false false e h k = k

module _ (x y : Said) (h : Alike x y) where
  alike-refused : Alike (refused x) (refused y)
  alike-refused = record { begun = h.begun; nodes = h.nodes; wanted = h.wanted; arcs = h.arcs; wrong = refused-wrong x ∙ sym (refused-wrong y) }

  alike-sized : (n m : ℕ) → Alike (sized x n m) (sized y n m)
  unfolding sized
  alike-sized n m =
      alike-cond x.begun y.begun h.begun alike-refused (record { begun = refl; nodes = refl; wanted = refl; arcs = h.arcs; wrong = h.wrong })

  alike-extended : (t u l : ℕ) → Alike (extended x t u l) (extended y t u l)
  unfolding extended
  alike-extended t u l =
      alike-cond (x.begun && ltb (length x.arcs) x.wanted) (y.begun && ltb (length y.arcs) y.wanted) (rw (h.begun, h.arcs, h.wanted))
      (record {
        begun = h.begun;
        nodes = h.nodes;
        wanted = h.wanted;
        arcs = ap (λ arcs. arcs ++ (record { from = t - 1; to = u - 1; len = l } ∷ [])) h.arcs;
        wrong = h.wrong;
      })
      alike-refused

  alike-saying : (l : Line) → Alike (saying x l) (saying y l)
  unfolding saying
  alike-saying comment = record { begun = h.begun; nodes = h.nodes; wanted = h.wanted; arcs = h.arcs; wrong = h.wrong }
  alike-saying (sizes n m) = alike-sized n m
  alike-saying (arc t u l) = alike-extended t u l
  alike-saying other = alike-refused

-- ---- so does each text, and at its end the roads are the same

module _ (n : ℕ) (arcs : List Arc) where
  ended-alike : (x y : Said) (r : List ℕ) → Alike x y → ended_of (record { said = x; rest = r }) ≡ roads n arcs
      → ended_of (record { said = y; rest = r }) ≡ roads n arcs
  unfolding ended_of missing
  ended-alike x y r h g =
      let same : missing (record { said = y; rest = r }) ≡ missing (record { said = x; rest = r }) = rw (h.begun, h.arcs, h.wanted) in
      ⊎_elim
      (λ e.
      ⊎_elim
      (λ m. let z : ◌≡◌ {A = ℕ} 0 1 = cc (rw (e, m) at g) in absurd (omega arith))
      (λ m.
      let f : eqb y.wrong 0 ≡ true = sym h.wrong ∙ e in
      let k : missing (record { said = y; rest = r }) ≡ false = same ∙ m in
      rw (f, k) (cc (rw (e, m) at g, h.nodes, h.arcs)))
      (cases (missing (record { said = x; rest = r }))))
      (λ e. let z : ◌≡◌ {A = ℕ} 0 1 = cc (rw e at g) in absurd (omega arith))
      (cases (eqb x.wrong 0))

  feed-alike : (x y : Said) (r t : List ℕ) → Alike x y → ended_of (feed (record { said = x; rest = r }) t) ≡ roads n arcs
      → ended_of (feed (record { said = y; rest = r }) t) ≡ roads n arcs
  unfolding feed feed_byte
  feed-alike x y r [] h g = ended-alike x y r h g
  feed-alike x y r (b ∷ t) h g =
      ⊎_elim
      (λ e. rw e (feed-alike (saying x (line_of r)) (saying y (line_of r)) [] t (alike-saying x y h (line_of r)) (rw e at g)))
      (λ e. rw e (feed-alike x y (r ++ (b ∷ [])) t h (rw e at g)))
      (cases (eqb b 10))

  -- c is a comment's bytes without its newline, put where a line of the text begins
  pub comment-says-nothing : (x c y : List ℕ) → whole x ≡ true → has 10 c ≡ false → line_of c ≡ comment
      → roads_in (x ++ y) ≡ roads n arcs → roads_in (x ++ (ended c ++ y)) ≡ roads n arcs
  unfolding roads_in saying
  comment-says-nothing x c y w l d g =
      let s = (feed unfed x).said in
      let at : feed unfed x ≡ record { said = s; rest = [] } = ap (λ r. record { said = s; rest = r }) (whole-rest x w) in
      let before : ended_of (feed (record { said = s; rest = [] }) y) ≡ roads n arcs = rw (feed-append unfed x y, at) at g in
      let after : feed unfed (x ++ (ended c ++ y)) ≡ feed (record { said = passed s; rest = [] }) y =
      feed-append unfed x (ended c ++ y) ∙ ap (λ f. feed f (ended c ++ y)) at ∙ feed-ended s c y l ∙ ap (λ k. feed (record { said = saying s k; rest = [] }) y) d in
      rw after (feed-alike s (passed s) [] y (record { begun = refl; nodes = refl; wanted = refl; arcs = refl; wrong = refl }) before)
