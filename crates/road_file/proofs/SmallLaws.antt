-- What a text says is small: the numbers of a line are at most the greatest one by the law of road_line, so the two sizes and the nodes and length of each arc are, and
-- an arc comes only while there are fewer than wanted. The `p` line may set how many are wanted, since no arc comes before it. This holds of nothing said, and each of
-- the four kinds of line keeps it, so each byte does, and so does a text.
use mathlib.Core.Path.{◌≡◌, refl, sym, ◌∙◌}
use mathlib.Core.Bool.{Bool, true, false, ◌&&◌, cond}
use mathlib.Core.List.{List, [], ◌∷◌, ◌++◌}
use Prim.Native.Nat.{ℕ, zero, suc, ◌-◌, ◌≤◌}
use native.Mathlib.Omega.{arith}
use lib.Dec.{ltb, eqb}
use lib.ListN.{length, length-append}
use borrow.Author.Tests.{ltb-true}
use Rattle.net.specs.Net.{Arc}
use Rattle.net.specs.Small.{Small as SmallArc, AllSmall}
use Rattle.numerals.specs.Decimal.{most_number}
use Rattle.road_line.specs.Line.{Line, comment, sizes, arc, other, line_of}
use Rattle.road_line.proofs.SmallLaws.{Small, line_small}
use Rattle.road_file.specs.File.{Said, nothing, Fed, unfed, refused, sized, extended, saying, feed_byte, feed}
use Rattle.road_file.proofs.GrowLaws.{Begun, true-false, both}

-- ---- arcs

small-more : (xs : List Arc) (a : Arc) → AllSmall xs → SmallArc a → AllSmall (xs ++ (a ∷ []))
small-more [] a h s zero l = s
small-more [] a h s (suc i) l = absurd (omega arith)
small-more (x ∷ xs) a h s zero l = h 0 (omega arith)
small-more (x ∷ xs) a h s (suc i) l = small-more xs a (λ j k. h (suc j) (omega arith)) s i (omega arith)

-- ---- what was said

record Good (x : Said) : Type 0 where
  arcs : AllSmall x.arcs
  nodes : x.nodes ≤ most_number
  wanted : x.wanted ≤ most_number
  count : length x.arcs ≤ x.wanted
  begun : Begun x

good-nothing : Good nothing
good-nothing = record { arcs = λ i l. absurd (omega arith); nodes = omega arith; wanted = omega arith; count = omega arith; begun = λ e. refl }

good-refused : (x : Said) → Good x → Good (refused x)
good-refused x g = record { arcs = g.arcs; nodes = g.nodes; wanted = g.wanted; count = g.count; begun = g.begun }

both_right : (a b : Bool) → (a && b) ≡ true → b ≡ true
both_right true b e = e
both_right false b e = absurd (true-false (sym e))

-- by a test, one or the other
either : (y z : Said) (b : Bool) → (b ≡ true → Good y) → (b ≡ false → Good z) → Good (cond b y z)
either y z true f g = f refl
either y z false f g = g refl

good-sized : (x : Said) (n m : ℕ) → n ≤ most_number → m ≤ most_number → Good x → Good (sized x n m)
unfolding sized
good-sized x n m p q g =
    either _ _ x.begun
    (λ e. good-refused x g)
    (λ e. record { arcs = g.arcs; nodes = p; wanted = q; count = rw (g.begun e) (omega arith); begun = λ z. absurd (true-false z) })

good-extended : (x : Said) (t h l : ℕ) → t ≤ most_number → h ≤ most_number → l ≤ most_number → Good x → Good (extended x t h l)
unfolding extended
good-extended x t h l p q r g =
    let a : Arc = record { from = t - 1; to = h - 1; len = l } in
    let s : SmallArc a = (omega arith, omega arith, omega arith) in
    either _ _ (x.begun && ltb (length x.arcs) x.wanted)
    (λ e. record {
      arcs = small-more x.arcs a g.arcs s;
      nodes = g.nodes;
      wanted = g.wanted;
      count = omega (arith, length-append x.arcs (a ∷ []), ltb-true (length x.arcs) x.wanted (both_right x.begun _ e));
      begun = λ z. absurd (true-false (sym (both x.begun _ e) ∙ z));
    })
    (λ e. good-refused x g)

good-saying : (x : Said) (y : Line) → Small y → Good x → Good (saying x y)
unfolding saying
good-saying x comment s g = record { arcs = g.arcs; nodes = g.nodes; wanted = g.wanted; count = g.count; begun = g.begun }
good-saying x (sizes n m) s g = good-sized x n m s.0 s.1 g
good-saying x (arc t h l) s g = good-extended x t h l s.2 s.3 s.4 g
good-saying x other s g = good-refused x g

-- ---- what was fed

good-byte : (x : Fed) (b : ℕ) → Good x.said → Good (feed_byte x b).said
unfolding feed_byte
good-byte x b g =
    go (eqb b 10) (record { said = saying x.said (line_of x.rest); rest = [] }) (record { said = x.said; rest = x.rest ++ (b ∷ []) })
    (good-saying x.said (line_of x.rest) (line_small x.rest) g) g
  where
    go : (e : Bool) (y z : Fed) → Good y.said → Good z.said → Good (cond {A = Fed} e y z).said
    go true y z p q = p
    go false y z p q = q

good-feed : (x : Fed) (text : List ℕ) → Good x.said → Good (feed x text).said
unfolding feed
good-feed x [] g = g
good-feed x (b ∷ text) g = good-feed (feed_byte x b) text (good-byte x b g)

pub said-small : (text : List ℕ) → AllSmall (feed unfed text).said.arcs
said-small text = (good-feed unfed text good-nothing).arcs

-- never more arcs than the `p` line says
pub said-few : (text : List ℕ) → length (feed unfed text).said.arcs ≤ (feed unfed text).said.wanted
said-few text = (good-feed unfed text good-nothing).count
