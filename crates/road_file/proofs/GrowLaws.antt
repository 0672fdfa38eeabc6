-- What a byte does to the arcs: none is lost, and at most one comes, behind those before it; the node count changes only while there are none. So a pass over a
-- text that looks at the last arc whenever their number grows has looked at each in file order.
use mathlib.Core.Path.{◌≡◌, refl, sym, ap, subst, ◌∙◌}
use mathlib.Core.Bool.{Bool, true, false, ◌&&◌, cond}
use mathlib.Core.List.{List, [], ◌∷◌, ◌++◌}
use mathlib.Core.Logic.{◌⊎◌, inl, inr}
use Prim.Native.Nat.{ℕ, ◌+◌, ◌-◌, ◌<◌}
use native.Mathlib.Numerals.{add-one}
use lib.Dec.{T, ltb, eqb}
use lib.ListN.{length, get_or, take}
use lib.Seq.{take-suc}
use Rattle.road_line.specs.Line.{Line, comment, sizes, arc, other, line_of}
use Rattle.road_file.specs.File.{Said, Fed, unfed, refused, sized, extended, saying, feed_byte, feed}
use Rattle.road_file.specs.Reader.{last_arc}
use Rattle.road_file.proofs.FeedLaws.{feed-append, last_more}

-- the arcs are as they were, and the node count too, or there was no `p` line
pub record Kept (x y : Said) : Type 0 where
  pub arcs : y.arcs ≡ x.arcs
  pub nodes : (y.nodes ≡ x.nodes) ⊎ (x.begun ≡ false)
  pub begun : y.begun ≡ false → x.begun ≡ false

-- one came
pub record One (x y : Said) : Type 0 where
  pub arcs : y.arcs ≡ x.arcs ++ (last_arc y.arcs ∷ [])
  pub nodes : y.nodes ≡ x.nodes
  pub begun : y.begun ≡ true

-- no arc before the `p` line
abbrev pub Begun : Said → Type 0
Begun x = x.begun ≡ false → x.arcs ≡ []

kept-refused : (x : Said) → Kept x (refused x)
kept-refused x = record { arcs = refl; nodes = inl refl; begun = λ e. e }

pub true-false : true ≡ false → ⊥
true-false e = subst T e tt

pub both : (a b : Bool) → (a && b) ≡ true → a ≡ true
both true b e = refl
both false b e = e

-- by a test, one or the other
either : (x y z : Said) (b : Bool) → (b ≡ true → Kept x y ⊎ One x y) → (b ≡ false → Kept x z ⊎ One x z) → Kept x (cond b y z) ⊎ One x (cond b y z)
either x y z true f g = f refl
either x y z false f g = g refl

sized-grows : (x : Said) (n m : ℕ) → Kept x (sized x n m) ⊎ One x (sized x n m)
unfolding sized
sized-grows x n m = either x _ _ x.begun (λ e. inl (kept-refused x)) (λ e. inl (record { arcs = refl; nodes = inr e; begun = λ z. e }))

extended-grows : (x : Said) (t h l : ℕ) → Kept x (extended x t h l) ⊎ One x (extended x t h l)
unfolding extended
extended-grows x t h l =
    either x _ _ (x.begun && ltb (length x.arcs) x.wanted)
    (λ e. inr (record { arcs = ap (λ a. x.arcs ++ (a ∷ [])) (sym (last_more x.arcs (record { from = t - 1; to = h - 1; len = l }))); nodes = refl; begun = both x.begun _ e }))
    (λ e. inl (kept-refused x))

pub saying-grows : (x : Said) (y : Line) → Kept x (saying x y) ⊎ One x (saying x y)
unfolding saying
saying-grows x comment = inl (record { arcs = refl; nodes = inl refl; begun = λ e. e })
saying-grows x (sizes n m) = sized-grows x n m
saying-grows x (arc t h l) = extended-grows x t h l
saying-grows x other = inl (kept-refused x)

pub feed-grows : (x : Fed) (b : ℕ) → Kept x.said (feed_byte x b).said ⊎ One x.said (feed_byte x b).said
unfolding feed_byte
feed-grows x b =
    let ended : Fed = record { said = saying x.said (line_of x.rest); rest = [] } in
    let longer : Fed = record { said = x.said; rest = x.rest ++ (b ∷ []) } in
    go (eqb b 10) ended longer (saying-grows x.said (line_of x.rest)) (inl (record { arcs = refl; nodes = inl refl; begun = λ e. e }))
  where
    go : (e : Bool) (y z : Fed) → Kept x.said y.said ⊎ One x.said y.said → Kept x.said z.said ⊎ One x.said z.said
        → Kept x.said (cond {A = Fed} e y z).said ⊎ One x.said (cond {A = Fed} e y z).said
    go true y z p q = p
    go false y z p q = q

pub begun_kept : (x : Fed) (b : ℕ) → Begun x.said → Begun (feed_byte x b).said
begun_kept x b h e = go (feed-grows x b)
  where
    go : Kept x.said (feed_byte x b).said ⊎ One x.said (feed_byte x b).said → (feed_byte x b).said.arcs ≡ []
    go (inl k) = k.arcs ∙ h (k.begun e)
    go (inr o) = absurd (true-false (sym o.begun ∙ e))

-- ---- what was fed after i bytes

abbrev pub fed_to : List ℕ → ℕ → Fed
fed_to text i = feed unfed (take i text)

pub fed-next : (text : List ℕ) (i : ℕ) → i < length text → fed_to text (i + 1) ≡ feed_byte (fed_to text i) (get_or text i 0)
unfolding feed
fed-next text i h =
    ap (feed unfed) (ap (λ k. take k text) (add-one i) ∙ take-suc text i 0 h) ∙ feed-append unfed (take i text) (get_or text i 0 ∷ [])
