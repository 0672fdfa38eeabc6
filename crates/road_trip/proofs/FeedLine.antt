-- A line that is fed. A byte that is no newline goes to the bytes of the line that has not ended, so after all of a line's bytes these are the line; the newline has it
-- say what it says, and none are left. So none are left after any text whose last byte is a newline.
use mathlib.Core.Path.{◌≡◌, refl, sym, ap, ◌∙◌}
use mathlib.Core.Bool.{true, false}
use mathlib.Core.List.{List, [], ◌∷◌, ◌++◌, append-nil}
use mathlib.Core.Logic.{⊎_elim}
use Prim.Native.Nat.{ℕ}
use native.Mathlib.Omega.{arith}
use lib.Dec.{eqb}
use lib.Seq.{append_snoc}
use borrow.Author.Tests.{eqb-false, ne_eqb}
use Rattle.lists.specs.Tests.{has}
use Rattle.lists.proofs.Cases.{cases}
use Rattle.road_line.specs.Line.{line_of}
use Rattle.road_file.specs.File.{Said, Fed, unfed, saying, feed_byte, feed}
use Rattle.road_file.proofs.FeedLaws.{feed-append}
use Rattle.road_write.specs.Text.{ended}
use Rattle.road_trip.specs.Text.{whole}

-- the first byte of a text with no newline is none
other_byte : (b : ℕ) (l : List ℕ) → has 10 (b ∷ l) ≡ false → (eqb b 10 ≡ false) × (has 10 l ≡ false)
unfolding has
other_byte b l h =
    ⊎_elim
    (λ e. let z : ◌≡◌ {A = ℕ} 0 1 = cc (rw e at h) in absurd (omega arith))
    (λ e. (ne_eqb b 10 (λ z. eqb-false 10 b e (sym z)), rw e at h))
    (cases (eqb 10 b))

feed-bytes : (s : Said) (r l : List ℕ) → has 10 l ≡ false → feed (record { said = s; rest = r }) l ≡ record { said = s; rest = r ++ l }
unfolding feed feed_byte
feed-bytes s r [] h = rw append-nil
feed-bytes s r (b ∷ l) h =
    let o = other_byte b l h in
    rw o.0 (feed-bytes s (r ++ (b ∷ [])) l o.1 ∙ ap (λ x. record { said = s; rest = x }) (append_snoc r b l))

pub feed-line : (s : Said) (l : List ℕ) → has 10 l ≡ false
    → feed (record { said = s; rest = [] }) (l ++ (10 ∷ [])) ≡ record { said = saying s (line_of l); rest = [] }
unfolding feed feed_byte
feed-line s l h = rw (feed-append, feed-bytes s [] l h)

-- the same with a text that follows
pub feed-ended : (s : Said) (l t : List ℕ) → has 10 l ≡ false
    → feed (record { said = s; rest = [] }) (ended l ++ t) ≡ feed (record { said = saying s (line_of l); rest = [] }) t
feed-ended s l t h = feed-append (record { said = s; rest = [] }) (ended l) t ∙ ap (λ f. feed f t) (feed-line s l h)

-- ---- a text that ends where a line ends leaves no bytes over

whole-after : (f : Fed) (b : ℕ) (l : List ℕ) → whole (b ∷ l) ≡ true → (feed f (b ∷ l)).rest ≡ []
unfolding whole feed feed_byte
whole-after f b [] h = rw h
whole-after f b (c ∷ l) h = whole-after (feed_byte f b) c l h

pub whole-rest : (x : List ℕ) → whole x ≡ true → (feed unfed x).rest ≡ []
unfolding feed
whole-rest [] h = refl
whole-rest (b ∷ l) h = whole-after unfed b l h
