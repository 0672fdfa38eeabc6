-- The fields lie apart: the second search leaves the first one's and the marks, and marks leave both searches'. All lie before the notes of where runs start.
use mathlib.Core.Path.{◌≡◌, refl, ap, subst, sym, fun_ext, ◌∙◌}
use mathlib.Core.Logic.{inl, inr}
use mathlib.Core.Bool.{cond}
use mathlib.Core.List.{List}
use Prim.Native.Nat.{ℕ, ◌≤◌, ◌<◌}
use native.Mathlib.Omega.{arith}
use lib.Dec.{ltb}
use borrow.Author.Tests.{lt-ltb, le-ltb}
use Rattle.net.specs.Net.{Net}
use Rattle.distances.specs.Search.{Found}
use Rattle.working_room.specs.Field.{word_at, Within}
use Rattle.working_room.proofs.RoomLaws.{within-long_at, within-word_at}
use Rattle.reach.specs.Stand.{Stands, BeforeNotes, dist_in, last_in, Elsewhere}
use Rattle.pair.specs.Walked.{Shortest, Marks, On}
use Rattle.pair_room.specs.Room.{far, further, first, again, none, mark_in, kept_in, added_in}
use Rattle.pair_room.specs.Stages.{dist_of, last_of, Marked}

pub first-stands : Stands first
first-stands =
    record { dist-after = omega arith; dist-in = omega arith; last-after = omega arith; last-in = omega arith; apart = inl (omega arith); some-way = omega arith; far-most = omega arith }

pub again-stands : Stands again
again-stands =
    record { dist-after = omega arith; dist-in = omega arith; last-after = omega arith; last-in = omega arith; apart = inl (omega arith); some-way = omega arith; far-most = omega arith }

pub first-before : BeforeNotes first
first-before = record { dist = omega arith; last = omega arith }

pub again-before : BeforeNotes again
again-before = record { dist = omega arith; last = omega arith }

-- ---- a node's mark, and that of a number past the nodes

module _ (o n : ℕ) (l : List ℕ) (v : ℕ) where
  pub mark-node : v < n → mark_in o n l v ≡ word_at o l v
  mark-node h = rw (lt-ltb v n h)

  pub mark-past : n ≤ v → mark_in o n l v ≡ none
  mark-past h = rw (le-ltb v n h)

-- ---- the second search

module _ (net : Net) {l m : List ℕ} (e : Elsewhere again l m) where
  pub again-dist : dist_of net m ≡ dist_of net l
  again-dist = fun_ext (λ v. ap (λ y. cond (ltb v net.nodes) y far) (e.field 8 v 12 (omega arith) (omega arith) (inl (omega arith)) (inl (omega arith))))

  pub again-last : last_of m ≡ last_of l
  again-last = fun_ext (λ v. e.field 4 v 20 (omega arith) (omega arith) (inl (omega arith)) (inl (omega arith)))

  pub again_kept : kept_in net.nodes m ≡ kept_in net.nodes l
  again_kept = fun_ext (λ v. ap (λ y. cond (ltb v net.nodes) y none) (e.field 4 v 36 (omega arith) (omega arith) (inr (omega arith)) (inr (omega arith))))

  pub again-added : added_in net.nodes m ≡ added_in net.nodes l
  again-added = fun_ext (λ v. ap (λ y. cond (ltb v net.nodes) y none) (e.field 4 v 40 (omega arith) (omega arith) (inr (omega arith)) (inr (omega arith))))

  -- the route is the same one
  unfoldable pub again-marked : (s t : ℕ) → Marked net s t l → Marked net s t m
  again-marked s t k =
      record {
        P = k.P;
        reached = subst (λ (d : ℕ → ℕ). Found net s far d (last_of m)) (sym again-dist) (subst (λ (p : ℕ → ℕ). Found net s far (dist_of net l) p) (sym again-last) k.reached);
        short = subst (λ (d : ℕ → ℕ). Shortest net s t d (last_of m) k.P) (sym again-dist) (subst (λ (p : ℕ → ℕ). Shortest net s t (dist_of net l) p k.P) (sym again-last) k.short);
        marks = subst (λ (f : ℕ → ℕ). Marks net.arcs none (On k.P) f) (sym again_kept) k.marks;
        blank = λ v. ap (λ (f : ℕ → ℕ). f v) again-added ∙ k.blank v;
      }

-- ---- marks put and taken

module _ (net : Net) {l m : List ℕ} (w : Within 36 8 l m) where
  pub marks-dist : dist_of net m ≡ dist_of net l
  marks-dist = fun_ext (λ v. ap (λ y. cond (ltb v net.nodes) y far) (within-long_at w 12 v refl refl))

  pub marks-last : last_of m ≡ last_of l
  marks-last = fun_ext (λ v. within-word_at w 20 v refl refl)

  pub marks-again : dist_in again net.nodes m ≡ dist_in again net.nodes l
  marks-again = fun_ext (λ v. ap (λ y. cond (ltb v net.nodes) y further) (within-long_at w 24 v refl refl))

  pub marks-last-again : last_in again m ≡ last_in again l
  marks-last-again = fun_ext (λ v. within-word_at w 32 v refl refl)
