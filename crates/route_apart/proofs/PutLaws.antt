-- The marks put one by one. The mark at a node is that of the last arc of p that leaves it, or, where none does, what stood there (`put-at`). A simple route leaves no
-- node twice, so after marking the mark at an arc's start node tells whether the arc is the route's. Taken away, no mark is left, whoever leaves what.
use mathlib.Core.Path.{◌≡◌, refl, sym, ap, ◌∙◌}
use mathlib.Core.Logic.{◌≢◌, ◌⊎◌, inl, inr, ⊎_elim}
use mathlib.Core.Bool.{Bool, true, false, cond}
use mathlib.Core.List.Memᴰ
use mathlib.Core.List.{List, [], ◌∷◌, Memᴰ}
use Prim.Native.Nat.{ℕ, ◌+◌, ◌*◌, ◌^◌, ◌<◌}
use native.Mathlib.Omega.{arith}
use native.Mathlib.Decide.{ℕ_discrete}
use lib.Dec.{eqb}
use lib.ListN.{length, get_or, drop}
use borrow.Author.Tests.{eq-eqb, ne_eqb}
use Rattle.lists.specs.Tests.{has}
use Rattle.lists.proofs.TestLaws.{has→mem, mem→has}
use Rattle.words.proofs.NumberLaws.{length-put}
use Rattle.table.specs.Table.{records, from_at}
use Rattle.table.specs.Fault.{table_fault, good}
use Rattle.table.proofs.FaultLaws.{good-size}
use Rattle.labels.specs.Field.{no_number}
use Rattle.working_room.specs.Field.{room_bytes, word_at, put_word}
use Rattle.working_room.proofs.RoomLaws.{word-put, word-put-node}
use Rattle.search_ask.specs.Earlier.{route_in}
use Rattle.remaining.specs.Standing.{Roomy}
use Rattle.remaining.proofs.StandingLaws.{from_in}
use Rattle.route_list.proofs.WordLaws.{route-step}
use Rattle.route_apart.specs.Marks.{mark_field, Marked, Unmarked, StartsApart, put_marks}

-- ---- word by word

module _ (t : List ℕ) (on : Bool) (l : List ℕ) (i : ℕ) (room : List ℕ) where
  pub put-none : route_in (drop i l) ≡ [] → put_marks t on (route_in (drop i l)) room ≡ room
  unfolding put_marks
  put-none e = ap (λ p. put_marks t on p room) e

  pub put_step : i < length l → get_or l i 0 ≢ no_number
      → put_marks t on (route_in (drop i l)) room ≡ put_marks t on (route_in (drop (i + 1) l)) (put_word mark_field room (from_at t (get_or l i 0)) (cond on (get_or l i 0 + 1) 0))
  unfolding put_marks
  put_step h e = ap (λ p. put_marks t on p room) (route-step l i h e)

pub put_marks-long : (t : List ℕ) (on : Bool) (p room : List ℕ) → length (put_marks t on p room) ≡ length room
unfolding put_marks
put_marks-long t on [] room = refl
put_marks-long t on (a ∷ p) room =
    put_marks-long t on p (put_word mark_field room (from_at t a) (cond on (a + 1) 0)) ∙ length-put 4 room (from_at t a * room_bytes + mark_field) (cond on (a + 1) 0)

-- ---- the mark at a node

-- an arc of p leaves node v, and x is its mark
record Left (t : List ℕ) (on : Bool) (p : List ℕ) (v x : ℕ) : Type 0 where
  by : ℕ
  of-p : Memᴰ by p
  starts : from_at t by ≡ v
  is : x ≡ cond on (by + 1) 0

-- no arc of p leaves node v
abbrev None : List ℕ → List ℕ → ℕ → Type 0
None t p v = (b : ℕ) → Memᴰ b p → from_at t b ≢ v

module _ (t : List ℕ) (nodes : ℕ) (fine : table_fault nodes t ≡ good) where
  mark-fits : (on : Bool) (a : ℕ) → a < records t → cond on (a + 1) 0 < 2 ^ 32
  mark-fits true a h = omega (arith, (good-size nodes t fine).3)
  mark-fits false a h = omega arith

  put-at : (on : Bool) (p room : List ℕ) → Roomy nodes room → ((a : ℕ) → Memᴰ a p → a < records t) → (v : ℕ)
      → (None t p v × (word_at mark_field (put_marks t on p room) v ≡ word_at mark_field room v)) ⊎ Left t on p v (word_at mark_field (put_marks t on p room) v)
  unfolding put_marks
  put-at on [] room roomy below v = inl (λ b m. absurd (Memᴰ.not-nil m), refl)
  put-at on (a ∷ p) room roomy below v =
      go (ℕ_discrete v (from_at t a))
      (put-at on p next (omega (arith, length-put 4 room (from_at t a * room_bytes + mark_field) (cond on (a + 1) 0), roomy)) (λ b m. below b (Memᴰ.tail m)) v)
    where
      next : List ℕ
      next = put_word mark_field room (from_at t a) (cond on (a + 1) 0)

      h : a < records t
      h = below a (Memᴰ.head refl)

      go : Dec (v ≡ from_at t a) → (None t p v × (word_at mark_field (put_marks t on p next) v ≡ word_at mark_field next v)) ⊎ Left t on p v (word_at mark_field (put_marks t on p next) v)
          → (None t (a ∷ p) v × (word_at mark_field (put_marks t on p next) v ≡ word_at mark_field room v)) ⊎ Left t on (a ∷ p) v (word_at mark_field (put_marks t on p next) v)
      go d (inr x) = inr (record { by = x.by; of-p = Memᴰ.tail x.of-p; starts = x.starts; is = x.is })
      go (yes e) (inl x) =
          inr (record {
            by = a;
            of-p = Memᴰ.head refl;
            starts = sym e;
            is = x.1 ∙ ap (word_at mark_field next) e ∙ word-put mark_field room (from_at t a) (cond on (a + 1) 0) refl (from_in nodes t a room fine roomy h) (mark-fits on a h);
          })
      go (no e) (inl x) =
          inl (
            λ b m f. ⊎_elim (λ i. e (sym f ∙ ap (from_at t) i)) (λ k. x.0 b k f) (Memᴰ.cases_cons m),
            x.1 ∙ word-put-node mark_field room (from_at t a) (cond on (a + 1) 0) refl v e,
          )

-- ---- a route marked, and its marks taken away

module _ (t : List ℕ) (nodes : ℕ) (p room : List ℕ) (fine : table_fault nodes t ≡ good) (roomy : Roomy nodes room) (below : (a : ℕ) → Memᴰ a p → a < records t) where
  pub marked_by : StartsApart t p → Unmarked room → Marked t p (put_marks t true p room)
  marked_by apart none a h = go (has a p) refl (put-at t nodes fine true p room roomy below (from_at t a))
    where
      at : ℕ
      at = word_at mark_field (put_marks t true p room) (from_at t a)

      go : (b : Bool) → has a p ≡ b → (None t p (from_at t a) × (at ≡ word_at mark_field room (from_at t a))) ⊎ Left t true p (from_at t a) at → eqb at (a + 1) ≡ has a p
      go true e (inl x) = absurd (x.0 a (has→mem a p (rw e tt)) refl)
      go true e (inr x) = eq-eqb at (a + 1) (x.is ∙ ap (λ b. b + 1) (apart x.by a x.of-p (has→mem a p (rw e tt)) x.starts)) ∙ sym e
      go false e (inl x) = ne_eqb at (a + 1) (λ z. omega (arith, x.1, none (from_at t a))) ∙ sym e
      go false e (inr x) = ne_eqb at (a + 1) (λ z. let i : x.by ≡ a = omega (arith, x.is) in absurd (rw e at (mem→has (rw i at x.of-p)))) ∙ sym e

  pub unmarked-by : Unmarked room → Unmarked (put_marks t false p (put_marks t true p room))
  unmarked-by none v =
      go (put-at t nodes fine true p room roomy below v)
      (put-at t nodes fine false p (put_marks t true p room) (omega (arith, put_marks-long t true p room, roomy)) below v)
    where
      one : ℕ
      one = word_at mark_field (put_marks t true p room) v

      two : ℕ
      two = word_at mark_field (put_marks t false p (put_marks t true p room)) v

      go : (None t p v × (one ≡ word_at mark_field room v)) ⊎ Left t true p v one → (None t p v × (two ≡ one)) ⊎ Left t false p v two → two ≡ 0
      go x (inr y) = y.is
      go (inl x) (inl y) = y.1 ∙ x.1 ∙ none v
      go (inr x) (inl y) = absurd (y.0 x.by x.of-p x.starts)
