-- How a byte changes what is kept, by the tests that were made; and feeding x and then y is feeding both at once.
use mathlib.Core.Path.{◌≡◌, refl, ap, ◌∙◌}
use mathlib.Core.Bool.{true, false, ◌||◌}
use mathlib.Core.List.{List, [], ◌∷◌, ◌++◌}
use mathlib.Core.Logic.{◌≢◌}
use Prim.Native.Nat.{ℕ, ◌+◌, ◌*◌, ◌≤◌, ◌<◌}
use native.Mathlib.Numerals.{add-one}
use lib.Dec.{eqb}
use lib.ListN.{length, get_or, take}
use lib.Seq.{take-suc}
use borrow.Author.Tests.{lt-ltb, le-ltb, eq-eqb, ne_eqb}
use Rattle.words.specs.Number.{put}
use Rattle.table.specs.Table.{put_arc}
use Rattle.road_file.specs.declared.Reader.{Reader}
use Rattle.desk_line.specs.Limits.{most_arcs_read}
use Rattle.desk_feed.specs.declared.Taken.{Taken}
use Rattle.desk_feed.specs.Taken.{kept_by, kept_to, stored_by, road_taken, road_stored, taken_by, table_by, State, state, state_byte, state_from}

module _ (t : List ℕ) (n : ℕ) (r : Reader) where
  pub stored_same : r.count ≡ n → t ≡ stored_by t n r
  unfolding stored_by
  stored_same e = rw (eq-eqb r.count n e)

  pub stored-full : r.count ≢ n → most_arcs_read ≤ n → t ≡ stored_by t n r
  unfolding stored_by
  stored-full e h = rw (ne_eqb r.count n e, le-ltb n most_arcs_read h)

  pub stored-new : r.count ≢ n → n < most_arcs_read → put 4 (put_arc t n (record { from = r.from; to = r.to; len = r.len })) (n * 16 + 12) n ≡ stored_by t n r
  unfolding stored_by
  stored-new e h = rw (ne_eqb r.count n e, lt-ltb n most_arcs_read h)

-- ---- a byte

module _ (x : Taken) (b : ℕ) where
  pub started-road : x.started ≡ true → (x.started || eqb b 10) ≡ true
  started-road e = rw e

  pub newline-road : x.started ≡ false → b ≡ 10 → (x.started || eqb b 10) ≡ true
  newline-road e h = rw (e, eq-eqb b 10 h)

  pub first-road : x.started ≡ false → b ≢ 10 → (x.started || eqb b 10) ≡ false
  first-road e h = rw (e, ne_eqb b 10 h)

  module _ (on : (x.started || eqb b 10) ≡ true) where
    pub taken-road : (n : ℕ) → road_taken x n b ≡ taken_by x n b
    unfolding taken_by
    taken-road n = rw on

    pub table-road : (t : List ℕ) → road_stored t x b ≡ table_by t x b
    unfolding table_by
    table-road t = rw on

  module _ (off : (x.started || eqb b 10) ≡ false) where
    pub taken-first : (n : ℕ) → ◌≡◌ {A = Taken} (record { first = n; started = false; reader = x.reader; sized = x.sized }) (taken_by x n b)
    unfolding taken_by
    taken-first n = rw off

    pub table-first : (t : List ℕ) → t ≡ table_by t x b
    unfolding table_by
    table-first t = rw off

-- ---- a part

-- "where a part was cut changes nothing"
pub state-append : (s : State) (x y : List ℕ) → state_from s (x ++ y) ≡ state_from (state_from s x) y
unfolding state_from
state-append s [] y = refl
state-append s (b ∷ x) y = state-append (state_byte s b) x y

pub state-next : (s : State) (part : List ℕ) (i : ℕ) → i < length part → state_from s (take (i + 1) part) ≡ state_byte (state_from s (take i part)) (get_or part i 0)
unfolding state_from
state-next s part i h =
    ap (state_from s) (ap (λ k. take k part) (add-one i) ∙ take-suc part i 0 h) ∙ state-append s (take i part) (get_or part i 0 ∷ [])

-- the three of one turn
pub state-turned : (x y : Taken) (l l' t t' : List ℕ) (b : ℕ) → y ≡ taken_by x (kept_to l x.first) b → l' ≡ kept_by l x.first b → t' ≡ table_by t x b
    → state y l' t' ≡ state_byte (state x l t) b
unfolding state_byte
state-turned x y l l' t t' b e f g = rw (e, f, g)
