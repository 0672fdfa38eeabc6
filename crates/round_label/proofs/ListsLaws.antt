-- While a search goes on the words of its own slot change, and no others: the earlier answers stand before them, so they are as they were. The lists
-- stay right where the labels' ends, overlaps and links do.
use mathlib.Core.Path.{◌≡◌, refl, sym, ap, subst, ◌∙◌}
use mathlib.Core.Logic.{◌≢◌}
use mathlib.Core.List.{List}
use Prim.Native.Nat.{ℕ, ◌+◌, ◌*◌, ◌≤◌, ◌<◌}
use native.Mathlib.Omega.{arith}
use lib.ListN.{length, take, drop, set, take-append-drop, length-drop, length-set}
use lib.Seq.{length-take-le, take-append-le, drop-append-le, take-set-le, drop-set-lt}
use Rattle.lists.proofs.LoopLaws.{map-up_from-cong}
use Rattle.words.specs.Part.{slot}
use Rattle.net.specs.Net.{Arc}
use Rattle.net.specs.Route.{length_of}
use Rattle.labels.specs.Field.{head_bytes, most_earlier, Row, put_row}
use Rattle.labels.proofs.StoreLaws.{as_before, length-put_row}
use Rattle.search_ask.specs.declared.Ask.{Ask}
use Rattle.search_ask.specs.Earlier.{route_in, earlier_in, Formed, Earlier}
use Rattle.search_ask.proofs.EarlierLaws.{slot-end}
use Rattle.search_queue.specs.Only.{Only}
use Rattle.search_queue.proofs.OnlyLaws.{end-only, overlap-only}
use Rattle.search_lists.specs.Listed.{Listed}
use Rattle.search_lists.specs.Run.{Runs}
use Rattle.search_lists.proofs.RunLaws.{runs-like}
use Rattle.search_cursor.proofs.EnteredLaws.{run-working}
use Rattle.search_lists.proofs.ListedLaws.{listed-like}
use Rattle.search_cursor.specs.Queue.{SameLists}
use Rattle.round_label.specs.Lists.{ButSlot}

-- ---- the area

pub but_same : (w r : ℕ) (area : List ℕ) → ButSlot w r area area
but_same w r area = record { long = refl; front = refl; back = refl }

pub but-trans : {w r : ℕ} {a b c : List ℕ} → ButSlot w r a b → ButSlot w r b c → ButSlot w r a c
but-trans x y = record { long = y.long ∙ x.long; front = y.front ∙ x.front; back = y.back ∙ x.back }

-- a word of the slot stored
pub but-set : (w r : ℕ) (area : List ℕ) (p v : ℕ) → p < w → ButSlot w r area (set area (r * w + p) v)
but-set w r area p v h =
    record {
      long = length-set area (r * w + p) v;
      front = take-set-le (r * w) area (r * w + p) v (omega arith);
      back = drop-set-lt (r * w + w) area (r * w + p) v (omega arith);
    }

-- what lies in the first a words
in-front : (a f n : ℕ) (l : List ℕ) → f + n ≤ a → a ≤ length l → take n (drop f l) ≡ take n (drop f (take a l))
in-front a f n l h g =
    let e : length (take a l) ≡ a = length-take-le a l g in
    sym (ap (λ x. take n (drop f x)) (take-append-drop a l))
    ∙ ap (take n) (drop-append-le f (take a l) (drop a l) (omega (arith, e)))
    ∙ take-append-le n (drop f (take a l)) (drop a l) (omega (arith, e, length-drop f (take a l)))

module _ {w r : ℕ} {area area' : List ℕ} (b : ButSlot w r area area') (room : r * w ≤ length area) where
  slot-but : (j : ℕ) → j < r → slot w j area' ≡ slot w j area
  unfolding slot
  slot-but j h =
      let e = slot-end w r (r * w) j h (omega arith) in
      in-front (r * w) (j * w) w area' e (omega (arith, b.long)) ∙ ap (λ l. take w (drop (j * w) l)) b.front ∙ sym (in-front (r * w) (j * w) w area e room)

  pub earlier-but : earlier_in w r area' ≡ earlier_in w r area
  unfolding earlier_in
  earlier-but = map-up_from-cong (λ j. route_in (slot w j area')) (λ j. route_in (slot w j area)) 0 r (λ j lo hi. ap route_in (slot-but j (omega arith)))

  pub slots-but : {arcs : List Arc} {lens : List ℕ} → Earlier arcs w r area lens → Earlier arcs w r area' lens
  slots-but {arcs} e =
      record {
        few = e.few;
        slots = omega (arith, b.long);
        formed = λ j h. subst Formed (sym (slot-but j h)) (e.formed j h);
        enough = e.enough;
        lengths = λ j h. e.lengths j h ∙ ap (λ s. length_of arcs (route_in s)) (sym (slot-but j h));
        most = e.most;
      }

-- ---- the lists

module _ {ask : Ask} {r : ℕ} {area l : List ℕ} {n : ℕ} (begun : n ≢ 0) (few : r ≤ most_earlier) (h : Listed ask r area l n) where
  -- a candidate's bytes and winners changed
  pub listed-only : {k : ℕ} {m : List ℕ} → Only 20 20 k l m → SameLists l m → Listed ask r area m n
  listed-only {m = m} o same =
      listed-like ask r area l m n (rw o.long h.linked.room) begun (λ i b. end-only o i) (λ i j b d. overlap-only o i j (omega arith)) (λ i b. (same i).0) h

  -- a label put behind them
  pub listed-row : (x : Row) → Listed ask r area (put_row l n x) n
  listed-row x =
      listed-like ask r area l (put_row l n x) n (rw (length-put_row l n x) h.linked.room) begun (λ i b. as_before l n x i b 2 16 (omega arith))
      (λ i j b d. as_before l n x i b 8 (head_bytes + 8 * j) (omega arith)) (λ i b. as_before l n x i b 2 30 (omega arith)) h

  -- the start of its run put there
  pub listed-run : {m : List ℕ} → Only 20 4 (n + 1) l m → Listed ask r area m n
  listed-run {m} o =
      listed-like ask r area l m n (rw o.long h.linked.room) begun (λ i b. o.field 2 i 16 refl refl) (λ i j b d. overlap-only (run-working o) i j (omega arith)) (λ i b. o.field 2 i 30 refl refl) h

-- ---- the runs

module _ (t l : List ℕ) (n : ℕ) (h : Runs t l n) where
  pub runs-only : {k : ℕ} {m : List ℕ} → Only 20 20 k l m → SameLists l m → Runs t m n
  runs-only {m = m} o same = runs-like t l m n (λ i b. (same i).1) (λ i b. end-only o i) h

  pub runs-row : (x : Row) → Runs t (put_row l n x) n
  runs-row x = runs-like t l (put_row l n x) n (λ i b. as_before l n x i b 4 20 (omega arith)) (λ i b. as_before l n x i b 2 16 (omega arith)) h

  pub runs-linked : {k : ℕ} {m : List ℕ} → Only 30 2 k l m → Runs t m n
  runs-linked {m = m} o = runs-like t l m n (λ i b. o.field 4 i 20 refl refl) (λ i b. o.field 2 i 16 refl refl) h
