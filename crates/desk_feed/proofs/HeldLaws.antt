-- What is kept of an input: its first bytes; the reader of its road file, whose first line is a comment, so that of the input's first line only the newline is fed;
-- the number of the `p` line; and in the table, where there is room for all arcs so far, these in file order. By induction over the input, from its front to its end:
-- a byte changes each as it changes what the input says.
use mathlib.Core.Path.{◌≡◌, refl, sym, ap, subst, ◌∙◌}
use mathlib.Core.Bool.{Bool, true, false, ◌||◌, cond}
use mathlib.Core.List.{List, [], ◌∷◌, ◌++◌, append-nil}
use mathlib.Core.Logic.{◌⊎◌, inl, inr, ⊎_elim}
use Prim.Native.Nat.{ℕ, ◌+◌, ◌*◌, ◌≤◌, ◌<◌}
use native.Mathlib.Numerals.{add-one}
use native.Mathlib.Omega.{arith}
use lib.Dec.{ltb, eqb}
use lib.ListN.{length, set, take, replicate, length-append, length-set, length-replicate}
use lib.Seq.{append_snoc, length-take-le, take_all, take-append-le, take-suc-set}
use borrow.Author.Tests.{lt-ltb, le-ltb, eqb-false}
use Rattle.lists.proofs.Cases.{cases, order}
use Rattle.words.specs.Number.{put}
use Rattle.words.proofs.NumberLaws.{length-put}
use Rattle.table.specs.Table.{put_arc}
use Rattle.road_file.specs.declared.Reader.{Reader}
use Rattle.road_file.specs.File.{Fed, unfed, feed_byte, feed}
use Rattle.road_file.specs.Reader.{reader_of, fed_by}
use Rattle.road_file.proofs.FeedLaws.{fed-is}
use Rattle.road_fill.specs.Filled.{filled}
use Rattle.road_fill.proofs.FillLaws.{filled_none, byte-rises, fill-next}
use Rattle.desk_line.specs.Limits.{most_arcs_read}
use Rattle.desk_feed.specs.declared.Taken.{Taken}
use Rattle.desk_feed.specs.Road.{from_newline, road_file, Road, sized_next, road_byte, road_from, unread, road_in}
use Rattle.desk_feed.specs.Taken.{first_bytes, table_bytes, kept_by, kept_to, sized_by, stored_by, road_taken, road_stored, taken_by, table_by, State, state_byte, state_from, state_of}

abbrev pub zeros : List ℕ
zeros = replicate table_bytes 0

-- ---- the first line's end

unfoldable pub line_ended : List ℕ → Bool
line_ended [] = false
line_ended (b ∷ l) = eqb b 10 || line_ended l

or-false : (t : Bool) → (t || false) ≡ t
or-false true = refl
or-false false = refl

ended-more : (x : List ℕ) (b : ℕ) → line_ended (x ++ (b ∷ [])) ≡ (line_ended x || eqb b 10)
unfolding line_ended
ended-more [] b = or-false (eqb b 10)
ended-more (c ∷ x) b = ⊎_elim (λ e. rw e) (λ e. rw e (ended-more x b)) (cases (eqb c 10))

from_more : (x : List ℕ) (b : ℕ) → (line_ended x || eqb b 10) ≡ true → from_newline (x ++ (b ∷ [])) ≡ from_newline x ++ (b ∷ [])
unfolding from_newline line_ended
from_more [] b h = rw h
from_more (c ∷ x) b h = ⊎_elim (λ e. rw e) (λ e. rw e (from_more x b (rw e at h))) (cases (eqb c 10))

from-same : (x : List ℕ) (b : ℕ) → (line_ended x || eqb b 10) ≡ false → from_newline (x ++ (b ∷ [])) ≡ from_newline x
unfolding from_newline line_ended
from-same [] b h = rw h
from-same (c ∷ x) b h =
    ⊎_elim
    (λ e. let z : ◌≡◌ {A = ℕ} 0 1 = cc (rw e at h) in absurd (omega arith))
    (λ e. rw e (from-same x b (rw e at h)))
    (cases (eqb c 10))

-- ---- the road file

road-append : (r : Road) (x y : List ℕ) → road_from r (x ++ y) ≡ road_from (road_from r x) y
unfolding road_from
road-append r [] y = refl
road-append r (b ∷ x) y = road-append (road_byte r b) x y

road-fed : (r : Road) (x : List ℕ) → (road_from r x).fed ≡ feed r.fed x
unfolding road_from road_byte feed
road-fed r [] = refl
road-fed r (b ∷ x) = road-fed (road_byte r b) x

pub in-fed : (input : List ℕ) → (road_in input).fed ≡ feed unfed (road_file input)
unfolding road_in
in-fed input = road-fed unread (road_file input)

in-more : (x : List ℕ) (b : ℕ) → (line_ended x || eqb b 10) ≡ true → road_in (x ++ (b ∷ [])) ≡ road_byte (road_in x) b
unfolding road_in road_file road_from
in-more x b h = ap (λ l. road_from unread (99 ∷ l)) (from_more x b h) ∙ road-append unread (99 ∷ from_newline x) (b ∷ [])

in-same : (x : List ℕ) (b : ℕ) → (line_ended x || eqb b 10) ≡ false → road_in (x ++ (b ∷ [])) ≡ road_in x
unfolding road_in road_file
in-same x b h = ap (λ l. road_from unread (99 ∷ l)) (from-same x b h)

-- ---- the first bytes

pub record First (input l : List ℕ) (n : ℕ) : Type 0 where
  pub is : take n l ≡ take first_bytes input
  pub many : n ≡ length (take first_bytes input)
  pub long : length l ≡ first_bytes

first_byte : (x l : List ℕ) (n b : ℕ) → First x l n → First (x ++ (b ∷ [])) (kept_by l n b) (kept_to l n)
unfolding kept_by kept_to
first_byte x l n b f = go (order first_bytes (length x))
  where
    go : (first_bytes ≤ length x) ⊎ (length x < first_bytes) → First (x ++ (b ∷ [])) (kept_by l n b) (kept_to l n)
    go (inl h) =
        let full : n ≡ 80 = f.many ∙ length-take-le 80 x h in
        let same : take 80 (x ++ (b ∷ [])) ≡ take 80 x = take-append-le 80 x (b ∷ []) h in
        rw (le-ltb n (length l) (omega (arith, f.long))) (record { is = f.is ∙ sym same; many = f.many ∙ ap length (sym same); long = f.long })
    go (inr h) =
        let all : take 80 x ≡ x = take_all 80 x (omega arith) in
        let n-is : n ≡ length x = f.many ∙ ap length all in
        let more : take 80 (x ++ (b ∷ [])) ≡ x ++ (b ∷ []) = take_all 80 (x ++ (b ∷ [])) (simp length-append (omega arith)) in
        let front : take (n + 1) (set l n b) ≡ take n l ++ (b ∷ []) = rw (add-one n) (take-suc-set l n b (omega (arith, f.long))) in
        let len : length (x ++ (b ∷ [])) ≡ length x + 1 = length-append x (b ∷ []) in
        rw (lt-ltb n (length l) (omega (arith, f.long)))
        (record {
          is = front ∙ ap (λ z. z ++ (b ∷ [])) (f.is ∙ all) ∙ sym more;
          many = omega (arith, n-is, len, ap length more);
          long = length-set l n b ∙ f.long;
        })

-- ---- the road file's part

length-stored : (t : List ℕ) (n : ℕ) (r : Reader) → length (stored_by t n r) ≡ length t
unfolding stored_by put_arc
length-stored t n r = go (eqb r.count n) (ltb n most_arcs_read)
  where
    record-put : List ℕ
    record-put = put 4 (put_arc t n (record { from = r.from; to = r.to; len = r.len })) (n * 16 + 12) n

    long : length record-put ≡ length t
    long = simp length-put

    go : (x y : Bool) → length (cond x t (cond y record-put t)) ≡ length t
    go true y = refl
    go false true = long
    go false false = refl

stored-filled : (f : Fed) (b : ℕ) (t : List ℕ) → (length f.said.arcs ≤ most_arcs_read → t ≡ filled f.said.arcs zeros)
    → length (feed_byte f b).said.arcs ≤ most_arcs_read
    → stored_by t (length f.said.arcs) (reader_of (feed_byte f b)) ≡ filled (feed_byte f b).said.arcs zeros
unfolding stored_by
stored-filled f b t h k =
    let n = length f.said.arcs in
    let m = length (feed_byte f b).said.arcs in
    let rise : n ≤ m = byte-rises f b in
    let next = fill-next f b zeros (omega (arith, length-replicate {A = ℕ} table_bytes 0)) in
    let e : t ≡ filled f.said.arcs zeros = h (omega arith) in
    ⊎_elim
    (λ q. rw (q, e) (rw q at next))
    (λ q.
    let ne : m ≡ n → ⊥ = eqb-false m n q in
    let less : n < most_arcs_read = ⊎_elim (λ z. absurd (ne (omega arith))) (λ z. z) (order most_arcs_read n) in
    rw (q, lt-ltb n most_arcs_read less, e) (rw q at next))
    (cases (eqb m n))

pub record OnRoad (input : List ℕ) (x : Taken) (t : List ℕ) : Type 0 where
  pub started : x.started ≡ line_ended input
  pub reader : x.reader ≡ reader_of (road_in input).fed
  pub sized : x.sized ≡ (road_in input).sized
  pub long : length t ≡ table_bytes
  pub stored : length (road_in input).fed.said.arcs ≤ most_arcs_read → t ≡ filled (road_in input).fed.said.arcs zeros

module _ (x : List ℕ) (y : Taken) (t : List ℕ) (n b : ℕ) (o : OnRoad x y t) where
  abbrev past : Bool
  past = y.started || eqb b 10

  past_is : (z : Bool) → past ≡ z → (line_ended x || eqb b 10) ≡ z
  past_is z e = ap (λ w. w || eqb b 10) (sym o.started) ∙ e

  road-on : past ≡ true → OnRoad (x ++ (b ∷ [])) (road_taken y n b) (road_stored t y b)
  unfolding road_taken road_stored road_byte sized_by sized_next
  road-on e =
      let f = (road_in x).fed in
      let on = past_is true e in
      let more : road_in (x ++ (b ∷ [])) ≡ road_byte (road_in x) b = in-more x b on in
      let fed : fed_by y.reader b ≡ reader_of (feed_byte f b) = ap (λ r. fed_by r b) o.reader ∙ fed-is f b in
      record {
        started = sym (ended-more x b ∙ on);
        reader = fed ∙ ap (λ (r : Road). reader_of r.fed) (sym more);
        sized =
            ap (λ (r : Reader). sized_by y.sized r.begun (fed_by y.reader b)) o.reader
            ∙ ap (λ (r : Reader). sized_by y.sized f.said.begun r) fed
            ∙ ap (λ k. sized_by k f.said.begun (reader_of (feed_byte f b))) o.sized
            ∙ ap (λ (r : Road). r.sized) (sym more);
        long = length-stored t y.reader.count (fed_by y.reader b) ∙ o.long;
        stored =
            λ h.
            ap (λ (r : Reader). stored_by t r.count (fed_by y.reader b)) o.reader ∙ ap (stored_by t (length f.said.arcs)) fed
            ∙ stored-filled f b t o.stored (subst (λ (r : Road). length r.fed.said.arcs ≤ most_arcs_read) more h)
            ∙ ap (λ (r : Road). filled r.fed.said.arcs zeros) (sym more);
      }

  road-off : past ≡ false → OnRoad (x ++ (b ∷ [])) (record { first = n; started = false; reader = y.reader; sized = y.sized }) t
  road-off e =
      let off = past_is false e in
      let same : road_in (x ++ (b ∷ [])) ≡ road_in x = in-same x b off in
      record {
        started = sym (ended-more x b ∙ off);
        reader = o.reader ∙ ap (λ (r : Road). reader_of r.fed) (sym same);
        sized = o.sized ∙ ap (λ (r : Road). r.sized) (sym same);
        long = o.long;
        stored = λ h. o.stored (subst (λ (r : Road). length r.fed.said.arcs ≤ most_arcs_read) same h) ∙ ap (λ (r : Road). filled r.fed.said.arcs zeros) (sym same);
      }

  road-next : OnRoad (x ++ (b ∷ [])) (taken_by y n b) (table_by t y b)
  unfolding taken_by table_by
  road-next = ⊎_elim (λ e. rw e (road-on e)) (λ e. rw e (road-off e)) (cases past)

-- ---- all of it

pub record Held (input : List ℕ) (s : State) : Type 0 where
  pub first : First input s.first s.taken.first
  pub road : OnRoad input s.taken s.table

held_none : Held [] (state_of [])
unfolding state_of state_from road_in road_file from_newline road_from road_byte sized_next feed_byte line_ended
held_none = record {
  first = record { is = refl; many = refl; long = length-replicate {A = ℕ} first_bytes 0 };
  road = record {
    started = refl;
    reader = fed-is unfed 99;
    sized = refl;
    long = length-replicate {A = ℕ} table_bytes 0;
    stored = λ h. sym (filled_none zeros);
  };
}

first_taken : (x : Taken) (n b : ℕ) → (taken_by x n b).first ≡ n
unfolding taken_by road_taken
first_taken x n b = ⊎_elim (λ e. rw e) (λ e. rw e) (cases (x.started || eqb b 10))

held-byte : (x : List ℕ) (s : State) (b : ℕ) → Held x s → Held (x ++ (b ∷ [])) (state_byte s b)
unfolding state_byte
held-byte x s b h = record {
  first = rw (first_taken s.taken (kept_to s.first s.taken.first) b) (first_byte x s.first s.taken.first b h.first);
  road = road-next x s.taken s.table (kept_to s.first s.taken.first) b h.road;
}

held-from : (x y : List ℕ) (s : State) → Held x s → Held (x ++ y) (state_from s y)
unfolding state_from
held-from x [] s h = rw append-nil h
held-from x (b ∷ y) s h = rw (← append_snoc x b y) (held-from (x ++ (b ∷ [])) y (state_byte s b) (held-byte x s b h))

pub held : (input : List ℕ) → Held input (state_of input)
unfolding state_of state_from
held input = held-from [] input (state_of []) held_none
