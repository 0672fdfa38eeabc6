-- What the summaries and the area say of the rounds. By induction on the rounds: an answered one has its slot first and a record with arcs, so its line is the
-- first one; one without an answer has a record without arcs and is the last. So the leading records with arcs are the answers, and their lines and
-- the last one are the text of the rounds.
use mathlib.Core.Path.{◌≡◌, refl, sym, ap, ◌∙◌}
use mathlib.Core.Logic.{⊎_elim}
use mathlib.Core.List.{List, [], ◌∷◌, ◌++◌, map, append_assoc, Memᴰ}
use Prim.Native.Nat.{ℕ, zero, suc, ◌+◌, ◌-◌, ◌*◌, ◌≤◌, ◌<◌}
use native.Mathlib.Nat.{add-zero, suc-mul}
use native.Mathlib.Numerals.{add-one}
use native.Mathlib.Omega.{arith}
use lib.ListN.{length, get_or, take, drop, replicate, get_or-map}
use lib.Seq.{take_at, drop_at, drop-drop}
use Rattle.lists.proofs.Cases.{order}
use Rattle.net.specs.Route.{length_of}
use Rattle.net.specs.Round.{Query, Ending, answered, unanswered, refused}
use Rattle.net.specs.Outcome.{summary, summaries, not_begun, answers}
use Rattle.labels.specs.Field.{no_number}
use Rattle.labels.specs.Chain.{slot_of}
use Rattle.round.proofs.EarlierLaws.{length-slot_of}
use Rattle.summary.specs.declared.Summary.{Summary}
use Rattle.summary.specs.declared.Sums.{Sums}
use Rattle.summary.specs.Sums.{record_at}
use Rattle.query_rounds.specs.Area.{slots, area_with}
use Rattle.query_rounds.specs.Progress.{as_record}
use Rattle.desk_output.specs.Line.{route_text}
use Rattle.query_rounds.proofs.SumsLaws.{get_or-firsts}
use Rattle.desk_text.specs.Desk.{rounds_text, head_text, none_text, end_lines}
use Rattle.desk_text.specs.Print.{Shape, Shows}
use Rattle.desk_text.specs.Lines.{line_at, lines_from, Leading}
use Rattle.desk_text.proofs.TextLaws.{lines_none, lines-first}

-- ---- the records

-- the leading records with arcs, one more
pub each_more : (xs : List ℕ) (j : ℕ) → ((i : ℕ) → i < j → 1 ≤ get_or xs i 0) → (get_or xs j 0 ≡ 0 → ⊥) → (i : ℕ) → i < j + 1 → 1 ≤ get_or xs i 0
each_more xs j h ne i g =
    ⊎_elim
    (λ m.
    let e : i ≡ j = omega arith in
    rw e (⊎_elim (λ z. absurd (ne (omega arith))) (λ z. z) (order (get_or xs j 0) 0)))
    (λ m. h i m)
    (order j i)

-- ---- a slot

slot_is : (w : ℕ) (p : List ℕ) → slot_of w p ≡ p ++ replicate (w - length p) no_number
slot_is w p = refl

take-slot : (w : ℕ) (p x : List ℕ) → take (length p) (slot_of w p ++ x) ≡ p
take-slot w p x =
    rw (slot_is w p, append_assoc p (replicate (w - length p) no_number) x) (take_at p (replicate (w - length p) no_number ++ x) (length p) refl)

-- ---- the rounds

line-parts : (sums : Sums) (w : ℕ) (area : List ℕ) (i : ℕ)
    → line_at sums w area i ≡ route_text (i + 1) (get_or sums.length i 0) (get_or sums.labels i 0) (take (get_or sums.arcs i 0) (drop (i * w) area))
unfolding line_at
line-parts sums w area i = refl

rounds-first : (q : Query) (j : ℕ) (p : List ℕ) (c : ℕ) (rs : List Ending)
    → rounds_text q j (answered p c ∷ rs) ≡ route_text j (length_of q.net.arcs p) c p ++ rounds_text q (j + 1) rs
unfolding rounds_text
rounds-first q j p c rs = refl

answers-more : (p : List ℕ) (c : ℕ) (rs : List Ending) → length (answers (answered p c ∷ rs)) ≡ suc (length (answers rs))
unfolding answers
answers-more p c rs = refl

module _ (q : Query) (w : ℕ) (sums : Sums) (area : List ℕ) where
  -- k rounds from number i + 1 on, of which the first n have arcs
  pub record From (k i n : ℕ) (rs : List Ending) : Type 0 where
    pub zs : List Rattle.net.specs.Outcome.Summary
    pub rest : List ℕ
    pub shape : Shape k rs
    pub records : (j : ℕ) → j < k → record_at sums (i + j) ≡ as_record (get_or (map (summary q) rs ++ zs) j not_begun)
    pub slotted : drop (i * w) area ≡ slots w k (answers rs) ++ rest
    pub short : (p : List ℕ) → Memᴰ p (answers rs) → length p ≤ w
    pub few : n ≤ k
    pub each : (j : ℕ) → j < n → 1 ≤ get_or sums.arcs (i + j) 0
    pub stop : n < k → get_or sums.arcs (i + n) 0 ≡ 0

  -- what is printed of them
  pub record Lines (k i n : ℕ) (rs : List Ending) : Type 0 where
    pub count : length (answers rs) ≡ n
    pub full : n ≡ k → rounds_text q (i + 1) rs ≡ lines_from sums w area n i
    pub less : n < k → rounds_text q (i + 1) rs ≡ lines_from sums w area n i ++ none_text (get_or sums.labels (i + n) 0)

  first : (k i n : ℕ) (z : Ending) (rs : List Ending) → From (suc k) i n (z ∷ rs) → record_at sums i ≡ as_record (summary q z)
  first k i n z rs f = rw add-zero at (f.records 0 (omega arith))

  -- a round without an answer
  last : (k i n : ℕ) (z : Ending) (v : ℕ) → From (suc k) i n (z ∷ []) → as_record (summary q z) ≡ record { length = 0; arcs = 0; labels = v } → answers (z ∷ []) ≡ []
      → rounds_text q (i + 1) (z ∷ []) ≡ none_text v → Lines (suc k) i n (z ∷ [])
  last k i zero z v f e a t =
      let l : get_or sums.labels i 0 ≡ v = ap (λ (x : Summary). x.labels) (first k i 0 z [] f ∙ e) in
      record {
        count = ap length a;
        full = λ m. absurd (omega arith);
        less = λ m. rw (lines_none sums w area i, add-zero i, l) t;
      }
  last k i (suc n) z v f e a t =
      let l : get_or sums.arcs i 0 ≡ 0 = ap (λ (x : Summary). x.arcs) (first k i (suc n) z [] f ∙ e) in
      absurd (omega (arith, l, rw add-zero at (f.each 0 (omega arith))))

  -- an answered one
  module _ (k i n : ℕ) (p : List ℕ) (c : ℕ) (rs : List Ending) (f : From (suc k) i (suc n) (answered p c ∷ rs)) where
    fits : length p ≤ w
    unfolding answers
    fits = f.short p (Memᴰ.head refl)

    slot-first : drop (i * w) area ≡ slot_of w p ++ (slots w k (answers rs) ++ f.rest)
    unfolding slots answers
    slot-first = f.slotted ∙ append_assoc (slot_of w p) (slots w k (answers rs)) f.rest

    slots-then : drop ((i + 1) * w) area ≡ slots w k (answers rs) ++ f.rest
    slots-then =
        let e : (i + 1) * w ≡ i * w + w = rw (add-one i) (suc-mul i w) in
        rw (e, ← drop-drop w (i * w) area, slot-first) (drop_at (slot_of w p) (slots w k (answers rs) ++ f.rest) w (length-slot_of w p fits))

    step : From k (i + 1) n rs
    unfolding answers
    step = record {
      zs = f.zs;
      rest = f.rest;
      shape = f.shape.1;
      records = λ j h.
          let e : i + 1 + j ≡ i + suc j = omega arith in
          rw e (f.records (suc j) (omega arith));
      slotted = slots-then;
      short = λ x m. f.short x (Memᴰ.tail m);
      few = omega (arith, f.few);
      each = λ j h.
          let e : i + 1 + j ≡ i + suc j = omega arith in
          rw e (f.each (suc j) (omega arith));
      stop = λ h.
          let e : i + 1 + n ≡ i + suc n = omega arith in
          rw e (f.stop (omega arith));
    }

    told : record_at sums i ≡ record { length = length_of q.net.arcs p; arcs = length p; labels = c }
    unfolding summary
    told = first k i (suc n) (answered p c) rs f

    line-is : line_at sums w area i ≡ route_text (i + 1) (length_of q.net.arcs p) c p
    line-is =
        let l : get_or sums.length i 0 ≡ length_of q.net.arcs p = ap (λ (x : Summary). x.length) told in
        let a : get_or sums.arcs i 0 ≡ length p = ap (λ (x : Summary). x.arcs) told in
        let b : get_or sums.labels i 0 ≡ c = ap (λ (x : Summary). x.labels) told in
        let t : take (get_or sums.arcs i 0) (drop (i * w) area) ≡ p = rw (a, slot-first) (take-slot w p (slots w k (answers rs) ++ f.rest)) in
        cc (line-parts sums w area i, l, b, t)

    text-is : rounds_text q (i + 1) (answered p c ∷ rs) ≡ line_at sums w area i ++ rounds_text q (i + 1 + 1) rs
    text-is = rw line-is (rounds-first q (i + 1) p c rs)

    more : Lines k (i + 1) n rs → Lines (suc k) i (suc n) (answered p c ∷ rs)
    more o = record {
      count = answers-more p c rs ∙ ap suc o.count;
      full = λ m. text-is ∙ rw (lines-first sums w area n i, o.full (omega arith));
      less = λ m.
          let e : i + 1 + n ≡ i + suc n = omega arith in
          let l = lines_from sums w area n (i + 1) in
          text-is ∙ rw (lines-first sums w area n i, o.less (omega arith), e) (sym (append_assoc (line_at sums w area i) l (none_text (get_or sums.labels (i + suc n) 0))));
    }

  lines_of : (k i n : ℕ) (rs : List Ending) → From k i n rs → Lines k i n rs
  unfolding answers rounds_text summary none_text lines_from
  lines_of zero i zero [] f = record { count = refl; full = λ e. refl; less = λ h. absurd (omega arith) }
  lines_of zero i (suc n) [] f = absurd (omega (arith, f.few))
  lines_of zero i n (z ∷ rs) f = absurd f.shape
  lines_of (suc k) i n [] f = absurd f.shape
  lines_of (suc k) i zero (answered p c ∷ rs) f =
      let a : get_or sums.arcs i 0 ≡ length p = ap (λ (x : Summary). x.arcs) (first k i 0 (answered p c) rs f) in
      absurd (omega (arith, a, rw add-zero at (f.stop (omega arith)), f.shape.0))
  lines_of (suc k) i (suc n) (answered p c ∷ rs) f = more k i n p c rs f (lines_of k (i + 1) n rs (step k i n p c rs f))
  lines_of (suc k) i n (unanswered c ∷ []) f = last k i n (unanswered c) c f refl refl refl
  lines_of (suc k) i n (unanswered c ∷ z ∷ rs) f = absurd f.shape
  lines_of (suc k) i n (refused ∷ []) f = last k i n refused q.room f refl refl refl
  lines_of (suc k) i n (refused ∷ z ∷ rs) f = absurd f.shape

-- ---- all of them

module _ (q : Query) (rs : List Ending) (w k : ℕ) (sums : Sums) (area : List ℕ) (n : ℕ) (s : Shows q rs w k sums area) (l : Leading sums k n) where
  start : From q w sums area k 0 n rs
  unfolding summaries area_with
  start = record {
    zs = replicate (k - length rs) not_begun;
    rest = drop (k * w) s.area₀;
    shape = s.shape;
    records = λ j h.
        let e : 0 + j ≡ j = omega arith in
        rw e (sym (get_or-firsts sums k j (as_record not_begun) h) ∙ ap (λ x. get_or x j (as_record not_begun)) s.summed ∙ get_or-map as_record (summaries q k rs) j not_begun);
    slotted =
        let e : 0 * w ≡ 0 = omega arith in
        rw e s.slotted;
    short = s.short;
    few = l.few;
    each = λ j h.
        let e : 0 + j ≡ j = omega arith in
        rw e (l.each j h);
    stop = λ h.
        let e : 0 + n ≡ n = omega arith in
        rw e (l.stop h);
  }

  due : Lines q w sums area k 0 n rs
  due = lines_of q w sums area k 0 n rs start

  split : (o : ℕ) → end_lines q o rs ≡ head_text o (length (answers rs)) ++ rounds_text q 1 rs
  unfolding end_lines
  split o = refl

  -- every round was answered
  pub end-full : (o : ℕ) → n ≡ k → end_lines q o rs ≡ head_text o n ++ lines_from sums w area n 0
  end-full o e = split o ∙ rw (due.count, ← due.full e)

  -- the last round was not
  pub end-less : (o : ℕ) → n < k → end_lines q o rs ≡ head_text o n ++ lines_from sums w area n 0 ++ none_text (get_or sums.labels n 0)
  end-less o h =
      let e : 0 + n ≡ n = omega arith in
      split o ∙ rw (due.count, append_assoc (head_text o n) (lines_from sums w area n 0) (none_text (get_or sums.labels n 0)))
      (ap (λ x. head_text o n ++ x) (rw e at (due.less h)))
