-- The pass that writes. Word m of rank r's slot is arc m % 6 of part m / 6 once the record of that part is passed, and 4,294,967,295 until then, and where the part
-- has no such arc (`word_at`). A record of the plan writes the words of its own part and no others, since no other record is that part (`laid-step`). After the
-- last record the words are the routes' (`route-word`), slot after slot (`laid-all`).
use mathlib.Core.Path.{◌≡◌, refl, sym, ap, ap₂, ◌∙◌}
use mathlib.Core.Bool.{false, cond}
use mathlib.Core.List.{List, ◌++◌, flat_map, append_assoc}
use mathlib.Core.Logic.{◌≢◌, ◌⊎◌, inl, inr, ⊎_elim}
use Prim.Native.Nat.{ℕ, zero, suc, ◌+◌, ◌-◌, ◌*◌, ◌/◌, ◌%◌, ◌≤◌, ◌<◌}
use native.Mathlib.Omega.{arith}
use native.Mathlib.Nat.{mul-le-mul_right}
use native.Mathlib.Numerals.{add-one}
use native.Mathlib.Decide.{ℕ_discrete}
use lib.Dec.{ltb}
use lib.ListN.{length, get_or, set, take, drop, replicate, length-append, length-replicate, get_or-replicate, length-drop, take-append-drop, get_or-eq_default, get_or-append}
use lib.Seq.{paste, paste-suc, take_all, get_or-take, get_or-drop, get_or-append-add, drop-drop, length-take-le, ext_get_or}
use borrow.Author.Tests.{lt-ltb, le-ltb}
use Rattle.lists.specs.Index.{tab}
use Rattle.lists.proofs.Cases.{cases, order}
use Rattle.lists.proofs.IndexLaws.{get_or-tab}
use Rattle.words.specs.Part.{patch}
use Rattle.words.proofs.PartLaws.{length-patch, part_same, drop-after}
use Rattle.labels.specs.Field.{no_number}
use Rattle.labels.specs.Chain.{slot_of}
use Rattle.plan_record.specs.Record.{records, plan_at, rank_at, used_at, part_at, part_arcs, arc_at, arcs_at}
use Rattle.plan_record.proofs.PatchLaws.{get_or-patch-other}
use Rattle.plan_record.proofs.StoreLaws.{get_or-within}
use Rattle.plan_file.specs.Meaning.{place_of, has_part, route_of, plan_in}
use Rattle.plan_file.proofs.SoundLaws.{Sound}
use Rattle.plan_file.proofs.MeaningLaws.{IsPart, has-part-e, place-of, used-most, arcs-length, absent, part_of, route-word, ranked-is, plan-ranked}
use Rattle.plan_fetch.specs.Fetch.{too_small, slots_with}
use Rattle.plan_fetch.proofs.PassLaws.{room, route-fits}

-- ---- lists

get_or-patch-in : (a e : ℕ) (l ys : List ℕ) → a ≤ e → e ≤ length l → length ys ≡ e - a → (x d : ℕ) → a ≤ x → x < e → get_or (patch a e l ys) x d ≡ get_or ys (x - a) d
get_or-patch-in a e l ys h g n x d i j =
    let k : x ≡ a + (x - a) = omega arith in
    ap (λ z. get_or (patch a e l ys) z d) k
    ∙ sym (get_or-drop a (patch a e l ys) (x - a) d)
    ∙ sym (get_or-take (e - a) (drop a (patch a e l ys)) (x - a) d (omega arith))
    ∙ ap (λ z. get_or z (x - a) d) (part_same a e l ys h g n)

-- a list pasted whole is a patch
pub paste-patch : (l : List ℕ) (a : ℕ) (ys : List ℕ) (n : ℕ) → length ys ≡ n → paste l a ys n ≡ patch a (a + n) l ys
unfolding patch
paste-patch l a ys n h = ap (λ y. take a l ++ y ++ drop (a + n) l) (take_all n ys (omega arith)) ∙ append_assoc (take a l) ys (drop (a + n) l)

-- one arc more of a record that is being pasted
pub paste-arc : (l : List ℕ) (a : ℕ) (f : List ℕ) (i j : ℕ) → used_at f i ≤ part_arcs → j < used_at f i → a + j < length l
    → set (paste l a (arcs_at f i) j) (a + j) (arc_at f i j) ≡ paste l a (arcs_at f i) (j + 1)
paste-arc l a f i j few h k =
    let e : get_or (arcs_at f i) j 0 ≡ arc_at f i j = get_or-take (used_at f i) (tab part_arcs (arc_at f i)) j 0 h ∙ get_or-tab part_arcs (arc_at f i) j 0 (omega arith) in
    ap (set (paste l a (arcs_at f i) j) (a + j)) (sym e) ∙ paste-suc l a (arcs_at f i) j 0 k (omega (arith, arcs-length f i few)) ∙ ap (paste l a (arcs_at f i)) (sym (add-one j))

-- ---- a slot by its words

length-slot_of : (w : ℕ) (p : List ℕ) → length p ≤ w → length (slot_of w p) ≡ w
length-slot_of w p h = omega (arith, length-append p (replicate (w - length p) no_number), length-replicate (w - length p) no_number)

slot-word : (w : ℕ) (p : List ℕ) (m : ℕ) → m < w → get_or (slot_of w p) m 0 ≡ get_or p m no_number
slot-word w p m h =
    ⊎_elim
    (λ k.
    let e : m ≡ length p + (m - length p) = omega arith in
    ap (λ x. get_or (slot_of w p) x 0) e
    ∙ get_or-append-add p (replicate (w - length p) no_number) (m - length p) 0
    ∙ get_or-replicate (w - length p) (m - length p) no_number 0 (omega arith)
    ∙ sym (get_or-eq_default p no_number {n = m} k))
    (λ k. get_or-append p (replicate (w - length p) no_number) 0 m k ∙ get_or-within p m 0 no_number k)
    (order (length p) m)

-- a list that is slot after slot the routes g 0, .., g (n - 1), and then the rest
slots-of : (w n : ℕ) (g : ℕ → List ℕ) (l : List ℕ) → n * w ≤ length l → ((r : ℕ) → r < n → length (g r) ≤ w)
    → ((r m : ℕ) → r < n → m < w → get_or l (r * w + m) 0 ≡ get_or (g r) m no_number) → l ≡ flat_map (slot_of w) (tab n g) ++ drop (n * w) l
unfolding flat_map
slots-of w zero g l h short word =
    let e : 0 * w ≡ 0 = omega arith in
    ap (λ k. drop k l) (sym e)
slots-of w (suc n) g l h short word =
    let e : suc n * w ≡ w + n * w = omega arith in
    let a : take w l ≡ slot_of w (g 0) =
    ext_get_or 0 (take w l) (slot_of w (g 0)) (length-take-le w l (omega arith) ∙ sym (length-slot_of w (g 0) (short 0 (omega arith))))
    (λ m k. let b : m < w = omega (arith, length-take-le w l (omega arith)) in
    let z : 0 * w + m ≡ m = omega arith in
    get_or-take w l m 0 b ∙ (rw z at (word 0 m (omega arith) b)) ∙ sym (slot-word w (g 0) m b)) in
    let r = slots-of w n (λ q. g (suc q)) (drop w l) (omega (arith, length-drop w l)) (λ q k. short (suc q) (omega arith))
    (λ q m i j. let z : w + (q * w + m) ≡ suc q * w + m = omega arith in get_or-drop w l (q * w + m) 0 ∙ (rw z (word (suc q) m (omega arith) j))) in
    sym (take-append-drop w l)
    ∙ ap₂ ◌++◌ a (r ∙ ap (λ x. flat_map (slot_of w) (tab n (λ q. g (suc q))) ++ x) (drop-drop (n * w) w l ∙ ap (λ k. drop k l) (sym e)))
    ∙ sym (append_assoc (slot_of w (g 0)) (flat_map (slot_of w) (tab n (λ q. g (suc q)))) (drop (suc n * w) l))

-- ---- the words while the records below i are passed

-- word m of rank r's slot
abbrev pub word_at : List ℕ → ℕ → ℕ → ℕ → ℕ → ℕ
word_at f plan i r m = cond (ltb (place_of f plan r (m / part_arcs)) i) (get_or (part_of f plan r (m / part_arcs)) (m % part_arcs) no_number) no_number

module _ (f : List ℕ) (plan i r m : ℕ) where
  word-passed : place_of f plan r (m / part_arcs) < i → word_at f plan i r m ≡ get_or (part_of f plan r (m / part_arcs)) (m % part_arcs) no_number
  word-passed h = rw (lt-ltb (place_of f plan r (m / part_arcs)) i h)

  word-ahead : i ≤ place_of f plan r (m / part_arcs) → word_at f plan i r m ≡ no_number
  word-ahead h = rw (le-ltb (place_of f plan r (m / part_arcs)) i h)

-- a record that is not the word's changes nothing
word_same : (f : List ℕ) (plan i r m : ℕ) → place_of f plan r (m / part_arcs) ≢ i → word_at f plan i r m ≡ word_at f plan (i + 1) r m
word_same f plan i r m ne =
    ⊎_elim
    (λ w. word-ahead f plan i r m w ∙ sym (word-ahead f plan (i + 1) r m (omega arith)))
    (λ w. word-passed f plan i r m w ∙ sym (word-passed f plan (i + 1) r m (omega arith)))
    (order i (place_of f plan r (m / part_arcs)))

-- s is l with the words of n slots of w so far
pub record Laid (f : List ℕ) (plan w n : ℕ) (l : List ℕ) (i : ℕ) (s : List ℕ) : Type 0 where
  pub size : length s ≡ length l
  pub word : (r m : ℕ) → r < n → m < w → get_or s (r * w + m) 0 ≡ word_at f plan i r m
  pub rest : drop (n * w) s ≡ drop (n * w) l

pub laid_none : (f : List ℕ) (plan w n : ℕ) (l s : List ℕ) → n * w ≤ length l → s ≡ patch 0 (n * w) l (replicate (n * w - 0) no_number) → Laid f plan w n l 0 s
laid_none f plan w n l s h e =
    let z = length-replicate (n * w - 0) no_number in
    record {
      size = ap length e ∙ length-patch 0 (n * w) l (replicate (n * w - 0) no_number) (omega arith) h z;
      word = λ r m i j.
          let b : r * w + m < n * w = omega (arith, mul-le-mul_right {m = suc r} {n = n} w (omega arith)) in
          ap (λ x. get_or x (r * w + m) 0) e
          ∙ get_or-patch-in 0 (n * w) l (replicate (n * w - 0) no_number) (omega arith) h z (r * w + m) 0 (omega arith) b
          ∙ get_or-replicate (n * w - 0) (r * w + m - 0) no_number 0 (omega arith)
          ∙ sym (word-ahead f plan 0 r m (omega arith));
      rest = ap (drop (n * w)) e ∙ drop-after 0 (n * w) l (replicate (n * w - 0) no_number) (omega arith) h z (n * w) (omega arith);
    }

module _ (f : List ℕ) (plan i r m : ℕ) (h : i < records f) (at : place_of f plan r (m / part_arcs) ≡ i) where
  -- a part that is at i stands there
  found_at : IsPart f plan r (m / part_arcs) i
  unfolding has_part
  found_at = rw at at (has-part-e f plan r (m / part_arcs) (lt-ltb (place_of f plan r (m / part_arcs)) (records f) (omega arith)))

-- what was laid on s, which was laid on l, is laid on l
pub laid-self : (f : List ℕ) (plan w n : ℕ) (l : List ℕ) (i : ℕ) (s : List ℕ) → Laid f plan w n l i s → Laid f plan w n s i s
laid-self f plan w n l i s c = record { size = refl; word = c.word; rest = refl }

pub laid-over : (f : List ℕ) (plan w n : ℕ) (l : List ℕ) (j : ℕ) (s : List ℕ) (i : ℕ) (t : List ℕ) → Laid f plan w n l j s → Laid f plan w n s i t → Laid f plan w n l i t
laid-over f plan w n l j s i t c d = record { size = d.size ∙ c.size; word = d.word; rest = d.rest ∙ c.rest }

pub laid-skip : (f : List ℕ) (plan w n : ℕ) (l : List ℕ) (i : ℕ) (s : List ℕ) → i < records f → plan_at f i ≢ plan → Laid f plan w n l i s → Laid f plan w n l (i + 1) s
laid-skip f plan w n l i s h ne c =
    record {
      size = c.size;
      word = λ r m a b. c.word r m a b ∙ word_same f plan i r m (λ at. ne (found_at f plan i r m h at).of-plan);
      rest = c.rest;
    }

-- a record of the plan, written
module _ (f : List ℕ) (sound : Sound f) (plan : ℕ) (some : plan ≢ 0) (w n : ℕ) (l : List ℕ) (i : ℕ) (s : List ℕ) where
  -- where its arcs begin, and end
  abbrev from : ℕ
  from = rank_at f i * w + part_at f i * part_arcs

  abbrev to : ℕ
  to = rank_at f i * w + part_at f i * part_arcs + used_at f i

  module _ (h : i < records f) (p : plan_at f i ≡ plan) (low : rank_at f i < n) (fits : part_at f i * part_arcs + used_at f i ≤ w) (many : n * w ≤ length l) (c : Laid f plan w n l i s) where
    few : used_at f i ≤ part_arcs
    few = used-most f sound i h (λ z. some (sym p ∙ z))

    in-slot : to ≤ n * w
    in-slot = omega (arith, mul-le-mul_right {m = suc (rank_at f i)} {n = n} w (omega arith))

    pub in_area : to ≤ length s
    in_area = omega (arith, in-slot, c.size)

    long : length (arcs_at f i) ≡ to - from
    long = arcs-length f i few ∙ omega arith

    -- a word that it writes is of its part
    own : (r m : ℕ) → m < w → from ≤ r * w + m → r * w + m < to → place_of f plan r (m / part_arcs) ≡ i
    own r m b j k = place-of f sound plan some (record { within = h; of-plan = p; of-rank = rank; of_part = omega (arith, few, ap (λ x. x * w) rank) })
      where
        rank : rank_at f i ≡ r
        rank =
            ⊎_elim
            (λ x. ⊎_elim (λ y. omega arith) (λ y. absurd (omega (arith, mul-le-mul_right {m = suc r} {n = rank_at f i} w (omega arith)))) (order (rank_at f i) r))
            (λ x. absurd (omega (arith, mul-le-mul_right {m = suc (rank_at f i)} {n = r} w (omega arith))))
            (order r (rank_at f i))

    word_of : (r m : ℕ) → r < n → m < w → place_of f plan r (m / part_arcs) ≡ i → get_or (patch from to s (arcs_at f i)) (r * w + m) 0 ≡ word_at f plan (i + 1) r m
    word_of r m a b at =
        let x = found_at f plan i r m h at in
        let y = ap (λ k. k * w) x.of-rank in
        let e : word_at f plan (i + 1) r m ≡ get_or (arcs_at f i) (m % part_arcs) no_number =
        word-passed f plan (i + 1) r m (omega arith) ∙ ap (λ k. get_or (arcs_at f k) (m % part_arcs) no_number) at in
        ⊎_elim
        (λ k.
        get_or-patch-other from to s (arcs_at f i) (omega arith) in_area long (r * w + m) (inr (omega (arith, x.of_part)))
        ∙ c.word r m a b
        ∙ word-ahead f plan i r m (omega arith)
        ∙ sym (e ∙ get_or-eq_default (arcs_at f i) no_number {n = m % part_arcs} (omega (arith, arcs-length f i few))))
        (λ k.
        let z : r * w + m - from ≡ m % part_arcs = omega (arith, x.of_part) in
        get_or-patch-in from to s (arcs_at f i) (omega arith) in_area long (r * w + m) 0 (omega (arith, x.of_part)) (omega (arith, x.of_part))
        ∙ ap (λ j. get_or (arcs_at f i) j 0) z
        ∙ get_or-within (arcs_at f i) (m % part_arcs) 0 no_number (omega (arith, arcs-length f i few))
        ∙ sym e)
        (order (used_at f i) (m % part_arcs))

    word-other : (r m : ℕ) → r < n → m < w → place_of f plan r (m / part_arcs) ≢ i → get_or (patch from to s (arcs_at f i)) (r * w + m) 0 ≡ word_at f plan (i + 1) r m
    word-other r m a b ne =
        get_or-patch-other from to s (arcs_at f i) (omega arith) in_area long (r * w + m) (apart (order from (r * w + m)) (order to (r * w + m)))
        ∙ c.word r m a b
        ∙ word_same f plan i r m ne
      where
        apart : (from ≤ r * w + m) ⊎ (r * w + m < from) → (to ≤ r * w + m) ⊎ (r * w + m < to) → (r * w + m < from) ⊎ (to ≤ r * w + m)
        apart (inr x) y = inl x
        apart (inl x) (inl y) = inr y
        apart (inl x) (inr y) = absurd (ne (own r m b x y))

    pub laid-step : Laid f plan w n l (i + 1) (patch from to s (arcs_at f i))
    laid-step =
        record {
          size = length-patch from to s (arcs_at f i) (omega arith) in_area long ∙ c.size;
          word = λ r m a b. go r m a b (ℕ_discrete (place_of f plan r (m / part_arcs)) i);
          rest = drop-after from to s (arcs_at f i) (omega arith) in_area long (n * w) in-slot ∙ c.rest;
        }
      where
        go : (r m : ℕ) → r < n → m < w → Dec (place_of f plan r (m / part_arcs) ≡ i) → get_or (patch from to s (arcs_at f i)) (r * w + m) 0 ≡ word_at f plan (i + 1) r m
        go r m a b (yes e) = word_of r m a b e
        go r m a b (no e) = word-other r m a b e

-- all records passed
module _ (f : List ℕ) (sound : Sound f) (plan : ℕ) (some : plan ≢ 0) (w : ℕ) (l : List ℕ) (big : too_small (plan_in f plan) l w ≡ false) where
  word-last : (i r m : ℕ) → records f ≤ i → word_at f plan i r m ≡ get_or (route_of f plan r) m no_number
  word-last i r m h =
      ⊎_elim
      (λ e. word-passed f plan i r m (omega (arith, (has-part-e f plan r (m / part_arcs) e).within)))
      (λ e.
      ⊎_elim
      (λ k. word-ahead f plan i r m k ∙ sym (ap (λ x. get_or x (m % part_arcs) no_number) (absent f sound plan some r (m / part_arcs) e)))
      (λ k. word-passed f plan i r m k)
      (order i (place_of f plan r (m / part_arcs))))
      (cases (has_part f plan r (m / part_arcs)))
      ∙ sym (route-word f sound plan some r m no_number)

  pub laid-all : (i : ℕ) (s : List ℕ) → records f ≤ i → Laid f plan w (length (plan_in f plan)) l i s → s ≡ slots_with w (plan_in f plan) l
  unfolding slots_with
  laid-all i s h c =
      let n = length (plan_in f plan) in
      slots-of w n (route_of f plan) s (omega (arith, room f sound plan some w l big, c.size)) (route-fits f sound plan some w l big)
      (λ r m a b. c.word r m a b ∙ word-last i r m h)
      ∙ ap₂ (λ x y. flat_map (slot_of w) x ++ y) (sym (ranked-is f sound plan some n (plan-ranked f sound plan some))) c.rest
