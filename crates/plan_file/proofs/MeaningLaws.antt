-- What a sound file means, record by record. A part stands in one record at most, so it is found where it stands (`place-of`); the parts before it and the ranks
-- before its own stand too, each full (`part-before`, `rank-before`). So a route's word m is arc m % 6 of part m / 6 (`route-word`, `route-length`), for the parts
-- are fewer than the records, and a plan's routes are those of the ranks below the first that is absent (`plan-is`).
use mathlib.Core.Path.{◌≡◌, refl, sym, ap, ap₂, subst, ◌∙◌}
use mathlib.Core.Bool.{true, false, not, ◌&&◌}
use mathlib.Core.List.Memᴰ
use mathlib.Core.List.{List, [], ◌∷◌, ◌++◌, Memᴰ}
use mathlib.Core.Logic.{◌≢◌, ◌⊎◌, inl, inr, ⊎_elim}
use Prim.Native.Nat.{ℕ, zero, suc, ◌+◌, ◌-◌, ◌*◌, ◌/◌, ◌%◌, ◌≤◌, ◌<◌}
use native.Mathlib.Omega.{arith}
use lib.Dec.{T, ltb, leb, not_T}
use lib.ListN.{length, get_or, take, length-append, length-take, get_or-eq_default, get_or-append}
use lib.Seq.{get_or-append-add, length-take-le}
use borrow.Author.Tests.{ltb-true, ltb-false, leb-true, lt-ltb, le-ltb, ne_eqb, not-true, not-false}
use Rattle.lists.specs.Tests.{has, distinct, up_from, every}
use Rattle.lists.specs.Index.{tab, first_at}
use Rattle.lists.proofs.Cases.{cases, order}
use Rattle.lists.proofs.TestLaws.{and_i, has→mem}
use Rattle.lists.proofs.MemberLaws.{up_from-i, length-up_from, distinct-length}
use Rattle.lists.proofs.IndexLaws.{first-is, first-at, first-le, first_below, length-tab, tab-cong}
use Rattle.net.specs.Limits.{most_routes}
use Rattle.plan_record.specs.Record.{records, plan_at, rank_at, used_at, part_at, part_arcs, arcs_at, arc_at, formed_arc, formed_use, formed}
use Rattle.plan_file.specs.File.{is_part, follows}
use Rattle.plan_file.specs.Meaning.{place_of, has_part, route_from, route_of, routes_from, plan_in}
use Rattle.plan_file.proofs.EachLaws.{and-true, untrue, clash}
use Rattle.plan_file.proofs.SoundLaws.{Sound, is-part-e, is-part-i}
use Rattle.plan_file.proofs.SameLaws.{place_in, place_is, route-step, route-stop, routes-step, routes-stop}
use Rattle.plan_file.proofs.ThereLaws.{follows-e}

-- ---- as many different numbers below n as m are no more than n

each_of : (ℕ → ℕ) → ℕ → List ℕ
each_of g zero = []
each_of g (suc m) = g m ∷ each_of g m

length-each : (g : ℕ → ℕ) (m : ℕ) → length (each_of g m) ≡ m
unfolding each_of
length-each g zero = refl
length-each g (suc m) = ap suc (length-each g m)

each-e : (g : ℕ → ℕ) (m x : ℕ) → Memᴰ x (each_of g m) → (k : ℕ) × (k < m) × (x ≡ g k)
unfolding each_of
each-e g zero x h = absurd (Memᴰ.not-nil h)
each-e g (suc m) x h = go (λ k. each-e g m x k) (Memᴰ.cases_cons h)
  where
    go : (Memᴰ x (each_of g m) → (k : ℕ) × (k < m) × (x ≡ g k)) → (x ≡ g m) ⊎ Memᴰ x (each_of g m) → (k : ℕ) × (k < suc m) × (x ≡ g k)
    go below (inl e) = (m, omega arith, e)
    go below (inr k) = let w = below k in (w.0, omega (arith, w.1), w.2)

each-distinct : (g : ℕ → ℕ) (m : ℕ) → ((j k : ℕ) → j < k → k < m → g j ≡ g k → ⊥) → T (distinct (each_of g m))
unfolding each_of distinct
each-distinct g zero h = tt
each-distinct g (suc m) h =
    and_i (not (has (g m) (each_of g m))) (distinct (each_of g m))
    (not_T (has (g m) (each_of g m)) (λ t. let w = each-e g m (g m) (has→mem (g m) (each_of g m) t) in h w.0 m w.1 (omega arith) (sym w.2)))
    (each-distinct g m (λ j k a b. h j k a (omega arith)))

pub different-below : (g : ℕ → ℕ) (m n : ℕ) → ((k : ℕ) → k < m → g k < n) → ((j k : ℕ) → j < k → k < m → g j ≡ g k → ⊥) → m ≤ n
different-below g m n low d =
    let e = distinct-length (each_of g m) (up_from 0 n) (each-distinct g m d) (λ x i. let w = each-e g m x i in up_from-i 0 n x (omega arith) (omega (arith, low w.0 w.1, w.2))) in
    omega (arith, length-each g m, length-up_from 0 n)

-- ---- what is read of a list that comes six at a time

-- of a part, of what follows it where the part is full, and of nothing
record SixWise {A : Type 0} (read : List ℕ → ℕ → A) : Type 0 where
  here : (xs ys : List ℕ) (m : ℕ) → (0 < length ys → length xs ≡ part_arcs) → m < part_arcs → read (xs ++ ys) m ≡ read xs m
  there : (xs ys : List ℕ) (m : ℕ) → length xs ≤ part_arcs → (0 < length ys → length xs ≡ part_arcs) → part_arcs ≤ m → read (xs ++ ys) m ≡ read ys (m - part_arcs)
  none : (m k : ℕ) → read [] m ≡ read [] k

module _ (xs ys : List ℕ) (m : ℕ) (full : 0 < length ys → length xs ≡ part_arcs) where
  nothing-more : length xs ≤ m → m < part_arcs → length (xs ++ ys) ≤ m
  nothing-more w h = ⊎_elim (λ a. omega (arith, length-append xs ys)) (λ a. absurd (omega (arith, full a))) (order (length ys) 0)

  word-here : (d : ℕ) → m < part_arcs → get_or (xs ++ ys) m d ≡ get_or xs m d
  word-here d h =
      ⊎_elim
      (λ w. get_or-eq_default (xs ++ ys) d {n = m} (nothing-more w h) ∙ sym (get_or-eq_default xs d {n = m} w))
      (λ w. get_or-append xs ys d m w)
      (order (length xs) m)

  length-here : m < part_arcs → ltb m (length (xs ++ ys)) ≡ ltb m (length xs)
  length-here h =
      ⊎_elim
      (λ w. le-ltb m (length (xs ++ ys)) (nothing-more w h) ∙ sym (le-ltb m (length xs) w))
      (λ w. lt-ltb m (length (xs ++ ys)) (omega (arith, length-append xs ys)) ∙ sym (lt-ltb m (length xs) w))
      (order (length xs) m)

  module _ (few : length xs ≤ part_arcs) (h : part_arcs ≤ m) where
    word-there : (d : ℕ) → get_or (xs ++ ys) m d ≡ get_or ys (m - part_arcs) d
    word-there d =
        ⊎_elim
        (λ w. get_or-eq_default (xs ++ ys) d {n = m} (omega (arith, length-append xs ys)) ∙ sym (get_or-eq_default ys d {n = m - part_arcs} (omega arith)))
        (λ w.
        let e : m ≡ length xs + (m - part_arcs) = omega (arith, full w) in
        ap (λ k. get_or (xs ++ ys) k d) e ∙ get_or-append-add xs ys (m - part_arcs) d)
        (order (length ys) 0)

    length-there : ltb m (length (xs ++ ys)) ≡ ltb (m - part_arcs) (length ys)
    length-there =
        ⊎_elim
        (λ w. le-ltb m (length (xs ++ ys)) (past w) ∙ sym (le-ltb (m - part_arcs) (length ys) (omega arith)))
        (λ w. lt-ltb m (length (xs ++ ys)) (omega (arith, length-append xs ys, full (omega arith))) ∙ sym (lt-ltb (m - part_arcs) (length ys) (omega arith)))
        (order (part_arcs + length ys) m)
      where
        past : part_arcs + length ys ≤ m → length (xs ++ ys) ≤ m
        past w = omega (arith, length-append xs ys)

words : (d : ℕ) → SixWise (λ l m. get_or l m d)
words d = record { here = λ xs ys m full h. word-here xs ys m full d h; there = λ xs ys m few full h. word-there xs ys m full few h d; none = λ m k. refl }

lengths : SixWise (λ l m. ltb m (length l))
lengths = record { here = length-here; there = λ xs ys m few full h. length-there xs ys m full few h; none = λ m k. le-ltb m 0 (omega arith) ∙ sym (le-ltb k 0 (omega arith)) }

-- ---- where a part stands

-- record i is this part
pub record IsPart (f : List ℕ) (plan rank part i : ℕ) : Type 0 where
  pub within : i < records f
  pub of-plan : plan_at f i ≡ plan
  pub of-rank : rank_at f i ≡ rank
  pub of_part : part_at f i ≡ part

module _ (f : List ℕ) (plan rank part : ℕ) where
  pub has-part-e : has_part f plan rank part ≡ true → IsPart f plan rank part (place_of f plan rank part)
  has-part-e h =
      let w = is-part-e f plan rank part (place_of f plan rank part) (place_is f plan rank part h) in
      record { within = place_in f plan rank part h; of-plan = w.0; of-rank = w.1; of_part = w.2 }

  has-no-part : has_part f plan rank part ≡ false → place_of f plan rank part ≡ records f
  unfolding has_part place_of
  has-no-part h =
      omega (arith, ltb-false (first_at (is_part f plan rank part) (records f) 0) (records f) h, first-le (is_part f plan rank part) (records f) 0)

-- ---- a record in use

module _ (f : List ℕ) (s : Sound f) (i : ℕ) (h : i < records f) (taken : plan_at f i ≢ 0) where
  in_use : formed_use f i ≡ true
  unfolding formed
  in_use = rw (ne_eqb (plan_at f i) 0 taken) at (s.formed i h)

  numbers : ((ltb (rank_at f i) most_routes && (leb 1 (used_at f i) && leb (used_at f i) part_arcs)) && every (formed_arc f i) (up_from 0 part_arcs)) ≡ true
  unfolding formed_use
  numbers = in_use

  fields : (ltb (rank_at f i) most_routes ≡ true) × ((leb 1 (used_at f i) && leb (used_at f i) part_arcs) ≡ true)
  fields =
      and-true (ltb (rank_at f i) most_routes) (leb 1 (used_at f i) && leb (used_at f i) part_arcs)
      (and-true (ltb (rank_at f i) most_routes && (leb 1 (used_at f i) && leb (used_at f i) part_arcs)) (every (formed_arc f i) (up_from 0 part_arcs)) numbers).0

  pub rank_most : rank_at f i < most_routes
  rank_most = ltb-true (rank_at f i) most_routes fields.0

  pub used-least : 1 ≤ used_at f i
  used-least = leb-true 1 (used_at f i) (and-true (leb 1 (used_at f i)) (leb (used_at f i) part_arcs) fields.1).0

  pub used-most : used_at f i ≤ part_arcs
  used-most = leb-true (used_at f i) part_arcs (and-true (leb 1 (used_at f i)) (leb (used_at f i) part_arcs) fields.1).1

-- how many arcs a record has, and that there is none past the last record
pub arcs-length : (f : List ℕ) (i : ℕ) → used_at f i ≤ part_arcs → length (arcs_at f i) ≡ used_at f i
arcs-length f i h = length-take-le (used_at f i) (tab part_arcs (arc_at f i)) h

pub arcs-few : (f : List ℕ) (i : ℕ) → length (arcs_at f i) ≤ part_arcs
arcs-few f i = omega (arith, length-take (used_at f i) (tab part_arcs (arc_at f i)))

pub arcs-past : (f : List ℕ) → Sound f → arcs_at f (records f) ≡ []
arcs-past f s =
    let e : used_at f (records f) ≡ 0 = get_or-eq_default f 0 {n = records f * 32 + 5} (omega (arith, s.whole)) in
    ap (λ n. take n (tab part_arcs (arc_at f (records f)))) e

-- ---- the parts of a plan

module _ (f : List ℕ) (s : Sound f) (plan : ℕ) (some : plan ≢ 0) where
  module _ {rank part i : ℕ} (h : IsPart f plan rank part i) where
    used : plan_at f i ≢ 0
    used z = some (sym h.of-plan ∙ z)

    -- it stands nowhere else
    only : (j : ℕ) → j < i → is_part f plan rank part j ≡ true → ⊥
    only j l t =
        let w = is-part-e f plan rank part j t in
        let e =
        s.single i j h.within (omega (arith, h.within)) used
        (is-part-i f (plan_at f i) (rank_at f i) (part_at f i) j (w.0 ∙ sym h.of-plan) (w.1 ∙ sym h.of-rank) (w.2 ∙ sym h.of_part)) in
        omega arith

    pub place-of : place_of f plan rank part ≡ i
    unfolding place_of
    place-of =
        first-is (is_part f plan rank part) (records f) 0 i (omega arith) (omega (arith, h.within)) (λ j a b. untrue (is_part f plan rank part j) (only j b))
        (λ b. is-part-i f plan rank part i h.of-plan h.of-rank h.of_part)

    pub has-part-i : has_part f plan rank part ≡ true
    unfolding has_part
    has-part-i = lt-ltb (place_of f plan rank part) (records f) (omega (arith, place-of, h.within))

  -- the part before a part stands, and is full
  pub part-before : (rank part : ℕ) → has_part f plan rank (part + 1) ≡ true → (has_part f plan rank part ≡ true) × (used_at f (place_of f plan rank part) ≡ part_arcs)
  part-before rank part h = go (s.linked (place_of f plan rank (part + 1)) at.within (used at))
    where
      at : IsPart f plan rank (part + 1) (place_of f plan rank (part + 1))
      at = has-part-e f plan rank (part + 1) h

      go : ((rank_at f (place_of f plan rank (part + 1)) ≡ 0) × (part_at f (place_of f plan rank (part + 1)) ≡ 0)) ⊎ ((j : ℕ) × (j < records f) × (follows f (place_of f plan rank (part + 1)) j ≡ true))
          → (has_part f plan rank part ≡ true) × (used_at f (place_of f plan rank part) ≡ part_arcs)
      go (inl z) = absurd (omega (arith, z.1, at.of_part))
      go (inr w) =
          let i = place_of f plan rank (part + 1) in
          let v = follows-e f i w.0 w.2 in
          ⊎_elim
          (λ n. absurd (omega (arith, n.0, at.of_part)))
          (λ n.
          let b : IsPart f plan rank part w.0 = record { within = w.1; of-plan = v.0 ∙ at.of-plan; of-rank = n.1 ∙ at.of-rank; of_part = omega (arith, n.2, at.of_part) } in
          (has-part-i b, ap (used_at f) (place-of b) ∙ n.3))
          v.1

  pub parts-before : (rank part more : ℕ) → has_part f plan rank (part + more) ≡ true → has_part f plan rank part ≡ true
  parts-before rank part zero h =
      let e : part + 0 ≡ part = omega arith in
      rw e at h
  parts-before rank part (suc more) h =
      let e : part + suc more ≡ part + more + 1 = omega arith in
      parts-before rank part more (part-before rank (part + more) (rw e at h)).0

  -- a record of a plan has the first parts of its rank and of those before it
  rank-before : (rank : ℕ) → has_part f plan (rank + 1) 0 ≡ true → has_part f plan rank 0 ≡ true
  rank-before rank h = go (s.linked (place_of f plan (rank + 1) 0) at.within (used at))
    where
      at : IsPart f plan (rank + 1) 0 (place_of f plan (rank + 1) 0)
      at = has-part-e f plan (rank + 1) 0 h

      go : ((rank_at f (place_of f plan (rank + 1) 0) ≡ 0) × (part_at f (place_of f plan (rank + 1) 0) ≡ 0)) ⊎ ((j : ℕ) × (j < records f) × (follows f (place_of f plan (rank + 1) 0) j ≡ true))
          → has_part f plan rank 0 ≡ true
      go (inl z) = absurd (omega (arith, z.0, at.of-rank))
      go (inr w) =
          let i = place_of f plan (rank + 1) 0 in
          let v = follows-e f i w.0 w.2 in
          ⊎_elim
          (λ n.
          let b : IsPart f plan rank (0 + part_at f w.0) w.0 = record { within = w.1; of-plan = v.0 ∙ at.of-plan; of-rank = omega (arith, n.1, at.of-rank); of_part = omega arith } in
          parts-before rank 0 (part_at f w.0) (has-part-i b))
          (λ n. absurd (n.0 at.of_part))
          v.1

  pub ranks-before : (rank more : ℕ) → has_part f plan (rank + more) 0 ≡ true → has_part f plan rank 0 ≡ true
  ranks-before rank zero h =
      let e : rank + 0 ≡ rank = omega arith in
      rw e at h
  ranks-before rank (suc more) h =
      let e : rank + suc more ≡ rank + more + 1 = omega arith in
      ranks-before rank more (rank-before (rank + more) (rw e at h))

  pub rank-there : (i q : ℕ) → i < records f → plan_at f i ≡ plan → q ≤ rank_at f i → has_part f plan q 0 ≡ true
  rank-there i q h e l =
      let b : IsPart f plan (q + (rank_at f i - q)) (0 + part_at f i) i = record { within = h; of-plan = e; of-rank = omega arith; of_part = omega arith } in
      ranks-before q (rank_at f i - q) (parts-before (q + (rank_at f i - q)) 0 (part_at f i) (has-part-i b))

  -- a plan has fewer parts of a rank than the file has records
  pub part-below : (rank part : ℕ) → has_part f plan rank part ≡ true → part < records f
  part-below rank part h = different-below (place_of f plan rank) (suc part) (records f) (λ k l. (at k l).within) (λ j k a b e. omega (arith, (at j (omega arith)).of_part, (at k b).of_part, ap (part_at f) e))
    where
      at : (k : ℕ) → k < suc part → IsPart f plan rank k (place_of f plan rank k)
      at k l =
          let e : part ≡ k + (part - k) = omega arith in
          has-part-e f plan rank k (parts-before rank k (part - k) (rw e at h))

-- ---- a route, word by word

module _ (f : List ℕ) (plan rank : ℕ) where
  -- the arcs of a part, none where it is absent
  abbrev pub part_of : ℕ → List ℕ
  part_of part = arcs_at f (place_of f plan rank part)

  route-none : (part : ℕ) → route_from 0 f plan rank part ≡ []
  unfolding route_from
  route-none part = refl

module _ (f : List ℕ) (s : Sound f) (plan : ℕ) (some : plan ≢ 0) (rank : ℕ) where
  -- a part that is absent has no arcs
  pub absent : (part : ℕ) → has_part f plan rank part ≡ false → part_of f plan rank part ≡ []
  absent part h = ap (arcs_at f) (has-no-part f plan rank part h) ∙ arcs-past f s

  absent-after : (part more : ℕ) → has_part f plan rank part ≡ false → has_part f plan rank (part + more) ≡ false
  absent-after part more h = untrue (has_part f plan rank (part + more)) (λ t. clash (has_part f plan rank part) (parts-before f s plan some rank part more t) h)

  absent-past : (part : ℕ) → records f ≤ part → has_part f plan rank part ≡ false
  absent-past part h = untrue (has_part f plan rank part) (λ t. omega (arith, part-below f s plan some rank part t))

  -- a part that another follows is full
  full : (n part : ℕ) → 0 < length (route_from n f plan rank (part + 1)) → length (part_of f plan rank part) ≡ part_arcs
  full n part h =
      ⊎_elim
      (λ e.
      let w = part-before f s plan some rank part e in
      arcs-length f (place_of f plan rank part) (omega (arith, w.1)) ∙ w.1)
      (λ e. absurd (omega (arith, ap length (route-stop f plan n rank (part + 1) e))))
      (cases (has_part f plan rank (part + 1)))

  module _ {A : Type 0} (read : List ℕ → ℕ → A) (six : SixWise read) where
    read-from : (n part m : ℕ) → records f ≤ part + n → read (route_from n f plan rank part) m ≡ read (part_of f plan rank (part + m / part_arcs)) (m % part_arcs)
    read-from zero part m h =
        ap (λ l. read l m) (route-none f plan rank part)
        ∙ six.none m (m % part_arcs)
        ∙ sym (ap (λ l. read l (m % part_arcs)) (absent (part + m / part_arcs) (absent-past (part + m / part_arcs) (omega arith))))
    read-from (suc n) part m h =
        ⊎_elim
        (λ e. ap (λ l. read l m) (route-step f plan n rank part e) ∙ there e (λ k. read-from n (part + 1) k (omega arith)))
        (λ e.
        ap (λ l. read l m) (route-stop f plan (suc n) rank part e)
        ∙ six.none m (m % part_arcs)
        ∙ sym (ap (λ l. read l (m % part_arcs)) (absent (part + m / part_arcs) (absent-after part (m / part_arcs) e))))
        (cases (has_part f plan rank part))
      where
        there : has_part f plan rank part ≡ true
            → ((k : ℕ) → read (route_from n f plan rank (part + 1)) k ≡ read (part_of f plan rank (part + 1 + k / part_arcs)) (k % part_arcs))
            → read (part_of f plan rank part ++ route_from n f plan rank (part + 1)) m ≡ read (part_of f plan rank (part + m / part_arcs)) (m % part_arcs)
        there e below =
            ⊎_elim
            (λ w.
            let a : part + 1 + (m - part_arcs) / part_arcs ≡ part + m / part_arcs = omega arith in
            let b : (m - part_arcs) % part_arcs ≡ m % part_arcs = omega arith in
            six.there (part_of f plan rank part) (route_from n f plan rank (part + 1)) m (arcs-few f (place_of f plan rank part)) (full n part) w
            ∙ below (m - part_arcs)
            ∙ ap₂ (λ p j. read (part_of f plan rank p) j) a b)
            (λ w.
            let a : part ≡ part + m / part_arcs = omega arith in
            let b : m ≡ m % part_arcs = omega arith in
            six.here (part_of f plan rank part) (route_from n f plan rank (part + 1)) m (full n part) w ∙ ap₂ (λ p j. read (part_of f plan rank p) j) a b)
            (order part_arcs m)

    read-route : (m : ℕ) → read (route_of f plan rank) m ≡ read (part_of f plan rank (m / part_arcs)) (m % part_arcs)
    unfolding route_of
    read-route m =
        let e : 0 + m / part_arcs ≡ m / part_arcs = omega arith in
        read-from (records f) 0 m (omega arith) ∙ ap (λ p. read (part_of f plan rank p) (m % part_arcs)) e

  pub route-word : (m d : ℕ) → get_or (route_of f plan rank) m d ≡ get_or (part_of f plan rank (m / part_arcs)) (m % part_arcs) d
  route-word m d = read-route (λ l k. get_or l k d) (words d) m

  pub route-length : (m : ℕ) → ltb m (length (route_of f plan rank)) ≡ ltb (m % part_arcs) (length (part_of f plan rank (m / part_arcs)))
  route-length m = read-route (λ l k. ltb k (length l)) lengths m

-- ---- the routes of a plan

-- the plan has routes of the ranks below n, and no others
pub record Ranked (f : List ℕ) (plan n : ℕ) : Type 0 where
  pub there : (q : ℕ) → q < n → has_part f plan q 0 ≡ true
  pub below : (i : ℕ) → i < records f → plan_at f i ≡ plan → rank_at f i < n

module _ (f : List ℕ) (plan : ℕ) where
  routes-from : (m n rank : ℕ) → n ≤ m → ((q : ℕ) → q < n → has_part f plan (rank + q) 0 ≡ true) → has_part f plan (rank + n) 0 ≡ false
      → routes_from m f plan rank ≡ tab n (λ q. route_of f plan (rank + q))
  routes-from m zero rank h all stop =
      let e : rank + 0 ≡ rank = omega arith in
      routes-stop f plan m rank (rw e at stop)
  routes-from zero (suc n) rank h all stop = absurd (omega arith)
  routes-from (suc m) (suc n) rank h all stop =
      let e : rank + 0 ≡ rank = omega arith in
      let a : rank + 1 + n ≡ rank + suc n = omega arith in
      let b = routes-from m n (rank + 1) (omega arith) (λ q l. let k : rank + 1 + q ≡ rank + suc q = omega arith in rw k (all (suc q) (omega arith))) (rw a stop) in
      let c = tab-cong n (λ q. route_of f plan (rank + 1 + q)) (λ q. route_of f plan (rank + suc q)) (λ q l. ap (route_of f plan) (omega arith)) in
      routes-step f plan m rank (rw e at (all 0 (omega arith))) ∙ ap₂ ◌∷◌ (ap (route_of f plan) (sym e)) (b ∙ c)

  pub plan-is : (n : ℕ) → n ≤ most_routes → ((q : ℕ) → q < n → has_part f plan q 0 ≡ true) → has_part f plan n 0 ≡ false → plan_in f plan ≡ tab n (route_of f plan)
  unfolding plan_in
  plan-is n h all stop =
      let e : 0 + n ≡ n = omega arith in
      routes-from most_routes n 0 h (λ q l. let k : 0 + q ≡ q = omega arith in rw k (all q l)) (rw e stop)
      ∙ tab-cong n (λ q. route_of f plan (0 + q)) (route_of f plan) (λ q l. ap (route_of f plan) (omega arith))

module _ (f : List ℕ) (s : Sound f) (plan : ℕ) (some : plan ≢ 0) where
  rank-low : (q : ℕ) → has_part f plan q 0 ≡ true → q < most_routes
  rank-low q h =
      let w = has-part-e f plan q 0 h in
      omega (arith, rank_most f s (place_of f plan q 0) w.within (λ z. some (sym w.of-plan ∙ z)), w.of-rank)

  ranked-most : (n : ℕ) → Ranked f plan n → n ≤ most_routes
  ranked-most n r = ⊎_elim (λ w. omega arith) (λ w. omega (arith, rank-low (n - 1) (r.there (n - 1) (omega arith)))) (order n 0)

  pub ranked-is : (n : ℕ) → Ranked f plan n → plan_in f plan ≡ tab n (route_of f plan)
  ranked-is n r =
      plan-is f plan n (ranked-most n r) r.there
      (untrue (has_part f plan n 0) (λ t. let w = has-part-e f plan n 0 t in omega (arith, r.below (place_of f plan n 0) w.within w.of-plan, w.of-rank)))

  pub ranked-length : (n : ℕ) → Ranked f plan n → length (plan_in f plan) ≡ n
  ranked-length n r = ap length (ranked-is n r) ∙ length-tab n (route_of f plan)

  -- how many ranks there are
  count : ℕ
  count = first_at (λ q. not (has_part f plan q 0)) most_routes 0

  count-below : (i : ℕ) → i < records f → plan_at f i ≡ plan → count ≤ rank_at f i → ⊥
  unfolding count
  count-below i h e w =
      let low = rank_most f s i h (λ z. some (sym e ∙ z)) in
      clash (has_part f plan count 0) (rank-there f s plan some i count h e w) (not-true (has_part f plan count 0) (first-at (λ q. not (has_part f plan q 0)) most_routes 0 (omega arith)))

  counted : Ranked f plan count
  unfolding count
  counted =
      record {
        there = λ q l. not-false (has_part f plan q 0) (first_below (λ k. not (has_part f plan k 0)) most_routes 0 q (omega arith) l);
        below = λ i h e. ⊎_elim (λ w. absurd (count-below i h e w)) (λ w. w) (order count (rank_at f i));
      }

  pub plan-ranked : Ranked f plan (length (plan_in f plan))
  plan-ranked = subst (Ranked f plan) (sym (ranked-length count counted)) counted

  pub plan-most : length (plan_in f plan) ≤ most_routes
  plan-most = ranked-most (length (plan_in f plan)) plan-ranked
