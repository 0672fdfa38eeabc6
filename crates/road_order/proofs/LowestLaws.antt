-- `picked` is told by what it says (`picked-says`): either no arc beats the pick so far, or the pick is one of the arcs (`Found`), faulty, with no faulty arc that
-- starts below it, and none before it in the file that starts with it. An arc put in front of a file is inserted into the arcs in order: before the first
-- faulty one, which is then one place further (`leads-past`); behind it (`leads-behind`); or as the new first faulty one, after all that start below it
-- (`leads-here`). `rank` counts the same, so by induction on the file from its front the pick is the first faulty arc in order, at its rank (`found-leads`).
use mathlib.Core.Path.{◌≡◌, refl, sym, ap, subst, ◌∙◌}
use mathlib.Core.Bool.{Bool, true, false, cond, not, ◌||◌, ◌&&◌}
use mathlib.Core.List.Memᴰ
use mathlib.Core.List.{List, [], ◌∷◌, Memᴰ}
use mathlib.Core.Logic.{◌⊎◌, inl, inr, ⊎_elim, ◌≢◌}
use Prim.Native.Nat.{ℕ, zero, suc, ◌+◌, ◌≤◌, ◌<◌}
use native.Mathlib.Omega.{arith}
use native.Mathlib.Nat.{zero-add}
use native.Mathlib.Numerals.{one-add}
use lib.Dec.{leb, ltb, eqb}
use lib.ListN.{length, get_or}
use borrow.Author.Tests.{le-leb, lt-leb, lt-ltb, le-ltb, eq-eqb, ne_eqb, eqb-true, eqb-false}
use Rattle.lists.specs.Tests.{lex}
use Rattle.lists.proofs.Cases.{cases, order}
use Rattle.lists.proofs.IndexLaws.{first-is}
use Rattle.net.specs.Net.{Arc, no_arc, arc}
use Rattle.road_order.specs.Ordered.{insert_arc, ordered}
use Rattle.road_order.specs.Lowest.{Pick, no_pick, pick_of, better, picked, rank_from, rank, first_fault}
use Rattle.road_order.proofs.OrderedLaws.{lex-rising, InOrder, in-order-tail, ordered-in-order}

-- ---- the arcs in order are the arcs

length-insert : (a : Arc) (xs : List Arc) → length (insert_arc a xs) ≡ suc (length xs)
unfolding insert_arc
length-insert a [] = refl
length-insert a (x ∷ xs) = go (leb a.from x.from) (length-insert a xs)
  where
    go : (b : Bool) → length (insert_arc a xs) ≡ suc (length xs) → length (cond b (a ∷ x ∷ xs) (x ∷ insert_arc a xs)) ≡ suc (suc (length xs))
    go true e = refl
    go false e = ap suc e

pub length-ordered : (arcs : List Arc) → length (ordered arcs) ≡ length arcs
unfolding ordered
length-ordered [] = refl
length-ordered (a ∷ arcs) = length-insert a (ordered arcs) ∙ ap suc (length-ordered arcs)

insert-e : (y a : Arc) (xs : List Arc) → Memᴰ y (insert_arc a xs) → (y ≡ a) ⊎ Memᴰ y xs
unfolding insert_arc
insert-e y a [] m = Memᴰ.cases_cons m
insert-e y a (x ∷ xs) m = go (leb a.from x.from) (λ k. insert-e y a xs k) m
  where
    In : List Arc → Type 0
    In l = Memᴰ y l

    go : (b : Bool) → (In (insert_arc a xs) → (y ≡ a) ⊎ In xs) → In (cond b (a ∷ x ∷ xs) (x ∷ insert_arc a xs)) → (y ≡ a) ⊎ In (x ∷ xs)
    go true deep k = Memᴰ.cases_cons k
    go false deep k = ⊎_elim (λ e. inr (Memᴰ.head e)) (λ l. ⊎_elim inl (λ n. inr (Memᴰ.tail n)) (deep l)) (Memᴰ.cases_cons k)

insert-i : (y a : Arc) (xs : List Arc) → (y ≡ a) ⊎ Memᴰ y xs → Memᴰ y (insert_arc a xs)
unfolding insert_arc
insert-i y a [] (inl e) = Memᴰ.head e
insert-i y a [] (inr m) = absurd (Memᴰ.not-nil m)
insert-i y a (x ∷ xs) m = go (leb a.from x.from) (λ k. insert-i y a xs k) m
  where
    In : List Arc → Type 0
    In l = Memᴰ y l

    go : (b : Bool) → ((y ≡ a) ⊎ In xs → In (insert_arc a xs)) → (y ≡ a) ⊎ In (x ∷ xs) → In (cond b (a ∷ x ∷ xs) (x ∷ insert_arc a xs))
    go true deep (inl e) = Memᴰ.head e
    go true deep (inr k) = Memᴰ.tail k
    go false deep (inl e) = Memᴰ.tail (deep (inl e))
    go false deep (inr k) = ⊎_elim (λ e. Memᴰ.head e) (λ l. Memᴰ.tail (deep (inr l))) (Memᴰ.cases_cons k)

pub ordered-e : (y : Arc) (arcs : List Arc) → Memᴰ y (ordered arcs) → Memᴰ y arcs
unfolding ordered
ordered-e y [] m = m
ordered-e y (a ∷ arcs) m = ⊎_elim (λ e. Memᴰ.head e) (λ k. Memᴰ.tail (ordered-e y arcs k)) (insert-e y a (ordered arcs) m)

pub ordered-i : (y : Arc) (arcs : List Arc) → Memᴰ y arcs → Memᴰ y (ordered arcs)
unfolding ordered
ordered-i y [] m = m
ordered-i y (a ∷ arcs) m = insert-i y a (ordered arcs) (⊎_elim inl (λ k. inr (ordered-i y arcs k)) (Memᴰ.cases_cons m))

-- the entry at an index is a member
pub arc-member : (xs : List Arc) (i : ℕ) → i < length xs → Memᴰ (arc xs i) xs
arc-member [] i h = absurd (omega arith)
arc-member (x ∷ xs) zero h = Memᴰ.head refl
arc-member (x ∷ xs) (suc i) h = Memᴰ.tail (arc-member xs i (omega arith))

-- ---- how many start below s

unfoldable below : ℕ → List Arc → ℕ
below s [] = 0
below s (x ∷ xs) = cond (ltb x.from s) 1 0 + below s xs

below-insert : (s : ℕ) (a : Arc) (xs : List Arc) → below s (insert_arc a xs) ≡ below s (a ∷ xs)
unfolding insert_arc below
below-insert s a [] = refl
below-insert s a (x ∷ xs) = go (leb a.from x.from) (below-insert s a xs)
  where
    go : (b : Bool) → below s (insert_arc a xs) ≡ below s (a ∷ xs) → below s (cond b (a ∷ x ∷ xs) (x ∷ insert_arc a xs)) ≡ below s (a ∷ x ∷ xs)
    go true e = refl
    go false e = omega arith

below-ordered : (s : ℕ) (arcs : List Arc) → below s (ordered arcs) ≡ below s arcs
unfolding ordered below
below-ordered s [] = refl
below-ordered s (a ∷ arcs) = omega (arith, below-insert s a (ordered arcs), below-ordered s arcs)

below_none : (s : ℕ) (x : Arc) (xs : List Arc) → InOrder (x ∷ xs) → s ≤ x.from → below s (x ∷ xs) ≡ 0
unfolding below InOrder
below_none s x [] h k = rw (le-ltb x.from s k)
below_none s x (y ∷ ys) h k = rw (le-ltb x.from s k, zero-add (below s (y ∷ ys))) (below_none s y ys h.1 (omega (arith, h.0)))

below_self : (a : Arc) (xs : List Arc) → below a.from (a ∷ xs) ≡ below a.from xs
unfolding below
below_self a xs = rw (le-ltb a.from a.from (omega arith)) (zero-add (below a.from xs))

-- ---- the rank of a pick: among the arcs behind it in the file, and with one arc more in front

lex-falling : (x y i j : ℕ) → j ≤ i → lex x y (ltb i j) ≡ ltb x y
unfolding lex
lex-falling x y i j h = rw (le-ltb i j h) (go (ltb x y) (eqb x y))
  where
    go : (b c : Bool) → b || (c && false) ≡ b
    go true c = refl
    go false true = refl
    go false false = refl

rank-behind : (i : ℕ) (q : Pick) (arcs : List Arc) → q.at ≤ i → rank_from i q arcs ≡ below q.start arcs
unfolding rank_from below
rank-behind i q [] h = refl
rank-behind i q (a ∷ arcs) h = rw (lex-falling a.from q.start i q.at h, rank-behind (i + 1) q arcs (omega arith))

rank-here : (i : ℕ) (q : Pick) (a : Arc) (arcs : List Arc) → q.at ≡ i → a.from ≡ q.start → rank_from i q (a ∷ arcs) ≡ below a.from (ordered arcs)
rank-here i q a arcs h e = rank-behind i q (a ∷ arcs) (omega arith) ∙ rw (← e) (below_self a arcs ∙ sym (below-ordered a.from arcs))

rank-past : (i : ℕ) (q : Pick) (a : Arc) (arcs : List Arc) → i < q.at → a.from ≤ q.start → rank_from i q (a ∷ arcs) ≡ suc (rank_from (i + 1) q arcs)
unfolding rank_from
rank-past i q a arcs h w = rw (lex-rising a.from q.start i q.at h, le-leb a.from q.start w) (one-add (rank_from (i + 1) q arcs))

rank_same : (i : ℕ) (q : Pick) (a : Arc) (arcs : List Arc) → i < q.at → q.start < a.from → rank_from i q (a ∷ arcs) ≡ rank_from (i + 1) q arcs
unfolding rank_from
rank_same i q a arcs h w = rw (lex-rising a.from q.start i q.at h, lt-leb a.from q.start w) (zero-add (rank_from (i + 1) q arcs))

-- ---- the first faulty arc of a list in order

-- Arc r has fault f and start node s, and those before it have no fault.
unfoldable Leads : (Arc → ℕ) → ℕ → ℕ → List Arc → ℕ → Type 0
Leads F f s [] r = ⊥
Leads F f s (x ∷ xs) zero = (F x ≡ f) × (x.from ≡ s)
Leads F f s (x ∷ xs) (suc r) = (F x ≡ 0) × Leads F f s xs r

module _ (F : Arc → ℕ) where
  leads-here : (a : Arc) (xs : List Arc) → InOrder xs → ((x : Arc) → Memᴰ x xs → x.from < a.from → F x ≡ 0)
      → Leads F (F a) a.from (insert_arc a xs) (below a.from xs)
  unfolding Leads insert_arc below
  leads-here a [] h clear = (refl, refl)
  leads-here a (x ∷ xs) h clear =
      ⊎_elim
      (λ (w : a.from ≤ x.from). rw (le-leb a.from x.from w, below_none a.from x xs h w) (refl, refl))
      (λ (w : x.from < a.from). rw (lt-leb a.from x.from w, lt-ltb x.from a.from w, one-add (below a.from xs))
      (clear x (Memᴰ.head refl) w, leads-here a xs (in-order-tail x xs h) (λ y m. clear y (Memᴰ.tail m))))
      (order a.from x.from)

  module _ (f s : ℕ) where
    leads-past : (a : Arc) (xs : List Arc) (r : ℕ) → F a ≡ 0 → a.from ≤ s → Leads F f s xs r → Leads F f s (insert_arc a xs) (suc r)
    unfolding Leads insert_arc
    leads-past a [] r z h k = absurd k
    leads-past a (x ∷ xs) zero z h k = rw (le-leb a.from x.from (omega (arith, k.1))) (z, k)
    leads-past a (x ∷ xs) (suc r) z h k = go (leb a.from x.from) (leads-past a xs r z h k.1)
      where
        go : (b : Bool) → Leads F f s (insert_arc a xs) (suc r) → Leads F f s (cond b (a ∷ x ∷ xs) (x ∷ insert_arc a xs)) (suc (suc r))
        go true m = (z, k)
        go false m = (k.0, m)

    leads-start : (x : Arc) (xs : List Arc) (r : ℕ) → InOrder (x ∷ xs) → Leads F f s (x ∷ xs) r → x.from ≤ s
    unfolding Leads InOrder
    leads-start x xs zero h k = omega (arith, k.1)
    leads-start x [] (suc r) h k = absurd k.1
    leads-start x (y ∷ ys) (suc r) h k = omega (arith, h.0, leads-start y ys r h.1 k.1)

    leads-behind : (a : Arc) (xs : List Arc) (r : ℕ) → InOrder xs → s < a.from → Leads F f s xs r → Leads F f s (insert_arc a xs) r
    unfolding Leads insert_arc
    leads-behind a [] r o h k = absurd k
    leads-behind a (x ∷ xs) zero o h k = rw (lt-leb a.from x.from (omega (arith, k.1))) k
    leads-behind a (x ∷ xs) (suc r) o h k =
        rw (lt-leb a.from x.from (omega (arith, leads-start x xs (suc r) o k))) (k.0, leads-behind a xs r (in-order-tail x xs o) h k.1)

    leads-within : (xs : List Arc) (r : ℕ) → Leads F f s xs r → r < length xs
    unfolding Leads
    leads-within [] r k = absurd k
    leads-within (x ∷ xs) zero k = omega arith
    leads-within (x ∷ xs) (suc r) k = omega (arith, leads-within xs r k.1)

    leads-fault : (xs : List Arc) (r : ℕ) → Leads F f s xs r → F (arc xs r) ≡ f
    unfolding Leads
    leads-fault [] r k = absurd k
    leads-fault (x ∷ xs) zero k = k.0
    leads-fault (x ∷ xs) (suc r) k = leads-fault xs r k.1

    leads-clear : (xs : List Arc) (r j : ℕ) → Leads F f s xs r → j < r → F (arc xs j) ≡ 0
    unfolding Leads
    leads-clear [] r j k h = absurd k
    leads-clear (x ∷ xs) zero j k h = absurd (omega arith)
    leads-clear (x ∷ xs) (suc r) zero k h = k.0
    leads-clear (x ∷ xs) (suc r) (suc j) k h = leads-clear xs r j k.1 (omega arith)

    leads-first : (xs : List Arc) (r : ℕ) → f ≢ 0 → Leads F f s xs r → first_fault F xs ≡ r
    unfolding first_fault
    leads-first xs r n k =
        first-is (λ i. not (eqb (F (arc xs i)) 0)) (length xs) 0 r (omega arith) (omega (arith, leads-within xs r k))
        (λ j a b. ap not (eq-eqb (F (arc xs j)) 0 (leads-clear xs r j k b)))
        (λ b. ap not (ne_eqb (F (arc xs r)) 0 (λ e. n (sym (leads-fault xs r k) ∙ e))))

  -- no arc is faulty
  clear_first : (xs : List Arc) → ((x : Arc) → Memᴰ x xs → F x ≡ 0) → first_fault F xs ≡ length xs
  unfolding first_fault
  clear_first xs clear =
      first-is (λ i. not (eqb (F (arc xs i)) 0)) (length xs) 0 (length xs) (omega arith) (omega arith)
      (λ j a b. ap not (eq-eqb (F (arc xs j)) 0 (clear (arc xs j) (arc-member xs j b))))
      (λ b. absurd (omega arith))

-- ---- what the pick says

-- q is arc a, at place i, with these arcs behind it
record Here (F : Arc → ℕ) (i : ℕ) (q : Pick) (a : Arc) (arcs : List Arc) : Type 0 where
  place_is : q.at ≡ i
  fault-is : F a ≡ q.fault
  start_is : a.from ≡ q.start
  faulty : F a ≢ 0
  clear : (x : Arc) → Memᴰ x arcs → x.from < a.from → F x ≡ 0

-- q is one of these arcs, the first of them at place i
unfoldable Found : (Arc → ℕ) → ℕ → Pick → List Arc → Type 0
Found F i q [] = ⊥
Found F i q (a ∷ arcs) = Here F i q a arcs ⊎ ((i < q.at) × ((F a ≡ 0) ⊎ (q.start < a.from)) × Found F (i + 1) q arcs)

-- the pick p stays when it meets arc x
abbrev pub Stays : (Arc → ℕ) → Pick → Arc → Type 0
Stays F p x = (F x ≡ 0) ⊎ ((p.fault ≢ 0) × (p.start ≤ x.from))

-- it gives way to it
abbrev pub Yields : (Arc → ℕ) → Pick → Arc → Type 0
Yields F p x = (F x ≢ 0) × ((p.fault ≡ 0) ⊎ (x.from < p.start))

-- q is the pick after these arcs where p was it before: p stays, or q is one of them, and before p
abbrev Says : (Arc → ℕ) → ℕ → Pick → List Arc → Pick → Type 0
Says F i p arcs q =
    ((q ≡ p) × ((x : Arc) → Memᴰ x arcs → Stays F p x)) ⊎ (Found F i q arcs × ((p.fault ≡ 0) ⊎ (q.start < p.start)))

module _ (F : Arc → ℕ) where
  found-place : (i : ℕ) (q : Pick) (arcs : List Arc) → Found F i q arcs → i ≤ q.at
  unfolding Found
  found-place i q [] k = absurd k
  found-place i q (a ∷ arcs) (inl here) = omega (arith, here.place_is)
  found-place i q (a ∷ arcs) (inr k) = omega (arith, k.0)

  found-leads : (i : ℕ) (q : Pick) (arcs : List Arc) → Found F i q arcs → Leads F q.fault q.start (ordered arcs) (rank_from i q arcs)
  unfolding Found ordered
  found-leads i q [] k = absurd k
  found-leads i q (a ∷ arcs) (inl here) =
      rw (rank-here i q a arcs here.place_is here.start_is, ← here.fault-is, ← here.start_is)
      (leads-here F a (ordered arcs) (ordered-in-order arcs) (λ x m. here.clear x (ordered-e x arcs m)))
  found-leads i q (a ∷ arcs) (inr k) = go (found-leads (i + 1) q arcs k.2) (order a.from q.start) k.1
    where
      r : ℕ
      r = rank_from (i + 1) q arcs

      Goal : Type 0
      Goal = Leads F q.fault q.start (insert_arc a (ordered arcs)) (rank_from i q (a ∷ arcs))

      go : Leads F q.fault q.start (ordered arcs) r → (a.from ≤ q.start) ⊎ (q.start < a.from) → (F a ≡ 0) ⊎ (q.start < a.from) → Goal
      go l (inl w) (inl z) = rw (rank-past i q a arcs k.0 w) (leads-past F q.fault q.start a (ordered arcs) r z w l)
      go l (inl w) (inr v) = absurd (omega arith)
      go l (inr w) v = rw (rank_same i q a arcs k.0 w) (leads-behind F q.fault q.start a (ordered arcs) r (ordered-in-order arcs) w l)

  found-faulty : (i : ℕ) (q : Pick) (arcs : List Arc) → Found F i q arcs → q.fault ≢ 0
  unfolding Found
  found-faulty i q [] k = absurd k
  found-faulty i q (a ∷ arcs) (inl here) = λ e. here.faulty (here.fault-is ∙ e)
  found-faulty i q (a ∷ arcs) (inr k) = found-faulty (i + 1) q arcs k.2

  stays-or-not : (p : Pick) (a : Arc) → Stays F p a ⊎ Yields F p a
  stays-or-not p a = go (cases (eqb (F a) 0)) (cases (eqb p.fault 0)) (order p.start a.from)
    where
      go : (eqb (F a) 0 ≡ true) ⊎ (eqb (F a) 0 ≡ false) → (eqb p.fault 0 ≡ true) ⊎ (eqb p.fault 0 ≡ false) → (p.start ≤ a.from) ⊎ (a.from < p.start)
          → Stays F p a ⊎ Yields F p a
      go (inl z) d w = inl (inl (eqb-true (F a) 0 z))
      go (inr n) (inl z) w = inr (eqb-false (F a) 0 n, inl (eqb-true p.fault 0 z))
      go (inr n) (inr m) (inl w) = inl (inr (eqb-false p.fault 0 m, w))
      go (inr n) (inr m) (inr w) = inr (eqb-false (F a) 0 n, inr w)

  pub better-same : (i : ℕ) (p : Pick) (a : Arc) → Stays F p a → better F i p a ≡ p
  unfolding better
  better-same i p a (inl z) = rw (eq-eqb (F a) 0 z)
  better-same i p a (inr h) = rw (ne_eqb p.fault 0 h.0, le-ltb a.from p.start h.1) (go (eqb (F a) 0))
    where
      go : (b : Bool) → cond b p p ≡ p
      go true = refl
      go false = refl

  pub better-new : (i : ℕ) (p : Pick) (a : Arc) → Yields F p a → better F i p a ≡ pick_of F i a
  unfolding better
  better-new i p a h = rw (ne_eqb (F a) 0 h.0) (go h.1)
    where
      go : (p.fault ≡ 0) ⊎ (a.from < p.start)
          → cond (eqb p.fault 0 || ltb a.from p.start) (pick_of F i a) p ≡ pick_of F i a
      go (inl z) = rw (eq-eqb p.fault 0 z)
      go (inr w) = rw (lt-ltb a.from p.start w) (either_way (eqb p.fault 0))
        where
          either_way : (b : Bool) → cond (b || true) (pick_of F i a) p ≡ pick_of F i a
          either_way true = refl
          either_way false = refl

  -- arc a leaves the pick as it is
  says_same : (i : ℕ) (p : Pick) (a : Arc) (arcs : List Arc) (q : Pick) → Stays F p a → Says F (i + 1) p arcs q → Says F i p (a ∷ arcs) q
  unfolding Found
  says_same i p a arcs q h (inl k) = inl (k.0, λ x m. ⊎_elim (λ e. rw e h) (λ l. k.1 x l) (Memᴰ.cases_cons m))
  says_same i p a arcs q h (inr k) = inr (inr (omega (arith, found-place (i + 1) q arcs k.0), not_first h k.1, k.0), k.1)
    where
      not_first : Stays F p a → (p.fault ≡ 0) ⊎ (q.start < p.start) → (F a ≡ 0) ⊎ (q.start < a.from)
      not_first (inl z) w = inl z
      not_first (inr v) (inl w) = absurd (v.0 w)
      not_first (inr v) (inr w) = inr (omega (arith, v.1))

  -- arc a becomes the pick
  says-new : (i : ℕ) (p : Pick) (a : Arc) (arcs : List Arc) (q : Pick) → Yields F p a
      → Says F (i + 1) (pick_of F i a) arcs q → Says F i p (a ∷ arcs) q
  unfolding Found
  says-new i p a arcs q h (inl k) = inr (inl here, rw k.0 h.1)
    where
      here : Here F i q a arcs
      here = record {
        place_is = ap (λ r. r.at) k.0;
        fault-is = sym (ap (λ r. r.fault) k.0);
        start_is = sym (ap (λ r. r.start) k.0);
        faulty = h.0;
        clear = λ x m w. ⊎_elim (λ z. z) (λ v. absurd (omega (arith, v.1))) (k.1 x m);
      }
  says-new i p a arcs q h (inr k) =
      let w : q.start < a.from = ⊎_elim (λ z. absurd (h.0 z)) (λ v. v) k.1 in
      inr (inr (omega (arith, found-place (i + 1) q arcs k.0), inr w, k.0), ⊎_elim inl (λ v. inr (omega arith)) h.1)

  picked-says : (i : ℕ) (p : Pick) (arcs : List Arc) → Says F i p arcs (picked F i p arcs)
  unfolding picked
  picked-says i p [] = inl (refl, λ x m. absurd (Memᴰ.not-nil m))
  picked-says i p (a ∷ arcs) = go (picked-says (i + 1) (better F i p a) arcs) (stays-or-not p a)
    where
      q : Pick
      q = picked F (i + 1) (better F i p a) arcs

      go : Says F (i + 1) (better F i p a) arcs q → Stays F p a ⊎ Yields F p a → Says F i p (a ∷ arcs) q
      go k (inl h) = says_same i p a arcs q h (subst (λ n. Says F (i + 1) n arcs q) (better-same i p a h) k)
      go k (inr h) = says-new i p a arcs q h (subst (λ n. Says F (i + 1) n arcs q) (better-new i p a h) k)

-- ---- the lowest fault

module _ (F : Arc → ℕ) (arcs : List Arc) where
  picked-clear : (picked F 0 no_pick arcs).fault ≡ 0 → (x : Arc) → Memᴰ x arcs → F x ≡ 0
  picked-clear e x m =
      ⊎_elim
      (λ k. ⊎_elim (λ z. z) (λ v. absurd (v.0 refl)) (k.1 x m))
      (λ k. absurd (found-faulty F 0 (picked F 0 no_pick arcs) arcs k.0 e))
      (picked-says F 0 no_pick arcs)

  picked-found : (picked F 0 no_pick arcs).fault ≢ 0 → Found F 0 (picked F 0 no_pick arcs) arcs
  picked-found n = ⊎_elim (λ k. absurd (n (ap (λ r. r.fault) k.0))) (λ k. k.0) (picked-says F 0 no_pick arcs)

  -- No arc of the file is faulty, and none of the arcs in order.
  pub picked_none : (picked F 0 no_pick arcs).fault ≡ 0 → (i : ℕ) → i < length arcs → F (arc arcs i) ≡ 0
  picked_none e i h = picked-clear e (arc arcs i) (arc-member arcs i h)

  pub picked-none-ordered : (picked F 0 no_pick arcs).fault ≡ 0 → (i : ℕ) → i < length arcs → F (arc (ordered arcs) i) ≡ 0
  picked-none-ordered e i h =
      picked-clear e (arc (ordered arcs) i) (ordered-e (arc (ordered arcs) i) arcs (arc-member (ordered arcs) i (omega (arith, length-ordered arcs))))

  pub picked-none-first : (picked F 0 no_pick arcs).fault ≡ 0 → first_fault F (ordered arcs) ≡ length arcs
  picked-none-first e = clear_first F (ordered arcs) (λ x m. picked-clear e x (ordered-e x arcs m)) ∙ length-ordered arcs

  -- The pick is the lowest faulty one of the arcs in order, and its rank is its number there.
  pub picked-lowest : ((picked F 0 no_pick arcs).fault ≡ 0 → ⊥)
      → (first_fault F (ordered arcs) ≡ rank (picked F 0 no_pick arcs) arcs)
      × (F (get_or (ordered arcs) (rank (picked F 0 no_pick arcs) arcs) no_arc) ≡ (picked F 0 no_pick arcs).fault)
      × (rank (picked F 0 no_pick arcs) arcs < length arcs)
  unfolding rank
  picked-lowest n =
      let p = picked F 0 no_pick arcs in
      let r = rank_from 0 p arcs in
      let leads = found-leads F 0 p arcs (picked-found n) in (
        leads-first F p.fault p.start (ordered arcs) r n leads,
        leads-fault F p.fault p.start (ordered arcs) r leads,
        omega (arith, leads-within F p.fault p.start (ordered arcs) r leads, length-ordered arcs),
      )
