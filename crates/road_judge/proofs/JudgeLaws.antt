-- A pass that judges the last arc whenever the number of arcs has grown has the pick of all arcs so far: at most one comes with a byte, behind the others, and the
-- node count by which it is judged no longer changes.
use mathlib.Core.Path.{◌≡◌, refl, sym, ap, ap₂, ◌∙◌}
use mathlib.Core.Bool.{Bool, true, false, cond}
use mathlib.Core.List.{List, [], ◌∷◌, ◌++◌}
use mathlib.Core.Logic.{◌⊎◌, inl, inr, ⊎_elim, ◌≢◌}
use Prim.Native.Nat.{ℕ, ◌+◌, ◌≤◌}
use Rattle.lists.specs.Tests.{lex}
use native.Mathlib.Omega.{arith}
use lib.Dec.{ltb, eqb}
use lib.ListN.{length, length-append}
use borrow.Author.Tests.{eq-eqb, ne_eqb, le-ltb}
use Rattle.lists.proofs.Cases.{cases}
use mir.Val.{bool_byte}
use Rattle.net.specs.Net.{Arc}
use Rattle.road_file.specs.File.{Said, Fed, feed_byte}
use Rattle.road_file.specs.Reader.{last_arc, reader_of}
use Rattle.road_file.proofs.GrowLaws.{Kept, One, Begun, feed-grows}
use Rattle.road_order.specs.Lowest.{Pick, no_pick, better, picked, rank_from, rank}
use Rattle.road_judge.specs.declared.faulty.Place.{Place}
use Rattle.road_judge.specs.Judged.{fault_by, pick_at, pick_in, pick_next, stands_by, stands_next}

-- one arc more, behind the others
pub picked_more : (F : Arc → ℕ) (i : ℕ) (p : Pick) (xs : List Arc) (a : Arc) → picked F i p (xs ++ (a ∷ [])) ≡ better F (i + length xs) (picked F i p xs) a
unfolding picked
picked_more F i p [] a = ap (λ n. better F n p a) (omega arith)
picked_more F i p (x ∷ xs) a = picked_more F (i + 1) (better F i p x) xs a ∙ ap (λ n. better F n (picked F (i + 1) (better F i p x) xs) a) (omega arith)

-- of no arcs there is none, by whatever node count
picked-empty : (m n : ℕ) (xs : List Arc) → xs ≡ [] → picked (fault_by m) 0 no_pick xs ≡ picked (fault_by n) 0 no_pick xs
unfolding picked
picked-empty m n xs z = ap (picked (fault_by m) 0 no_pick) z ∙ sym (ap (picked (fault_by n) 0 no_pick) z)

-- a byte more
pub pick_next_lem : (x : Fed) (b : ℕ) (p : Pick) → Begun x.said → p ≡ pick_in x → pick_next p (length x.said.arcs) (reader_of (feed_byte x b)) ≡ pick_in (feed_byte x b)
unfolding pick_next
pick_next_lem x b p begun e = go (feed-grows x b)
  where
    y : Said
    y = (feed_byte x b).said

    go : Kept x.said y ⊎ One x.said y
        → cond (eqb (length y.arcs) (length x.said.arcs)) p (better (fault_by y.nodes) (length x.said.arcs) p (last_arc y.arcs))
        ≡ picked (fault_by y.nodes) 0 no_pick y.arcs
    go (inl k) =
        rw (eq-eqb (length y.arcs) (length x.said.arcs) (ap length k.arcs))
        (e ∙ ⊎_elim (λ w. ap (λ n. picked (fault_by n) 0 no_pick x.said.arcs) (sym w)) (λ w. picked-empty x.said.nodes y.nodes x.said.arcs (begun w)) k.nodes
        ∙ ap (picked (fault_by y.nodes) 0 no_pick) (sym k.arcs))
    go (inr o) =
        let n : length y.arcs ≡ length x.said.arcs + 1 = ap length o.arcs ∙ length-append x.said.arcs (last_arc y.arcs ∷ []) in
        rw (ne_eqb (length y.arcs) (length x.said.arcs) (λ z. omega arith))
        (ap₂ (λ m q. better (fault_by m) (length x.said.arcs) q (last_arc y.arcs)) o.nodes e
        ∙ ap (λ i. better (fault_by x.said.nodes) i (pick_in x) (last_arc y.arcs)) (omega arith)
        ∙ sym (picked_more (fault_by x.said.nodes) 0 no_pick x.said.arcs (last_arc y.arcs))
        ∙ ap₂ (λ m xs. picked (fault_by m) 0 no_pick xs) (sym o.nodes) (sym o.arcs))

-- ---- the rank

pub one-if : (b : Bool) → bool_byte b ≡ cond b 1 0
one-if true = refl
one-if false = refl

-- by the start nodes where they differ, else by the places
pub stands-other : (x y i k : ℕ) → x ≢ y → cond {A = ℕ} (lex x y (ltb i k)) 1 0 ≡ cond (ltb x y) 1 0
unfolding lex
stands-other x y i k ne = ⊎_elim (λ e. rw e) (λ e. rw e (rw (ne_eqb x y ne) refl)) (cases (ltb x y))

pub stands-same : (x y i k : ℕ) → x ≡ y → cond {A = ℕ} (lex x y (ltb i k)) 1 0 ≡ cond (ltb i k) 1 0
unfolding lex
stands-same x y i k e = rw (le-ltb x y (omega arith), eq-eqb x y e)

-- one arc more, behind the others
rank-more : (i : ℕ) (p : Pick) (xs : List Arc) (a : Arc) → rank_from i p (xs ++ (a ∷ [])) ≡ rank_from i p xs + cond {A = ℕ} (lex a.from p.start (ltb (i + length xs) p.at)) 1 0
unfolding rank_from
rank-more i p [] a =
    let here : (n : ℕ) → ℕ = λ n. cond {A = ℕ} (lex a.from p.start (ltb n p.at)) 1 0 in
    let same : here i ≡ here (i + 0) = ap here (omega arith) in
    omega (arith, same)
rank-more i p (x ∷ xs) a =
    let here : (n : ℕ) → ℕ = λ n. cond {A = ℕ} (lex a.from p.start (ltb n p.at)) 1 0 in
    let same : here (i + 1 + length xs) ≡ here (i + length (x ∷ xs)) = ap here (omega arith) in
    omega (arith, same, rank-more (i + 1) p xs a)

one_at_most : (b : Bool) → cond b 1 0 ≤ 1
one_at_most true = omega arith
one_at_most false = omega arith

rank-from-most : (i : ℕ) (p : Pick) (xs : List Arc) → rank_from i p xs ≤ length xs
unfolding rank_from
rank-from-most i p [] = omega arith
rank-from-most i p (x ∷ xs) = omega (arith, one_at_most (lex x.from p.start (ltb i p.at)), rank-from-most (i + 1) p xs)

pub rank-at-most : (p : Pick) (xs : List Arc) → rank p xs ≤ length xs
unfolding rank
rank-at-most p xs = rank-from-most 0 p xs

-- a byte more
pub rank-next : (x : Fed) (b f : ℕ) (j : Place)
    → rank (pick_at f j) x.said.arcs + stands_next j (length x.said.arcs) (reader_of (feed_byte x b)) ≡ rank (pick_at f j) (feed_byte x b).said.arcs
unfolding stands_next stands_by rank
rank-next x b f j = go (feed-grows x b)
  where
    y : Said
    y = (feed_byte x b).said

    go : Kept x.said y ⊎ One x.said y
        → rank_from 0 (pick_at f j) x.said.arcs
        + cond (eqb (length y.arcs) (length x.said.arcs)) 0 (cond {A = ℕ} (lex (last_arc y.arcs).from j.start (ltb (length x.said.arcs) j.at)) 1 0)
        ≡ rank_from 0 (pick_at f j) y.arcs
    go (inl k) =
        rw (eq-eqb (length y.arcs) (length x.said.arcs) (ap length k.arcs)) (omega arith ∙ ap (rank_from 0 (pick_at f j)) (sym k.arcs))
    go (inr o) =
        let n : length y.arcs ≡ length x.said.arcs + 1 = ap length o.arcs ∙ length-append x.said.arcs (last_arc y.arcs ∷ []) in
        rw (ne_eqb (length y.arcs) (length x.said.arcs) (λ z. omega arith))
        (ap (λ i. rank_from 0 (pick_at f j) x.said.arcs + cond {A = ℕ} (lex (last_arc y.arcs).from j.start (ltb i j.at)) 1 0) (omega arith)
        ∙ sym (rank-more 0 (pick_at f j) x.said.arcs (last_arc y.arcs)) ∙ ap (rank_from 0 (pick_at f j)) (sym o.arcs))
