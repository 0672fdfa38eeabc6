-- From marks to dissimilarity: what is marked of a slot's route is what the two routes share (`marked-shared`), the same from either side (`shared-both`), so the lengths
-- and it make the fraction (`apart-is`). What is shared is no longer than either.
use mathlib.Core.Path.{◌≡◌, sym, ◌∙◌}
use mathlib.Core.Logic.{◌⊎◌, inl, inr}
use mathlib.Core.Bool.{Bool, true, false, not}
use mathlib.Core.List.Memᴰ
use mathlib.Core.List.{List, [], ◌∷◌, Memᴰ}
use Prim.Native.Nat.{ℕ, zero, suc, ◌+◌, ◌-◌, ◌*◌, ◌≤◌, ◌<◌}
use native.Mathlib.Omega.{arith}
use native.Mathlib.Nat.{mul-le-mul_right}
use lib.Dec.{T, eqb, T_not}
use lib.ListN.{length, get_or}
use Rattle.lists.specs.Tests.{has, distinct, keep, cons_if}
use Rattle.lists.proofs.TestLaws.{keep-e, eq→eqb}
use Rattle.net.specs.Net.{Arc, arc}
use Rattle.net.specs.Limits.{most_nodes, most_length}
use Rattle.net.specs.Route.{length_of}
use Rattle.net.proofs.Lengths.{length_of-most}
use Rattle.net.proofs.Turns.{length-keep}
use Rattle.table.specs.Table.{records, arcs_of}
use Rattle.table.specs.Fault.{table_fault, good}
use Rattle.table.proofs.NetLaws.{len-most}
use Rattle.labels.specs.Field.{no_number}
use Rattle.search_ask.specs.Earlier.{route_in}
use Rattle.route_list.specs.Listed.{Words}
use Rattle.products.specs.declared.Fraction.{Fraction}
use Rattle.variety.specs.Variety.{shared, apart}
use Rattle.variety.proofs.Shared.{shared-both}
use Rattle.variety.proofs.Fractions.{apart-is}
use Rattle.route_apart.specs.Marks.{marks, Marked, marked_of, apart_by}
use Rattle.route_apart.proofs.MarkLaws.{marked-shared}

keep-short : (arcs : List Arc) (f : ℕ → Bool) (q : List ℕ) → length_of arcs (keep f q) ≤ length_of arcs q
unfolding length_of keep cons_if
keep-short arcs f [] = omega arith
keep-short arcs f (a ∷ q) = go (f a) (keep-short arcs f q)
  where
    go : (b : Bool) → length_of arcs (keep f q) ≤ length_of arcs q → length_of arcs (cons_if b a (keep f q)) ≤ (arc arcs a).len + length_of arcs q
    go true h = omega arith
    go false h = omega arith

-- ---- bounds

pub marked-short : (t room words : List ℕ) → marked_of t room words ≤ length_of (arcs_of t) (route_in words)
unfolding marked_of
marked-short t room words = keep-short (arcs_of t) (marks t room) (route_in words)

pub route-most : (t : List ℕ) (nodes : ℕ) (words : List ℕ) → table_fault nodes t ≡ good → length words ≤ most_nodes → length_of (arcs_of t) (route_in words) ≤ most_nodes * most_length
unfolding route_in
route-most t nodes words fine few =
    omega (
      arith,
      length_of-most (arcs_of t) most_length (len-most nodes t fine) (route_in words),
      mul-le-mul_right most_length (length-keep (λ x. not (eqb x no_number)) words),
      mul-le-mul_right most_length few,
    )

-- ---- the fraction made

pub apart-made : (t room words : List ℕ) (size n k : ℕ) → n ≡ length_of (arcs_of t) (route_in words) → k ≡ marked_of t room words
    → ◌≡◌ {A = Fraction} (record { over = n + size - 2 * k; under = n + size - k }) (apart_by t room words size)
apart-made t room words size n k e f = rw (e, f)

-- ---- the arcs of a slot

mem-at : (x : ℕ) (l : List ℕ) → Memᴰ x l → (j : ℕ) × (j < length l) × (get_or l j 0 ≡ x)
mem-at x [] m = absurd (Memᴰ.not-nil m)
mem-at x (y ∷ l) m = go (λ k. mem-at x l k) (Memᴰ.cases_cons m)
  where
    go : (Memᴰ x l → (j : ℕ) × (j < length l) × (get_or l j 0 ≡ x)) → (x ≡ y) ⊎ Memᴰ x l → (j : ℕ) × (j < suc (length l)) × (get_or (y ∷ l) j 0 ≡ x)
    go again (inl e) = (zero, omega arith, sym e)
    go again (inr k) = let i = again k in (suc i.0, omega (arith, i.1), i.2)

pub members-below : (t words : List ℕ) → Words t words → (a : ℕ) → Memᴰ a (route_in words) → a < records t
unfolding route_in
members-below t words w a m =
    let k = keep-e (λ x. not (eqb x no_number)) a words m in
    let i = mem-at a words k.0 in
    rw i.2 at (w.arcs i.0 i.1 (λ e. T_not (eqb a no_number) k.1 (eq→eqb a no_number (sym i.2 ∙ e))))

-- ---- what is shared

module _ (t p room words : List ℕ) (m : Marked t p room) (below : (a : ℕ) → Memᴰ a (route_in words) → a < records t)
    (once : T (distinct p)) (once-too : T (distinct (route_in words))) where
  marked-is : marked_of t room words ≡ shared (arcs_of t) (route_in words) p
  marked-is = marked-shared t room p words m below ∙ shared-both (arcs_of t) p (route_in words) once once-too

  pub apart_by_lem : apart_by t room words (length_of (arcs_of t) p) ≡ apart (arcs_of t) (route_in words) p
  apart_by_lem = rw marked-is (sym (apart-is (arcs_of t) (route_in words) p))

  pub marked-most : marked_of t room words ≤ length_of (arcs_of t) p
  unfolding shared
  marked-most = omega (arith, marked-is, keep-short (arcs_of t) (λ a. has a (route_in words)) p)
