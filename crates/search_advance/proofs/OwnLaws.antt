-- A cursor's tests, from bytes to the theory: a chain's own candidates come in the order of their last arcs, the arcs that leave its end are those of its node's
-- run that are open, and one look at an arc makes the cursor right one arc further.
use mathlib.Core.Path.{◌≡◌, refl, sym, subst, ap, ◌∙◌}
use mathlib.Core.Logic.{⊎_elim, ◌≢◌}
use mathlib.Core.Bool.{Bool, true, false, ◌&&◌}
use mathlib.Core.List.{List, [], ◌∷◌, ◌++◌}
use mathlib.Core.Option.{Option, none, some}
use Prim.Native.Nat.{ℕ, ◌+◌, ◌^◌, ◌≤◌, ◌<◌}
use native.Mathlib.Omega.{arith}
use native.Mathlib.Decide.{ℕ_discrete}
use lib.Dec.{T, ltb, eqb}
use lib.ListN.{length}
use borrow.Author.Tests.{lt-ltb, le-ltb, eq-eqb, ne_eqb}
use Rattle.lists.specs.Tests.{lex}
use Rattle.lists.proofs.TestLaws.{and_i, and_l, and_r}
use Rattle.lists.proofs.Cases.{order}
use Rattle.net.specs.Net.{Arc, arc}
use Rattle.net.specs.Route.{end_of, leaves, precedes, length_of}
use Rattle.net.specs.Round.{Query}
use Rattle.net.specs.Search.{passes}
use Rattle.net.proofs.Order.{before-i, numbers-front, length_of-append}
use Rattle.net.proofs.Chains.{leaves-e}
use Rattle.net.proofs.Step.{Fails, fails-i}
use Rattle.table.specs.Table.{records, from_at, len_at, arcs_of, is_open_at, net_of}
use Rattle.table.specs.Fault.{table_fault, good}
use Rattle.table.specs.Run.{run_start}
use Rattle.table.proofs.FaultLaws.{good-size}
use Rattle.table.proofs.NetLaws.{arc-is, arcs-length}
use Rattle.table.proofs.RunLaws.{run-has, leaves_run}
use Rattle.labels.specs.Field.{no_number}
use Rattle.search_ask.specs.declared.Ask.{Ask}
use Rattle.search_ask.specs.Ask.{net_for, query_for}
use Rattle.search_batch.proofs.GatherLaws.{open-run}
use Rattle.search_ahead.specs.Cursor.{Cursor}
use Rattle.search_ahead.proofs.AdvanceLaws.{own-precedes, cursor-start, cursor-skip, cursor-later, cursor-new}
use Rattle.search_advance.specs.Own.{arc_in, own_last, arc_first, after_arc, before_arc, wanted_arc}

-- ---- an arc, or none

pub arc-none : (x : ℕ) → x ≡ no_number → arc_in x ≡ none
unfolding arc_in
arc-none x e = rw (eq-eqb x no_number e)

pub arc-some : (x : ℕ) → x ≢ no_number → arc_in x ≡ some x
unfolding arc_in
arc-some x ne = rw (ne_eqb x no_number ne)

pub arc-given : (x a : ℕ) → arc_in x ≡ some a → (x ≢ no_number) × (x ≡ a)
arc-given x a e = go (ℕ_discrete x no_number)
  where
    go : Dec (x ≡ no_number) → (x ≢ no_number) × (x ≡ a)
    go (yes z) = let k : none ≡ some a = sym (arc-none x z) ∙ e in let y : ◌≡◌ {A = ℕ} 0 1 = cc in absurd (omega arith)
    go (no z) = let k : some x ≡ some a = sym (arc-some x z) ∙ e in (z, cc)

pub own-none : (p : List ℕ) (from : ℕ) → from ≡ no_number → own_last p from ≡ p
unfolding own_last
own-none p from e = rw (eq-eqb from no_number e)

pub own-some : (p : List ℕ) (from : ℕ) → from ≢ no_number → own_last p from ≡ p ++ (from ∷ [])
unfolding own_last
own-some p from ne = rw (ne_eqb from no_number ne)

-- ---- arcs compared

module _ (t : List ℕ) (a c l m : ℕ) (ha : a < records t) (hc : c < records t) (el : l ≡ len_at t a) (em : m ≡ len_at t c) where
  la : l ≡ (arc (arcs_of t) a).len
  la = el ∙ sym (ap (λ r. r.len) (arc-is t a ha))

  lc : m ≡ (arc (arcs_of t) c).len
  lc = em ∙ sym (ap (λ r. r.len) (arc-is t c hc))

  arc-less : l < m → arc_first (arcs_of t) a c ≡ true
  unfolding arc_first lex
  arc-less h = rw (← la, ← lc, lt-ltb l m h)

  arc-more : m < l → arc_first (arcs_of t) a c ≡ false
  unfolding arc_first lex
  arc-more h = rw (← la, ← lc, le-ltb l m (omega arith), ne_eqb l m (λ e. omega arith))

  pub arc-apart : l ≢ m → ltb l m ≡ arc_first (arcs_of t) a c
  arc-apart ne = ⊎_elim (λ h. le-ltb l m h ∙ sym (arc-more (omega arith))) (λ h. lt-ltb l m h ∙ sym (arc-less h)) (order m l)

  pub arc-even : l ≡ m → ltb a c ≡ arc_first (arcs_of t) a c
  unfolding arc_first lex
  arc-even e = rw (← la, ← lc, le-ltb l m (omega arith), eq-eqb l m e)

module _ (arcs : List Arc) where
  pub after_none : (from a : ℕ) → from ≡ no_number → after_arc arcs from a ≡ true
  unfolding after_arc
  after_none from a e = rw (eq-eqb from no_number e)

  pub after-some : (from a : ℕ) → from ≢ no_number → after_arc arcs from a ≡ arc_first arcs from a
  unfolding after_arc
  after-some from a e = rw (ne_eqb from no_number e)

  pub before-none : (a best : ℕ) → best ≡ no_number → before_arc arcs a best ≡ true
  unfolding before_arc
  before-none a best e = rw (eq-eqb best no_number e)

  pub before-some : (a best : ℕ) → best ≢ no_number → before_arc arcs a best ≡ arc_first arcs a best
  unfolding before_arc
  before-some a best e = rw (ne_eqb best no_number e)

  module _ (from best a : ℕ) where
    pub wanted-both : after_arc arcs from a ≡ true → before_arc arcs a best ≡ true → wanted_arc arcs from best a ≡ true
    unfolding wanted_arc
    wanted-both e k = rw (e, k)

    pub wanted-not-after : after_arc arcs from a ≡ false → wanted_arc arcs from best a ≡ false
    unfolding wanted_arc
    wanted-not-after e = rw e

    pub wanted-not-before : after_arc arcs from a ≡ true → before_arc arcs a best ≡ false → wanted_arc arcs from best a ≡ false
    unfolding wanted_arc
    wanted-not-before e k = rw (e, k)

  -- the chain's own candidates
  module _ (p : List ℕ) where
    pub own_first : (x y : ℕ) → precedes arcs (p ++ (x ∷ [])) (p ++ (y ∷ [])) ≡ arc_first arcs x y
    unfolding arc_first
    own_first x y = own-precedes arcs p x y

    pub own-after : (from a : ℕ) → precedes arcs (own_last p from) (p ++ (a ∷ [])) ≡ after_arc arcs from a
    own-after from a = go (ℕ_discrete from no_number)
      where
        truth : (x : Bool) → T x → x ≡ true
        truth true h = refl
        truth false h = absurd h

        go : Dec (from ≡ no_number) → precedes arcs (own_last p from) (p ++ (a ∷ [])) ≡ after_arc arcs from a
        go (yes e) =
            rw (own-none p from e, after_none from a e)
            (truth _ (before-i (length_of arcs) p (p ++ (a ∷ [])) (omega (arith, length_of-append arcs p (a ∷ []))) (numbers-front p a [])))
        go (no e) = rw (own-some p from e, after-some from a e) (own_first from a)

    own-before : (a best : ℕ) → best ≢ no_number → precedes arcs (p ++ (a ∷ [])) (p ++ (best ∷ [])) ≡ before_arc arcs a best
    own-before a best e = own_first a best ∙ sym (before-some a best e)

-- ---- which roads are closed does not show in the tests

pub passes-open : (ask : Ask) (t c d l : List ℕ) (earlier taken : List (List ℕ)) (p : List ℕ) → passes (query_for ask t c l) earlier taken p ≡ passes (query_for ask t d l) earlier taken p
unfolding passes
passes-open ask t c d l earlier taken p = refl

-- ---- one arc looked at

module _ (q : Query) (earlier taken : List (List ℕ)) (p : List ℕ) (from best a : ℕ) (out : T (leaves q.net (end_of q.net.arcs q.s p) a))
    (c : Cursor q earlier (length_of q.net.arcs) taken (own_last p from) p a (arc_in best)) where
  look-before : after_arc q.net.arcs from a ≡ false → Cursor q earlier (length_of q.net.arcs) taken (own_last p from) p (a + 1) (arc_in best)
  look-before e =
      cursor-skip q earlier (length_of q.net.arcs) taken (own_last p from) p a (a + 1) (arc_in best) c
      (λ b u v w. let z : a ≡ b = omega arith in
      absurd (subst T (own-after q.net.arcs p from a ∙ e) (subst (λ y. T (precedes q.net.arcs (own_last p from) (p ++ (y ∷ [])))) (sym z) w.after)))

  look-later : before_arc q.net.arcs a best ≡ false → Cursor q earlier (length_of q.net.arcs) taken (own_last p from) p (a + 1) (arc_in best)
  look-later e = go (ℕ_discrete best no_number)
    where
      go : Dec (best ≡ no_number) → Cursor q earlier (length_of q.net.arcs) taken (own_last p from) p (a + 1) (arc_in best)
      go (yes z) = let k : true ≡ false = sym (before-none q.net.arcs a best z) ∙ e in absurd (subst T k tt)
      go (no z) =
          subst (Cursor q earlier (length_of q.net.arcs) taken (own_last p from) p (a + 1)) (sym (arc-some best z))
          (cursor-later q earlier (length_of q.net.arcs) taken (own_last p from) p best a (subst (Cursor q earlier (length_of q.net.arcs) taken (own_last p from) p a) (arc-some best z) c)
          (λ h. subst T (own-before q.net.arcs p a best z ∙ e) h))

  pub look-drop : passes q earlier taken (p ++ (a ∷ [])) ≡ false → Cursor q earlier (length_of q.net.arcs) taken (own_last p from) p (a + 1) (arc_in best)
  look-drop e =
      cursor-skip q earlier (length_of q.net.arcs) taken (own_last p from) p a (a + 1) (arc_in best) c
      (λ b u v w. let z : a ≡ b = omega arith in subst (λ y. Fails q earlier taken (p ++ (y ∷ []))) z (fails-i q earlier taken (p ++ (a ∷ [])) e))

  pub look-past : wanted_arc q.net.arcs from best a ≡ false → Cursor q earlier (length_of q.net.arcs) taken (own_last p from) p (a + 1) (arc_in best)
  unfolding wanted_arc
  look-past e = go (after_arc q.net.arcs from a) (before_arc q.net.arcs a best) refl refl e
    where
      go : (x y : Bool) → after_arc q.net.arcs from a ≡ x → before_arc q.net.arcs a best ≡ y → (x && y) ≡ false
          → Cursor q earlier (length_of q.net.arcs) taken (own_last p from) p (a + 1) (arc_in best)
      go false y h k z = look-before h
      go true false h k z = look-later k
      go true true h k z = absurd (subst T z tt)

  pub look-new : wanted_arc q.net.arcs from best a ≡ true → a ≢ no_number → Cursor q earlier (length_of q.net.arcs) taken (own_last p from) p (a + 1) (arc_in a)
  unfolding wanted_arc
  look-new w ne =
      let x = after_arc q.net.arcs from a in
      let y = before_arc q.net.arcs a best in
      let h : T (x && y) = subst T (sym w) tt in
      subst (Cursor q earlier (length_of q.net.arcs) taken (own_last p from) p (a + 1)) (sym (arc-some a ne))
      (cursor-new q earlier (length_of q.net.arcs) taken (own_last p from) p a (record { leaves-end = out; after = subst T (sym (own-after q.net.arcs p from a)) (and_l x y h) }) (arc_in best)
      (λ b k. let g = arc-given best b k in
      subst (λ z. T (precedes q.net.arcs (p ++ (a ∷ [])) (p ++ (z ∷ [])))) g.1 (subst T (sym (own-before q.net.arcs p a best g.0)) (and_r x y h))) c)

-- ---- along the run of the chain's end

-- of the arcs that leave a node, those that are open
open-leaves : (nodes : ℕ) (t closed : List ℕ) (v a : ℕ) → leaves (net_of nodes t closed) v a ≡ (is_open_at closed a && leaves (net_of nodes t []) v a)
unfolding leaves
open-leaves nodes t closed v a = go (ltb a (length (arcs_of t))) (is_open_at closed a)
  where
    go : (x y : Bool) → (x && y && eqb (arc (arcs_of t) a).from v) ≡ (y && (x && true && eqb (arc (arcs_of t) a).from v))
    go true true = refl
    go true false = refl
    go false true = refl
    go false false = refl

-- a closed arc is none to look at
pub look-closed : (ask : Ask) (t closed b : List ℕ) (earlier taken : List (List ℕ)) (last p : List ℕ) (a : ℕ) (o : Option ℕ) → is_open_at closed a ≡ false
    → Cursor (query_for ask t closed b) earlier (length_of (arcs_of t)) taken last p a o → Cursor (query_for ask t closed b) earlier (length_of (arcs_of t)) taken last p (a + 1) o
look-closed ask t closed b earlier taken last p a o shut c =
    cursor-skip (query_for ask t closed b) earlier (length_of (arcs_of t)) taken last p a (a + 1) o c
    (λ y l u w. let z : a ≡ y = omega arith in
    absurd (subst T shut (subst (λ k. T (is_open_at closed k)) (sym z) (leaves-e (net_for ask t closed) (end_of (arcs_of t) ask.s p) y w.leaves-end).is-usable)))

-- an open one leaves its node among the open ones
pub leaves-open : (ask : Ask) (t closed : List ℕ) (v a : ℕ) → is_open_at closed a ≡ true → T (leaves (net_for ask t []) v a) → T (leaves (net_for ask t closed) v a)
leaves-open ask t closed v a o h =
    subst T (sym (open-leaves ask.nodes t closed v a)) (and_i (is_open_at closed a) (leaves (net_of ask.nodes t []) v a) (subst T (sym o) tt) h)

module _ (ask : Ask) (t closed b : List ℕ) (earlier taken : List (List ℕ)) (last p : List ℕ) (ok : table_fault ask.nodes t ≡ good) (v : ℕ) (ends : v ≡ end_of (arcs_of t) ask.s p) where
  in-run : (x : ℕ) → T (leaves (net_for ask t closed) (end_of (arcs_of t) ask.s p) x) → (run_start t v ≤ x) × (x < run_start t (v + 1))
  in-run x h = open-run ask.nodes t closed ok v x (rw ends h)

  pub walk_start : (x : ℕ) → x ≡ run_start t v → Cursor (query_for ask t closed b) earlier (length_of (arcs_of t)) taken last p x (arc_in no_number)
  walk_start x e =
      subst (Cursor (query_for ask t closed b) earlier (length_of (arcs_of t)) taken last p x) (sym (arc-none no_number refl))
      (cursor-start (query_for ask t closed b) earlier (length_of (arcs_of t)) taken last p x (λ y u w. omega (arith, e, (in-run y w).0)))

  pub walk_end : (a hi : ℕ) (o : Option ℕ) → Cursor (query_for ask t closed b) earlier (length_of (arcs_of t)) taken last p a o → run_start t (v + 1) ≤ a
      → Cursor (query_for ask t closed b) earlier (length_of (arcs_of t)) taken last p hi o
  walk_end a hi o h k =
      cursor-skip (query_for ask t closed b) earlier (length_of (arcs_of t)) taken last p a hi o h (λ y l u w. absurd (omega (arith, (in-run y w.leaves-end).1)))

  -- an arc that starts at v is one of its run
  pub run-leaves : (a : ℕ) → a < records t → from_at t a ≡ v → T (leaves (net_for ask t []) (end_of (arcs_of t) ask.s p) a)
  run-leaves a h e = rw (← ends) ((leaves_run ask.nodes t ok v a).1 (run-has ask.nodes t ok v a h e))

-- a cursor's arc is one of the table's
pub cursor-below : (ask : Ask) (t closed b : List ℕ) (earlier taken : List (List ℕ)) (f : List ℕ → ℕ) (last p : List ℕ) (hi x : ℕ) → x ≢ no_number
    → Cursor (query_for ask t closed b) earlier f taken last p hi (arc_in x) → x < records t
cursor-below ask t closed b earlier taken f last p hi x ne c =
    omega (arith, (leaves-e (net_for ask t closed) _ x (subst (Cursor (query_for ask t closed b) earlier f taken last p hi) (arc-some x ne) c).0.leaves-end).is-arc, arcs-length t)

pub arc-fits : (nodes : ℕ) (t : List ℕ) (x : ℕ) → table_fault nodes t ≡ good → (x ≢ no_number → x < records t) → x < 2 ^ 32
arc-fits nodes t x ok h = go (ℕ_discrete x no_number)
  where
    go : Dec (x ≡ no_number) → x < 2 ^ 32
    go (yes e) = omega arith
    go (no e) = omega (arith, h e, (good-size nodes t ok).3)
