-- The decisions of a query in their order. Each test of `refusal` that does not give its number passed, so after 7, 8 and 9 nothing of them is left and the
-- ask is accepted; a good table and no refusal leave the buffers to decide. Where the query is refused everything is as it was; where it is not, the rounds
-- give all that is due.
use mathlib.Core.Path.{◌≡◌, refl, sym, ap, subst, ◌∙◌}
use mathlib.Core.Bool.{Bool, true, false, not, ◌&&◌, cond}
use mathlib.Core.List.{List, [], ◌++◌, map}
use mathlib.Core.Logic.{◌⊎◌, inl, inr}
use Prim.Native.Nat.{ℕ, suc, ◌*◌, ◌≤◌}
use native.Mathlib.Omega.{arith}
use lib.Dec.{T, ltb, leb, eqb, ltb→lt, leb→le, T_not}
use lib.ListN.{length, drop, replicate}
use borrow.Author.Tests.{eqb-true, eqb-false, ne_eqb}
use Rattle.std.proofs.lemmas.Bool.{or_parts, ltb-false}
use Rattle.lists.proofs.Cases.{cases}
use Rattle.lists.proofs.TestLaws.{and_l, and_r, eq→eqb}
use Rattle.net.specs.Limits.{most_nodes, most_routes, most_b, most_labels}
use Rattle.outcome.specs.declared.Told.{Told}
use Rattle.outcome.specs.declared.Refusal.{Refusal}
use Rattle.outcome.specs.Outcome.{buffers, closures, plain, told_of}
use Rattle.outcome.proofs.OutcomeLaws.{refused_not_zero}
use Rattle.net.specs.Outcome.{told, answers, summaries, refusal}
use Rattle.table.specs.Fault.{table_fault, good}
use Rattle.closures.specs.Closed.{wrong}
use Rattle.table.proofs.FaultLaws.{told-good, good-size}
use Rattle.search_ask.specs.declared.Ask.{Ask}
use Rattle.search_ask.specs.Ask.{Accepted, query_for, room_in}
use Rattle.summary.specs.Sums.{written}
use Rattle.query_rounds.specs.Area.{area_with}
use Rattle.query_rounds.specs.Progress.{Wanted, as_record}
use Rattle.query_rounds.specs.Finished.{Finished}
use Rattle.query_rounds.specs.declared.Got.{Got}
use Rattle.query.specs.Query.{Input, query_of, width, wrong_closures, refusal_closed, too_small, refused_of, reaches, rounds_of, tells_due, labels_due, area_due, sums_due, asked, Cored}
use Rattle.query.specs.declared.Wish.{Wish}

-- ---- 7, 8 and 9

-- no number is given: the test passed, and what follows gives none
skipped : (b : Bool) (n x : ℕ) → cond (not b) (suc n) x ≡ 0 → T b × (x ≡ 0)
skipped true n x e = (tt, e)
skipped false n x e = absurd (omega arith)

-- none of the three
pub record Passed (i : Input) : Type 0 where
  pub ask : Accepted i.ask i.table
  pub k-least : 1 ≤ i.k
  pub k-most : i.k ≤ most_routes

pub passed : (i : Input) → table_fault i.ask.nodes i.table ≡ good → refusal (query_of i) i.k ≡ 0 → Passed i
unfolding refusal
passed i ok e =
    let q = i.ask in
    let below = ltb q.s q.nodes in
    let ends = below && ltb q.goal q.nodes in
    let moves = not (eqb q.s q.goal) in
    let least = leb 1 q.b in
    let limits = least && leb q.b most_b in
    let p7 = skipped (ends && moves) 6 _ e in
    let p8 = skipped (leb 1 i.k && leb i.k most_routes) 7 _ p7.1 in
    let p9 = skipped (limits && ltb q.a q.b) 8 0 p8.1 in
    record {
      ask = record {
        no-fault = ok;
        s-below = ltb→lt _ _ (and_l below (ltb q.goal q.nodes) (and_l ends moves p7.0));
        goal-below = ltb→lt _ _ (and_r below (ltb q.goal q.nodes) (and_l ends moves p7.0));
        apart = λ z. T_not (eqb q.s q.goal) (and_r ends moves p7.0) (eq→eqb _ _ z);
        b-least = leb→le _ _ (and_l least (leb q.b most_b) (and_l limits (ltb q.a q.b) p9.0));
        b-most = leb→le _ _ (and_r least (leb q.b most_b) (and_l limits (ltb q.a q.b) p9.0));
        a-below = ltb→lt _ _ (and_r limits (ltb q.a q.b) p9.0);
      };
      k-least = leb→le _ _ (and_l (leb 1 i.k) (leb i.k most_routes) p8.0);
      k-most = leb→le _ _ (and_r (leb 1 i.k) (leb i.k most_routes) p8.0);
    }

-- neither the table's arcs nor the closures have a part in them
pub refusal_is : (i : Input) → refusal (query_of i) i.k ≡ refusal (query_for i.ask [] [] []) i.k
unfolding refusal
refusal_is i = refl

-- what the bounds of the buffers' sizes need
pub limited : (i : Input) → table_fault i.ask.nodes i.table ≡ good → refusal (query_of i) i.k ≡ 0 → (1 ≤ i.ask.nodes) × (i.ask.nodes ≤ most_nodes) × (i.k ≤ most_routes)
limited i ok e = let size = good-size _ _ ok in (size.0, size.1, (passed i ok e).k-most)

-- ---- 10

-- no buffer is too small
pub record Large (i : Input) : Type 0 where
  pub words : i.k * width i ≤ length i.area
  pub lent : i.k ≤ i.lent
  pub room : room_in i.labels ≤ most_labels

pub large : (i : Input) → too_small i ≡ false → Large i
unfolding too_small
large i e =
    let room = or_parts _ _ e in
    let lent = or_parts _ _ room.0 in
    record { words = ltb-false _ _ lent.0; lent = ltb-false _ _ lent.1; room = ltb-false _ _ room.1 }

-- ---- a decision that the outcome 0 passes, of what is told and of a test

pub on_from : (x y : Told) → (cond (not (eqb x.outcome 0)) x y).outcome ≡ 0 → (x.outcome ≡ 0) × (y.outcome ≡ 0)
on_from x y e = go (cases (eqb x.outcome 0))
  where
    go : (eqb x.outcome 0 ≡ true) ⊎ (eqb x.outcome 0 ≡ false) → (x.outcome ≡ 0) × (y.outcome ≡ 0)
    go (inl a) = (eqb-true _ _ a, rw a at e)
    go (inr a) = absurd (eqb-false _ _ a (rw a at e))

pub past : (b : Bool) (n : ℕ) (y : Told) → 1 ≤ n → (cond b (plain n) y).outcome ≡ 0 → (b ≡ false) × (y.outcome ≡ 0)
past true n y h e = absurd (omega (arith, h, e))
past false n y h e = (refl, e)

-- ---- 15, 7, 8 and 9 together

module _ (table closed : List ℕ) (ask : Ask) (k : ℕ) where
  pub closed-none : (refusal_closed table closed ask k).outcome ≡ 0 → (wrong table closed ≡ false) × (refusal (query_for ask [] [] []) k ≡ 0)
  unfolding refusal_closed
  closed-none e = past (wrong table closed) closures _ (omega arith) e

  -- one of them, in the place of the two decisions
  pub closed-some : (x : Refusal) → told_of x ≡ refusal_closed table closed ask k → (rest : Told)
      → cond (wrong table closed) (plain closures)
      (cond (not (eqb (refusal (query_for ask [] [] []) k) 0)) (plain (refusal (query_for ask [] [] []) k)) rest) ≡ told_of x
  unfolding refusal_closed
  closed-some x e rest = go (cases (wrong table closed))
    where
      go : (wrong table closed ≡ true) ⊎ (wrong table closed ≡ false)
          → cond (wrong table closed) (plain closures)
          (cond (not (eqb (refusal (query_for ask [] [] []) k) 0)) (plain (refusal (query_for ask [] [] []) k)) rest) ≡ told_of x
      go (inl a) = rw a (sym (rw a at e))
      go (inr a) =
          let n : told_of x ≡ plain (refusal (query_for ask [] [] []) k) = rw a at e in
          rw (a, ne_eqb _ 0 (λ z. refused_not_zero x (ap (λ y. y.outcome) n ∙ z))) (sym n)

-- ---- what decides

module _ (i : Input) where
  -- the table, where it is faulty
  pub refused-table : ((table_fault i.ask.nodes i.table).outcome ≡ 0 → ⊥) → refused_of i ≡ table_fault i.ask.nodes i.table
  unfolding refused_of
  refused-table ne = rw (ne_eqb _ 0 ne)

  pub faulty : (x : Refusal) → told_of x ≡ table_fault i.ask.nodes i.table → told_of x ≡ refused_of i
  faulty x e = e ∙ sym (refused-table (λ z. refused_not_zero x (ap (λ y. y.outcome) e ∙ z)))

  module _ (ok : table_fault i.ask.nodes i.table ≡ good) where
    pub refused-closures : wrong_closures i ≡ true → refused_of i ≡ plain closures
    unfolding refused_of
    refused-closures e = rw (ok, e)

    module _ (right : wrong_closures i ≡ false) where
      pub refused-number : (n : ℕ) → refusal (query_of i) i.k ≡ n → eqb n 0 ≡ false → refused_of i ≡ plain n
      unfolding refused_of
      refused-number n e some = rw (ok, right, e, some)

      pub numbered : (x : Refusal) → told_of x ≡ plain (refusal (query_for i.ask [] [] []) i.k) → told_of x ≡ refused_of i
      numbered x e = e ∙ sym (refused-number _ (refusal_is i) (ne_eqb _ 0 (λ z. refused_not_zero x (ap (λ y. y.outcome) e ∙ z))))

      pub refused-room : refusal (query_of i) i.k ≡ 0 → (b : Bool) → too_small i ≡ b → refused_of i ≡ cond b (plain buffers) good
      unfolding refused_of
      refused-room e b s = rw (ok, right, e, s)

-- an outcome 0 passes every test
pub refused_none : (i : Input) → (refused_of i).outcome ≡ 0
    → (table_fault i.ask.nodes i.table ≡ good) × (refusal (query_of i) i.k ≡ 0) × (too_small i ≡ false) × (wrong_closures i ≡ false)
unfolding refused_of
refused_none i zero_is =
    let table = on_from (table_fault i.ask.nodes i.table) _ zero_is in
    let bytes = past (wrong_closures i) closures _ (omega arith) table.1 in
    let numbers = on_from (plain (refusal (query_of i) i.k)) _ bytes.1 in
    let small = past (too_small i) buffers _ (omega arith) numbers.1 in
    (told-good i.ask.nodes i.table table.0, numbers.0, small.0, bytes.0)

-- what the rounds ask, where nothing refuses
pub record Reached (i : Input) : Type 0 where
  pub none : refused_of i ≡ good
  pub passed : Passed i
  pub large : Large i

pub reached : (i : Input) → (refused_of i).outcome ≡ 0 → Reached i
reached i e =
    let w = refused_none i e in
    record { none = refused-room i w.0 w.3 w.1 false w.2; passed = passed i w.0 w.1; large = large i w.2 }

pub wanted : (i : Input) → Reached i → Wanted i.ask i.table i.k i.labels i.area
wanted i r = record { accepted = r.passed.ask; room = r.large.room; few = r.passed.k-most; slots = r.large.words }

-- ---- what is due

-- a refusal: nothing is written
pub cored-refused : (i : Input) (g : Got) → g.told ≡ refused_of i → g.n ≡ 0 → ((refused_of i).outcome ≡ 0 → ⊥) → Cored i g i.labels i.area
unfolding reaches tells_due labels_due area_due sums_due
cored-refused i g is none some =
    let out : reaches i ≡ false = ne_eqb _ 0 some in
    record {
      told = is ∙ sym (ap (λ b. cond b (told 1 (rounds_of i)) (refused_of i)) out);
      labels = sym (ap (λ b. cond b (replicate (length i.labels) 0) i.labels) out);
      area = sym (ap (λ b. cond b (area_with (width i) i.k i.area (answers (rounds_of i))) i.area) out);
      many = none ∙ sym (ap (λ b. cond b i.k 0) out);
      few = omega arith;
      fits = omega arith;
      sums = λ before. ap (λ n. written g.sums n before) none
          ∙ sym (ap (λ b. cond b (map as_record (summaries (query_of i) i.k (rounds_of i)) ++ drop i.k before) before) out);
    }

pub cored-reached : (i : Input) (g : Got) (labels' area' : List ℕ) → Reached i
    → Finished (query_of i) (width i) i.k i.labels i.area g labels' area' → Cored i g labels' area'
unfolding reaches tells_due labels_due area_due sums_due
cored-reached i g labels' area' r f =
    let on : reaches i ≡ true = ap (λ y. eqb y.outcome 0) r.none in
    record {
      told = f.told ∙ sym (ap (λ b. cond b (told 1 (rounds_of i)) (refused_of i)) on);
      labels = f.labels ∙ sym (ap (λ b. cond b (replicate (length i.labels) 0) i.labels) on);
      area = f.area ∙ sym (ap (λ b. cond b (area_with (width i) i.k i.area (answers (rounds_of i))) i.area) on);
      many = f.all ∙ sym (ap (λ b. cond b i.k 0) on);
      few = omega (arith, f.all, r.passed.k-most);
      fits = omega (arith, f.all, r.large.lent);
      sums = λ before. ap (λ n. written g.sums n before) f.all ∙ ap (λ ys. ys ++ drop i.k before) f.sums
          ∙ sym (ap (λ b. cond b (map as_record (summaries (query_of i) i.k (rounds_of i)) ++ drop i.k before) before) on);
    }

-- the same ask, and the same answer
pub cored-same : (table closed : List ℕ) (wish : Wish) (labels area : List ℕ) (x y : Ask) (g h : Got) (labels' area' : List ℕ) → x ≡ y → h ≡ g
    → Cored (asked table closed x wish labels area) g labels' area' → Cored (asked table closed y wish labels area) h labels' area'
cored-same table closed wish labels area x y g h labels' area' e f c =
    subst (λ v. Cored (asked table closed y wish labels area) v labels' area') (sym f) (subst (λ z. Cored (asked table closed z wish labels area) g labels' area') e c)
