-- The decisions of the call for a pair in their order: those of the query with closures, for two routes at the threshold 0/1. Where the call is refused everything is as
-- it was; where it is not, what the searches make is what is due.
use mathlib.Core.Path.{◌≡◌, refl, sym, ap, subst, ◌∙◌}
use mathlib.Core.Bool.{Bool, true, false, cond}
use mathlib.Core.List.{List, [], ◌++◌}
use Prim.Native.Nat.{ℕ, ◌*◌, ◌≤◌}
use native.Mathlib.Omega.{arith}
use lib.Dec.{eqb}
use lib.ListN.{length, drop, replicate}
use borrow.Author.Tests.{eqb-true, ne_eqb}
use Rattle.std.proofs.lemmas.Bool.{or_parts, ltb-false}
use Rattle.outcome.specs.declared.Refusal.{Refusal}
use Rattle.outcome.specs.Outcome.{buffers, closures, plain, told_of}
use Rattle.outcome.proofs.OutcomeLaws.{refused_not_zero}
use Rattle.net.specs.Outcome.{refusal}
use Rattle.table.specs.Fault.{table_fault, good}
use Rattle.table.proofs.FaultLaws.{told-good, good-size}
use Rattle.closures.specs.Closed.{wrong}
use Rattle.search_ask.specs.declared.Ask.{Ask}
use Rattle.search_ask.specs.Ask.{query_for}
use Rattle.working_room.specs.Field.{room_bytes}
use Rattle.node_queue.specs.Queue.{Roomy}
use Rattle.summary.specs.Sums.{written}
use Rattle.query_rounds.specs.Area.{area_with}
use Rattle.query_rounds.specs.declared.Got.{Got}
use Rattle.query.specs.Query.{refusal_closed}
use Rattle.query.proofs.DecideLaws.{Passed, on_from, past, closed-none, closed-some}
use Rattle.pair.specs.Pair.{least_total}
use Rattle.query_pair.specs.Made.{told_for, summaries_for, Made}
use Rattle.query_pair.specs.Pair.{Input, query_of, width, too_small, refused_of, reaches, tells_due, area_due, sums_due, work_due, given, Cored}

-- ---- 7: as the query with closures

abbrev pub plainly : Input → Rattle.query.specs.Query.Input
plainly i = record { table = i.table; closed = i.closed; closing = true; ask = i.ask; k = 2; labels = []; area = i.area; lent = i.lent }

pub passed : (i : Input) → table_fault i.ask.nodes i.table ≡ good → refusal (query_of i) 2 ≡ 0 → Passed (plainly i)
passed i ok e = Rattle.query.proofs.DecideLaws.passed (plainly i) ok e

pub refusal_is : (i : Input) → refusal (query_of i) 2 ≡ refusal (query_for i.ask [] [] []) 2
unfolding refusal
refusal_is i = refl

-- ---- 10

-- no buffer is too small
pub record Large (i : Input) : Type 0 where
  pub words : 2 * width i ≤ length i.area
  pub lent : 2 ≤ i.lent
  pub room : i.ask.nodes * room_bytes ≤ length i.work

large : (i : Input) → too_small i ≡ false → Large i
unfolding too_small
large i e =
    let room = or_parts _ _ e in
    let lent = or_parts _ _ room.0 in
    record { words = ltb-false _ _ lent.0; lent = ltb-false _ _ lent.1; room = ltb-false _ _ room.1 }

-- ---- what decides

module _ (i : Input) where
  -- the table, where it is faulty
  pub refused-table : ((table_fault i.ask.nodes i.table).outcome ≡ 0 → ⊥) → refused_of i ≡ table_fault i.ask.nodes i.table
  unfolding refused_of
  refused-table ne = rw (ne_eqb _ 0 ne)

  pub faulty : (x : Refusal) → told_of x ≡ table_fault i.ask.nodes i.table → told_of x ≡ refused_of i
  faulty x e = e ∙ sym (refused-table (λ z. refused_not_zero x (ap (λ y. y.outcome) e ∙ z)))

  module _ (ok : table_fault i.ask.nodes i.table ≡ good) where
    pub numbered : (x : Refusal) → told_of x ≡ refusal_closed i.table i.closed i.ask 2 → told_of x ≡ refused_of i
    unfolding refused_of refusal
    numbered x e = rw ok (sym (closed-some i.table i.closed i.ask 2 x e _))

    pub refused-room : (refusal_closed i.table i.closed i.ask 2).outcome ≡ 0 → (b : Bool) → too_small i ≡ b → refused_of i ≡ cond b (plain buffers) good
    unfolding refused_of
    refused-room e b s = let none = closed-none i.table i.closed i.ask 2 e in rw (ok, none.0, refusal_is i ∙ none.1, s)

-- what the searches ask, where nothing refuses
pub record Reached (i : Input) : Type 0 where
  pub none : refused_of i ≡ good
  pub passed : Passed (plainly i)
  pub large : Large i

-- an outcome 0 passes every test
pub reached : (i : Input) → (refused_of i).outcome ≡ 0 → Reached i
unfolding refused_of
reached i zero_is =
    let table = on_from (table_fault i.ask.nodes i.table) _ zero_is in
    let bytes = past (wrong i.table i.closed) closures _ (omega arith) table.1 in
    let numbers = on_from (plain (refusal (query_of i) 2)) _ bytes.1 in
    let small = past (too_small i) buffers _ (omega arith) numbers.1 in
    let ok = told-good i.ask.nodes i.table table.0 in
    record { none = rw (ok, bytes.0, numbers.0, small.0); passed = passed i ok numbers.0; large = large i small.0 }

pub room_for : (i : Input) → Reached i → Roomy i.ask.nodes i.work
room_for i r = record { few = (good-size _ _ r.passed.ask.no-fault).1; enough = r.large.room }

-- ---- what is due

-- a refusal: nothing is written
pub cored-refused : (i : Input) (g : Got) → g.told ≡ refused_of i → g.n ≡ 0 → ((refused_of i).outcome ≡ 0 → ⊥) → Cored i g i.area i.work
unfolding reaches tells_due area_due sums_due work_due
cored-refused i g is none some =
    let out : reaches i ≡ false = ne_eqb _ 0 some in
    record {
      told = is ∙ sym (ap (λ b. cond b (told_for (least_total (query_of i).net i.ask.s i.ask.goal)) (refused_of i)) out);
      work = sym (ap (λ b. cond b (replicate (length i.work) 0) i.work) out);
      routes = [];
      right = λ e. absurd (some (eqb-true _ _ e));
      area = sym (ap (λ b. cond b (area_with (width i) 2 i.area []) i.area) out);
      few = omega arith;
      fits = omega arith;
      sums = λ before. ap (λ n. written g.sums n before) none ∙ sym (ap (λ b. cond b (summaries_for (query_of i) [] ++ drop 2 before) before) out);
    }

pub cored-reached : (i : Input) (g : Got) (area' work' : List ℕ) → Reached i → Made (query_of i) (width i) i.area i.work g area' work' → Cored i g area' work'
unfolding reaches tells_due area_due sums_due work_due
cored-reached i g area' work' r f =
    let on : reaches i ≡ true = ap (λ y. eqb y.outcome 0) r.none in
    record {
      told = f.told ∙ sym (ap (λ b. cond b (told_for (least_total (query_of i).net i.ask.s i.ask.goal)) (refused_of i)) on);
      work = f.room-is ∙ sym (ap (λ b. cond b (replicate (length i.work) 0) i.work) on);
      routes = f.routes;
      right = λ e. f.answers;
      area = f.area-is ∙ sym (ap (λ b. cond b (area_with (width i) 2 i.area f.routes) i.area) on);
      few = omega (arith, f.two);
      fits = omega (arith, f.two, r.large.lent);
      sums = λ before. ap (λ n. written g.sums n before) f.two ∙ ap (λ ys. ys ++ drop 2 before) f.sums ∙ sym (ap (λ b. cond b (summaries_for (query_of i) f.routes ++ drop 2 before) before) on);
    }

-- the same ask
pub cored-same : (table closed area : List ℕ) (lent : ℕ) (work : List ℕ) (x y : Ask) (g : Got) (area' work' : List ℕ) → x ≡ y
    → Cored (given table x closed area lent work) g area' work' → Cored (given table y closed area lent work) g area' work'
cored-same table closed area lent work x y g area' work' e c = subst (λ z. Cored (given table z closed area lent work) g area' work') e c
