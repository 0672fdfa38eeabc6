-- The decisions of the call in their order: those of the query with closures at the threshold 0/1, then the buffers and the range. Where the call is refused everything is
-- as it was; where it is not, what is made is what is due.
use mathlib.Core.Path.{◌≡◌, refl, sym, ap, subst, ◌∙◌}
use mathlib.Core.Bool.{Bool, true, false, cond}
use mathlib.Core.List.{List, []}
use Prim.Native.Nat.{ℕ, ◌*◌, ◌≤◌}
use native.Mathlib.Omega.{arith}
use lib.Dec.{eqb}
use lib.ListN.{length, replicate}
use borrow.Author.Tests.{ne_eqb}
use Rattle.std.proofs.lemmas.Bool.{or_parts, ltb-false}
use Rattle.outcome.specs.declared.Told.{Told}
use Rattle.outcome.specs.declared.Refusal.{Refusal}
use Rattle.outcome.specs.Outcome.{buffers, closures, range_out, plain, told_of}
use Rattle.outcome.proofs.OutcomeLaws.{refused_not_zero}
use Rattle.net.specs.Limits.{most_nodes, most_routes}
use Rattle.net.specs.Outcome.{refusal}
use Rattle.table.specs.Fault.{table_fault, good}
use Rattle.table.proofs.FaultLaws.{told-good, good-size}
use Rattle.closures.specs.Closed.{wrong}
use Rattle.search_ask.specs.declared.Ask.{Ask}
use Rattle.search_ask.specs.Ask.{query_for}
use Rattle.working_room.specs.Field.{room_bytes}
use Rattle.query_rounds.specs.Area.{area_with}
use Rattle.query.specs.Query.{refusal_closed}
use Rattle.query.proofs.DecideLaws.{Passed, passed, on_from, past, closed-none, closed-some}
use Rattle.variety.specs.Variety.{range_wrong}
use Rattle.query_variety.specs.declared.Wish.{Wish}
use Rattle.query_variety.specs.Made.{list_after, Left}
use Rattle.query_variety.specs.Call.{Input, query_of, width, too_small, refused_of, reaches, reply_of, tells_due, list_due, area_due, work_due, given, Replied}

-- ---- 7 and 8: as the query with closures

abbrev pub plainly : Input → Rattle.query.specs.Query.Input
plainly i = record { table = i.table; closed = i.closed; closing = true; ask = i.ask; k = i.wish.k; labels = []; area = i.area; lent = 0 }

pub refusal_is : (i : Input) (k : ℕ) → refusal (query_of i) k ≡ refusal (query_for i.ask [] [] []) k
unfolding refusal
refusal_is i k = refl

-- ---- 10

-- no buffer is too small
pub record Large (i : Input) : Type 0 where
  pub words : i.wish.k * width i ≤ length i.area
  pub room : i.ask.nodes * room_bytes ≤ length i.work

large : (i : Input) → too_small i ≡ false → Large i
unfolding too_small
large i e = let room = or_parts _ _ e in record { words = ltb-false _ _ room.0; room = ltb-false _ _ room.1 }

-- ---- what decides

module _ (i : Input) where
  -- the table, where it is faulty
  pub refused-table : ((table_fault i.ask.nodes i.table).outcome ≡ 0 → ⊥) → refused_of i ≡ table_fault i.ask.nodes i.table
  unfolding refused_of
  refused-table ne = rw (ne_eqb _ 0 ne)

  pub faulty : (x : Refusal) → told_of x ≡ table_fault i.ask.nodes i.table → told_of x ≡ refused_of i
  faulty x e = e ∙ sym (refused-table (λ z. refused_not_zero x (ap (λ y. y.outcome) e ∙ z)))

  module _ (ok : table_fault i.ask.nodes i.table ≡ good) where
    -- what the bounds of the buffers' sizes need
    pub limited : refusal (query_of i) i.wish.k ≡ 0 → (1 ≤ i.ask.nodes) × (i.ask.nodes ≤ most_nodes) × (i.wish.k ≤ most_routes)
    limited e = let size = good-size _ _ ok in (size.0, size.1, (passed (plainly i) ok e).k-most)

    pub numbered : (x : Refusal) → told_of x ≡ refusal_closed i.table i.closed i.ask i.wish.k → told_of x ≡ refused_of i
    unfolding refused_of refusal
    numbered x e = rw ok (sym (closed-some i.table i.closed i.ask i.wish.k x e _))

    module _ (numbers : (refusal_closed i.table i.closed i.ask i.wish.k).outcome ≡ 0) where
      pub refused-room : too_small i ≡ true → refused_of i ≡ plain buffers
      unfolding refused_of
      refused-room s = let none = closed-none i.table i.closed i.ask i.wish.k numbers in rw (ok, none.0, refusal_is i i.wish.k ∙ none.1, s)

      pub refused-range : too_small i ≡ false → (b : Bool) → range_wrong i.wish.c i.wish.d ≡ b → refused_of i ≡ cond b (plain range_out) good
      unfolding refused_of
      refused-range s b e = let none = closed-none i.table i.closed i.ask i.wish.k numbers in rw (ok, none.0, refusal_is i i.wish.k ∙ none.1, s, e)

-- what the listing asks, where nothing refuses
pub record Reached (i : Input) : Type 0 where
  pub none : refused_of i ≡ good
  pub passed : Passed (plainly i)
  pub large : Large i
  pub range : range_wrong i.wish.c i.wish.d ≡ false

-- an outcome 0 passes every test
pub reached : (i : Input) → (refused_of i).outcome ≡ 0 → Reached i
unfolding refused_of
reached i zero_is =
    let table = on_from (table_fault i.ask.nodes i.table) _ zero_is in
    let bytes = past (wrong i.table i.closed) closures _ (omega arith) table.1 in
    let numbers = on_from (plain (refusal (query_of i) i.wish.k)) _ bytes.1 in
    let small = past (too_small i) buffers _ (omega arith) numbers.1 in
    let range = past (range_wrong i.wish.c i.wish.d) range_out _ (omega arith) small.1 in
    let ok = told-good i.ask.nodes i.table table.0 in
    record {
      none = rw (ok, bytes.0, numbers.0, small.0, range.0);
      passed = passed (plainly i) ok numbers.0;
      large = large i small.0;
      range = range.0;
    }

-- the list does not decide
pub refused-same : (i : Input) → refused_of (given i.table i.ask i.wish i.closed [] i.area i.work) ≡ refused_of i
unfolding refused_of too_small
refused-same i = refl

-- ---- what is due

-- a refusal: nothing is written
pub replied-refused : (i : Input) (x : Told) → x ≡ refused_of i → ((refused_of i).outcome ≡ 0 → ⊥) → Replied i x i.list i.area i.work
unfolding reaches tells_due list_due area_due work_due
replied-refused i x is some =
    let out : reaches i ≡ false = ne_eqb _ 0 some in
    record {
      told = is ∙ sym (ap (λ b. cond b (reply_of i).told (refused_of i)) out);
      list = sym (ap (λ b. cond b (list_after (width i) i.list (reply_of i) (reply_of i).told.outcome) i.list) out);
      area = sym (ap (λ b. cond b (area_with (width i) i.wish.k i.area (reply_of i).routes) i.area) out);
      work = sym (ap (λ b. cond b (replicate (length i.work) 0) i.work) out);
    }

pub replied-reached : (i : Input) (x : Told) (list' area' work' : List ℕ) → Reached i → Left (reply_of i) (width i) i.wish.k i.list i.area i.work x list' area' work' → Replied i x list' area' work'
unfolding reaches tells_due list_due area_due work_due
replied-reached i x list' area' work' r f =
    let on : reaches i ≡ true = ap (λ y. eqb y.outcome 0) r.none in
    record {
      told = f.told ∙ sym (ap (λ b. cond b (reply_of i).told (refused_of i)) on);
      list = f.list-is ∙ sym (ap (λ b. cond b (list_after (width i) i.list (reply_of i) (reply_of i).told.outcome) i.list) on);
      area = f.area-is ∙ sym (ap (λ b. cond b (area_with (width i) i.wish.k i.area (reply_of i).routes) i.area) on);
      work = f.room-is ∙ sym (ap (λ b. cond b (replicate (length i.work) 0) i.work) on);
    }

-- the same ask
pub replied-same : (table closed list area work : List ℕ) (x y : Ask) (wish : Wish) (z : Told) (list' area' work' : List ℕ) → x ≡ y
    → Replied (given table x wish closed list area work) z list' area' work' → Replied (given table y wish closed list area work) z list' area' work'
replied-same table closed list area work x y wish z list' area' work' e c = subst (λ a. Replied (given table a wish closed list area work) z list' area' work') e c
