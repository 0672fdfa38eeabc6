-- The call without closures equals the call with all bytes 0: no arc is closed by them, so the net is the same, and 15 is not given. All that a query shows and
-- leaves is a function of the refusals and of the theory's query.
use mathlib.Core.Path.{◌≡◌, refl, ap, ap₂, fun_ext, ◌∙◌}
use mathlib.Core.Bool.{true, false, cond, not}
use mathlib.Core.List.{List, [], ◌++◌, map}
use Prim.Native.Nat.{ℕ, zero, suc}
use lib.Dec.{ltb, eqb}
use lib.ListN.{length, get_or, drop, replicate}
use borrow.Author.Tests.{eq-eqb}
use Rattle.lists.specs.Tests.{up_from, any}
use Rattle.net.specs.Net.{streets, only}
use Rattle.net.specs.Round.{Query}
use Rattle.net.specs.Outcome.{told, rounds, answers, summaries, refusal}
use Rattle.outcome.specs.declared.Told.{Told}
use Rattle.outcome.specs.Outcome.{plain, closures, buffers}
use Rattle.summary.specs.declared.Summary.{Summary}
use Rattle.table.specs.Table.{records, arcs_of, roads_of}
use Rattle.table.specs.Fault.{table_fault, good}
use Rattle.closures.specs.Closed.{wrong}
use Rattle.search_ask.specs.declared.Ask.{Ask}
use Rattle.search_ask.specs.Ask.{room_in}
use Rattle.query_rounds.specs.Area.{area_with}
use Rattle.query_rounds.specs.Progress.{as_record}
use Rattle.query.specs.Query.{Input, query_of, width, wrong_closures, too_small, refused_of, reaches, tells_due, labels_due, area_due, sums_due, asked, Replied}

-- no byte is above 1
none-wrong : (closed : List ℕ) → ((a : ℕ) → get_or closed a 0 ≡ 0) → (i n : ℕ) → any (λ j. ltb 1 (get_or closed j 0)) (up_from i n) ≡ false
unfolding any up_from
none-wrong closed zeros i zero = refl
none-wrong closed zeros i (suc n) = rw (zeros i) (none-wrong closed zeros (suc i) n)

module _ (table closed : List ℕ) (ask : Ask) (k lent : ℕ) (labels area : List ℕ) (many : length closed ≡ records table) (zeros : (a : ℕ) → get_or closed a 0 ≡ 0) where
  abbrev lends : Input
  lends = asked table closed ask (record { k = k; lent = lent; closing = true }) labels area

  abbrev without : Input
  without = asked table [] ask (record { k = k; lent = lent; closing = false }) labels area

  same-query : query_of lends ≡ query_of without
  same-query =
      ap {B = Query} (λ u. record { net = only u (streets (roads_of table) (Rattle.net.specs.Net.plain ask.nodes (arcs_of table))); s = ask.s; t = ask.goal; a = ask.a; b = ask.b; room = room_in labels })
      (fun_ext (λ a. eq-eqb (get_or closed a 0) 0 (zeros a)))

  right : wrong_closures lends ≡ false
  unfolding wrong
  right = rw (eq-eqb (length closed) (records table) many) (none-wrong closed zeros 0 (length closed))

  same-refused : refused_of lends ≡ refused_of without
  unfolding refused_of too_small
  same-refused =
      ap₂ (λ w q. cond (not (eqb (table_fault ask.nodes table).outcome 0)) (table_fault ask.nodes table)
      (cond w (plain closures) (cond (not (eqb (refusal q k) 0)) (plain (refusal q k)) (cond (too_small without) (plain buffers) good)))) right same-query

  pub same-told : tells_due lends ≡ tells_due without
  unfolding tells_due reaches
  same-told = ap₂ (λ x q. cond (eqb x.outcome 0) (told 1 (rounds q k [])) x) same-refused same-query

  pub same-labels : labels_due lends ≡ labels_due without
  unfolding labels_due reaches
  same-labels = ap (λ x. cond (eqb x.outcome 0) (replicate (length labels) 0) labels) same-refused

  pub same_area : area_due lends ≡ area_due without
  unfolding area_due reaches
  same_area = ap₂ (λ x q. cond (eqb x.outcome 0) (area_with (width without) k area (answers (rounds q k []))) area) same-refused same-query

  pub same-sums : (before : List Summary) → sums_due lends before ≡ sums_due without before
  unfolding sums_due reaches
  same-sums before = ap₂ (λ x q. cond (eqb x.outcome 0) (map as_record (summaries q k (rounds q k [])) ++ drop k before) before) same-refused same-query

  -- outcome, number, every buffer
  pub same-call : (x : Told) (labels' area' : List ℕ) (sums₀ sums' : List Summary) → Replied lends x labels' area' sums₀ sums' → Replied without x labels' area' sums₀ sums'
  same-call x labels' area' sums₀ sums' r =
      record { told = r.told ∙ same-told; labels = r.labels ∙ same-labels; area = r.area ∙ same_area; sums = r.sums ∙ same-sums sums₀ }
