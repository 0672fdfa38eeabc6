-- Where an input ends. What the first bytes are is what its first line is, so the query's refusal is due, or what its road file gives; and that is the refusal which the
-- reader tells, or the reply over the table of its arcs in order.
use mathlib.Core.Path.{◌≡◌, sym, ap, subst, ◌∙◌}
use mathlib.Core.List.{List, [], ◌∷◌}
use mathlib.Core.Logic.{◌≢◌}
use Prim.Native.Nat.{ℕ, ◌-◌, ◌*◌, ◌≤◌}
use native.Mathlib.Nat.{sub-zero}
use native.Mathlib.Omega.{arith}
use lib.ListN.{length, take, drop, replicate, length-take, length-replicate}
use lib.Seq.{take_all, take_at}
use Rattle.std.specs.Prelude.{Ok, Err}
use Rattle.outcome.specs.declared.Told.{Told}
use Rattle.outcome.specs.declared.Refusal.{Refusal}
use Rattle.outcome.specs.Outcome.{told_of}
use Rattle.table.specs.Table.{table_of}
use Rattle.table.proofs.TableLaws.{length-table_of}
use Rattle.text_put.specs.Put.{Appended}
use Rattle.road_sort.specs.Sorted.{Placed, sorted_table}
use Rattle.road_order.specs.Ordered.{ordered}
use Rattle.road_order.proofs.LowestLaws.{length-ordered}
use Rattle.road_fill.specs.Filled.{cleared}
use Rattle.desk_line.specs.Limits.{most_nodes_read, most_arcs_read}
use Rattle.desk_query.specs.declared.Query.{Query}
use Rattle.desk_query.specs.Query.{First, old, malformed, query, first_in}
use Rattle.desk_query.specs.Told.{FirstRead}
use Rattle.desk_query.proofs.FirstLaws.{first-cut}
use Rattle.desk_feed.specs.declared.Taken.{Taken}
use Rattle.desk_feed.specs.Road.{judged, road_in}
use Rattle.desk_feed.specs.Taken.{first_bytes, judged_by, State, state, state_from, state_of}
use Rattle.desk_feed.proofs.TakenLaws.{state-append}
use Rattle.desk_feed.proofs.HeldLaws.{zeros, held}
use Rattle.desk_feed.proofs.JudgedLaws.{input-refused, Whole, input-whole}
use Rattle.desk_text.specs.declared.Asked.{Asked}
use Rattle.desk_text.specs.Desk.{refused_text, reply_text, read_query, file_text, text_for, desk_text}
use Rattle.desk_text.specs.Finished.{KeptOf, RoadOf, PartFed}

pub room : (n : ℕ) → n ≤ length (replicate {A = ℕ} n 0)
room n = omega (arith, length-replicate {A = ℕ} n 0)

-- text that is the same
pub appended-as : (out text due out' : List ℕ) (n : ℕ) → text ≡ due → Appended out 0 text out' n → Appended out 0 due out' n
appended-as out text due out' n e h = subst (λ l. Appended out 0 l out' n) e h

-- ---- a part more

pub part-fed : (x y : Taken) (first table part first' table' : List ℕ) → state y first' table' ≡ state_from (state x first table) part → PartFed x first table part y first' table'
unfolding state_of
part-fed x y first table part first' table' e input k = e ∙ ap (λ s. state_from s part) k ∙ sym (state-append _ input part)

pub part-whole : (x y : Taken) (first table part first' table' : List ℕ) (n : ℕ) → length part ≤ n → state y first' table' ≡ state_from (state x first table) part
    → PartFed x first table (take n part) y first' table'
part-whole x y first table part first' table' n h e = rw (take_all n part h) (part-fed x y first table part first' table' e)

-- ---- the first line

module _ (input : List ℕ) where
  pub first-refused : (x : Refusal) → FirstRead (first_in input) (Err x) → refused_text (told_of x) ≡ desk_text input
  unfolding desk_text text_for
  first-refused x r = go (first_in input) r
    where
      go : (f : First) → FirstRead f (Err x) → refused_text (told_of x) ≡ text_for f (judged (road_in input))
      go old w = ap refused_text w
      go malformed w = ap refused_text w
      go (query vs) w = absurd w

  pub first-query : (q : Query) → FirstRead (first_in input) (Ok q) → file_text (q.s ∷ q.goal ∷ q.k ∷ q.a ∷ q.b ∷ []) (judged (road_in input)) ≡ desk_text input
  unfolding desk_text text_for
  first-query q r = go (first_in input) r
    where
      go : (f : First) → FirstRead f (Ok q) → file_text (q.s ∷ q.goal ∷ q.k ∷ q.a ∷ q.b ∷ []) (judged (road_in input)) ≡ text_for f (judged (road_in input))
      go old w = absurd (omega (arith, ap (λ (t : Told). t.outcome) w))
      go malformed w = absurd (omega (arith, ap (λ (t : Told). t.outcome) w))
      go (query vs) w = ap (λ v. file_text v (judged (road_in input))) (sym w)

module _ (input : List ℕ) (x : Taken) (first table : List ℕ) (k : KeptOf x first table input) where
  taken_is : x ≡ (state_of input).taken
  taken_is = ap (λ (s : State). s.taken) k

  first-is : first ≡ (state_of input).first
  first-is = ap (λ (s : State). s.first) k

  pub road-of : RoadOf x table input
  road-of = (taken_is, ap (λ (s : State). s.table) k)

  pub first_fits : x.first ≤ length first
  first_fits =
      let f = (held input).first in
      omega (arith, ap (λ (t : Taken). t.first) taken_is, ap length first-is, f.many, f.long, length-take first_bytes input)

  pub first-in : first_in (take (x.first - 0) first) ≡ first_in input
  first-in =
      let f = (held input).first in
      ap first_in (ap (λ n. take n first) (sub-zero x.first) ∙ ap (λ (t : Taken). take t.first first) taken_is ∙ ap (take (state_of input).taken.first) first-is ∙ f.is)
      ∙ first-cut input first_bytes (omega arith)

-- ---- the road file

abbrev numbers : Query → List ℕ
numbers q = q.s ∷ q.goal ∷ q.k ∷ q.a ∷ q.b ∷ []

abbrev asking : Taken → Query → Asked
asking x q = record { nodes = x.reader.nodes; s = q.s; goal = q.goal; k = q.k; a = q.a; b = q.b }

pub record Ready (input : List ℕ) (q : Query) (x : Taken) (table : List ℕ) : Type 0 where
  pub nodes : x.reader.nodes ≤ most_nodes_read
  pub few : x.reader.count ≤ most_arcs_read
  pub placed : Placed table x.reader.count
  pub due : (table' : List ℕ) → table' ≡ cleared x.reader.count (sorted_table x.reader.count table)
      → reply_text (read_query (asking x q) (take (x.reader.count * 16 - 0) table')) ≡ file_text (numbers q) (judged (road_in input))

module _ (input : List ℕ) (q : Query) where
  refused-here : (judged_by (state_of input).taken.reader (state_of input).taken.sized).outcome ≢ 0
      → refused_text (judged_by (state_of input).taken.reader (state_of input).taken.sized) ≡ file_text (numbers q) (judged (road_in input))
  unfolding file_text
  refused-here ne = sym (ap (file_text (numbers q)) (input-refused input ne))

  due-here : (w : Whole input) (table' : List ℕ)
      → table' ≡ cleared (state_of input).taken.reader.count (sorted_table (state_of input).taken.reader.count (state_of input).table)
      → reply_text (read_query (asking (state_of input).taken q) (take ((state_of input).taken.reader.count * 16 - 0) table')) ≡ file_text (numbers q) (judged (road_in input))
  unfolding file_text
  due-here w table' e =
      let n = (state_of input).taken.reader.count in
      let arcs = (road_in input).fed.said.arcs in
      let front : take (n * 16 - 0) table' ≡ table_of (ordered arcs) =
      ap (λ m. take m table') (sub-zero (n * 16)) ∙ ap (take (n * 16)) (e ∙ w.made)
      ∙ take_at (table_of (ordered arcs)) (drop (n * 16) zeros) (n * 16) (length-table_of (ordered arcs) ∙ omega (arith, length-ordered arcs, w.count)) in
      ap (λ t. reply_text (read_query (asking (state_of input).taken q) t)) front ∙ sym (ap (file_text (numbers q)) w.is)

  ready-here : (judged_by (state_of input).taken.reader (state_of input).taken.sized).outcome ≡ 0 → Ready input q (state_of input).taken (state_of input).table
  ready-here e =
      let w = input-whole input e in
      record { nodes = w.nodes; few = w.few; placed = w.placed; due = due-here w }

module _ (input : List ℕ) (q : Query) (x : Taken) (table : List ℕ) (k : RoadOf x table input) where
  pub road-refused : (judged_by x.reader x.sized).outcome ≢ 0 → refused_text (judged_by x.reader x.sized) ≡ file_text (numbers q) (judged (road_in input))
  road-refused =
      subst (λ (y : Taken). (judged_by y.reader y.sized).outcome ≢ 0 → refused_text (judged_by y.reader y.sized) ≡ file_text (numbers q) (judged (road_in input)))
      (sym k.0) (refused-here input q)

  pub road-ready : (judged_by x.reader x.sized).outcome ≡ 0 → Ready input q x table
  road-ready =
      subst (λ (t : List ℕ). (judged_by x.reader x.sized).outcome ≡ 0 → Ready input q x t) (sym k.1)
      (subst (λ (y : Taken). (judged_by y.reader y.sized).outcome ≡ 0 → Ready input q y (state_of input).table) (sym k.0) (ready-here input q))
