-- The cursor is right by `advance` and stored. A tree of one label has no winners, and that label is its first.
use native.Mathlib.Omega.{arith}
use borrow.Author.Rules.{rules}
use mathlib.Core.Path.{refl, sym, subst}
use mathlib.Core.List.{List}
use mathlib.Core.Logic.{◌≢◌}
use Prim.Native.Nat.{ℕ, ◌<◌, ◌^◌}
use lib.ListN.{length}
use Rattle.net.specs.Route.{length_of}
use Rattle.net.specs.Round.{Query}
use Rattle.table.specs.Table.{records, arcs_of}
use Rattle.table.proofs.NetLaws.{arcs-length}
use Rattle.labels.specs.Field.{no_number}
use Rattle.labels.specs.Chain.{chain_at, chains_in}
use Rattle.search_ask.specs.Ask.{query_for}
use Rattle.search_ask.specs.Earlier.{earlier_of}
use Rattle.search_ask.proofs.AskLaws.{lengths-most}
use Rattle.search_ahead.specs.Cursor.{Cursor}
use Rattle.search_queue.proofs.OnlyLaws.{only_same}
use Rattle.search_advance.specs.Own.{arc_in, own_last}
use Rattle.search_advance.proofs.OwnLaws.{own-none, cursor-below, arc-fits}
use Rattle.search_cursor.proofs.QueueLaws.{tree-alone, first_alone, settled, settled_only, settled-lists}
use Rattle.search_cursor.proofs.settle.begin.Statement.{statement}
use Rattle.search_cursor.proofs.settle.begin.Tie as tie

abbrev start : tie.After-advance-arc → tie.Start
start c = c.before.before.before.before.before.before.before.before.before

abbrev query : tie.Start → Query
query s = query_for s.args.ask s.args.table.now s.args.closed.now s.args.labels.now

abbrev earlier : tie.Start → List (List ℕ)
earlier s = earlier_of s.args.ask s.args.area.now s.args.lens.now

abbrev chain : tie.Start → List ℕ
chain s = chain_at s.args.labels.now 0

below : (c : tie.After-advance-arc) → c.advance-arc.result ≢ no_number → c.advance-arc.result < records c.args.table.now
below c ne =
    let s = start c in
    cursor-below s.args.ask s.args.table.now s.args.closed.now s.args.labels.now (earlier s) (chains_in s.args.labels.now 1) (length_of (arcs_of s.args.table.now)) (own_last (chain s) no_number) (chain s)
    (records s.args.table.now) c.advance-arc.result ne c.advance-arc.ensures.0

fits : (c : tie.After-advance-arc) → c.advance-arc.result < 2 ^ 32
fits c = let s = start c in arc-fits s.args.ask.nodes s.args.table.now c.advance-arc.result s.requires.0.searching.accepted.no-fault (below c)

-- right of all arcs
right : (c : tie.After-advance-arc) → let s = start c in
    Cursor (query s) (earlier s) (length_of (arcs_of s.args.table.now)) (chains_in s.args.labels.now 1) (chain s) (chain s) (length (arcs_of s.args.table.now)) (arc_in c.advance-arc.result)
right c =
    let s = start c in
    let t = s.args.table.now in
    let taken = chains_in s.args.labels.now 1 in
    subst (λ z. Cursor (query s) (earlier s) (length_of (arcs_of t)) taken z (chain s) (length (arcs_of t)) (arc_in c.advance-arc.result)) (own-none (chain s) no_number refl)
    (subst (λ h. Cursor (query s) (earlier s) (length_of (arcs_of t)) taken (own_last (chain s) no_number) (chain s) h (arc_in c.advance-arc.result)) (sym (arcs-length t)) c.advance-arc.ensures.0)

advance-requires : tie.Need-advance-arc-requires
advance-requires c κs =
    let s = c in
    (s.requires.0, omega arith, λ ne. absurd (ne refl), s.requires.1)

store-requires : tie.Need-store-requires
store-requires c κs = let a = c.before.before.before in let s = start a in (s.requires.0.searching, omega arith, below a)

returns : tie.Need-returns
returns c =
    let d = c in
    let a = d.before.before.before.before.before.before in
    let s = start a in
    let st = s.requires.0.searching.standing in
    let most = lengths-most s.requires.0.searching.accepted in
    let low : 0 < 1 = omega arith in (
      settled_only (query s) s.args.labels.now 1 0 a.advance-arc.result st most low (fits a) _ d.store.ensures (earlier s) (chain s) _ (only_same 28 2 1 _),
      settled-lists (query s) s.args.labels.now 1 0 a.advance-arc.result st most low (fits a) _ d.store.ensures (earlier s) (chain s) _ (only_same 28 2 1 _),
      settled (query s) s.args.labels.now 1 0 a.advance-arc.result st most low (fits a) _ d.store.ensures (earlier s) (chain s) _ (only_same 28 2 1 _)
          (λ i h ne. absurd (ne (omega arith))) (right a) 0 (tree-alone _) (first_alone _),
      a.advance-arc.ensures.1,
    )

pub begin_spec : {M : Type 1} → statement M
begin_spec =
    tie.close (tie.spec advance-requires store-requires (λ c. search rules) (λ c. search rules) returns)
