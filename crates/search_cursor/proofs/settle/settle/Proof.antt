-- The cursor is right by `advance`, it and its key are stored, and the tree is made right: the laws `tree-stored` and `settled`.
use borrow.Author.Rules.{rules}
use mathlib.Core.Path.{sym, subst}
use mathlib.Core.List.{List}
use mathlib.Core.Logic.{◌≢◌}
use Prim.Native.Nat.{ℕ, ◌<◌, ◌^◌}
use lib.ListN.{length}
use Rattle.net.specs.Route.{length_of}
use Rattle.net.specs.Round.{Query}
use Rattle.table.specs.Table.{records, arcs_of}
use Rattle.table.proofs.NetLaws.{arcs-length}
use Rattle.labels.specs.Field.{no_number}
use Rattle.labels.specs.Chain.{chain_at, chains_in}
use Rattle.search_ask.specs.Ask.{query_for}
use Rattle.search_ask.specs.Earlier.{earlier_of}
use Rattle.search_ask.proofs.AskLaws.{lengths-most}
use Rattle.search_ahead.specs.Cursor.{Cursor}
use Rattle.search_advance.specs.Own.{arc_in, own_last}
use Rattle.search_advance.proofs.OwnLaws.{cursor-below, arc-fits}
use Rattle.search_cursor.proofs.QueueLaws.{tree-stored, comparable-stored, settled, settled_only, settled-lists}
use Rattle.search_cursor.proofs.settle.settle.Statement.{statement}
use Rattle.search_cursor.proofs.settle.settle.Tie as tie

abbrev start : tie.After-advance-arc → tie.Start
start c = c.before.before.before.before.before.before.before.before.before

abbrev query : tie.Start → Query
query s = query_for s.args.ask s.args.table.now s.args.closed.now s.args.labels.now

abbrev earlier : tie.Start → List (List ℕ)
earlier s = earlier_of s.args.ask s.args.area.now s.args.lens.now

abbrev chain : tie.Start → List ℕ
chain s = chain_at s.args.labels.now s.args.x.label

abbrev last : tie.Start → List ℕ
last s = own_last (chain s) s.args.x.from

below : (c : tie.After-advance-arc) → c.advance-arc.result ≢ no_number → c.advance-arc.result < records c.args.table.now
below c ne =
    let s = start c in
    cursor-below s.args.ask s.args.table.now s.args.closed.now s.args.labels.now (earlier s) (chains_in s.args.labels.now s.args.x.n) (length_of (arcs_of s.args.table.now)) (last s) (chain s)
    (records s.args.table.now) c.advance-arc.result ne c.advance-arc.ensures.0

fits : (c : tie.After-advance-arc) → c.advance-arc.result < 2 ^ 32
fits c = let s = start c in arc-fits s.args.ask.nodes s.args.table.now c.advance-arc.result s.requires.0.searching.accepted.no-fault (below c)

-- right of all arcs
right : (c : tie.After-advance-arc) → let s = start c in
    Cursor (query s) (earlier s) (length_of (arcs_of s.args.table.now)) (chains_in s.args.labels.now s.args.x.n) (last s) (chain s) (length (arcs_of s.args.table.now)) (arc_in c.advance-arc.result)
right c =
    let s = start c in
    subst (λ h. Cursor (query s) (earlier s) (length_of (arcs_of s.args.table.now)) (chains_in s.args.labels.now s.args.x.n) (last s) (chain s) h (arc_in c.advance-arc.result)) (sym (arcs-length s.args.table.now))
    c.advance-arc.ensures.0

store-requires : tie.Need-store-requires
store-requires c κs = let a = c.before.before.before in let s = start a in (s.requires.0.searching, s.requires.1, below a)

update-requires : tie.Need-update-requires
update-requires c κs =
    let d = c in
    let a = d.before.before.before.before.before.before.before in
    let s = start a in
    let st = s.requires.0.searching.standing in
    let most = lengths-most s.requires.0.searching.accepted in (
      comparable-stored (query s) s.args.labels.now s.args.x.n s.args.x.label a.advance-arc.result st most s.requires.1 (fits a) _ d.store.ensures s.requires.0.searching.comparable,
      st.few,
      s.requires.1,
      tree-stored (query s) s.args.labels.now s.args.x.n s.args.x.label a.advance-arc.result st most s.requires.1 (fits a) _ d.store.ensures s.requires.3.tree,
    )

returns : tie.Need-returns
returns c =
    let u = c in
    let d = u in
    let a = d.before.before.before.before.before.before.before.before.before.before in
    let s = start a in
    let st = s.requires.0.searching.standing in
    let most = lengths-most s.requires.0.searching.accepted in (
      settled_only (query s) s.args.labels.now s.args.x.n s.args.x.label a.advance-arc.result st most s.requires.1 (fits a) _ d.store.ensures (earlier s) (last s) _ u.update.ensures.0,
      settled-lists (query s) s.args.labels.now s.args.x.n s.args.x.label a.advance-arc.result st most s.requires.1 (fits a) _ d.store.ensures (earlier s) (last s) _ u.update.ensures.0,
      settled (query s) s.args.labels.now s.args.x.n s.args.x.label a.advance-arc.result st most s.requires.1 (fits a) _ d.store.ensures (earlier s) (last s) _ u.update.ensures.0
          s.requires.3.kept (right a) _ u.update.ensures.1 u.update.ensures.2,
      a.advance-arc.ensures.1,
    )

pub settle_spec : {M : Type 1} → statement M
settle_spec =
    tie.close (tie.spec (λ c κs. search rules) store-requires update-requires (λ c. search rules) (λ c. search rules) returns)
