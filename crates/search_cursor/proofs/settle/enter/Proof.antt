-- The cursor is right by `advance` and stored. The tree of the labels before is as it was, and the new label enters it.
use native.Mathlib.Omega.{arith}
use borrow.Author.Rules.{rules}
use mathlib.Core.Path.{refl, sym, subst}
use mathlib.Core.List.{List}
use mathlib.Core.Logic.{◌≢◌, ⊎_elim}
use Prim.Native.Nat.{ℕ, ◌+◌, ◌<◌, ◌^◌}
use lib.ListN.{length}
use Rattle.lists.proofs.Cases.{order}
use Rattle.net.specs.Route.{length_of}
use Rattle.net.specs.Round.{Query}
use Rattle.table.specs.Table.{records, arcs_of}
use Rattle.table.proofs.NetLaws.{arcs-length}
use Rattle.labels.specs.Field.{no_number}
use Rattle.labels.specs.Chain.{chain_at, chains_in}
use Rattle.search_ask.specs.Ask.{query_for}
use Rattle.search_ask.specs.Earlier.{earlier_of}
use Rattle.search_ask.proofs.AskLaws.{lengths-most}
use Rattle.search_ahead.specs.Cursor.{Cursor}
use Rattle.search_advance.specs.Own.{arc_in, own_last}
use Rattle.search_advance.proofs.OwnLaws.{own-none, cursor-below, arc-fits}
use Rattle.search_cursor.specs.Queue.{Kept}
use Rattle.search_cursor.proofs.QueueLaws.{tree-stored-before, first-stored-before, comparable-stored, settled, settled_only, settled-lists}
use Rattle.search_cursor.proofs.settle.enter.Statement.{statement}
use Rattle.search_cursor.proofs.settle.enter.Tie as tie

abbrev start : tie.After-advance-arc → tie.Start
start c = c.before.before.before.before.before.before.before.before.before

abbrev query : tie.Start → Query
query s = query_for s.args.ask s.args.table.now s.args.closed.now s.args.labels.now

abbrev earlier : tie.Start → List (List ℕ)
earlier s = earlier_of s.args.ask s.args.area.now s.args.lens.now

abbrev chain : tie.Start → List ℕ
chain s = chain_at s.args.labels.now s.args.n

below : (c : tie.After-advance-arc) → c.advance-arc.result ≢ no_number → c.advance-arc.result < records c.args.table.now
below c ne =
    let s = start c in
    cursor-below s.args.ask s.args.table.now s.args.closed.now s.args.labels.now (earlier s) (chains_in s.args.labels.now (s.args.n + 1)) (length_of (arcs_of s.args.table.now)) (own_last (chain s) no_number)
    (chain s) (records s.args.table.now) c.advance-arc.result ne c.advance-arc.ensures.0

fits : (c : tie.After-advance-arc) → c.advance-arc.result < 2 ^ 32
fits c = let s = start c in arc-fits s.args.ask.nodes s.args.table.now c.advance-arc.result s.requires.0.searching.accepted.no-fault (below c)

-- right of all arcs
right : (c : tie.After-advance-arc) → let s = start c in
    Cursor (query s) (earlier s) (length_of (arcs_of s.args.table.now)) (chains_in s.args.labels.now (s.args.n + 1)) (chain s) (chain s) (length (arcs_of s.args.table.now)) (arc_in c.advance-arc.result)
right c =
    let s = start c in
    let t = s.args.table.now in
    let taken = chains_in s.args.labels.now (s.args.n + 1) in
    subst (λ z. Cursor (query s) (earlier s) (length_of (arcs_of t)) taken z (chain s) (length (arcs_of t)) (arc_in c.advance-arc.result)) (own-none (chain s) no_number refl)
    (subst (λ h. Cursor (query s) (earlier s) (length_of (arcs_of t)) taken (own_last (chain s) no_number) (chain s) h (arc_in c.advance-arc.result)) (sym (arcs-length t)) c.advance-arc.ensures.0)

others : (s : tie.Start) (i : ℕ) → i < s.args.n + 1 → i ≢ s.args.n → Kept (query s) (earlier s) (chains_in s.args.labels.now (s.args.n + 1)) (chain s) s.args.labels.now i
others s i h ne = s.requires.1.kept i (⊎_elim (λ z. absurd (ne (omega arith))) (λ z. z) (order s.args.n i))

advance-requires : tie.Need-advance-arc-requires
advance-requires c κs =
    let s = c in
    (s.requires.0, omega arith, λ ne. absurd (ne refl), s.requires.2)

store-requires : tie.Need-store-requires
store-requires c κs = let a = c.before.before.before in let s = start a in (s.requires.0.searching, omega arith, below a)

enter-requires : tie.Need-enter-requires
enter-requires c κs =
    let d = c in
    let a = d.before.before.before.before.before.before.before in
    let s = start a in
    let st = s.requires.0.searching.standing in
    let most = lengths-most s.requires.0.searching.accepted in
    let low : s.args.n < s.args.n + 1 = omega arith in (
      comparable-stored (query s) s.args.labels.now (s.args.n + 1) s.args.n a.advance-arc.result st most low (fits a) _ d.store.ensures s.requires.0.searching.comparable,
      omega (arith, st.few),
      tree-stored-before (query s) s.args.labels.now (s.args.n + 1) s.args.n a.advance-arc.result st most low (fits a) _ d.store.ensures s.requires.1.tree,
      first-stored-before (query s) s.args.labels.now (s.args.n + 1) s.args.n a.advance-arc.result st most low (fits a) _ d.store.ensures s.args.root s.requires.1.root,
    )

returns : tie.Need-returns
returns c =
    let u = c in
    let d = u in
    let a = d.before.before.before.before.before.before.before.before.before.before in
    let s = start a in
    let st = s.requires.0.searching.standing in
    let most = lengths-most s.requires.0.searching.accepted in
    let low : s.args.n < s.args.n + 1 = omega arith in (
      settled_only (query s) s.args.labels.now (s.args.n + 1) s.args.n a.advance-arc.result st most low (fits a) _ d.store.ensures (earlier s) (chain s) _ u.enter.ensures.0,
      settled-lists (query s) s.args.labels.now (s.args.n + 1) s.args.n a.advance-arc.result st most low (fits a) _ d.store.ensures (earlier s) (chain s) _ u.enter.ensures.0,
      settled (query s) s.args.labels.now (s.args.n + 1) s.args.n a.advance-arc.result st most low (fits a) _ d.store.ensures (earlier s) (chain s) _ u.enter.ensures.0
          (others s) (right a) _ u.enter.ensures.1 u.enter.ensures.2,
      a.advance-arc.ensures.1,
    )

pub enter_spec : {M : Type 1} → statement M
enter_spec =
    tie.close
    (tie.spec
    (λ c. let s = c in omega (arith, s.requires.0.searching.standing.few))
    advance-requires
    (λ c. let s = start c.before.before.before in omega (arith, s.requires.0.searching.standing.few))
    store-requires
    enter-requires
    (λ c. search rules)
    (λ c. search rules)
    returns)
