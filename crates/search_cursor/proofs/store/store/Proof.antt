-- What is put is the arc and its key: the candidate's length, or that of none. An arc's number fits 32 bits.
use mathlib.Core.Path.{sym, ap, ◌∙◌}
use native.Mathlib.Omega.{arith}
use borrow.Author.Rules.{rules}
use Rattle.table.specs.Table.{arcs_of}
use Rattle.labels.specs.Chain.{chain_at}
use Rattle.search_ask.proofs.AskLaws.{few-records}
use Rattle.search_queue.specs.Working.{put_own}
use Rattle.search_cursor.proofs.QueueLaws.{key-some, key-none}
use Rattle.search_cursor.proofs.store.store.Statement.{statement}
use Rattle.search_cursor.proofs.store.store.Tie as tie

abbrev start : tie.Else-arc-eq-NO_ARC → tie.Start
start e = e.before.before.before

returns : tie.Need-returns-then-arc-eq-NO_ARC
returns c =
    let p = c in
    let s = p in
    p.put_own.ensures
    ∙ ap (put_own s.args.labels.now s.args.c.label s.args.c.arc) (sym (key-none (arcs_of s.args.table.now) (chain_at s.args.labels.now s.args.c.label) s.args.c.arc p.if-arc-eq-NO_ARC.true))

length-of-requires : tie.Need-length_of-key-requires
length-of-requires c κs =
    let s = start c in
    (s.requires.0, record { label-below = s.requires.1; arc-below = s.requires.2 c.if-arc-eq-NO_ARC.false })

returns-2 : tie.Need-returns
returns-2 c =
    let p = c in
    let l = p in
    let e = l.before.before.before.before.before in
    let s = start e in
    p.put_own-2.ensures
    ∙ ap (put_own s.args.labels.now s.args.c.label s.args.c.arc)
    (l.length_of-key.ensures ∙ sym (key-some (arcs_of s.args.table.now) (chain_at s.args.labels.now s.args.c.label) s.args.c.arc e.if-arc-eq-NO_ARC.false))

pub store_spec : {M : Type 1} → statement M
store_spec =
    tie.close
    (tie.spec
    (λ c. search rules)
    (λ c κs. search rules)
    (λ c. search rules)
    returns
    length-of-requires
    (λ c. let e = c in omega (arith, few-records e.requires.0.accepted, e.requires.2 e.if-arc-eq-NO_ARC.false))
    (λ c κs. search rules)
    (λ c. search rules)
    returns-2)
