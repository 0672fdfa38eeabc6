-- The key stored leaves the tree right but for node v (`key-but`), and where it fell, right by the keys before (`key-fell`); the winners over it made anew leave all
-- keys (`key_set`).
use native.Mathlib.Omega.{arith}
use borrow.Author.Rules.{rules}
use Rattle.node_queue.proofs.WinnerLaws.{room_at, roomy-kept}
use Rattle.node_queue.proofs.KeyLaws.{key-within, key-but, key-fell, key_set}
use Rattle.node_queue.proofs.set_key.Statement.{statement}
use Rattle.node_queue.proofs.set_key.Tie as tie

abbrev start : tie.After-put_long → tie.Start
start c = c.before.before.before.before

update-requires : tie.Need-update-requires
update-requires c κs =
    let p = c.before.before.before.before in
    let s = start p in
    (roomy-kept (key-within _ _ _ _ p.put_long.ensures) s.requires.0, s.requires.1, key-but _ _ _ _ p.put_long.ensures _ s.requires.2)

returns : tie.Need-returns-then-old-x
returns c =
    let u = c.before.before in
    let p = u.before.before.before.before.before in
    let s = start p in
    key_set _ _ _ _ p.put_long.ensures _ s.requires.0 s.requires.1 (omega arith) _ u.update.ensures.0 _ u.update.ensures.1 u.update.ensures.2

lower-requires : tie.Need-lower-requires
lower-requires c κs =
    let p = c.before.before.before.before in
    let s = start p in
    let f = key-fell _ _ _ _ p.put_long.ensures _ s.requires.0 s.requires.1 (omega arith) (omega (arith, c.before.if-old-x.false, p.before.before.long-old.ensures)) s.requires.2 in
    (roomy-kept (key-within _ _ _ _ p.put_long.ensures) s.requires.0, s.requires.1, f.0, f.1)

returns-2 : tie.Need-returns
returns-2 c =
    let u = c.before.before in
    let p = u.before.before.before.before.before in
    let s = start p in
    key_set _ _ _ _ p.put_long.ensures _ s.requires.0 s.requires.1 (omega arith) _ u.lower.ensures.0 _ u.lower.ensures.1 u.lower.ensures.2

pub set_key_spec : {M : Type 1} → statement M
set_key_spec =
    tie.close
    (tie.spec
    (λ c κs. (room_at c.before.requires.0 _ c.before.requires.1, omega arith))
    (λ c κs. search rules)
    update-requires
    (λ c. search rules)
    returns
    lower-requires
    (λ c. search rules)
    returns-2)
