-- At s the first label covers everything (`covered_start`); elsewhere the node's list tells (`covered-listed`).
use mathlib.Core.Path.{◌≡◌, sym, ap, ◌∙◌}
use native.Mathlib.Omega.{arith}
use lib.ListN.{length, get_or}
use borrow.Author.Rules.{rules}
use Rattle.lists.specs.Tests.{any}
use Rattle.search_lists.specs.Link.{list_at}
use Rattle.search_lists.specs.Listed.{head_of, head_at, none_greater}
use Rattle.search_lists.proofs.ListedLaws.{covered-listed, covered_start}
use Rattle.search_lists.proofs.covered.Statement.{statement}
use Rattle.search_lists.proofs.covered.Tie as tie

abbrev start : tie.After-struct_known-1 → tie.Start
start c = c.before.before.before.before

abbrev tested : tie.After-head → tie.Else-end-ask
tested c = c.before.before.before

returns : tie.Need-returns-then-end-ask
returns c =
    let s = start c.before in
    sym (covered_start s.args.own.now s.requires.0 s.args.end s.requires.1 c.if-end-ask.true)

-- the head that is read
head-is : (c : tie.After-head) → let s = start (tested c).before in c.head.result ≡ head_at s.args.ask (length s.args.own.now) s.args.area.now s.args.end
head-is c =
    let s = start (tested c).before in
    c.head.ensures ∙ ap (λ p. head_of (get_or s.args.area.now p 0)) c.place-place.ensures.0

has-covering-requires : tie.Need-has_covering-requires
has-covering-requires c κs =
    let s = start (tested c).before in
    (s.requires.0.linked, omega (arith, head-is c, s.requires.0.below s.args.end s.requires.3 (tested c).if-end-ask.false), s.requires.2)

returns-2 : tie.Need-returns
returns-2 c =
    let s = start (tested c.before).before in
    c.has_covering.ensures
    ∙ ap (λ h. any (λ k. none_greater s.args.labels.now k s.args.own.now) (list_at s.args.labels.now h)) (head-is c.before)
    ∙ covered-listed s.args.own.now s.requires.0 s.args.end s.requires.3 (tested c.before).if-end-ask.false

pub covered_spec : {M : Type 1} → statement M
covered_spec =
    tie.close
    (tie.spec
    returns
    (λ c κs. search rules)
    (λ c. search rules)
    (λ c. search rules)
    (λ c κs. search rules)
    has-covering-requires
    returns-2)
