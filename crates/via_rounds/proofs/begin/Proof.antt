-- The slots are filled with the number that is no arc's; the room is prepared and its queue made, which changes nothing that a candidate is read from.
use mathlib.Core.Path.{sym, ap, ◌∙◌}
use borrow.Author.Rules.{rules}
use Rattle.search_ask.specs.Ask.{net_for, width}
use Rattle.query_rounds.proofs.AreaLaws.{area-blank}
use Rattle.via_chains.proofs.ChainsLaws.{prepared-beside}
use Rattle.via_rounds.proofs.BesideLaws.{key-same, queue-beside}
use Rattle.via_rounds.proofs.begin.Statement.{statement}
use Rattle.via_rounds.proofs.begin.Tie as tie

abbrev start : tie.After-prepare → tie.Start
start a = a.before.before.before.before.before.before.before.before.before.before.before.before

prepare-requires : tie.Need-prepare-requires
prepare-requires c κs = let s = c in (s.requires.accepted, s.requires.right, s.requires.roomy)

line-up-requires : tie.Need-line_up-requires
line-up-requires c κs =
    let p = c in
    (p.requires.accepted, p.prepare.ensures.1)

abbrev prepared : tie.After-slice_known-5-1 → tie.After-prepare
prepared c = c.before.before.before.before.before.before

returns : tie.Need-returns
returns c =
    let p = prepared c in
    let s = start p in
    let u = c.line_up in
    let l = p.prepare.new.room in
    let m = u.new.room in
    let b = queue-beside l m u.ensures.0 in
    let net = net_for s.args.ask s.args.table.now s.args.closed.now in
    record {
      area = p.fill_part.ensures ∙ area-blank (width s.args.ask) s.args.k s.args.area.now;
      long = b.long ∙ p.prepare.ensures.0;
      prepared = prepared-beside net s.args.ask.s s.args.ask.goal l m b.field b.long p.prepare.ensures.1;
      queue = u.ensures.1;
      keys = λ v h. u.ensures.2 v h ∙ ap (λ f. f v) (sym (key-same l m b s.args.ask.nodes));
    }

pub begin_spec : {M : Type 1} → statement M
begin_spec =
    tie.close
    (tie.spec
    (λ c. search rules)
    (λ c. search rules)
    (λ c. search rules)
    (λ c κs. search rules)
    prepare-requires
    line-up-requires
    (λ c. search rules)
    (λ c. search rules)
    returns)
