-- What the scan reads is one of four kinds of line, and each is said in its own way. An arc line has no node 0.
use mathlib.Core.Path.{sym, ap, ◌∙◌}
use borrow.Author.Rules.{rules}
use Rattle.road_line.specs.Scan.{line_is}
use Rattle.road_line.proofs.NodeLaws.{read-nodes}
use Rattle.road_file.specs.Reader.{said_by}
use Rattle.road_file.proofs.end_line.Statement.{statement}
use Rattle.road_file.proofs.end_line.Tie as tie

-- the line that the scan reads
abbrev start : tie.After-ended-line → tie.Start
start c = c.before.before

returns : tie.Need-returns-in-Comment
unfolding said_by
returns c =
    let t = c.before in
    let a = t.before in
    c.pass.ensures ∙ ap (said_by (start a).args.r) (sym (sym a.ended-line.ensures ∙ ap line_is t.in-Comment.is))

returns-2 : tie.Need-returns-in-Sizes
unfolding said_by
returns-2 c =
    let l = c.before in
    let a = l.before in
    c.size.ensures ∙ ap (said_by (start a).args.r) (sym (sym a.ended-line.ensures ∙ ap line_is l.in-Sizes.is))

returns-3 : tie.Need-returns-in-Arc
unfolding said_by
returns-3 c =
    let l = c.before in
    let a = l.before in
    c.extend.ensures ∙ ap (said_by (start a).args.r) (sym (sym a.ended-line.ensures ∙ ap line_is l.in-Arc.is))

returns-4 : tie.Need-returns-in-Other
unfolding said_by
returns-4 c =
    let t = c.before in
    let a = t.before in
    c.refuse.ensures ∙ ap (said_by (start a).args.r) (sym (sym a.ended-line.ensures ∙ ap line_is t.in-Other.is))

extend-requires : tie.Need-extend-requires
extend-requires c κs =
    let a = c.before in
    read-nodes (start a).args.r.scan _ _ _ (sym a.ended-line.ensures ∙ ap line_is c.in-Arc.is)

pub end_line_spec : {M : Type 1} → statement M
end_line_spec =
    tie.close
    (tie.spec
    (λ c κs. search rules)
    (λ c. search rules)
    (λ c κs. search rules)
    (λ c. search rules)
    (λ c κs. search rules)
    (λ c. search rules)
    extend-requires
    (λ c. search rules)
    (λ c κs. search rules)
    returns
    returns-2
    returns-3
    returns-4)
