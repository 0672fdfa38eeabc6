-- Each field lies within the label, and the label within the slice by what is required; a store leaves the length. The six stores, one over the
-- other, are what `put_head` is.
use borrow.Author.Rules.{rules}
use Rattle.labels.proofs.StoreLaws.{head-put}
use Rattle.labels.proofs.field.put_head.Statement.{statement}
use Rattle.labels.proofs.field.put_head.Tie as tie

returns : tie.Need-returns
returns c =
    let depth = c.before.before in
    let end = depth.before.before.before.before in
    let len = end.before.before.before.before in
    let far = len.before.before.before.before in
    let extends = far.before.before.before.before in
    let arc = extends.before.before.before.before in
    let d = arc.before.before in
    let s = d.before.before.before in
    head-put s.args.labels.now _ _ _ _ _ _ s.args.label s.args.arc s.args.extends _ s.args.len s.args.end _ d.before.far_of-far.ensures d.depth_of-depth.ensures
    arc.write32.ensures extends.write16.ensures far.write16-2.ensures len.write64.ensures end.write16-3.ensures depth.write16-4.ensures

pub put_head_spec : {M : Type 1} → statement M
put_head_spec =
    tie.close
    (tie.spec
    (λ c κs. search rules)
    (λ c κs. search rules)
    (λ c. search rules)
    (λ c. search rules)
    (λ c κs. search rules)
    (λ c. search rules)
    (λ c κs. search rules)
    (λ c. search rules)
    (λ c κs. search rules)
    (λ c. search rules)
    (λ c κs. search rules)
    (λ c. search rules)
    (λ c κs. search rules)
    (λ c. search rules)
    (λ c κs. search rules)
    (λ c. search rules)
    returns)
