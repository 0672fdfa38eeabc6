-- The first part of the first rank has no gap before it, nor has a record that comes right after the one just before it; of any other the whole file tells.
use mathlib.Core.Path.{◌≡◌, sym, ap, ◌∙◌}
use mathlib.Core.Bool.{not, true}
use Rattle.std.proofs.Common.{arith}
use Rattle.plan_file.proofs.FileLaws.{gap-first, gap-follows, gap-scan}
use Rattle.plan_file.proofs.gap.Goals as goal
use Rattle.plan_file.proofs.gap.Goals.{then-first, else-first, then-next, else-next}

pub returns : goal.returns
returns c =
    let f = c.args.file.now in
    let i = c.args.i in
    elim c.if-next.branch [
      | then-next w ↦
          let t : c.if-next.result ≡ true = cc in
          rw t
          (elim c.if-first.branch [
            | then-first v ↦ sym (gap-first f i (cc))
            | else-first v ↦
                let n = v.next.ensures (cc) in
                sym (gap-follows f i _ (omega arith) n.1)
          ])
      | else-next w ↦
          elim c.if-first.branch [
            | then-first v ↦ cc
            | else-first v ↦ ap not (w.result-is ∙ w.led.ensures) ∙ sym (gap-scan f i (sym c.first.ensures ∙ v.if-first.false))
          ]
    ]
