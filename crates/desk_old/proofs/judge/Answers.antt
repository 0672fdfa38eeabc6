-- The refusal is that of the ask of the five numbers, over labels and an area of zeros.
use Rattle.std.proofs.Common.{◌*◌, ap, ◌∙◌, false, [], replicate}
use Rattle.net.specs.Limits.{most_routes}
use Rattle.labels.specs.Field.{label_bytes}
use Rattle.query.specs.Query.{asked, refused_of}
use Rattle.desk_text.specs.Desk.{desk_labels, desk_words}
use Rattle.desk_old.proofs.judge.Goals as goal

pub returns : goal.returns
returns c =
    c.refused.ensures
    ∙ ap (λ k. refused_of (asked c.args.table.now [] k (record { k = c.args.x.k; lent = most_routes; closing = false }) (replicate (desk_labels * label_bytes) 0) (replicate desk_words 0)))
    c.ask_of-ask.ensures
