-- What is kept after the whole text was fed is that of the text.
use mathlib.Core.Path.{ap, ◌∙◌}
use lib.ListN.{replicate}
use borrow.Author.Rules.{rules}
use Rattle.desk_feed.specs.Taken.{first_bytes, table_bytes, state, state_from, state_of}
use Rattle.desk_text.specs.Finished.{KeptOf}
use Rattle.desk_text.proofs.FinishLaws.{room}
use Rattle.desk_text.proofs.answer.Statement.{statement}
use Rattle.desk_text.proofs.answer.Tie as tie

abbrev start : tie.After-feed-x → tie.Start
start f = f.before.before.before.before.before.before

kept : (f : tie.After-feed-x) → KeptOf f.feed-x.result f.feed-x.new.first f.feed-x.new.table f.args.text.now
unfolding state_of
kept f =
    let b = f in
    f.feed-x.ensures ∙ ap (λ x. state_from (state x (replicate first_bytes 0) (replicate table_bytes 0)) f.args.text.now) b.begin.ensures

pub answer_spec : {M : Type 1} → statement M
answer_spec =
    tie.close
    (tie.spec
    (λ c κs. search rules)
    (λ c. search rules)
    (λ c. search rules)
    (λ c κs. room table_bytes)
    (λ c. search rules)
    (λ c. search rules)
    (λ c κs. let f = c.before.before.before.before.before in (f.requires, (f.args.text.now, kept f)))
    (λ c. search rules)
    (λ c. let n = c in let f = n.before.before.before.before.before.before.before.before.before in n.finish.ensures _ (kept f)))
