-- The end of a search. The working bytes are cleared, and every byte is that of the chains taken up; the round's own slot is blank again, and the area as it was.
use mathlib.Core.Path.{◌≡◌, refl, sym, ap, subst, ◌∙◌, ap₂}
use mathlib.Core.Logic.{◌≢◌}
use mathlib.Core.List.{List, ◌++◌}
use Prim.Native.Nat.{ℕ, pred, ◌+◌, ◌-◌, ◌*◌}
use native.Mathlib.Omega.{arith}
use lib.ListN.{take, drop, replicate, take-append-drop}
use lib.Seq.{drop-drop}
use Rattle.lists.specs.Tests.{up_from}
use Rattle.words.specs.Part.{patch, slot}
use Rattle.net.specs.Round.{Query, answered, unanswered, refused}
use Rattle.labels.specs.Field.{no_number}
use Rattle.labels.specs.Chain.{chain_at, chains_in}
use Rattle.labels.specs.Standing.{Standing}
use Rattle.labels.specs.Rows.{labelled}
use Rattle.labels.proofs.RowLaws.{labelled-none}
use Rattle.search_queue.specs.Only.{Only}
use Rattle.search_queue.proofs.OnlyLaws.{only_same, chain-only, chains-only}
use Rattle.search_clear.specs.Clear.{clear_work}
use Rattle.search_clear.proofs.ClearLaws.{clear-only, clear-same}
use Rattle.round_label.specs.declared.State.{State}
use Rattle.round_label.specs.declared.Stage.{Stage}
use Rattle.round_label.specs.declared.Stage.TheVariants.{GoesOn, Answered, Unanswered, NoRoom}
use Rattle.round_label.specs.Stage.{Over, StageAt, Searched}
use Rattle.round_label.specs.Lists.{Blank, ButSlot}
use Rattle.round_label.proofs.StageLaws.{over-only}
use Rattle.round_search.specs.Search.{Finished}

-- in every stage the labels stand
stage-standing : (k : Stage) (q : Query) (earlier : List (List ℕ)) (l : List ℕ) (y : State) → StageAt k q earlier l y → Standing q.net.arcs q.s l y.n
stage-standing GoesOn q earlier l y h = h.0.standing
stage-standing Answered q earlier l y h = h.1.standing
stage-standing Unanswered q earlier l y h = h.standing
stage-standing NoRoom q earlier l y h = h.standing

pub searched-standing : (q : Query) (earlier : List (List ℕ)) (l l' : List ℕ) (y : State) → Searched q earlier l l' y → Standing q.net.arcs q.s l' y.n
searched-standing q earlier l l' y h = stage-standing y.stage q earlier l' y h.stage

-- a stage at which the search is over stays where only working bytes change
over-stage : (k : Stage) (q : Query) (earlier : List (List ℕ)) {l m : List ℕ} (y : State) → k ≢ GoesOn → Only 20 20 y.n l m → StageAt k q earlier l y → StageAt k q earlier m y
over-stage GoesOn q earlier y ne o h = absurd (ne refl)
over-stage Answered q earlier {l} {m} y ne o h =
    (h.0, subst (λ p. Over q earlier m y.n (answered p y.n)) (sym (chain-only o (pred y.n))) (over-only o q earlier y.n (answered (chain_at l (pred y.n)) y.n) h.1))
over-stage Unanswered q earlier y ne o h = over-only o q earlier y.n (unanswered y.n) h
over-stage NoRoom q earlier y ne o h = over-only o q earlier y.n refused h

pub finished : (q : Query) (earlier : List (List ℕ)) (l l' : List ℕ) (y : State) → y.stage ≢ GoesOn → Searched q earlier l l' y → (r : List ℕ) → r ≡ clear_work y.n l' → Finished q earlier l r y
unfolding chains_in up_from
finished q earlier l l' y ne h r e =
    let o : Only 20 20 y.n l' r = subst (Only 20 20 y.n l') (sym e) (clear-only y.n l') in
    record {
      stage = over-stage y.stage q earlier y ne o h.stage;
      bytes = e
          ∙ clear-same y.n (labelled q.net q.s earlier l (chains_in l' y.n)) l' (h.keeps l (subst (λ b. Only 20 20 0 b l) (sym (labelled-none q.net q.s earlier l)) (only_same 20 20 0 l)))
          ∙ ap (λ ps. clear_work y.n (labelled q.net q.s earlier l ps)) (sym (chains-only o y.n));
    }

-- the slot is blank again
pub blank-again : (w r : ℕ) (area area' : List ℕ) → Blank w r area → ButSlot w r area area' → patch (r * w) (r * w + w) area' (replicate (r * w + w - r * w) no_number) ≡ area
unfolding patch slot
blank-again w r area area' k b =
    let n : r * w + w - r * w ≡ w = omega arith in
    ap₂ (λ x y. x ++ (replicate (r * w + w - r * w) no_number ++ y)) b.front (b.back ∙ sym (drop-drop w (r * w) area))
    ∙ ap (λ x. take (r * w) area ++ (x ++ drop w (drop (r * w) area))) (ap (λ i. replicate i no_number) n ∙ sym k.blank)
    ∙ ap (λ x. take (r * w) area ++ x) (take-append-drop w (drop (r * w) area))
    ∙ take-append-drop (r * w) area
