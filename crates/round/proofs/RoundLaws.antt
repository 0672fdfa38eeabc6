-- What a round leaves, from how its search ended: the labels' bytes are those of what is counted, and of the route area only the answer's slot changes. The
-- search says it of its state's n labels, and as many labels are held; the answer is the chain of the last of them.
use mathlib.Core.Path.{◌≡◌, refl, sym, ap, subst, ◌∙◌}
use mathlib.Core.Logic.{◌≢◌}
use mathlib.Core.List.{List, []}
use Prim.Native.Nat.{ℕ, pred, ◌+◌, ◌-◌, ◌*◌, ◌≤◌, ◌<◌}
use native.Mathlib.Omega.{arith}
use lib.ListN.{length, get_or, length-take}
use lib.Seq.{get_or-take}
use Rattle.lists.proofs.LoopLaws.{length-map-up_from}
use borrow.Rule.Slice.PartMut.{put_mid, mid_of}
use Rattle.words.specs.Part.{patch}
use Rattle.words.proofs.PartLaws.{back, lent}
use Rattle.net.specs.Round.{Query, counted, Ending, answered, unanswered, refused}
use Rattle.net.specs.Labels.{held}
use Rattle.labels.specs.Field.{length_at, overlaps_at}
use Rattle.labels.specs.Chain.{chain_at, chains_in, label_at, labels_in, slot_of}
use Rattle.labels.specs.Standing.{Standing}
use Rattle.labels.specs.Rows.{overlaps_of, labelled}
use Rattle.labels.proofs.StoreLaws.{length-chains_in, get_or-chains_in}
use Rattle.search_clear.specs.Clear.{clear_work}
use Rattle.round_label.specs.declared.State.{State}
use Rattle.round.specs.declared.Ended.{Ended}
use Rattle.round.specs.declared.Ended.TheVariants.{Answer, NoAnswer, Refused}
use Rattle.round.specs.Round.{shown, area_after, Rounded}
use Rattle.round_label.specs.declared.Stage.{Stage}
use Rattle.round_label.specs.declared.Stage.TheVariants.{GoesOn, Answered, Unanswered, NoRoom}
use Rattle.round_label.specs.Stage.{StageAt, Over}
use Rattle.round_search.specs.Search.{Finished}

length-labels_in : (l : List ℕ) (n : ℕ) → length (labels_in l n) ≡ n
unfolding labels_in
length-labels_in l n = length-map-up_from (label_at l) 0 n

-- at the end the labels stand
pub finished-standing : (q : Query) (earlier : List (List ℕ)) (l l' : List ℕ) (y : State) → y.stage ≢ GoesOn → Finished q earlier l l' y → Standing q.net.arcs q.s l' y.n
finished-standing q earlier l l' y ne h = go y.stage ne h.stage
  where
    go : (k : Stage) → k ≢ GoesOn → StageAt k q earlier l' y → Standing q.net.arcs q.s l' y.n
    go GoesOn a w = absurd (a refl)
    go Answered a w = w.1.standing
    go Unanswered a w = w.standing
    go NoRoom a w = w.standing

-- what the call that was lent the slot leaves in the area
pub slot-written : (w r : ℕ) (area p ys : List ℕ) → r * w + w ≤ length area → ys ≡ slot_of (length (mid_of (r * w) (r * w + w - r * w) area)) p
    → put_mid (r * w) (r * w + w - r * w) area ys ≡ patch (r * w) (r * w + w) area (slot_of w p)
slot-written w r area p ys h e =
    let n : length (mid_of (r * w) (r * w + w - r * w) area) ≡ w = lent (r * w) (r * w + w) area (omega arith) h ∙ omega arith in
    back (r * w) (r * w + w) area ys (omega arith) ∙ ap (patch (r * w) (r * w + w) area) (e ∙ ap (λ k. slot_of k p) n)

module _ (q : Query) (earlier : List (List ℕ)) (w r : ℕ) (area l l' : List ℕ) (y : State) (h : Finished q earlier l l' y) where
  -- label i holds the overlaps of the i-th that is counted
  over-held : {e : Ending} → Over q earlier l' y.n e → (i : ℕ) → i < y.n → overlaps_at l' i (length earlier) ≡ overlaps_of q.net earlier (get_or (counted q earlier) i [])
  over-held o i b =
      let within : i < q.room = omega (arith, ap length o.chains, length-chains_in l' y.n, length-take q.room (counted q earlier)) in
      o.holding.overlaps i b
      ∙ ap (overlaps_of q.net earlier) (sym (get_or-chains_in l' y.n i b) ∙ ap (λ ps. get_or ps i []) o.chains ∙ get_or-take q.room (counted q earlier) i [] within)

  -- over any area that is as the ending says
  rounded : (e : Ending) (x : Ended) (area' : List ℕ) → Over q earlier l' y.n e → x ≡ shown q e → area' ≡ area_after w r area e → Rounded q earlier w r area area' l l' x
  rounded e x area' o s k =
      let n : length (held q earlier) ≡ y.n = ap length (sym o.holds) ∙ length-labels_in l' y.n in
      record {
        ends = s ∙ ap (shown q) (sym o.ends);
        holds = ap (labels_in l') n ∙ o.holds;
        overlaps = λ i b. over-held o i (omega (arith, n));
        bytes = h.bytes ∙ ap (λ z. clear_work z (labelled q.net q.s earlier l (chains_in l' y.n))) (sym n) ∙ ap (λ ps. clear_work (length (held q earlier)) (labelled q.net q.s earlier l ps)) o.chains;
        slot = k ∙ ap (area_after w r area) (sym o.ends);
      }

  pub rounded-none : y.stage ≡ Unanswered → Rounded q earlier w r area area l l' (NoAnswer y.n)
  unfolding shown area_after
  rounded-none e = rounded (unanswered y.n) (NoAnswer y.n) area (subst (λ k. StageAt k q earlier l' y) e h.stage) refl refl

  pub rounded-refused : y.stage ≡ NoRoom → Rounded q earlier w r area area l l' Refused
  unfolding shown area_after
  rounded-refused e = rounded refused Refused area (subst (λ k. StageAt k q earlier l' y) e h.stage) refl refl

  -- an answer: the last label's chain
  module _ (at : y.stage ≡ Answered) where
    pub last-label : (y.n ≢ 0) × Over q earlier l' y.n (answered (chain_at l' (pred y.n)) y.n)
    last-label = subst (λ k. StageAt k q earlier l' y) at h.stage

    module _ (i : ℕ) (is : i ≡ y.n - 1) where
      before : pred y.n ≡ i
      before = omega arith

      pub last-over : Over q earlier l' y.n (answered (chain_at l' i) y.n)
      last-over = subst (λ j. Over q earlier l' y.n (answered (chain_at l' j) y.n)) before last-label.1

      pub rounded-answer : (area' : List ℕ) → area' ≡ patch (r * w) (r * w + w) area (slot_of w (chain_at l' i)) → (len arcs : ℕ) → len ≡ length_at l' i → arcs ≡ length (chain_at l' i)
          → Rounded q earlier w r area area' l l' (Answer len arcs y.n)
      unfolding shown area_after
      rounded-answer area' e len arcs a b =
          let less : i < y.n = omega (arith, last-label.0) in
          rounded (answered (chain_at l' i) y.n) (Answer len arcs y.n) area' last-over (cc (a, b, last-over.standing.lengths i less)) e
