-- A turn feeds one byte more: the reader's step is `fed-is`, the pick's `pick_next_lem`.
use Rattle.std.proofs.Common.{◌≡◌, ◌+◌, refl, sym, ap, ap₂, subst, get_or, arith, ◌∙◌}
use lib.Seq.{take_all}
use Rattle.road_order.specs.Lowest.{picked}
use Rattle.road_file.specs.File.{Fed, unfed, feed, feed_byte}
use Rattle.road_file.specs.Reader.{reader_of, fed_by}
use Rattle.road_file.proofs.FeedLaws.{fed-is}
use Rattle.road_file.proofs.GrowLaws.{Begun, fed_to, fed-next, begun_kept}
use Rattle.road_judge.specs.Judged.{pick_of, pick_in, pick_next}
use Rattle.road_judge.proofs.JudgeLaws.{pick_next_lem}
use Rattle.road_judge.proofs.judge_text.Goals as goal

pub loop-byte-init : goal.loop-byte-init
unfolding feed picked
loop-byte-init c = (c.begin-reader.ensures, refl, (λ e. refl))

pub loop-byte-preserved : goal.loop-byte-preserved
loop-byte-preserved c =
    let a = c.loop-byte in
    let text = c.args.text.now in
    let x : Fed = fed_to text a.byte-index in
    let b = get_or text a.byte-index 0 in
    let more : fed_to text (a.byte-index + 1) ≡ feed_byte x b = fed-next text a.byte-index (omega arith) in
    let fed : c.feed-reader.result ≡ reader_of (feed_byte x b) = c.feed-reader.ensures ∙ ap (λ r. fed_by r b) a.invariant.0 ∙ fed-is x b in
    let judged : pick_of c.judge_next-faulty.result ≡ pick_in (feed_byte x b) =
    c.judge_next-faulty.ensures ∙ ap₂ (λ n r. pick_next (pick_of a.faulty) n r) (ap (λ r. r.count) a.invariant.0) fed
    ∙ pick_next_lem x b (pick_of a.faulty) a.invariant.2 a.invariant.1 in
    (fed ∙ ap reader_of (sym more), judged ∙ ap pick_in (sym more), subst (λ y. Begun y.said) (sym more) (begun_kept x b a.invariant.2))

pub returns : goal.returns
returns c =
    let a = c.loop-byte in
    let whole : fed_to c.args.text.now a.byte-index ≡ feed unfed c.args.text.now = ap (feed unfed) (take_all a.byte-index c.args.text.now (omega arith)) in
    (a.invariant.0 ∙ ap reader_of whole, a.invariant.1 ∙ ap pick_in whole)
