-- A turn feeds one byte more: the reader's step is `fed-is`, the rank's `rank-next`. The rank fits, since it is at most the number of arcs, which does.
use Rattle.std.proofs.Common.{◌≡◌, ℕ, ◌+◌, ◌<◌, refl, sym, ap, ap₂, length, get_or, arith, ◌∙◌}
use lib.Seq.{take_all}
use Rattle.road_order.specs.Lowest.{rank_from, rank}
use Rattle.road_file.specs.File.{Fed, unfed, feed, feed_byte}
use Rattle.road_file.specs.Reader.{reader_of, fed_by}
use Rattle.road_file.proofs.FeedLaws.{fed-is}
use Rattle.road_file.proofs.GrowLaws.{fed_to, fed-next}
use Rattle.road_judge.specs.Judged.{pick_at, stands_next}
use Rattle.road_judge.proofs.JudgeLaws.{rank-next, rank-at-most}
use Rattle.road_judge.proofs.rank_text.Goals as goal
use Rattle.road_judge.proofs.rank_text.Goals.{After-stands_next-n}

-- the reader and the sum after this byte
fed : (c : After-stands_next-n) → c.feed-r.result ≡ reader_of (feed_byte (fed_to c.args.text.now c.loop-byte.byte-index) (get_or c.args.text.now c.loop-byte.byte-index 0))
fed c =
    let x : Fed = fed_to c.args.text.now c.loop-byte.byte-index in
    let b = get_or c.args.text.now c.loop-byte.byte-index 0 in
    c.feed-r.ensures ∙ ap (λ r. fed_by r b) c.loop-byte.invariant.0 ∙ fed-is x b

sum : (c : After-stands_next-n) (f : ℕ)
    → c.loop-byte.n + c.stands_next-n.result ≡ rank (pick_at f c.args.place) (feed_byte (fed_to c.args.text.now c.loop-byte.byte-index) (get_or c.args.text.now c.loop-byte.byte-index 0)).said.arcs
sum c f =
    let x : Fed = fed_to c.args.text.now c.loop-byte.byte-index in
    let b = get_or c.args.text.now c.loop-byte.byte-index 0 in
    ap₂ ◌+◌ (c.loop-byte.invariant.1 f) (c.stands_next-n.ensures ∙ ap₂ (λ n r. stands_next c.args.place n r) (ap (λ r. r.count) c.loop-byte.invariant.0) (fed c))
    ∙ rank-next x b f c.args.place

pub loop-byte-init : goal.loop-byte-init
unfolding feed rank rank_from
loop-byte-init c = (c.begin-r.ensures, λ f. refl)

pub overflow_add-n : goal.overflow_add-n
overflow_add-n c =
    let y = (feed_byte (fed_to c.args.text.now c.loop-byte.byte-index) (get_or c.args.text.now c.loop-byte.byte-index 0)).said.arcs in
    let count : c.feed-r.result.count ≡ length y = ap (λ r. r.count) (fed c) in
    let fits : c.feed-r.result.count < 4294967296 = omega (arith, c.feed-r.type_inv) in
    let small : c.loop-byte.n + c.stands_next-n.result < 4294967296 = omega (arith, sum c 0, count, rank-at-most (pick_at 0 c.args.place) y, fits) in
    record { fits = small }

pub loop-byte-preserved : goal.loop-byte-preserved
loop-byte-preserved c =
    let text = c.args.text.now in
    let b = get_or text c.loop-byte.byte-index 0 in
    let more : fed_to text (c.loop-byte.byte-index + 1) ≡ feed_byte (fed_to text c.loop-byte.byte-index) b = fed-next text c.loop-byte.byte-index (omega arith) in
    (fed c ∙ ap reader_of (sym more), λ f. sum c f ∙ ap (λ y. rank (pick_at f c.args.place) y.said.arcs) (sym more))

pub returns : goal.returns
returns c f =
    c.loop-byte.invariant.1 f
    ∙ ap (λ x. rank (pick_at f c.args.place) (feed unfed x).said.arcs) (take_all c.loop-byte.byte-index c.args.text.now (omega arith))
