-- A turn feeds one byte more, and puts the arc that it may have brought behind the others: `fill-next`. There is room, since the whole text has as many arcs.
use Rattle.std.proofs.Common.{◌≡◌, ◌+◌, ◌≤◌, sym, ap, ap₂, length, get_or, arith, ◌∙◌}
use lib.Seq.{take_all}
use Rattle.road_file.specs.File.{Fed, unfed, feed, feed_byte}
use Rattle.road_file.specs.Reader.{reader_of, fed_by}
use Rattle.road_file.proofs.FeedLaws.{fed-is}
use Rattle.road_file.proofs.GrowLaws.{fed_to, fed-next}
use Rattle.road_fill.specs.Filled.{filled, place_next}
use Rattle.road_fill.proofs.FillLaws.{filled_none, byte-rises, text-rises, fill-next}
use Rattle.road_fill.proofs.fill.fill.Goals as goal

pub loop-byte-init : goal.loop-byte-init
unfolding feed
loop-byte-init c = (c.begin-r.ensures, sym (filled_none _))

pub place_next-requires : goal.place_next-requires
place_next-requires c =
    let a = c.loop-byte in
    let text = c.args.text.now in
    let x : Fed = fed_to text a.byte-index in
    let b = get_or text a.byte-index 0 in
    let more : fed_to text (a.byte-index + 1) ≡ feed_byte x b = fed-next text a.byte-index (omega arith) in
    let fed : c.feed-r.result ≡ reader_of (feed_byte x b) = c.feed-r.ensures ∙ ap (λ r. fed_by r b) a.invariant.0 ∙ fed-is x b in
    let count : c.feed-r.result.count ≡ length (feed_byte x b).said.arcs = ap (λ r. r.count) fed in
    let before : a.r.count ≡ length x.said.arcs = ap (λ r. r.count) a.invariant.0 in
    let there : length (feed_byte x b).said.arcs ≤ length (feed unfed text).said.arcs =
    omega (arith, text-rises text (a.byte-index + 1), ap (λ y. length y.said.arcs) more) in
    (omega (arith, c.requires, count, there), omega (arith, count, before, byte-rises x b))

pub loop-byte-preserved : goal.loop-byte-preserved
loop-byte-preserved c =
    let a = c.loop-byte in
    let text = c.args.text.now in
    let t = c.args.table.now in
    let x : Fed = fed_to text a.byte-index in
    let b = get_or text a.byte-index 0 in
    let more : fed_to text (a.byte-index + 1) ≡ feed_byte x b = fed-next text a.byte-index (omega arith) in
    let fed : c.feed-r.result ≡ reader_of (feed_byte x b) = c.feed-r.ensures ∙ ap (λ r. fed_by r b) a.invariant.0 ∙ fed-is x b in
    let there : length (feed_byte x b).said.arcs ≤ length (feed unfed text).said.arcs =
    omega (arith, text-rises text (a.byte-index + 1), ap (λ y. length y.said.arcs) more) in
    let placed : c.place_next.new.table ≡ filled (feed_byte x b).said.arcs t =
    c.place_next.ensures
    ∙ ap₂ (λ n r. place_next a.table n r) (ap (λ r. r.count) a.invariant.0) fed
    ∙ ap (λ l. place_next l (length x.said.arcs) (reader_of (feed_byte x b))) a.invariant.1
    ∙ fill-next x b t (omega (arith, c.requires, there)) in
    (fed ∙ ap reader_of (sym more), placed ∙ ap (λ y. filled y.said.arcs t) (sym more))

pub returns : goal.returns
returns c = c.loop-byte.invariant.1 ∙ ap (λ x. filled (feed unfed x).said.arcs c.args.table.now) (take_all c.loop-byte.byte-index c.args.text.now (omega arith))
