-- A turn adds what the next arc shares (`overlap-turn`), and the total is at most 65,536 times 1,000,000, as the overlap of any part of a route is.
use Rattle.std.proofs.Common.{refl, ap, ap₂, ◌∙◌, [], ◌+◌, arith}
use Rattle.std.proofs.Math.Seq.{take_all}
use Rattle.lists.specs.Tests.{keep}
use Rattle.net.specs.Route.{length_of, overlap}
use Rattle.search_ask.specs.Ask.{net_for}
use Rattle.search_ask.specs.Earlier.{route_in}
use Rattle.search_ask.proofs.AskLaws.{few-records, lengths-most}
use Rattle.ratios.proofs.ShareLaws.{overlap-turn, overlap-room}
use Rattle.ratios.proofs.share.overlap.Goals as goal

pub loop-arc-init : goal.loop-arc-init
unfolding overlap length_of keep
loop-arc-init c = refl

pub shared-total-requires : goal.shared-total-requires
shared-total-requires c =
    let r = c.requires in
    (r.0, r.1 c.loop-arc.arc-index (omega arith), λ i j le h e. absurd (omega (arith, e, r.3 i (omega arith), few-records r.0)))

pub overflow_add-total : goal.overflow_add-total
overflow_add-total c =
    let net = net_for c.args.ask c.args.table.now [] in
    let i = c.loop-arc.arc-index in
    let more = ap₂ ◌+◌ c.loop-arc.invariant c.shared-total.ensures ∙ overlap-turn net c.args.q.now (route_in c.args.p.now) i (omega arith) in
    omega (arith, more, overlap-room net (lengths-most c.requires.0) c.args.q.now (route_in c.args.p.now) i (omega arith) c.requires.2)

pub loop-arc-preserved : goal.loop-arc-preserved
loop-arc-preserved c =
    ap₂ ◌+◌ c.loop-arc.invariant c.shared-total.ensures
    ∙ overlap-turn (net_for c.args.ask c.args.table.now []) c.args.q.now (route_in c.args.p.now) c.loop-arc.arc-index (omega arith)

pub returns : goal.returns
returns c =
    c.loop-arc.invariant
    ∙ ap (λ l. overlap (net_for c.args.ask c.args.table.now []) l (route_in c.args.p.now)) (take_all c.loop-arc.arc-index c.args.q.now (omega arith))
