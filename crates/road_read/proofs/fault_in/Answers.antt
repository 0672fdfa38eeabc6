-- The three tests of the size, then the pick.
use Rattle.std.proofs.Common.{◌≡◌, ◌≤◌, ◌<◌, Some, None, length, arith, sym, ap, ap₂, ⊎_elim, ◌∙◌}
use Rattle.outcome.specs.declared.Told.{Told}
use Rattle.outcome.specs.Outcome.{number_of}
use Rattle.outcome.proofs.OutcomeLaws.{not_found}
use Rattle.net.specs.Limits.{most_nodes, most_arcs}
use Rattle.road_file.specs.File.{unfed, feed}
use Rattle.road_order.specs.Lowest.{rank}
use Rattle.road_judge.specs.Judged.{pick_of, pick_in}
use Rattle.road_read.proofs.ReadLaws.{fault-low, fault-high, fault-many, fault-none, fault-lowest}
use Rattle.road_read.proofs.fault_in.Goals as goal

pub returns-then-reader-lt1 : goal.returns-then-reader-lt1
returns-then-reader-lt1 c =
    let n : c.args.judged.reader.nodes ≡ (feed unfed c.args.text.now).said.nodes = ap (λ r. r.nodes) c.requires.0 in
    c.plain.ensures
    ∙ sym
    (⊎_elim
    (λ w. fault-low c.args.text.now (omega (arith, n, w)))
    (λ w.
    let h : most_nodes < c.args.judged.reader.nodes = w.1 in
    fault-high c.args.text.now (omega arith))
    c.then-reader-lt1.either)

pub returns-then-reader-gt-MOST_ARCS : goal.returns-then-reader-gt-MOST_ARCS
returns-then-reader-gt-MOST_ARCS c =
    let n : c.args.judged.reader.count ≡ length (feed unfed c.args.text.now).said.arcs = ap (λ r. r.count) c.requires.0 in
    let h : most_arcs < c.args.judged.reader.count = c.if-reader-gt-MOST_ARCS.true in
    c.plain-then-reader-gt-MOST_ARCS.ensures ∙ sym (fault-many c.args.text.now (omega arith))

pub returns-in-Some : goal.returns-in-Some
returns-in-Some c =
    let text = c.args.text.now in
    let f = c.in-Some.faulty in
    let n : c.args.judged.reader.nodes ≡ (feed unfed text).said.nodes = ap (λ r. r.nodes) c.requires.0 in
    let m : c.args.judged.reader.count ≡ length (feed unfed text).said.arcs = ap (λ r. r.count) c.requires.0 in
    let high : c.args.judged.reader.nodes ≤ most_nodes = omega (arith, c.if-reader-gt-MOST_NODES.false) in
    let few : c.args.judged.reader.count ≤ most_arcs = omega (arith, c.if-reader-gt-MOST_ARCS.false) in
    let p : pick_of (Some f) ≡ pick_in (feed unfed text) = ap pick_of (sym c.in-Some.is) ∙ c.requires.1 in
    let fault : number_of f.fault ≡ (pick_in (feed unfed text)).fault = ap (λ x. x.fault) p in
    let ranked : c.rank_text.result ≡ rank (pick_in (feed unfed text)) (feed unfed text).said.arcs =
    c.rank_text.ensures (number_of f.fault) ∙ ap (λ x. rank x (feed unfed text).said.arcs) p in
    ap₂ {C = Told} (λ o r. record { outcome = o; number = r }) fault ranked
    ∙ sym (fault-lowest text (omega arith) (omega arith) (omega arith) (λ z. not_found f.fault f.refused (fault ∙ z)))

pub returns-in-None : goal.returns-in-None
returns-in-None c =
    let text = c.args.text.now in
    let n : c.args.judged.reader.nodes ≡ (feed unfed text).said.nodes = ap (λ r. r.nodes) c.requires.0 in
    let m : c.args.judged.reader.count ≡ length (feed unfed text).said.arcs = ap (λ r. r.count) c.requires.0 in
    let high : c.args.judged.reader.nodes ≤ most_nodes = omega (arith, c.if-reader-gt-MOST_NODES.false) in
    let few : c.args.judged.reader.count ≤ most_arcs = omega (arith, c.if-reader-gt-MOST_ARCS.false) in
    let p : pick_of None ≡ pick_in (feed unfed text) = ap pick_of (sym c.in-None.is) ∙ c.requires.1 in
    sym (fault-none text (omega arith) (omega arith) (omega arith) (ap (λ x. x.fault) (sym p)))
