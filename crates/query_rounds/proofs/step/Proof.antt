-- A round more. How it ended is the theory's ending, and `stepped-after` says what the progress is with what that ending adds. The round asks for the lengths
-- of the earlier answers, which are the first r of the summaries' lengths, and for its slot blank. The rows then have that round's summary (`stepped-rows`).
use native.Mathlib.Omega.{arith}
use native.Mathlib.Nat.{mul-le-mul_right}
use borrow.Author.Rules.{rules}
use mathlib.Core.Path.{◌≡◌, refl, sym, ap, subst, ◌∙◌}
use mathlib.Core.List.{List}
use Prim.Native.Nat.{ℕ, suc, ◌<◌, ◌/◌}
use lib.ListN.{length}
use Rattle.net.specs.Limits.{most_routes}
use Rattle.net.specs.Round.{Query}
use Rattle.labels.specs.Field.{label_bytes}
use Rattle.labels.proofs.RowLaws.{length-labelled}
use Rattle.search_clear.proofs.ClearLaws.{length-clear}
use Rattle.search_ask.specs.Ask.{query_for, width}
use Rattle.search_ask.specs.Earlier.{earlier_in}
use Rattle.search_ask.proofs.AskLaws.{accepted-valid, few-arcs, nodes-most, lengths-most}
use Rattle.round_label.specs.Lists.{Blank}
use Rattle.round.specs.Round.{Rounded}
use Rattle.query_rounds.specs.declared.Stage.TheVariants.{GoesOn}
use Rattle.query_rounds.specs.Progress.{Progress, progress}
use Rattle.query_rounds.proofs.ProgressLaws.{Stepping, lens-long, earlier-lent, stepped-after, small-after, stepped-rows}
use Rattle.query_rounds.proofs.step.Statement.{statement}
use Rattle.query_rounds.proofs.step.Tie as tie

abbrev before : tie.Start → Progress
before s = progress s.args.r GoesOn s.args.lens.now s.args.arcs.now s.args.counts.now

-- ---- at the place after the round

abbrev start : tie.After-round-e → tie.Start
start a = a.before.before.before.before.before.before.before.before.before.before.before

abbrev query : tie.After-round-e → Query
query a = query_for (start a).args.ask (start a).args.table.now (start a).args.closed.now (start a).args.labels.now

abbrev w : tie.After-round-e → ℕ
w a = width (start a).args.ask

abbrev r : tie.After-round-e → ℕ
r a = (start a).args.r

-- the area and the labels as the round left them
abbrev area-left : tie.After-round-e → List ℕ
area-left a = a.round-e.new.area

abbrev labels-left : tie.After-round-e → List ℕ
labels-left a = a.round-e.new.labels

rounded : (a : tie.After-round-e)
    → Rounded (query a) (earlier_in (w a) (r a) (start a).args.area.now) (w a) (r a) (start a).args.area.now (area-left a) (start a).args.labels.now (labels-left a) a.round-e.result
rounded a =
    let s = start a in
    subst (λ n. Rounded (query a) (earlier_in (w a) n s.args.area.now) (w a) n s.args.area.now (area-left a) s.args.labels.now (labels-left a) a.round-e.result)
    (lens-long s.args.lens.now (r a) s.requires.1.earlier.enough) a.round-e.ensures

stepping : (a : tie.After-round-e) → Stepping (query a) (start a).args.k (start a).args.area.now (before (start a))
stepping a =
    let s = start a in
    let ok = s.requires.0.accepted in
    record {
      valid = accepted-valid ok s.args.closed.now s.args.labels.now;
      few-arcs = few-arcs ok;
      nodes-most = nodes-most ok;
      len-most = lengths-most ok;
      k-most = s.requires.0.few;
      room = s.requires.0.slots;
      underway = s.requires.1;
      at = refl;
    }

same-labels : (a : tie.After-round-e) → length (labels-left a) ≡ length (start a).args.labels.now
same-labels a = ap length (rounded a).bytes ∙ length-clear _ _ ∙ length-labelled (query a).net (query a).s _ (start a).args.labels.now _

in_row : (s : tie.Start) → s.args.r < most_routes
in_row s = omega (arith, s.requires.1.going refl, s.requires.0.few)

round-requires : tie.Need-round-e-requires
round-requires c κs =
    let s = c in
    let h = s.requires.1.going refl in
    let n = lens-long s.args.lens.now s.args.r s.requires.1.earlier.enough in (
      record { accepted = s.requires.0.accepted; earlier = earlier-lent s.requires.1.earlier; few = omega (arith, n, h, s.requires.0.few); room = s.requires.0.room },
      subst (λ i. Blank (width s.args.ask) i s.args.area.now) (sym n)
          (record { room = omega (arith, s.requires.0.slots, mul-le-mul_right {m = suc s.args.r} {n = s.args.k} (width s.args.ask) h); blank = s.requires.1.blank s.args.r (omega arith) h }),
    )

-- ---- at the place after what it adds is known

abbrev matched : tie.After-slice_known-7-1 → tie.After-round-e
matched c = c.before.before.before.before

note-requires : tie.Need-note-requires
note-requires c κs =
    let t = c in
    let a = matched t.before.before.before.before.before in
    let s = start a in
    let rows = s.requires.1.rows in
    let small = small-after (query a) s.args.k s.args.area.now (before s) (stepping a) s.requires.0.room a.round-e.result (rounded a).ends _ (ap (λ n. n / label_bytes) (same-labels a)) t.after-y.result t.after-y.ensures in
    (omega (arith, in_row s, rows.0), omega (arith, in_row s, rows.1), omega (arith, in_row s, rows.2), small.0, small.1)

returns : tie.Need-returns
returns c =
    let n = c.before.before.before.before.before.before in
    let t = n in
    let a = matched t.before.before.before.before.before.before in
    let s = start a in (
      same-labels a,
      stepped-rows (query a) (w a) s.args.k s.args.area.now (area-left a) (before s) t.after-y.result _ _ _ n.note.ensures.0 n.note.ensures.1 n.note.ensures.2
          (stepped-after (query a) s.args.k s.args.area.now (before s) (stepping a) a.round-e.result (rounded a).ends (area-left a) (rounded a).slot
          _ (ap (λ n. n / label_bytes) (same-labels a)) t.after-y.result t.after-y.ensures),
    )

pub step_spec : {M : Type 1} → statement M
step_spec =
    tie.close
    (tie.spec
    (λ c. search rules)
    (λ c. search rules)
    (λ c. search rules)
    round-requires
    (λ c κs. in_row (start (matched c)))
    note-requires
    (λ c. search rules)
    (λ c. search rules)
    (λ c. search rules)
    (λ c. search rules)
    (λ c. search rules)
    returns)
