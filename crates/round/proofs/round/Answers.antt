-- The search leaves one of three stages, and the area as it was. At none and at refused it stays so. At an answer the last label's chain is it, and
-- has at most nodes - 1 arcs; so it fits the lent slot, which comes back with the chain and its filling at its place in the area. The laws
-- `rounded-..` say what each way leaves.
use Rattle.std.proofs.Common.{◌≢◌, refl, sym, ap, subst, ◌∙◌, ◌+◌, ◌-◌, ◌*◌, ◌≤◌, length, arith}
use mathlib.Core.Logic.{⊎_elim}
use Rattle.words.specs.Part.{patch}
use Rattle.words.proofs.PartLaws.{lent}
use Rattle.labels.specs.Chain.{chain_at, slot_of}
use Rattle.labels.specs.Standing.{Standing}
use Rattle.table.specs.Table.{arcs_of}
use Rattle.search_ask.specs.Ask.{query_for, width}
use Rattle.search_ask.specs.Earlier.{earlier_of}
use Rattle.search_ask.proofs.AskLaws.{accepted-valid, few-arcs}
use Rattle.round.specs.declared.Ended.TheVariants.{NoAnswer, Refused}
use Rattle.round.specs.Round.{Rounded}
use Rattle.round.proofs.EarlierLaws.{answered-short}
use Rattle.round.proofs.RoundLaws.{finished-standing, slot-written, rounded-none, rounded-refused, last-label, last-over, rounded-answer}
use Rattle.round.proofs.round.Goals as goal
use Rattle.round.proofs.round.Goals.{After-search-x, In-Answered}

standing : (c : After-search-x) → Standing (arcs_of c.args.table.now) c.args.ask.s c.search-x.new.labels c.search-x.result.n
standing c =
    finished-standing (query_for c.args.ask c.args.table.now c.args.closed.now c.args.labels.now) (earlier_of c.args.ask c.args.area.now c.args.lens.now) c.args.labels.now
    c.search-x.new.labels c.search-x.result c.search-x.ensures.0 c.search-x.ensures.1

-- its slot is in it
room : (c : After-search-x) → length c.args.lens.now * width c.args.ask + width c.args.ask ≤ length c.search-x.new.area
room c = omega (arith, ap length c.search-x.ensures.2, c.requires.1.room)

-- ---- with an answer

begun : (c : In-Answered) → c.search-x.result.n ≢ 0
begun c =
    (last-label (query_for c.args.ask c.args.table.now c.args.closed.now c.args.labels.now) (earlier_of c.args.ask c.args.area.now c.args.lens.now) (width c.args.ask) (length c.args.lens.now)
    c.args.area.now c.args.labels.now c.search-x.new.labels c.search-x.result c.search-x.ensures.1 c.in-Answered.is).0

short : (c : In-Answered) → length (chain_at c.search-x.new.labels (c.search-x.result.n - 1)) ≤ width c.args.ask
short c =
    let ok = c.requires.0.accepted in
    let q = query_for c.args.ask c.args.table.now c.args.closed.now c.args.labels.now in
    let earlier = earlier_of c.args.ask c.args.area.now c.args.lens.now in
    let o = last-over q earlier (width c.args.ask) (length c.args.lens.now) c.args.area.now c.args.labels.now c.search-x.new.labels c.search-x.result c.search-x.ensures.1 c.in-Answered.is
    (c.search-x.result.n - 1) refl in
    answered-short q earlier (accepted-valid ok c.args.closed.now c.args.labels.now) (few-arcs ok) _ _ o.ends

pub overflow_sub-i : goal.overflow_sub-i
overflow_sub-i c = omega (arith, begun (goal.at.overflow_sub-i c).In-Answered)

pub arcs-k-requires : goal.arcs-k-requires
arcs-k-requires c = ((standing (goal.at.arcs-k-requires c).After-search-x).down, omega (arith, begun (goal.at.arcs-k-requires c).In-Answered))

pub write-requires : goal.write-requires
write-requires c =
    let here = (goal.at.write-requires c).After-search-x in
    let at = (goal.at.write-requires c).In-Answered in
    let w = width c.args.ask in
    let r = length c.args.lens.now in
    ((standing here).down, omega (arith, begun at), omega (arith, short at, lent (r * w) (r * w + w) c.search-x.new.area (omega arith) (room here)))

pub length-requires : goal.length-requires
length-requires c = omega (arith, begun (goal.at.length-requires c).In-Answered, (standing (goal.at.length-requires c).After-search-x).down.room)

pub returns-in-Unanswered : goal.returns-in-Unanswered
returns-in-Unanswered c =
    let q = query_for c.args.ask c.args.table.now c.args.closed.now c.args.labels.now in
    let earlier = earlier_of c.args.ask c.args.area.now c.args.lens.now in
    let w = width c.args.ask in
    let r = length c.args.lens.now in
    subst (λ b. Rounded q earlier w r c.args.area.now b c.args.labels.now c.search-x.new.labels (NoAnswer c.search-x.result.n)) (sym c.search-x.ensures.2)
    (rounded-none q earlier w r c.args.area.now c.args.labels.now c.search-x.new.labels c.search-x.result c.search-x.ensures.1 c.in-Unanswered.is)

pub returns-in-NoRoom : goal.returns-in-NoRoom
returns-in-NoRoom c =
    let q = query_for c.args.ask c.args.table.now c.args.closed.now c.args.labels.now in
    let earlier = earlier_of c.args.ask c.args.area.now c.args.lens.now in
    let w = width c.args.ask in
    let r = length c.args.lens.now in
    subst (λ b. Rounded q earlier w r c.args.area.now b c.args.labels.now c.search-x.new.labels Refused) (sym c.search-x.ensures.2)
    (rounded-refused q earlier w r c.args.area.now c.args.labels.now c.search-x.new.labels c.search-x.result c.search-x.ensures.1
    (⊎_elim (λ e. e) (λ e. absurd (c.search-x.ensures.0 e)) c.in-NoRoom.is))

pub returns-in-Answered : goal.returns-in-Answered
returns-in-Answered c =
    let q = query_for c.args.ask c.args.table.now c.args.closed.now c.args.labels.now in
    let earlier = earlier_of c.args.ask c.args.area.now c.args.lens.now in
    let w = width c.args.ask in
    let r = length c.args.lens.now in
    let i = c.search-x.result.n - 1 in
    rounded-answer q earlier w r c.args.area.now c.args.labels.now c.search-x.new.labels c.search-x.result c.search-x.ensures.1 c.in-Answered.is i refl _
    (slot-written w r c.search-x.new.area (chain_at c.search-x.new.labels i) _ (room (goal.at.returns-in-Answered c).After-search-x) c.write.ensures
    ∙ ap (λ b. patch (r * w) (r * w + w) b (slot_of w (chain_at c.search-x.new.labels i))) c.search-x.ensures.2) c.length.result c.arcs-k.result c.length.ensures c.arcs-k.ensures
