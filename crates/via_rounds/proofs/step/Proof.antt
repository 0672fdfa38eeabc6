-- The first left goes into its slot; its length is the sum of the two distances. What was written is lent for dropping: the first words of the slot. Then the queue is as
-- that leaves it.
use mathlib.Core.Path.{◌≡◌, refl, sym, ap, subst, ◌∙◌}
use mathlib.Core.Bool.{true}
use mathlib.Core.List.{List, []}
use Prim.Native.Nat.{ℕ, suc, ◌+◌, ◌-◌, ◌*◌, ◌≤◌}
use native.Mathlib.Omega.{arith}
use native.Mathlib.Nat.{mul-le-mul_right}
use lib.Dec.{ltb, eqb}
use borrow.Author.Tests.{eq-eqb}
use lib.ListN.{length, take, drop}
use borrow.Author.Rules.{rules}
use Rattle.lists.specs.Tests.{every}
use Rattle.table.specs.Table.{records, arcs_of}
use Rattle.net.specs.Route.{length_of}
use Rattle.table.proofs.FaultLaws.{good-size}
use Rattle.search_ask.specs.Ask.{query_for, net_for, width}
use Rattle.via_chains.specs.Chains.{joined_in}
use Rattle.via_rounds.specs.Turn.{Left}
use Rattle.via_rounds.proofs.CandidatesLaws.{read-near, candidate-length, candidate-arcs}
use Rattle.query_rounds.proofs.SlotLaws.{slot-again}
use Rattle.via_rounds.proofs.LeftLaws.{record-in, not_last, sums_same}
use Rattle.via_rounds.proofs.step.Statement.{statement}
use Rattle.via_rounds.proofs.step.Tie as tie

-- the slot of the route lies within the area
room_for : (s : tie.Start) → s.args.x.r * width s.args.ask + width s.args.ask ≤ length s.args.area.now
room_for s = omega (arith, s.requires.slots, mul-le-mul_right {m = suc s.args.x.r} {n = s.args.k} (width s.args.ask) s.requires.below)

length-at-requires : tie.Need-length_at-len-requires
length-at-requires c κs =
    let s = c in
    let n = read-near s.args.ask s.args.table.now s.args.closed.now s.requires.accepted s.args.room.now s.requires.prepared s.args.x.root s.requires.queue.root.used s.requires.both in
    (record-in s.requires.queue, n.0, n.1)

put-requires : tie.Need-put-m-requires
put-requires c κs =
    let s = c.before.before.before.before.before.before in
    (s.requires.accepted, s.requires.prepared, s.requires.queue.root.used, s.requires.both, s.requires.short, room_for s)

abbrev start : tie.After-put-m → tie.Start
start a = a.before.before.before.before.before.before.before

-- the route that is kept
abbrev route : tie.After-put-m → List ℕ
route a = let s = start a in joined_in (net_for s.args.ask s.args.table.now s.args.closed.now) s.args.ask.s s.args.ask.goal s.args.room.now s.args.x.root

abbrev put : tie.After-width → tie.After-put-m
put c = c.before.before.before

abbrev area-left : tie.After-put-m → List ℕ
area-left a = a.put-m.new.area

len_is : (a : tie.After-put-m) → a.length_at-len.result ≡ length_of (arcs_of a.args.table.now) (route a)
len_is a =
    let s = start a in
    a.length_at-len.ensures
    ∙ candidate-length s.args.ask s.args.table.now s.args.closed.now s.requires.accepted s.args.room.now s.requires.prepared s.args.x.root s.requires.queue.root.used s.requires.both

-- it ends within the area
ends-in : (c : tie.After-width) → (start (put c)).args.x.r * c.width.result + (put c).put-m.result ≤ length (start (put c)).args.area.now
ends-in c =
    let a = put c in
    let s = start a in
    omega (arith, ap (λ n. s.args.x.r * n) c.width.ensures, a.put-m.ensures.1, s.requires.short, room_for s)

-- and is what is lent
lent_is : (c : tie.After-width)
    → take ((start (put c)).args.x.r * c.width.result + (put c).put-m.result - (start (put c)).args.x.r * c.width.result) (drop ((start (put c)).args.x.r * c.width.result) (area-left (put c))) ≡ route (put c)
lent_is c =
    let a = put c in
    let s = start a in
    let r = s.args.x.r in
    let w = width s.args.ask in
    let m = a.put-m.result in
    subst (λ n. take (r * n + m - r * n) (drop (r * n) (area-left a)) ≡ route a) (sym c.width.ensures)
    (ap (λ l. take (r * w + m - r * w) (drop (r * w) l)) a.put-m.ensures.0 ∙ slot-again w r s.args.area.now (room_for s) (route a) m a.put-m.ensures.1)

mul-from : tie.Need-overflow_mul-from
mul-from c = omega (arith, ends-in c)

add-end : tie.Need-overflow_add-end
add-end c = omega (arith, ends-in c)

mul-drop-near : tie.Need-offset_bounds-area-from
mul-drop-near c = omega (arith, ends-in c)

part-drop-near-end : tie.Need-slice_bounds-drop_near-end
part-drop-near-end c = omega (arith, ends-in c, (put c).put-m.auto.area)

abbrev widths : tie.After-drop_near-arg-2-1 → tie.After-width
widths c = c.before.before

drop-near-requires : tie.Need-drop_near-root-requires
drop-near-requires c κs =
    let u = widths c in
    let a = put u in
    let s = start a in
    let e = lent_is u in (
      s.requires.accepted,
      s.requires.prepared,
      s.requires.queue,
      subst (λ l. every (λ b. ltb b (records s.args.table.now)) l ≡ true) (sym e)
          (candidate-arcs s.args.ask s.args.table.now s.args.closed.now s.requires.accepted s.args.room.now s.requires.prepared s.args.x.root s.requires.queue.root.used s.requires.both),
      len_is a ∙ ap (length_of (arcs_of s.args.table.now)) (sym e),
    )

-- ---- after the drop

abbrev written : tie.After-drop_near-root → tie.After-width
written c = widths c.before

abbrev room-left : tie.After-drop_near-root → List ℕ
room-left c = c.drop_near-root.new.room

left : (c : tie.After-drop_near-root)
    → Left (query_for (start (put (written c))).args.ask (start (put (written c))).args.table.now (start (put (written c))).args.closed.now []) (eqb ((start (put (written c))).args.x.r + 1) (start (put (written c))).args.k)
    (route (put (written c))) (start (put (written c))).args.room.now (room-left c) (start (put (written c))).args.x.root c.drop_near-root.result
left c =
    let u = written c in
    let s = start (put u) in
    subst (λ p. Left (query_for s.args.ask s.args.table.now s.args.closed.now []) (eqb (s.args.x.r + 1) s.args.k) p s.args.room.now (room-left c) s.args.x.root c.drop_near-root.result)
    (lent_is u) c.drop_near-root.ensures

returns : tie.Need-returns
returns c =
    let h = c in
    let d = h.before.before.before.before in
    let a = put (written d) in
    let s = start a in
    let l = left d in
    record {
      count = refl;
      area = a.put-m.ensures.0;
      sums = h.with.ensures ∙ sums_same s.args.x.sums s.args.x.r _ _ _ _ (len_is a) a.put-m.ensures.1;
      at_last = λ e. l.at_last (eq-eqb (s.args.x.r + 1) s.args.k e);
      before = λ e. l.before (not_last s.args.x.r s.args.k e);
    }

-- a route has fewer arcs than there are nodes
cast-with : tie.Need-overflow_cast-m
cast-with c =
    let a = put (written c.before.before.before) in
    let s = start a in
    omega (arith, a.put-m.ensures.1, s.requires.short, (good-size _ _ s.requires.accepted.no-fault).1)

pub step_spec : {M : Type 1} → statement M
step_spec =
    tie.close
    (tie.spec
    length-at-requires
    put-requires
    (λ c κs. search rules)
    mul-from
    add-end
    (λ c. search rules)
    mul-drop-near
    (λ c. search rules)
    (λ c. search rules)
    part-drop-near-end
    drop-near-requires
    (λ c. search rules)
    cast-with
    (λ c κs. search rules)
    (λ c. search rules)
    (λ c. search rules)
    returns)
