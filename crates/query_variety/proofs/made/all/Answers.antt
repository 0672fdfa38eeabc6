-- The routes are listed, and then: more than the slots, fewer than are wanted, or enough to choose from. In each case the reply computes (`reply-full`, `reply-few`,
-- `reply-found`).
use Rattle.std.proofs.Common.{◌*◌, length, replicate, ap, ◌∙◌, arith}
use Rattle.std.proofs.Math.Nat.{mul-le-mul_right}
use Rattle.std.proofs.Math.ListN.{length-replicate}
use Rattle.table.specs.Table.{arcs_of}
use Rattle.table.proofs.FaultLaws.{good-size}
use Rattle.search_ask.specs.Ask.{net_for, width}
use Rattle.query_rounds.specs.Area.{area_with}
use Rattle.variety.specs.Variety.{near, picked, chosen}
use Rattle.query_variety.specs.Made.{slots_of}
use Rattle.query_variety.proofs.MadeLaws.{slots-most, slots-fit, blank, lists-stand, many, routes, reply-full, reply-few, reply-found, left-none, left-found}
use Rattle.query_variety.proofs.made.all.Goals as goal

pub listed-requires : goal.listed-requires
listed-requires c =
    let w = width c.args.ask in (
      c.requires.0,
      c.requires.1,
      omega (arith, mul-le-mul_right w c.requires.2, c.requires.4),
      c.requires.5,
      omega (arith, ap (λ n. n * w) c.slots_of-slots.ensures, slots-fit (length c.args.list.now) w),
    )

pub returns-in_default : goal.returns-in_default
returns-in_default c =
    let g = c.in_default.ensures in
    left-none (width c.args.ask) c.args.wish.k c.requires.2 c.args.list.now c.args.area.now c.args.room.now _ 22
    (reply-full (net_for c.args.ask c.args.table.now c.args.closed.now) c.args.ask.s c.args.ask.goal c.args.wish.c c.args.wish.d c.args.wish.k (slots_of (length c.args.list.now) (width c.args.ask)) (omega (arith, c.slots_of-slots.ensures, g.lists)))
    c.listed.new.list c.listed.new.area g.list-long g.area_on c.none.result _ _ _ c.none.ensures.0 c.none.ensures.1 c.none.ensures.2 g.room-is

pub returns-then-n-k : goal.returns-then-n-k
returns-then-n-k c =
    let g = c.in-Some.ensures in
    let st = lists-stand _ _ _ _ _ _ _ c.in-Some.ensures.lists in
    let number = many c.args.table.now c.args.closed.now c.args.ask.nodes c.args.ask.s c.args.ask.goal c.requires.0.no-fault c.requires.0.s-below c.requires.0.apart c.args.wish.c c.args.wish.d _ _ (omega (arith, (good-size _ _ c.requires.0.no-fault).1)) _ _ _ st in
    left-none (width c.args.ask) c.args.wish.k c.requires.2 c.args.list.now c.args.area.now c.args.room.now _ 23
    (reply-few (net_for c.args.ask c.args.table.now c.args.closed.now) c.args.ask.s c.args.ask.goal c.args.wish.c c.args.wish.d c.args.wish.k (slots_of (length c.args.list.now) (width c.args.ask)) (omega (arith, number, st.few, c.slots_of-slots.ensures)) (omega (arith, number, c.if-n-k.true)))
    c.listed.new.list c.listed.new.area g.list-long g.area_on c.none-then-n-k.result _ _ _ c.none-then-n-k.ensures.0 c.none-then-n-k.ensures.1 c.none-then-n-k.ensures.2 g.room-is

pub pick-requires : goal.pick-requires
pick-requires c =
    let st = lists-stand _ _ _ _ _ _ _ c.in-Some.ensures.lists in (
      routes c.args.table.now c.args.closed.now c.args.ask.nodes c.args.ask.s c.args.ask.goal c.requires.0.no-fault c.requires.0.s-below c.requires.0.apart c.args.wish.c c.args.wish.d _ _ (omega (arith, (good-size _ _ c.requires.0.no-fault).1)) _ _ _ st,
      blank c.args.ask.nodes c.args.room.now c.listed.new.room c.requires.5 c.in-Some.ensures.room-is,
      omega (arith, c.if-n-k.false),
      c.requires.3,
      omega (arith, c.requires.4, c.in-Some.ensures.area-long),
    )

pub overflow_cast-n : goal.overflow_cast-n
overflow_cast-n c =
    let st = lists-stand _ _ _ _ _ _ _ c.in-Some.ensures.lists in
    omega (arith, st.few, c.slots_of-slots.ensures, slots-most (length c.args.list.now) (width c.args.ask))

pub returns : goal.returns
returns c =
    let g = c.in-Some.ensures in
    let st = lists-stand _ _ _ _ _ _ _ c.in-Some.ensures.lists in
    let number = many c.args.table.now c.args.closed.now c.args.ask.nodes c.args.ask.s c.args.ask.goal c.requires.0.no-fault c.requires.0.s-below c.requires.0.apart c.args.wish.c c.args.wish.d _ _ (omega (arith, (good-size _ _ c.requires.0.no-fault).1)) _ _ _ st in
    let rs = (near (net_for c.args.ask c.args.table.now c.args.closed.now) c.args.ask.s c.args.ask.goal c.args.wish.c c.args.wish.d) in
    left-found (width c.args.ask) c.args.wish.k c.requires.2 c.args.list.now c.args.area.now c.args.room.now c.args.table.now rs _ c.in-Some.n c.listed.new.list c.listed.new.area
    (picked rs (chosen (arcs_of c.args.table.now) rs c.args.wish.k)) st g.area_on _
    (reply-found (net_for c.args.ask c.args.table.now c.args.closed.now) c.args.ask.s c.args.ask.goal c.args.wish.c c.args.wish.d c.args.wish.k (slots_of (length c.args.list.now) (width c.args.ask)) (omega (arith, number, st.few, c.slots_of-slots.ensures)) (omega (arith, number, c.if-n-k.false)))
    _ _ _ c.beside.ensures
    (c.pick.ensures.0 ∙ ap (λ z. area_with (width c.args.ask) c.args.wish.k c.listed.new.area (picked z (chosen (arcs_of c.args.table.now) z c.args.wish.k))) st.is)
    (c.fill.ensures ∙ ap (λ n. replicate n 0) (c.pick.ensures.1 ∙ ap length g.room-is ∙ length-replicate (length c.args.room.now) 0))
