-- Where nothing is refused the parts are put one after the other, and as nothing below the first record is passed over, each goes into the lowest free record.
use mathlib.Core.Path.{◌≡◌, sym, ap, ◌∙◌}
use Rattle.std.proofs.Common.{arith, ◌<◌, length}
use Rattle.outcome.specs.Outcome.{found, plain}
use Rattle.plan_store.specs.Slots.{routes_in}
use Rattle.plan_store.specs.Store.{parts_of, stored_in, store_outcome}
use Rattle.plan_store.proofs.OutcomeLaws.{request-good, accepted, stored-so}
use Rattle.plan_store.proofs.PartLaws.{fit_parts}
use Rattle.plan_store.proofs.PlaceLaws.{free_all, placed-lowest}
use Rattle.plan_store.proofs.store.Goals as goal

pub put_routes-requires : goal.put_routes-requires
put_routes-requires c =
    let e : plain found ≡ plain (store_outcome c.args.file.now c.args.plan c.args.slots.now c.args.routes c.args.width) = c.in_default.ensures in
    let w = accepted c.args.file.now c.args.plan c.args.slots.now c.args.routes c.args.width (sym (ap (λ t. t.outcome) e)) in
    let g = request-good c.args.plan c.args.slots.now c.args.routes c.args.width w.0 in
    (g.sized, g.few, g.narrow, omega (arith, w.1, ap length (free_all c.args.file.now)))

pub returns : goal.returns
unfolding stored_in
returns c =
    let e : plain found ≡ plain (store_outcome c.args.file.now c.args.plan c.args.slots.now c.args.routes c.args.width) = c.in_default.ensures in
    let passed = sym (ap (λ t. t.outcome) e) in
    let w = accepted c.args.file.now c.args.plan c.args.slots.now c.args.routes c.args.width passed in
    let g = request-good c.args.plan c.args.slots.now c.args.routes c.args.width w.0 in
    let some : 0 < c.args.plan = omega (arith, g.some) in
    let fits : c.args.plan < 4294967296 = omega arith in
    let routes = routes_in c.args.slots.now c.args.routes c.args.width in
    stored-so c.args.file.now c.args.plan c.args.slots.now c.args.routes c.args.width _ _ passed c.plain.ensures
    (c.put_routes.ensures ∙ placed-lowest c.args.plan some fits c.args.file.now (parts_of c.args.plan 0 routes) (fit_parts c.args.plan 0 routes) w.1)
