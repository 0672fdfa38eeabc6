-- The two loops that put parts, turn by turn. What is placed so far, and then what is left, makes the whole; there is room for what is left; and the file keeps its length.
use mathlib.Core.Path.{◌≡◌, refl, sym, ap, ◌∙◌}
use mathlib.Core.List.{List, ◌∷◌, ◌++◌}
use Prim.Native.Nat.{ℕ, ◌+◌, ◌≤◌, ◌<◌}
use native.Mathlib.Nat.{sub-zero}
use native.Mathlib.Omega.{arith}
use lib.ListN.{length, take, drop, length-append, length-drop}
use lib.Seq.{drop-drop}
use Rattle.lists.proofs.LoopLaws.{gives, gives-done, gives-step}
use Rattle.plan_record.specs.Record.{part_arcs, Row}
use Rattle.plan_store.specs.Slots.{routes_in}
use Rattle.plan_store.specs.Store.{parts_of}
use Rattle.plan_store.specs.Placing.{parts_left, Placing, room, placed_next, placed_on}
use Rattle.plan_store.proofs.SlotLaws.{route_at}
use Rattle.plan_store.proofs.PartLaws.{left-done, left_step, take_part, fit-from}
use Rattle.plan_store.proofs.PlaceLaws.{part-turn, parts-turn}

-- ---- the parts of a route

module _ (plan rank : ℕ) (route : List ℕ) (s : Placing) where
  abbrev pub left : ℕ → ℕ → List Row
  left part from = parts_left plan rank part (drop from route)

  -- with the parts before this one placed: t
  abbrev pub Partly : Placing → ℕ → ℕ → Type 0
  Partly t part from =
      (placed_on t (left part from) ≡ placed_on s (parts_left plan rank 0 route)) × (length (left part from) ≤ room t) × (length t.file ≡ length s.file)

  module _ (t : Placing) (part from : ℕ) (g : Partly t part from) where
    abbrev pub next : Row
    next = record { plan = plan; rank = rank; part = part; arcs = take part_arcs (drop from route) }

    split : from < length route → left part from ≡ next ∷ left (part + 1) (from + part_arcs)
    split h =
        left_step plan rank part (drop from route) (omega (arith, length-drop from route))
        ∙ ap {B = List Row} (λ l. next ∷ parts_left plan rank (part + 1) l) (drop-drop part_arcs from route)

    pub partly-room : from < length route → 1 ≤ room t
    partly-room h = omega (arith, g.1, ap length (split h))

    pub partly_more : (u : Placing) → from < length route → u ≡ placed_next t next → Partly u (part + 1) (from + part_arcs)
    partly_more u h e =
        let w = part-turn t u next (left (part + 1) (from + part_arcs)) e (omega (arith, g.1, ap length (split h))) (take_part (drop from route)) in
        (w.0 ∙ ap (placed_on t) (sym (split h)) ∙ g.0, w.1, w.2 ∙ g.2)

    pub partly-done : length route ≤ from → t ≡ placed_on s (parts_left plan rank 0 route)
    unfolding placed_on
    partly-done h = ap (placed_on t) (sym (left-done plan rank part (drop from route) (omega (arith, length-drop from route)))) ∙ g.0

-- ---- the parts of the routes

module _ (plan : ℕ) (slots : List ℕ) (routes width : ℕ) (s : Placing) where
  abbrev pub rows : ℕ → List Row
  rows r = parts_of plan r (gives (route_at slots width) r routes)

  -- with the routes before rank r placed: t
  abbrev pub Stored-to : Placing → ℕ → Type 0
  Stored-to t r = (placed_on t (rows r) ≡ placed_on s (parts_of plan 0 (routes_in slots routes width))) × (length (rows r) ≤ room t) × (length t.file ≡ length s.file)

  rows-first : rows 0 ≡ parts_of plan 0 (routes_in slots routes width)
  unfolding routes_in
  rows-first = rw sub-zero

  pub none-stored : length (parts_of plan 0 (routes_in slots routes width)) ≤ room s → Stored-to s 0
  none-stored h = (ap (placed_on s) rows-first, omega (arith, ap length rows-first), refl)

  module _ (t : Placing) (r : ℕ) (g : Stored-to t r) where
    split-route : r < routes → rows r ≡ parts_left plan r 0 (route_at slots width r) ++ rows (r + 1)
    unfolding parts_of
    split-route h = ap (parts_of plan r) (gives-step (route_at slots width) r routes h)

    pub room-route : r < routes → length (parts_left plan r 0 (route_at slots width r)) ≤ room t
    room-route h = omega (arith, g.1, ap length (split-route h), length-append (parts_left plan r 0 (route_at slots width r)) (rows (r + 1)))

    pub one-stored : (u : Placing) → r < routes → u ≡ placed_on t (parts_left plan r 0 (route_at slots width r)) → Stored-to u (r + 1)
    one-stored u h e =
        let xs = parts_left plan r 0 (route_at slots width r) in
        let w = parts-turn plan t u xs (rows (r + 1)) e (fit-from plan r (length (route_at slots width r)) 0 (route_at slots width r)) (omega (arith, g.1, ap length (split-route h))) in
        (w.0 ∙ ap (placed_on t) (sym (split-route h)) ∙ g.0, w.1, w.2 ∙ g.2)

    pub all-stored : routes ≤ r → t ≡ placed_on s (parts_of plan 0 (routes_in slots routes width))
    unfolding placed_on parts_of
    all-stored h = ap (λ l. placed_on t (parts_of plan r l)) (sym (gives-done (route_at slots width) r routes h)) ∙ g.0
