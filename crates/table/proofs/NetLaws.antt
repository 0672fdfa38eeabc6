-- The net of a good table. Its arcs are the table's records by number, so what each record is, each arc is; a number past them names `no_arc`, whose end
-- is node 0 and whose length is 1, so ends and lengths are within their limits at every number. Past the records there is no road number either, so a table of
-- zeros has none at all, and its net is document 01's own.
use mathlib.Core.Path.{◌≡◌, sym, ap, subst, fun_ext, ◌∙◌}
use mathlib.Core.List.{List}
use mathlib.Core.Logic.{⊎_elim}
use Prim.Native.Nat.{ℕ, ◌≤◌, ◌<◌}
use native.Mathlib.Omega.{arith}
use lib.ListN.{length, get_or-eq_default}
use Rattle.lists.proofs.Cases.{order}
use Rattle.lists.proofs.IndexLaws.{length-tab, get_or-tab}
use Rattle.net.specs.Limits.{most_length}
use Rattle.net.specs.Net.{Arc, Net, arc, no_arc, road, plain, only}
use Rattle.net.proofs.Valid.{Sound}
use Rattle.net.proofs.Streets.{driven-none}
use Rattle.table.specs.Table.{records, road_at, arc_at, arcs_of, roads_of, NoRoads, is_open_at, net_of}
use Rattle.table.specs.Fault.{table_fault, good}
use Rattle.table.proofs.FaultLaws.{all-good, good-size}

pub arcs-length : (t : List ℕ) → length (arcs_of t) ≡ records t
unfolding arcs_of
arcs-length t = length-tab (records t) (arc_at t)

pub arc-is : (t : List ℕ) (a : ℕ) → a < records t → arc (arcs_of t) a ≡ arc_at t a
unfolding arcs_of
arc-is t a h = get_or-tab (records t) (arc_at t) a no_arc h

-- what holds of every record and of `no_arc` holds at every number
at_every : (P : Arc → Type 0) (t : List ℕ) → P no_arc → ((a : ℕ) → a < records t → P (arc_at t a)) → (a : ℕ) → P (arc (arcs_of t) a)
at_every P t past each a =
    ⊎_elim
    (λ w. subst P (sym (get_or-eq_default (arcs_of t) no_arc {n = a} (omega (arith, arcs-length t)))) past)
    (λ w. subst P (sym (arc-is t a w)) (each a w))
    (order (records t) a)

-- ---- road numbers

pub road-is : (t : List ℕ) (a : ℕ) → a < records t → road (roads_of t) a ≡ road_at t a
unfolding roads_of
road-is t a h = get_or-tab (records t) (road_at t) a 0 h

pub road-past : (t : List ℕ) (a : ℕ) → records t ≤ a → road (roads_of t) a ≡ 0
unfolding roads_of
road-past t a h = get_or-eq_default (roads_of t) 0 {n = a} (omega (arith, length-tab (records t) (road_at t)))

-- "A table of zeros gives the former answers": its net is document 01's, so every definition over it is.
pub no-roads : (t : List ℕ) → NoRoads t → (nodes : ℕ) (closed : List ℕ) → net_of nodes t closed ≡ only (is_open_at closed) (plain nodes (arcs_of t))
no-roads t none nodes closed =
    ap {B = Net} (λ d. record { nodes = nodes; arcs = arcs_of t; usable = is_open_at closed; drives = d })
    (fun_ext (λ p. fun_ext (λ a. driven-none (roads_of t) a (⊎_elim (λ w. road-past t a w) (λ w. road-is t a w ∙ none a w) (order (records t) a)) p)))

module _ (nodes : ℕ) (t : List ℕ) (ok : table_fault nodes t ≡ good) where
  pub table-sound : (closed : List ℕ) → Sound (net_of nodes t closed)
  table-sound closed =
      record {
        to_below = at_every (λ x. x.to < nodes) t (good-size nodes t ok).0 (λ a h. (all-good nodes t ok a h).end);
        positive = at_every (λ x. 0 < x.len) t (omega arith) (λ a h. (all-good nodes t ok a h).least);
      }

  pub len-most : (a : ℕ) → (arc (arcs_of t) a).len ≤ most_length
  len-most = at_every (λ x. x.len ≤ most_length) t (omega arith) (λ a h. (all-good nodes t ok a h).most)

  pub from-below : (a : ℕ) → (arc (arcs_of t) a).from < nodes
  from-below = at_every (λ x. x.from < nodes) t (good-size nodes t ok).0 (λ a h. (all-good nodes t ok a h).start)

  pub no_loop : (a : ℕ) → a < records t → (arc (arcs_of t) a).from ≡ (arc (arcs_of t) a).to → ⊥
  no_loop a h = subst (λ x. x.from ≡ x.to → ⊥) (sym (arc-is t a h)) (all-good nodes t ok a h).moves
