-- In a room that was prepared the two ways are as the walks go by them: the chain of a node is that of the next node and one arc more, which is not without length.
use mathlib.Core.Path.{◌≡◌, ap, subst, ◌∙◌}
use mathlib.Core.Logic.{◌≢◌}
use mathlib.Core.Bool.{Bool, true, false}
use mathlib.Core.List.{List, [], ◌∷◌, ◌++◌}
use Prim.Native.Nat.{ℕ, ◌+◌, ◌<◌}
use native.Mathlib.Omega.{arith}
use Rattle.lists.specs.Tests.{keep}
use Rattle.net.specs.Net.{Net, arc}
use Rattle.net.specs.Route.{length_of, overlap}
use Rattle.net.proofs.Order.{length_of-append}
use Rattle.net.proofs.Overlap.{overlap-append}
use Rattle.net.proofs.Lengths.{overlap-most}
use Rattle.table.specs.Table.{records, arcs_of, from_at, to_at}
use Rattle.table.proofs.NetLaws.{arc-is, table-sound}
use Rattle.search_ask.specs.declared.Ask.{Ask}
use Rattle.search_ask.specs.Ask.{Accepted, net_for}
use Rattle.first_routes.specs.Firsts.{far}
use Rattle.via_chains.specs.Chains.{Prepared}
use Rattle.via_chains.proofs.ChainsLaws.{to-length, to_start, to_step, on-length, on-start, on_step}
use Rattle.via_drop.specs.Walks.{arc_by, next_by, dist_by, end_by, chain_by, total_by, share, Step, Led}

module _ (ask : Ask) (t closed e l : List ℕ) (acc : Accepted ask t) (P : Prepared (net_for ask t closed) ask.s ask.goal l) where
  abbrev net : Net
  net = net_for ask t []

  chain_length : (on : Bool) (v : ℕ) → v < ask.nodes → dist_by on ask.nodes l v < far → length_of (arcs_of t) (chain_by on ask t l v) ≡ dist_by on ask.nodes l v
  unfolding chain_by dist_by
  chain_length true v b h = on-length ask t closed l acc P v b h
  chain_length false v b h = to-length ask t closed l acc P v b h

  chain-none : (on : Bool) → chain_by on ask t l (end_by on ask) ≡ []
  unfolding chain_by end_by
  chain-none true = on-start ask t closed l acc P
  chain-none false = to_start ask t closed l acc P

  -- one arc on the way, by the table's bytes
  record Next (on : Bool) (v : ℕ) : Type 0 where
    pub is-arc : arc_by on l v < records t
    pub below : next_by on t (arc_by on l v) < ask.nodes
    pub near : dist_by on ask.nodes l (next_by on t (arc_by on l v)) < far
    pub long : length_of (arcs_of t) (chain_by on ask t l v)
        ≡ length_of (arcs_of t) (arc_by on l v ∷ []) + length_of (arcs_of t) (chain_by on ask t l (next_by on t (arc_by on l v)))
    pub adds : total_by on ask t e l v ≡ share ask t e (arc_by on l v) + total_by on ask t e l (next_by on t (arc_by on l v))

  next : (on : Bool) (v : ℕ) → v < ask.nodes → v ≢ end_by on ask → dist_by on ask.nodes l v < far → Next on v
  unfolding arc_by next_by dist_by end_by chain_by
  next true v b ne h =
      let s = on_step ask t closed l acc P v b ne h in
      let a = arc_by true l v in
      let to : (arc (arcs_of t) a).to ≡ to_at t a = ap (λ x. x.to) (arc-is t a s.is-arc) in
      let joins : chain_by true ask t l v ≡ (a ∷ []) ++ chain_by true ask t l (to_at t a) = s.joins ∙ ap (λ w. a ∷ chain_by true ask t l w) to in
      record {
        is-arc = s.is-arc;
        below = subst (λ w. w < ask.nodes) to s.below;
        near = subst (λ w. dist_by true ask.nodes l w < far) to s.near;
        long = ap (length_of (arcs_of t)) joins ∙ length_of-append (arcs_of t) (a ∷ []) (chain_by true ask t l (to_at t a));
        adds = ap (λ p. overlap net p e) joins ∙ overlap-append net (a ∷ []) (chain_by true ask t l (to_at t a)) e;
      }
  next false v b ne h =
      let s = to_step ask t closed l acc P v b ne h in
      let a = arc_by false l v in
      let from : (arc (arcs_of t) a).from ≡ from_at t a = ap (λ x. x.from) (arc-is t a s.is-arc) in
      let p = chain_by false ask t l (from_at t a) in
      let joins : chain_by false ask t l v ≡ p ++ (a ∷ []) = s.joins ∙ ap (λ w. chain_by false ask t l w ++ (a ∷ [])) from in
      record {
        is-arc = s.is-arc;
        below = subst (λ w. w < ask.nodes) from s.below;
        near = subst (λ w. dist_by false ask.nodes l w < far) from s.near;
        long = omega (arith, ap (length_of (arcs_of t)) joins, length_of-append (arcs_of t) p (a ∷ []));
        adds = omega (arith, ap (λ p. overlap net p e) joins, overlap-append net p (a ∷ []) e);
      }

  one-positive : (a : ℕ) → 0 < length_of (arcs_of t) (a ∷ [])
  unfolding length_of
  one-positive a = omega (arith, (table-sound ask.nodes t acc.no-fault closed).positive a)

  total-none : (p : List ℕ) → p ≡ [] → overlap net p e ≡ 0
  unfolding overlap length_of keep
  total-none p z = ap (λ p. overlap net p e) z

  pub led-prepared : Led ask t e l
  led-prepared =
      record {
        roomy = P.roomy;
        step = λ on v b ne h. step on v b h (next on v b ne h);
        small = λ on v b h. omega (arith, overlap-most net (chain_by on ask t l v) e, chain_length on v b h, h);
        none = λ on. total-none (chain_by on ask t l (end_by on ask)) (chain-none on);
      }
    where
      step : (on : Bool) (v : ℕ) → v < ask.nodes → dist_by on ask.nodes l v < far → Next on v → Step on ask t e l v
      step on v b h s =
          let w = next_by on t (arc_by on l v) in
          record {
            arc-below = s.is-arc;
            next-below = s.below;
            nearer = omega (arith, chain_length on v b h, chain_length on w s.below s.near, s.long, one-positive (arc_by on l v));
            adds = s.adds;
          }
