-- Where a search does not come to t there is no pair, since routes are shorter than what stands for no distance; and what is made of a pair is what is due.
use mathlib.Core.Path.{◌≡◌, refl, sym, ap, subst, ◌∙◌}
use mathlib.Core.Logic.{inl, inr}
use mathlib.Core.List.{List, [], ◌∷◌}
use mathlib.Core.Bool.{Bool, true, false}
use mathlib.Core.Option.{none}
use Prim.Native.Nat.{ℕ, ◌-◌, ◌≤◌, ◌<◌}
use native.Mathlib.Omega.{arith}
use lib.Dec.{T}
use lib.ListN.{length, replicate}
use Rattle.net.specs.Limits.{most_length}
use Rattle.net.specs.Net.{Net}
use Rattle.net.specs.Round.{Query}
use Rattle.table.specs.Table.{net_of}
use Rattle.table.specs.Fault.{table_fault, good}
use Rattle.table.proofs.FaultLaws.{good-size}
use Rattle.table.proofs.NetLaws.{table-sound, len-most, from-below}
use Rattle.reach.specs.Stand.{dist_in, last_in}
use Rattle.summary.specs.Sums.{firsts}
use Rattle.query_rounds.specs.Area.{area_with}
use Rattle.query_rounds.specs.declared.Got.{Got}
use Rattle.pair.specs.Pair.{NoPair, least_total}
use Rattle.pair.proofs.Whole.{first-none, whole-none}
use Rattle.pair_room.specs.Room.{far, further, first, again}
use Rattle.pair_room.specs.Stages.{dist_of, Reached, Searched, Settled}
use Rattle.pair_walks.specs.declared.Ways.{Ways}
use Rattle.pair_walks.specs.Way.{Paired}
use Rattle.query_pair.specs.Made.{Prepared, told_for, summaries_for, none_got, got_of, Made}

module _ (n : ℕ) (t closed : List ℕ) (ok : table_fault n t ≡ good) (s goal : ℕ) (below : s < n) (l : List ℕ) where
  abbrev net : Net
  net = net_of n t closed

  -- the first search does not come to t
  pub none_first : Reached net s l → far ≤ dist_of net l goal → NoPair net s goal × (least_total net s goal ≡ none)
  none_first r h =
      first-none net s goal below (table-sound n t ok closed) far (dist_of net l) (last_in first l) r most_length (len-most n t ok) (omega (arith, (good-size n t ok).1)) h

  -- nor the second
  pub none-again : Searched net s goal l → further ≤ dist_in again n l goal → NoPair net s goal × (least_total net s goal ≡ none)
  none-again z h =
      whole-none net s goal below (table-sound n t ok closed) far (dist_of net l) (last_in first l) z.marked.reached most_length (len-most n t ok) z.marked.P z.marked.short further (dist_in again n l) (last_in again l) z.again
      (from-below n t ok) (omega (arith, (good-size n t ok).1)) h

-- ---- what `prepare` tells

pub prepared-true : (net : Net) (s t : ℕ) (l : List ℕ) (r : Bool) → Prepared net s t l r → r ≡ true → Settled net s t l
prepared-true _ s t l r (inl h) e = h.1
prepared-true _ s t l r (inr h) e = absurd (subst T (sym e ∙ h.0) tt)

pub prepared-false : (net : Net) (s t : ℕ) (l : List ℕ) (r : Bool) → Prepared net s t l r → r ≡ false → NoPair net s t × (least_total net s t ≡ none)
prepared-false _ s t l r (inl h) e = absurd (subst T (sym h.0 ∙ e) tt)
prepared-false _ s t l r (inr h) e = (h.1, h.2)

module _ (q : Query) (area room : List ℕ) (w : ℕ) where
  pub made_none : NoPair q.net q.s q.t → least_total q.net q.s q.t ≡ none → (area' room' : List ℕ) → area' ≡ area_with w 2 area [] → room' ≡ replicate (length room) 0
      → (g : Got) → g ≡ none_got → Made q w area room g area' room'
  unfolding told_for summaries_for
  made_none without e area' room' a r g i =
      subst (λ y. Made q w area room y area' room') (sym i) (record {
        routes = [];
        answers = inr (refl, without, e);
        told = sym (ap told_for e);
        area-is = a;
        room-is = r;
        two = refl;
        sums = refl;
      })

  pub made_found : w ≡ q.net.nodes - 1 → (area' room' : List ℕ) (x : Ways) → Paired q.net q.s q.t area area' x → room' ≡ replicate (length room) 0
      → (g : Got) → g ≡ got_of x → Made q w area room g area' room'
  unfolding told_for summaries_for
  made_found e area' room' x k r g i =
      subst (λ y. Made q w area room y area' room') (sym i) (record {
        routes = k.p ∷ k.q ∷ [];
        answers = inl (k.p, k.q, refl, record { least = k.least; total = k.total });
        told = sym (ap told_for k.total);
        area-is = k.written.area-is ∙ ap (λ n. area_with n 2 area (k.p ∷ k.q ∷ [])) (sym e);
        room-is = r;
        two = refl;
        sums = ap (λ y. firsts (got_of y).sums 2) k.written.ways;
      })

-- the routes' numbers of arcs fit 16 bits
pub ways-short : (n : ℕ) (net : Net) (s t : ℕ) (area area' : List ℕ) (x : Ways) → net.nodes ≡ n → n ≤ 65536 → Paired net s t area area' x → (x.first.arcs < 65536) × (x.second.arcs < 65536)
ways-short n net s t area area' x e h k =
    let v = k.written in
    (omega (arith, ap (λ y. y.first.arcs) v.ways, v.p-fits), omega (arith, ap (λ y. y.second.arcs) v.ways, v.q-fits))
