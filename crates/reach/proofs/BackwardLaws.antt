-- The arcs that come to u are those of its run in the second table, by rising number: a turn goes along that run. After record j, which is arc a, every arc that
-- comes to u and is yet to be looked at has a number above a. In the net turned round these arcs leave u. In place of a record's own arc any open one of the same two
-- nodes and length may be looked at: then the record's own lowers nothing, and where there is none it is closed.
use mathlib.Core.Path.{◌≡◌, refl, sym, ap, subst, ◌∙◌}
use mathlib.Core.Logic.{◌⊎◌, inl, inr, ⊎_elim}
use mathlib.Core.Bool.{true, false}
use mathlib.Core.List.{List}
use Prim.Native.Nat.{ℕ, ◌+◌, ◌≤◌, ◌<◌}
use native.Mathlib.Omega.{arith}
use lib.Dec.{T}
use lib.ListN.{length}
use Rattle.lists.proofs.Cases.{order, cases}
use Rattle.net.specs.Net.{Net, arc}
use Rattle.distances.specs.Search.{Open}
use Rattle.distances.specs.Turned.{reversed}
use Rattle.distances.proofs.Turned.{rev-from, rev-to, rev-len, rev-open, open-rev}
use Rattle.table.specs.Table.{records, from_at, to_at, len_at, is_open_at, net_of}
use Rattle.table.specs.Fault.{table_fault, good}
use Rattle.table.proofs.NetLaws.{arcs-length, arc-is, from-below}
use Rattle.second.specs.Second.{wrong_second, number_at, Next}
use Rattle.second.specs.Lookup.{coming_start}
use Rattle.second.proofs.ComingLaws.{coming-le, coming-order, coming-past, second_from, second-to, second-len, coming-e, coming-i, coming-rises, next-first, next-after}
use Rattle.working_room.specs.Field.{long_at}
use Rattle.run_notes.specs.Noted.{start_by}
use Rattle.reach.specs.declared.Stand.{Stand}
use Rattle.reach.specs.Steps.{Looked}
use Rattle.reach.specs.Choice.{Fitting, NoFitting, Brought}
use Rattle.reach.specs.Turn.{Turn}
use Rattle.reach.specs.Way.{along, turned_arcs, AllFrom, NoneFrom, Along}
use Rattle.reach.proofs.LookingLaws.{turn-skip, turn-look, turn-again}
use Rattle.reach.proofs.ForwardLaws.{open-arc, arc-open}
use Rattle.reach.proofs.ChoiceLaws.{fits-open, fits-e}

abbrev back : ℕ → List ℕ → List ℕ → Net
back nodes t closed = reversed (net_of nodes t closed)

-- the run is over where the table is, and at a record of another node; up to there it goes on
module _ (nodes : ℕ) (t second : List ℕ) (ok : table_fault nodes t ≡ good) (right : wrong_second nodes t second ≡ false) (u j : ℕ) where
  pub goes_on : j < records second → to_at second j ≡ u → j < coming_start second (u + 1)
  goes_on h e = coming-past nodes t ok second right (u + 1) j h (omega arith)

  pub ends-here : coming_start second u ≤ j → (to_at second j ≡ u → ⊥) → coming_start second (u + 1) ≤ j
  ends-here low ne =
      ⊎_elim (λ w. w)
      (λ w. absurd (ne (second-to nodes t ok second right j (omega (arith, coming-le second (u + 1))) ∙ (coming-e nodes t ok second right u j low w).1)))
      (order (coming_start second (u + 1)) j)

module _ (nodes : ℕ) (t second : List ℕ) (ok : table_fault nodes t ≡ good) (right : wrong_second nodes t second ≡ false) (u end : ℕ) (ends : end ≡ coming_start second (u + 1)) where
  pub along-first : (j : ℕ) → j ≡ coming_start second u → Along nodes t second u end j 0
  along-first j e =
      record {
        low = omega arith;
        high = omega (arith, coming-order second u, ends);
        behind = λ i p q. absurd (omega arith);
        next = λ h. next-first nodes t ok second right u j e (omega (arith, ends));
      }

  module _ (j lo a : ℕ) (g : Along nodes t second u end j lo) (h : j < end) (is : a ≡ number_at nodes t j) where
    pub along-on : Along nodes t second u end (j + 1) (a + 1)
    along-on =
        record {
          low = omega (arith, g.low);
          high = omega arith;
          behind = λ i p q. ⊎_elim
              (λ w. let e : number_at nodes t i ≡ number_at nodes t j = ap (number_at nodes t) (omega arith) in omega (arith, is))
              (λ w. omega (arith, is, coming-rises nodes t ok second right u i j p w (omega (arith, ends))))
              (order j i);
          next = λ k. subst (λ y. Next nodes t (j + 1) (y + 1)) (sym is) (next-after nodes t ok second right u j g.low (omega (arith, ends)));
        }

    -- record j
    second-in : j < records second
    second-in = omega (arith, coming-le second (u + 1), ends)

    arc-in : a < records t
    arc-in = omega (arith, is, (coming-e nodes t ok second right u j g.low (omega (arith, ends))).0)

    arc-to : to_at t a ≡ u
    arc-to = ap (λ y. to_at t y) is ∙ (coming-e nodes t ok second right u j g.low (omega (arith, ends))).1

    arc-from : from_at second j ≡ from_at t a
    arc-from = second_from nodes t ok second right j second-in ∙ ap (λ y. from_at t y) (sym is)

    arc-len : len_at second j ≡ len_at t a
    arc-len = second-len nodes t ok second right j second-in ∙ ap (λ y. len_at t y) (sym is)

    pub from_in : from_at second j < nodes
    from_in = omega (arith, arc-from, from-below nodes t ok a, ap (λ y. y.from) (arc-is t a arc-in))

-- ---- a turn

module _ (nodes : ℕ) (t closed : List ℕ) where
  -- an open arc that leaves u in the net turned round comes to u
  comes : (u e : ℕ) → Open (back nodes t closed) e → (arc (back nodes t closed).arcs e).from ≡ u → (e < records t) × (is_open_at closed e ≡ true) × (to_at t e ≡ u)
  comes u e o starts =
      let p = open-rev (net_of nodes t closed) e o in
      let q = arc-open nodes t closed e p in
      (q.0, q.1, sym (ap (λ y. y.to) (arc-is t e q.0)) ∙ sym (rev-from (net_of nodes t closed) e p.0) ∙ starts)

pub backward-begins : (nodes : ℕ) (t w closed : List ℕ) (u : ℕ) → table_fault nodes t ≡ good → wrong_second nodes t w ≡ false
    → (lo : ℕ) × Along nodes t w u (coming_start w (u + 1)) (start_by to_at w u) lo × AllFrom (along turned_arcs nodes t closed) u lo
unfolding coming_start start_by
backward-begins nodes t w closed u ok right =
    (0, along-first nodes t w ok right u (coming_start w (u + 1)) refl (start_by to_at w u) refl, λ e o starts. omega arith)

pub backward-ends : (nodes : ℕ) (t w closed : List ℕ) (u i lo : ℕ) → table_fault nodes t ≡ good → wrong_second nodes t w ≡ false → Along nodes t w u (coming_start w (u + 1)) i lo
    → (records w ≤ i) ⊎ (to_at w i ≡ u → ⊥) → NoneFrom (along turned_arcs nodes t closed) u lo
unfolding reversed turned_arcs
backward-ends nodes t w closed u i lo ok right g over e o starts p =
    let c = comes nodes t closed u e o starts in
    let y = coming-i nodes t ok w right u e c.0 c.2 in
    absurd (omega (arith, g.behind y.0 y.1 (omega (arith, y.2, past over)), y.3))
  where
    past : (records w ≤ i) ⊎ (to_at w i ≡ u → ⊥) → coming_start w (u + 1) ≤ i
    past (inl h) = omega (arith, coming-le w (u + 1))
    past (inr h) = ends-here nodes t w ok right u i g.low h

module _ (nodes : ℕ) (t closed : List ℕ) where
  module _ (second : List ℕ) (ok : table_fault nodes t ≡ good) (right : wrong_second nodes t second ≡ false) (u end : ℕ) (ends : end ≡ coming_start second (u + 1))
      (s : ℕ) (x : Stand) (l m : List ℕ) (root d j lo : ℕ) (g : Along nodes t second u end j lo) (k : Turn (back nodes t closed) s x l m root u d lo) where
    module _ (h : j < end) (a : ℕ) (is : a ≡ number_at nodes t j) where
      -- no arc that comes to u lies between
      between : (e : ℕ) → Open (back nodes t closed) e → (arc (back nodes t closed).arcs e).from ≡ u → lo ≤ e → e < a → ⊥
      between e o starts p q =
          (g.next h).none e p (omega (arith, is)) ((comes nodes t closed u e o starts).2 ∙ sym (coming-e nodes t ok second right u j g.low (omega (arith, ends))).1)

      passed : is_open_at closed a ≡ false → Turn (back nodes t closed) s x l m root u d (a + 1)
      passed z =
          turn-skip (back nodes t closed) s x l m root u d lo k (a + 1)
          (λ e o starts p q. ⊎_elim
          (λ w. let y : e ≡ a = omega arith in subst T (sym (comes nodes t closed u e o starts).1 ∙ ap (is_open_at closed) y ∙ z) tt)
          (λ w. between e o starts p w) (order a e))

      looked : is_open_at closed a ≡ true → (w c : ℕ) → w ≡ from_at second j → c ≡ d + len_at second j → (m' : List ℕ) (r : ℕ) → Looked x nodes m root w a c m' r → Turn (back nodes t closed) s x l m' r u d (a + 1)
      unfolding reversed
      looked z w c ew ec m' r y =
          let i = arc-in nodes t second ok right u end ends j lo a g h is in
          let b : a < length (net_of nodes t closed).arcs = omega (arith, i, arcs-length t) in
          turn-look (back nodes t closed) s x l m root u d a (turn-skip (back nodes t closed) s x l m root u d lo k a between)
          (rev-open (net_of nodes t closed) a (open-arc nodes t closed a i z))
          (rev-from (net_of nodes t closed) a b ∙ ap (λ y. y.to) (arc-is t a i) ∙ arc-to nodes t second ok right u end ends j lo a g h is) w
          (rev-to (net_of nodes t closed) a b ∙ ap (λ y. y.from) (arc-is t a i) ∙ sym (arc-from nodes t second ok right u end ends j lo a g h is) ∙ sym ew)
          (omega (arith, ew, from_in nodes t second ok right u end ends j lo a g h is)) c
          (omega (arith, ec, arc-len nodes t second ok right u end ends j lo a g h is, rev-len (net_of nodes t closed) a b, ap (λ y. y.len) (arc-is t a i))) m' r y

      -- on to the next record, where w is no further than by its arc or that is closed
      onward : (w c : ℕ) → w ≡ from_at second j → c ≡ d + len_at second j → (long_at x.dist m w ≤ c) ⊎ (is_open_at closed a ≡ false) → Turn (back nodes t closed) s x l m root u d (a + 1)
      onward w c ew ec (inl h) = ⊎_elim (λ y. looked y w c ew ec m root (inl (h, refl, refl))) passed (cases (is_open_at closed a))
      onward w c ew ec (inr z) = passed z

      -- where no arc such as record j is open, its own is not
      shut : (w len : ℕ) → w ≡ from_at second j → len ≡ len_at second j → NoFitting t closed w u len → is_open_at closed a ≡ false
      shut w len ew el none =
          sym (fits-open t closed u len a (arc-to nodes t second ok right u end ends j lo a g h is) (sym (arc-len nodes t second ok right u end ends j lo a g h is) ∙ sym el))
          ∙ none a (arc-in nodes t second ok right u end ends j lo a g h is) (sym (arc-from nodes t second ok right u end ends j lo a g h is) ∙ sym ew)

      -- another such arc looked at in its place
      again : (w len c : ℕ) → w ≡ from_at second j → c ≡ d + len → (b : ℕ) → Fitting t closed w u len b → (m' : List ℕ) (r : ℕ) → Looked x nodes m root w b c m' r → Turn (back nodes t closed) s x l m' r u d lo
      unfolding reversed
      again w len c ew ec b f m' r y =
          let k' = fits-e t closed u len b f.2 in
          let z : b < length (net_of nodes t closed).arcs = omega (arith, f.0, arcs-length t) in
          turn-again (back nodes t closed) s x l m root u d lo k b
          (rev-open (net_of nodes t closed) b (open-arc nodes t closed b f.0 k'.2))
          (rev-from (net_of nodes t closed) b z ∙ ap (λ y. y.to) (arc-is t b f.0) ∙ k'.0) w
          (rev-to (net_of nodes t closed) b z ∙ ap (λ y. y.from) (arc-is t b f.0) ∙ f.1)
          (omega (arith, ew, from_in nodes t second ok right u end ends j lo a g h is)) c
          (omega (arith, ec, k'.1, rev-len (net_of nodes t closed) b z, ap (λ y. y.len) (arc-is t b f.0))) m' r y

-- once an arc is looked at, its start is no further than by it
looked-near : (x : Stand) (n : ℕ) (l : List ℕ) (root w a c : ℕ) (m : List ℕ) (r : ℕ) → Looked x n l root w a c m r → long_at x.dist m w ≤ c
looked-near x n l root w a c m r (inl y) = omega (arith, y.0, ap (λ (q : List ℕ). long_at x.dist q w) y.1)
looked-near x n l root w a c m r (inr y) = omega (arith, y.1.dist-new)

module _ (nodes : ℕ) (t closed second : List ℕ) (ok : table_fault nodes t ≡ good) (right : wrong_second nodes t second ≡ false) (u end : ℕ) (ends : end ≡ coming_start second (u + 1))
    (s : ℕ) (x : Stand) (l m : List ℕ) (root d j lo : ℕ) (g : Along nodes t second u end j lo) (k : Turn (back nodes t closed) s x l m root u d lo) (h : j < end)
    (w len c : ℕ) (ew : w ≡ from_at second j) (el : len ≡ len_at second j) (ec : c ≡ d + len) where
  -- record j, by an arc such as its own
  pub backward-bring : (m' : List ℕ) (r : ℕ) → Brought t closed x nodes m root w u len c m' r → Turn (back nodes t closed) s x l m' r u d (number_at nodes t j + 1)
  backward-bring m' r (inl y) =
      subst (λ (q : List ℕ). Turn (back nodes t closed) s x l q r u d (number_at nodes t j + 1)) (sym y.1)
      (subst (λ q. Turn (back nodes t closed) s x l m q u d (number_at nodes t j + 1)) (sym y.2)
      (onward nodes t closed second ok right u end ends s x l m root d j lo g k h (number_at nodes t j) refl w c ew (omega (arith, ec, el))
      (⊎_elim inl (λ z. inr (shut nodes t closed second ok right u end ends s x l m root d j lo g k h (number_at nodes t j) refl w len ew el z)) y.0)))
  backward-bring m' r (inr y) =
      onward nodes t closed second ok right u end ends s x l m' r d j lo g
      (again nodes t closed second ok right u end ends s x l m root d j lo g k h (number_at nodes t j) refl w len c ew ec y.0 y.1 m' r y.2) h (number_at nodes t j) refl w c ew (omega (arith, ec, el))
      (inl (looked-near x nodes m root w y.0 c m' r y.2))
