-- From an empty room: the distances to go, the start marked, and the empty path; what is found from there is the list (`near-found`).
use mathlib.Core.Path.{◌≡◌, refl, sym, ap, subst, ◌∙◌}
use mathlib.Core.Logic.{◌≢◌, ◌⊎◌, inl, inr, ⊎_elim}
use mathlib.Core.Option.{some}
use Rattle.std.specs.Prelude.{Option, None, Some}
use mathlib.Core.List.Memᴰ
use mathlib.Core.List.{List, [], Memᴰ}
use mathlib.Core.Bool.{false, not, ◌||◌}
use Prim.Native.Nat.{ℕ, zero, suc, pred, ◌+◌, ◌-◌, ◌*◌, ◌^◌, ◌≤◌, ◌<◌}
use native.Mathlib.Omega.{arith}
use native.Mathlib.Decide.{ℕ_discrete}
use native.Mathlib.Nat.{mul-le-mul_left}
use lib.Dec.{eqb}
use lib.ListN.{length, get_or, replicate, length-replicate}
use borrow.Author.Tests.{eq-eqb, ne_eqb}
use Rattle.lists.specs.Tests.{has, up_from}
use Rattle.words.specs.Number.{num}
use Rattle.words.proofs.NumberLaws.{length-put}
use Rattle.net.specs.Net.{Net}
use Rattle.net.specs.Route.{visited, end_of, length_of}
use Rattle.net.proofs.Chains.{partial-nil}
use Rattle.table.specs.Table.{arcs_of, net_of}
use Rattle.table.proofs.NetLaws.{table-sound}
use Rattle.search_ask.specs.Earlier.{earlier_in}
use Rattle.working_room.specs.Field.{room_bytes, long_at, put_word}
use Rattle.working_room.proofs.RoomLaws.{word-put, word-put-node, within-word_at}
use Rattle.remaining.specs.Standing.{far, field, go_in, Roomy, Settled}
use Rattle.remaining.proofs.GoingLaws.{go-distance, go-none}
use Rattle.remaining.proofs.StandingLaws.{go-below, shorter-than-far}
use Rattle.route_list.specs.Listed.{Listed}
use Rattle.variety.specs.Variety.{near}
use Rattle.variety.specs.Deeper.{deeper, insert_all}
use Rattle.variety.proofs.Listing.{near-found, near_none}
use Rattle.near_routes.specs.declared.Range.{Range}
use Rattle.near_routes.specs.Tries.{goes_on}
use Rattle.near_routes.specs.Deep.{seen_field, seen_at, trip_of, Deep, Found, Went}
use Rattle.near_routes.proofs.DeepLaws.{mark-go}
use Rattle.near_list.specs.Near.{Asks, Lists}

get_or-zeros : (n i : ℕ) → ◌≡◌ {A = ℕ} (get_or {A = ℕ} (replicate n 0) i 0) 0
get_or-zeros zero i = refl
get_or-zeros (suc n) zero = refl
get_or-zeros (suc n) (suc i) = get_or-zeros n i

pub num-zeros : (k n at : ℕ) → num k (replicate n 0) at ≡ 0
unfolding num
num-zeros zero n at = refl
num-zeros (suc k) n at = omega (arith, num-zeros k n at, ap (λ z. z * 2 ^ (8 * k)) (get_or-zeros n (at + k)))

either : (v u : ℕ) → (v ≡ u) ⊎ (v ≢ u)
either v u = go (ℕ_discrete v u)
  where
    go : Dec (v ≡ u) → (v ≡ u) ⊎ (v ≢ u)
    go (yes e) = inl e
    go (no e) = inr e

none-listed : (t : List ℕ) (w : ℕ) (l : List ℕ) → Listed t w 0 l
unfolding earlier_in up_from
none-listed t w l = record { slots = omega arith; words = λ i h. absurd (omega arith); in_order = tt }

none-earlier : (w : ℕ) (l : List ℕ) → earlier_in w 0 l ≡ []
unfolding earlier_in up_from
none-earlier w l = refl

module _ (t closed : List ℕ) (nodes s goal c d : ℕ) (path room : List ℕ) (a : Asks t nodes s goal c d path room) (b e : List ℕ) (is_b : b ≡ replicate (length room) 0)
    (st : Settled (net_of nodes t closed) goal b e) where
  abbrev net : Net
  net = net_of nodes t closed

  pub room-long : length e ≡ length room
  room-long = omega (arith, st.within.long, ap length is_b, length-replicate {A = ℕ} (length room) 0)

  roomy-e : Roomy nodes e
  roomy-e = omega (arith, room-long, a.roomy)

  start-go : go_in nodes e s ≡ long_at field e s
  start-go = go-below nodes e s a.s-below

  pub shortest-few : long_at field e s ≤ far
  shortest-few = omega (arith, st.going.most s, start-go)

  pub unreached : far ≤ long_at field e s → (w slots : ℕ) (l : List ℕ) → Lists t w slots (near (net_of nodes t closed) s goal c d) l l (Some 0)
  unreached h w slots l = (
    omega arith,
    none-listed t w l,
    none-earlier w l ∙ sym (near_none (net_of nodes t closed) s goal c d
        (go-none (net_of nodes t closed) (table-sound nodes t a.fine closed) s goal far a.s-below (go_in nodes e) st.going st.to-go (shorter-than-far nodes t closed 0 a.fine s a.s-below) (omega (arith, start-go)))),
    refl,
  )

  unmarked : (v : ℕ) → seen_at e v ≡ 0
  unmarked v = within-word_at st.within seen_field v refl refl ∙ ap (λ z. seen_at z v) is_b ∙ num-zeros 4 (length room) (v * room_bytes + seen_field)

  pub two-nodes : 1 ≤ length path
  two-nodes = omega (arith, a.path-long, a.s-below, a.goal-below, a.apart)

  module _ (slots : ℕ) (l f : List ℕ) (shortest : ℕ) (is_f : f ≡ put_word seen_field e s 1) (is-shortest : shortest ≡ long_at field e s) (Near-by : shortest < far) where
    abbrev y : Range
    y = record { nodes = nodes; start = s; goal = goal; d = d; most = (d + c) * shortest; slots = slots }

    same-go : go_in nodes f ≡ go_in nodes e
    same-go = ap (go_in nodes) is_f ∙ mark-go nodes e s 1

    s-in : s * room_bytes + room_bytes ≤ length e
    s-in = omega (arith, roomy-e, a.s-below)

    marked : (u : ℕ) → (eqb u s || false) ≡ not (eqb (seen_at f u) 0)
    marked u =
        ⊎_elim
        (λ z. ap (λ v. v || false) (eq-eqb u s z) ∙ sym (ap (λ v. not (eqb v 0)) (ap (λ v. seen_at f v) z ∙ ap (λ v. seen_at v s) is_f ∙ word-put seen_field e s 1 refl s-in (omega arith))))
        (λ z. ap (λ v. v || false) (ne_eqb u s z) ∙ sym (ap (λ v. not (eqb v 0)) (ap (λ v. seen_at v u) is_f ∙ word-put-node seen_field e s 1 refl u z ∙ unmarked u)))
        (either u s)

    -- whatever the limit is
    pub root : (most : ℕ) → slots * (nodes - 1) ≤ length l → length l < 4611686018427387904 → Deep (record { nodes = nodes; start = s; goal = goal; d = d; most = most; slots = slots }) t closed l path f 0 s 0 0
    unfolding end_of length_of visited has
    root most room_for few =
        record {
          fine = a.fine;
          roomy = omega (arith, ap length is_f, length-put 4 e (s * room_bytes + seen_field) 1, roomy-e);
          go-most = λ u. subst (λ (g : ℕ → ℕ). g u ≤ far) (sym same-go) (st.going.most u);
          s-below = a.s-below;
          d-most = a.d-most;
          path-long = a.path-long;
          deep = omega arith;
          is-partial = partial-nil (net_of nodes t closed) s;
          ends = refl;
          is-long = refl;
          seen = λ u h. marked u;
          listed = none-listed t (nodes - 1) l;
          few = omega arith;
          slots = room_for;
          slots-few = omega (arith, mul-le-mul_left slots two-nodes, ap (λ z. slots * z) a.path-long);
          fresh = λ r k. absurd (Memᴰ.not-nil (subst (Memᴰ r) (none-earlier (nodes - 1) l) k));
        }

    rs-is : insert_all (arcs_of t) (earlier_in (nodes - 1) 0 l) (goes_on (trip_of y t closed f) (nodes - 1 - 0) []) ≡ near (net_of nodes t closed) s goal c d
    rs-is =
        let z : nodes - 1 - 0 ≡ pred nodes = omega arith in
        ap (λ k. insert_all (arcs_of t) k (goes_on (trip_of y t closed f) (nodes - 1 - 0) [])) (none-earlier (nodes - 1) l)
        ∙ ap (insert_all (arcs_of t) [])
        (ap {A = ℕ → ℕ} (λ D. deeper (net_of nodes t closed) s goal D d ((d + c) * shortest) (nodes - 1 - 0) []) same-go
        ∙ ap (λ k. deeper (net_of nodes t closed) s goal (go_in nodes e) d ((d + c) * shortest) k []) z)
        ∙ near-found (net_of nodes t closed) (table-sound nodes t a.fine closed) s goal a.s-below c d shortest
        (go-distance (net_of nodes t closed) (table-sound nodes t a.fine closed) s goal far a.s-below (go_in nodes e) st.going st.to-go (omega (arith, start-go)) ∙ ap some (start-go ∙ sym is-shortest))
        (go_in nodes e) st.to-go

    listed : (m : List ℕ) (r : Option ℕ) → Found (record { nodes = nodes; start = s; goal = goal; d = d; most = (d + c) * shortest; slots = slots }) t l (insert_all (arcs_of t) (earlier_in (nodes - 1) 0 l) (goes_on (trip_of y t closed f) (nodes - 1 - 0) [])) m r
        → Lists t (nodes - 1) slots (near (net_of nodes t closed) s goal c d) l m r
    listed m (Some r) o = (o.0, o.1, o.2 ∙ rs-is, o.3)
    listed m None o = omega (arith, o, ap length rs-is)

    pub lists : (m q g : List ℕ) (r : Option ℕ) → Went (record { nodes = nodes; start = s; goal = goal; d = d; most = (d + c) * shortest; slots = slots }) t closed l path f 0 0 m q g r
        → Lists t (nodes - 1) slots (near (net_of nodes t closed) s goal c d) l m r
        × (length m ≡ length l) × (length q ≡ length path) × (length g ≡ length room)
    lists m q g r w = (
      listed m r w.found,
      w.list-long,
      w.path-long,
      w.room.long ∙ ap length is_f ∙ length-put 4 e (s * room_bytes + seen_field) 1 ∙ room-long,
    )
