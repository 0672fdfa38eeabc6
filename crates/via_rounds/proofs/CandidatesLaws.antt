-- The candidates in order. The nodes that have both first routes, in rising order of their keys, are the nodes in turn of the theory; so the profile is what is kept of
-- their joined chains.
use mathlib.Core.Path.{◌≡◌, refl, ap, ap₂, subst, fun_ext, ◌∙◌}
use mathlib.Core.Logic.{inl, ⊎_elim}
use mathlib.Core.Bool.{Bool, true, false, cond}
use mathlib.Core.List.Memᴰ
use mathlib.Core.List.{List, [], ◌∷◌, map, Memᴰ}
use Prim.Native.Nat.{ℕ, ◌+◌, ◌<◌}
use native.Mathlib.Omega.{arith}
use lib.Dec.{T, ltb, lt→ltb}
use borrow.Author.Tests.{lt-ltb}
use Rattle.lists.specs.Tests.{every}
use Rattle.lists.proofs.Cases.{order}
use Rattle.lists.proofs.TestLaws.{every-i}
use Rattle.net.specs.Net.{Net}
use Rattle.net.specs.Route.{end_of, length_of}
use Rattle.net.specs.Round.{Query}
use Rattle.net.proofs.Valid.{Valid}
use Rattle.net.proofs.Order.{AtMost}
use Rattle.net.proofs.Chains.{partial-chain}
use Rattle.distances.proofs.Walks.{end_of-append}
use Rattle.table.specs.Table.{records, roads_of}
use Rattle.table.proofs.NetLaws.{arcs-length}
use Rattle.search_ask.specs.declared.Ask.{Ask}
use Rattle.search_ask.specs.Ask.{Accepted, net_for, query_for}
use Rattle.search_ask.proofs.AskLaws.{accepted-valid}
use Rattle.round.proofs.EarlierLaws.{chain-arcs}
use Rattle.working_room.specs.Field.{long_at}
use Rattle.reach.specs.Stand.{dist_in}
use Rattle.first_routes.specs.Firsts.{far, forth, back}
use Rattle.via.specs.Via.{kept_of, profile}
use Rattle.via.specs.Joined.{DrivesOwn, joined, NeverBack, InTurn}
use Rattle.via.proofs.Sift.{driven-own, sift}
use Rattle.via_chains.specs.Chains.{Prepared, to_in, on_in, joined_in, both_in, key_for}
use Rattle.via_chains.proofs.ChainsLaws.{to-first, on-first, both-near, both-all, joined_length, key-order, key_apart}
use Rattle.via_drop.specs.Drop.{Beside}
use Rattle.via_rounds.proofs.NodesLaws.{Rising, in_turn, in-turn-rising, in-turn-e, in-turn-i}
use Rattle.via_rounds.proofs.BesideLaws.{joined_same, both-same, key-same}

abbrev pub nodes_in : ℕ → List ℕ → List ℕ
nodes_in n l = in_turn (key_for n l) (both_in n l) n

abbrev pub candidates : Net → ℕ → ℕ → List ℕ → List (List ℕ)
candidates net s t l = map (joined_in net s t l) (nodes_in net.nodes l)

pub candidates-same : (net : Net) (s t : ℕ) (l m : List ℕ) → Beside l m → candidates net s t m ≡ candidates net s t l
candidates-same net s t l m b = ap₂ (λ f ns. map f ns) (joined_same l m b net s t) (ap₂ (λ f g. in_turn f g net.nodes) (key-same l m b net.nodes) (both-same l m b net.nodes))

module _ (ask : Ask) (table closed : List ℕ) (ok : Accepted ask table) where
  abbrev q : Query
  q = query_for ask table closed []

  pub valid : Valid q
  valid = accepted-valid ok closed []

  pub own : DrivesOwn q.net
  own p a m = driven-own (roads_of table) p a m

  module _ (l : List ℕ) (P : Prepared (net_for ask table closed) ask.s ask.goal l) where
    abbrev chain_by : ℕ → List ℕ
    chain_by = joined_in q.net q.s q.t l

    abbrev to : ℕ → List ℕ
    to = to_in q.net q.s l

    abbrev on : ℕ → List ℕ
    on = on_in q.net q.t l

    abbrev key : ℕ → ℕ
    key = key_for ask.nodes l

    abbrev both : ℕ → Bool
    both = both_in ask.nodes l

    is-joined : (v : ℕ) → chain_by v ≡ joined to on v
    unfolding joined_in
    is-joined v = refl

    never_back : (ns : List ℕ) → ((v : ℕ) → Memᴰ v ns → (v < ask.nodes) × (both v ≡ true)) → Rising key ns → NeverBack q.net.arcs (map chain_by ns)
    never_back [] e h = tt
    never_back (v ∷ ns) e h = (λ r k. at r (Memᴰ.of_map chain_by ns k), never_back ns (λ w k. e w (Memᴰ.tail k)) h.1)
      where
        at : (r : List ℕ) → (w : ℕ) × Memᴰ w ns × (chain_by w ≡ r) → AtMost (length_of q.net.arcs) (chain_by v) r
        at r w =
            let x = e v (Memᴰ.head refl) in
            let y = e w.0 (Memᴰ.tail w.1) in
            subst (AtMost (length_of q.net.arcs) (chain_by v)) w.2
            (⊎_elim (λ i. inl (ap chain_by (key_apart ask table closed l ok P v w.0 x.0 y.0 x.1 y.1 (omega (arith, i, h.0 w.0 w.1)))))
            (key-order ask table closed l ok P v w.0 x.0 y.0 x.1 y.1) (order (key w.0) (key v)))

    turn : InTurn q.net q.s q.t to on (nodes_in ask.nodes l)
    turn =
        record {
          each = λ v m. let e = in-turn-e key both ask.nodes v m in let b = both-near ask table closed l ok P v e.1 in
              record { is-to = to-first ask table closed l ok P v e.0 b.0; is-on = on-first ask table closed l ok P v e.0 b.1 };
          all = λ v p r f g. let e = both-all ask table closed l ok P v p r f g in in-turn-i key both ask.nodes v e.0 e.1;
          in_order = subst (λ c. NeverBack q.net.arcs (map c (nodes_in ask.nodes l))) (fun_ext is-joined)
              (never_back (nodes_in ask.nodes l) (in-turn-e key both ask.nodes) (in-turn-rising key both ask.nodes));
        }

    pub profile-of : (k : ℕ) → kept_of q k [] (candidates q.net q.s q.t l) ≡ profile q k
    profile-of k =
        ap (λ c. kept_of q k [] (map c (nodes_in ask.nodes l))) (fun_ext is-joined) ∙ sift q valid own ok.apart ok.a-below to on (nodes_in ask.nodes l) turn k

    -- ---- one candidate

    module _ (v : ℕ) (h : v < ask.nodes) (e : both_in ask.nodes l v ≡ true) where
      near : (dist_in forth ask.nodes l v < far) × (dist_in back ask.nodes l v < far)
      near = both-near ask table closed l ok P v e

      -- it has an arc, since s and t are apart
      pub candidate-long : 0 < length_of q.net.arcs (chain_by v)
      unfolding end_of length_of
      candidate-long =
          go (chain_by v)
          (ap (end_of q.net.arcs q.s) (is-joined v) ∙ end_of-append q.net.arcs q.s (to v) (on v)
          ∙ ap (λ x. end_of q.net.arcs x (on v)) (to-first ask table closed l ok P v h near.0).ends ∙ (on-first ask table closed l ok P v h near.1).ends)
        where
          go : (p : List ℕ) → end_of q.net.arcs q.s p ≡ q.t → 0 < length_of q.net.arcs p
          go [] z = absurd (ok.apart z)
          go (a ∷ p) z = omega (arith, valid.sound.positive a)

      -- the two distances as they are read
      forth-is : dist_in forth ask.nodes l v ≡ long_at 12 l v
      forth-is = ap (λ b. cond b (long_at 12 l v) far) (lt-ltb v ask.nodes h)

      back_is : dist_in back ask.nodes l v ≡ long_at 32 l v
      back_is = ap (λ b. cond b (long_at 32 l v) far) (lt-ltb v ask.nodes h)

      pub read-near : (long_at 12 l v < far) × (long_at 32 l v < far)
      read-near = (omega (arith, forth-is, near.0), omega (arith, back_is, near.1))

      pub candidate-length : long_at 12 l v + long_at 32 l v ≡ length_of q.net.arcs (chain_by v)
      candidate-length = omega (arith, forth-is, back_is, joined_length ask table closed l ok P v h e)

      pub candidate-arcs : every (λ a. ltb a (records table)) (chain_by v) ≡ true
      candidate-arcs =
          is_true (every (λ a. ltb a (records table)) (chain_by v))
          (every-i (λ a. ltb a (records table)) (chain_by v)
          (λ a m. lt→ltb a (records table)
          (subst (λ n. a < n) (arcs-length table)
          (⊎_elim (chain-arcs q.net q.s (to v) (partial-chain q.net q.s (to v) (to-first ask table closed l ok P v h near.0).is-partial) a)
          (chain-arcs q.net v (on v) (partial-chain q.net v (on v) (on-first ask table closed l ok P v h near.1).is-partial) a)
          (Memᴰ.append_cases (to v) (subst (Memᴰ a) (is-joined v) m))))))
        where
          is_true : (b : Bool) → T b → b ≡ true
          is_true true i = refl
          is_true false i = absurd i
