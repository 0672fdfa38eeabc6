-- Only the distances to t tell which arc is picked, and these stay while arcs are stored; so a node that has its first arc keeps it.
use mathlib.Core.Path.{◌≡◌, refl, sym, subst, ◌∙◌}
use mathlib.Core.Logic.{◌≢◌}
use mathlib.Core.Bool.{true}
use mathlib.Core.List.{List}
use Prim.Native.Nat.{ℕ, ◌+◌, ◌*◌, ◌^◌, ◌≤◌, ◌<◌}
use native.Mathlib.Omega.{arith}
use native.Mathlib.Decide.{ℕ_discrete}
use lib.ListN.{length}
use Rattle.net.specs.Net.{Net}
use Rattle.net.proofs.Chains.{leaves-e}
use Rattle.table.specs.Table.{records, to_at, len_at, is_open_at, net_of}
use Rattle.table.specs.Fault.{table_fault, good}
use Rattle.table.specs.Run.{run_start}
use Rattle.table.proofs.FaultLaws.{all-good}
use Rattle.table.proofs.NetLaws.{arcs-length, arc-is}
use Rattle.table.proofs.RunLaws.{run-le}
use Rattle.distances.specs.Greedy.{Nearer, Pick}
use Rattle.working_room.specs.Field.{room_bytes, long_at, put_word, Within}
use Rattle.working_room.proofs.RoomLaws.{word-put, word-put-node, within_word, within_same, within-long_at}
use Rattle.reach.specs.Stand.{dist_in, last_in}
use Rattle.first_routes.specs.Firsts.{far, back}
use Rattle.first_routes.specs.Picking.{GoesOn, PickedTo, Chosen}
use Rattle.first_routes.proofs.OutLaws.{run_out, dist-at, dist_same}

module _ (nodes : ℕ) (t closed : List ℕ) (ok : table_fault nodes t ≡ good) (l : List ℕ) (v : ℕ) (in-v : v < nodes) where
  -- what the test of an arc compares
  pub nearer-e : (a : ℕ) → Nearer (net_of nodes t closed) (dist_in back nodes l) v a → len_at t a + long_at 32 l (to_at t a) ≡ long_at 32 l v
  nearer-e a n =
      let b : a < records t = omega (arith, arcs-length t, (leaves-e (net_of nodes t closed) v a n.is-leaving).is-arc) in
      let j : len_at t a + dist_in back nodes l (to_at t a) ≡ dist_in back nodes l v = subst (λ x. x.len + dist_in back nodes l x.to ≡ dist_in back nodes l v) (arc-is t a b) n.just in
      omega (arith, j, dist-at back nodes l v in-v, dist-at back nodes l (to_at t a) (all-good nodes t ok a b).end)

  pub nearer-i : (a : ℕ) → run_start t v ≤ a → a < run_start t (v + 1) → is_open_at closed a ≡ true → len_at t a + long_at 32 l (to_at t a) ≡ long_at 32 l v → Nearer (net_of nodes t closed) (dist_in back nodes l) v a
  nearer-i a h k o e =
      let b : a < records t = omega (arith, run-le t (v + 1)) in
      let j : len_at t a + dist_in back nodes l (to_at t a) ≡ dist_in back nodes l v = omega (arith, dist-at back nodes l v in-v, dist-at back nodes l (to_at t a) (all-good nodes t ok a b).end) in
      record {
        is-leaving = run_out nodes t closed ok v a h k o;
        just = subst (λ x. x.len + dist_in back nodes l x.to ≡ dist_in back nodes l v) (sym (arc-is t a b)) j;
      }

-- ---- rooms that differ in first arcs only

pub back-same : (nodes : ℕ) (l m : List ℕ) → Within 28 4 l m → dist_in back nodes m ≡ dist_in back nodes l
back-same nodes l m w = dist_same back nodes l m (λ v. within-long_at w 32 v refl refl)

module _ (net : Net) (t : ℕ) (l m : List ℕ) where
  pub goes-on-same : Within 28 4 l m → GoesOn net t l → GoesOn net t m
  goes-on-same w h = record { on = subst (λ d. (v : ℕ) → d v < far → v ≢ t → (a : ℕ) × Nearer net d v a) (sym (back-same net.nodes l m w)) h.on }

  -- a node more has its first arc
  pub picked_more : (n : ℕ) → PickedTo net t l n → Chosen net t n l m → PickedTo net t m (n + 1)
  picked_more n h c = record { each = λ v k ne f. subst (λ d. Pick net d v (last_in back m v)) (sym e) (go v k ne (subst (λ d. d v < far) e f) (ℕ_discrete v n)) }
    where
      e : dist_in back net.nodes m ≡ dist_in back net.nodes l
      e = back-same net.nodes l m c.within

      go : (v : ℕ) → v < n + 1 → v ≢ t → dist_in back net.nodes l v < far → Dec (v ≡ n) → Pick net (dist_in back net.nodes l) v (last_in back m v)
      go v k ne f (yes q) = subst (λ x. Pick net (dist_in back net.nodes l) x (last_in back m x)) (sym q) (c.own (λ z. ne (q ∙ z)) (subst (λ x. dist_in back net.nodes l x < far) q f))
      go v k ne f (no q) = subst (Pick net (dist_in back net.nodes l) v) (sym (c.others v q)) (h.each v (omega (arith, q)) ne f)

-- ---- one node

module _ (net : Net) (t v : ℕ) (l : List ℕ) where
  -- nothing to pick: v is t, or does not reach it
  pub chosen_none : (v ≢ t → dist_in back net.nodes l v < far → ⊥) → Chosen net t v l l
  chosen_none h = record { within = within_same 28 4 l; own = λ ne f. absurd (h ne f); others = λ w ne. refl }

  pub chosen-put : (a : ℕ) → v * room_bytes + room_bytes ≤ length l → a < 2 ^ 32 → Pick net (dist_in back net.nodes l) v a → Chosen net t v l (put_word 28 l v a)
  chosen-put a h f p =
      record {
        within = within_word 28 l v a refl;
        own = λ ne k. subst (Pick net (dist_in back net.nodes l) v) (sym (word-put 28 l v a refl h f)) p;
        others = λ w ne. word-put-node 28 l v a refl w ne;
      }
