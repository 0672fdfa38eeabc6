-- The listing in the buffers. The bytes tell which arcs go on (`goes-is`); where one is gone by, the path is longer by it and its node is marked (`deep-next`); what is found
-- there, and by the arcs that are left, makes the whole (`turn_more`); and a list once longer than its slots stays so (`turn-over`).
use mathlib.Core.Path.{◌≡◌, refl, sym, ap, ap₂, subst, fun_ext, ◌∙◌}
use mathlib.Core.Logic.{◌≢◌, ◌⊎◌, inl, inr, ⊎_elim}
use mathlib.Core.List.{List, [], ◌∷◌, ◌++◌, Memᴰ}
use mathlib.Core.Bool.{Bool, true, false, not, ◌&&◌, ◌||◌, cond}
use Rattle.std.specs.Prelude.{Option, None, Some}
use Prim.Native.Nat.{ℕ, zero, suc, ◌+◌, ◌-◌, ◌*◌, ◌≤◌, ◌<◌}
use native.Mathlib.Omega.{arith}
use native.Mathlib.Numerals.{add-one}
use native.Mathlib.Nat.{mul-le-mul_right}
use lib.Dec.{T, ltb, leb, eqb}
use lib.ListN.{length, get_or, set, take, drop, length-append, length-set}
use lib.Seq.{length-take-le, take-suc-set, take-set-le, take-take, drop-drop}
use borrow.Author.Tests.{lt-ltb, eq-eqb, ne_eqb, eqb-true}
use Rattle.lists.specs.Tests.{has}
use Rattle.lists.proofs.Cases.{cases}
use Rattle.lists.proofs.TestLaws.{and_l, and_r}
use Rattle.words.proofs.NumberLaws.{length-put}
use Rattle.net.specs.Net.{arc}
use Rattle.net.specs.Route.{visited, end_of, leaves, partial, length_of, before, place, insert}
use Rattle.net.specs.Limits.{most_nodes}
use Rattle.net.proofs.Order.{length_of-append, before-total}
use Rattle.net.proofs.Chains.{leaves-e, partial-chain, partial-more, end_of-more, visited-append}
use Rattle.net.proofs.Listing.{partial-short, end_below}
use Rattle.distances.proofs.Walks.{open-arcs}
use Rattle.table.specs.Table.{records, to_at, len_at, arcs_of, is_open_at, net_of}
use Rattle.table.specs.Run.{run_start}
use Rattle.table.specs.Fault.{table_fault, good}
use Rattle.table.proofs.FaultLaws.{all-good, good-size}
use Rattle.table.proofs.NetLaws.{arcs-length, arc-is, table-sound}
use Rattle.table.proofs.RunLaws.{run-le, run-mono, run_is, run-has}
use Rattle.search_ask.specs.Earlier.{earlier_in}
use Rattle.search_ask.proofs.EarlierLaws.{length-earlier_in}
use Rattle.working_room.specs.Field.{room_bytes, long_at, put_word}
use Rattle.working_room.proofs.RoomLaws.{word-put, word-put-node, within_word, within-long_at}
use Rattle.remaining.specs.Standing.{far, field, go_in, Roomy}
use Rattle.remaining.proofs.StandingLaws.{go-below, shorter-than-far}
use Rattle.route_list.specs.Listed.{Fits, Listed, Placed}
use Rattle.net.specs.Limits.{most_d}
use Rattle.variety.specs.Deeper.{may_arrive, insert_all}
use Rattle.variety.proofs.Places.{insert_all-grows}
use Rattle.near_routes.specs.declared.Range.{Range}
use Rattle.near_routes.specs.Tries.{Trip, tries, goes_on, found_by, left, Fresh, FreshFrom}
use Rattle.near_routes.specs.Deep.{seen_field, seen_at, wide, trip_of, goes_by, Deep, Kept, Found, Went, Turning}
use Rattle.near_routes.proofs.TryLaws.{deeper-there, deeper-run, tries-next, found-tried, found_none, left_step, left-done, insert_all-append, insert_all-one, insert_all-none, fresh_start, fresh-next, fresh-later, fresh-more, fresh-new}

-- ---- tests

and-true : (b : Bool) → (b && true) ≡ b
and-true true = refl
and-true false = refl

not-not : (b : Bool) → not (not b) ≡ b
not-not true = refl
not-not false = refl

or-true : (b : Bool) → (b || true) ≡ true
or-true true = refl
or-true false = refl

or-false : (b : Bool) → (b || false) ≡ b
or-false true = refl
or-false false = refl

true-e : (b : Bool) → T b → b ≡ true
true-e true h = refl
true-e false h = absurd h

or_assoc : (a b c : Bool) → (a || (b || c)) ≡ ((a || b) || c)
or_assoc true b c = refl
or_assoc false b c = refl

has_more : (v y : ℕ) (xs : List ℕ) → has v (xs ++ (y ∷ [])) ≡ (has v xs || eqb v y)
unfolding has
has_more v y [] = or-false (eqb v y)
has_more v y (z ∷ xs) = ap (λ b. eqb v z || b) (has_more v y xs) ∙ or_assoc (eqb v z) (has v xs) (eqb v y)

either : (v u : ℕ) → (v ≡ u) ⊎ (v ≢ u)
either v u = ⊎_elim (λ e. inl (eqb-true v u e)) (λ e. inr (λ z. let y : ◌≡◌ {A = ℕ} 0 1 = (let k : true ≡ false = sym (eq-eqb v u z) ∙ e in cc) in omega arith)) (cases (eqb v u))

-- ---- the room

pub kept_same : (l : List ℕ) → Kept l l
kept_same l = record { long = refl; dists = λ v. refl; seens = λ v. refl }

kept-go : (n : ℕ) {l m : List ℕ} → Kept l m → go_in n m ≡ go_in n l
kept-go n k = fun_ext (λ v. ap (λ z. cond (ltb v n) z far) (k.dists v))

module _ (n : ℕ) (l : List ℕ) (u z : ℕ) where
  pub mark-dists : (v : ℕ) → long_at field (put_word seen_field l u z) v ≡ long_at field l v
  mark-dists v = within-long_at (within_word seen_field l u z refl) field v refl refl

  pub mark-go : go_in n (put_word seen_field l u z) ≡ go_in n l
  mark-go = fun_ext (λ v. ap (λ y. cond (ltb v n) y far) (mark-dists v))

-- a mark set, what keeps it, and the mark taken away again
kept-turn : (b c c₂ : List ℕ) (u : ℕ) → u * room_bytes + room_bytes ≤ length c → Kept b c → seen_at c u ≡ 0 → Kept (put_word seen_field c u 1) c₂ → Kept b (put_word seen_field c₂ u 0)
kept-turn b c c₂ u room k is_zero k₂ =
    record {
      long = length-put 4 c₂ (u * room_bytes + seen_field) 0 ∙ k₂.long ∙ length-put 4 c (u * room_bytes + seen_field) 1 ∙ k.long;
      dists = λ v. mark-dists 0 c₂ u 0 v ∙ k₂.dists v ∙ mark-dists 0 c u 1 v ∙ k.dists v;
      seens = λ v. ⊎_elim
          (λ e. subst (λ y. seen_at (put_word seen_field c₂ u 0) y ≡ seen_at b y) (sym e)
          (word-put seen_field c₂ u 0 refl (omega (arith, k₂.long, length-put 4 c (u * room_bytes + seen_field) 1)) (omega arith) ∙ sym is_zero ∙ k.seens u))
          (λ e. word-put-node seen_field c₂ u 0 refl v e ∙ k₂.seens v ∙ word-put-node seen_field c u 1 refl v e ∙ k.seens v)
          (either v u);
    }

-- ---- a route more

insert-longer : (f : List ℕ → ℕ) (p : List ℕ) (xs : List (List ℕ)) → (Memᴰ p xs → ⊥) → length (insert f p xs) ≡ suc (length xs)
unfolding insert
insert-longer f p [] new = refl
insert-longer f p (q ∷ xs) new =
    go (before f p q) refl (before f q p) refl (insert-longer f p xs (λ m. new (Memᴰ.tail m)))
  where
    go : (b : Bool) → before f p q ≡ b → (c : Bool) → before f q p ≡ c → length (insert f p xs) ≡ suc (length xs) → length (place b c p q xs (insert f p xs)) ≡ suc (suc (length xs))
    go true e c g i = refl
    go false e true g i = ap suc i
    go false e false g i =
        absurd (⊎_elim (λ z. subst T e z) (λ z. ⊎_elim (λ y. subst T g y) (λ y. new (Memᴰ.head y)) z) (before-total f p q))

drop-on : {A : Type 0} (l m : List A) (i j : ℕ) → i ≤ j → drop i m ≡ drop i l → drop j m ≡ drop j l
drop-on l m i j h e =
    let z : i + (j - i) ≡ j = omega arith in
    subst (λ k. drop k m ≡ drop k l) z (sym (drop-drop (j - i) i m) ∙ ap (drop (j - i)) e ∙ drop-drop (j - i) i l)

-- ---- at a path

module _ (x : Range) (t closed l p b : List ℕ) (depth v size n : ℕ) (d : Deep x t closed l p b depth v size n) where
  abbrev P : List ℕ
  P = take depth p

  abbrev trip : Trip
  trip = trip_of x t closed b

  pub path-depth : length (take depth p) ≡ depth
  path-depth = length-take-le depth p (omega (arith, d.deep, d.path-long))

  pub v_below : v < x.nodes
  v_below = subst (λ u. u < x.nodes) d.ends (end_below (net_of x.nodes t closed) x.start d.s-below (table-sound x.nodes t d.fine closed).to_below (take depth p))

  pub size_below : size < far
  size_below = subst (λ z. z < far) d.is-long (shorter-than-far x.nodes t closed 0 d.fine x.start d.s-below (take depth p) d.is-partial)

  path-arcs : (j : ℕ) → j < length (take depth p) → get_or (take depth p) j 0 < records t
  path-arcs j h =
      omega (arith, arcs-length t, (open-arcs (net_of x.nodes t closed) x.start (take depth p) (partial-chain (net_of x.nodes t closed) x.start (take depth p) d.is-partial) (get_or (take depth p) j 0) (at (take depth p) j h)).0)
    where
      at : (q : List ℕ) (i : ℕ) → i < length q → Memᴰ (get_or q i 0) q
      at [] i k = absurd (omega arith)
      at (y ∷ q) zero k = Memᴰ.head refl
      at (y ∷ q) (suc i) k = Memᴰ.tail (at q i (omega arith))

  pub path-fits : Fits t (wide x) (take depth p)
  path-fits = record { few = omega (arith, path-depth, d.deep); arcs = path-arcs }

  pub path-new : Memᴰ (take depth p) (earlier_in (wide x) n l) → ⊥
  path-new = fresh-new (take depth p) (earlier_in (wide x) n l) d.fresh

  -- ---- at the goal

  module _ (e : v ≡ x.goal) where
    there : insert_all (arcs_of t) (earlier_in (wide x) n l) (goes_on (trip_of x t closed b) (wide x - depth) (take depth p)) ≡ insert (length_of (arcs_of t)) (take depth p) (earlier_in (wide x) n l)
    there = ap (insert_all (arcs_of t) (earlier_in (wide x) n l)) (deeper-there (trip_of x t closed b) (wide x - depth) (take depth p) (d.ends ∙ e)) ∙ insert_all-one (arcs_of t) (take depth p) (earlier_in (wide x) n l)

    pub arrived-full : x.slots ≤ n → Went x t closed l p b depth n l p b None
    arrived-full h =
        record {
          list-long = refl;
          path-long = refl;
          path = refl;
          room = kept_same b;
          found = omega (arith, ap length there, insert-longer (length_of (arcs_of t)) (take depth p) (earlier_in (wide x) n l) path-new, length-earlier_in (wide x) n l);
        }

    pub arrived-placed : (m : List ℕ) → n < x.slots → Placed t (wide x) n l (take depth p) m → Went x t closed l p b depth n m p b (Some (n + 1))
    arrived-placed m h w =
        record {
          list-long = w.long;
          path-long = refl;
          path = refl;
          room = kept_same b;
          found = (omega arith, w.listed, w.is ∙ sym there, w.behind);
        }

  -- ---- the arcs of the run

  module _ (ne : v ≢ x.goal) where
    pub turn-start : Turning x t closed l p b depth n (run_start t v) (run_start t (v + 1)) l p b n
    turn-start =
        record {
          list-long = refl;
          path-long = refl;
          path = refl;
          room = kept_same b;
          few = d.few;
          listed = d.listed;
          whole = ap (insert_all (arcs_of t) (earlier_in (wide x) n l)) (sym
              (deeper-run (trip_of x t closed b) (take depth p) (run_start t v) (run_start t (v + 1)) (wide x - depth) (table-sound x.nodes t d.fine closed) d.s-below d.is-partial
              (omega (arith, path-depth)) (λ z. ne (sym d.ends ∙ z)) (run-mono t v) (omega (arith, run-le t (v + 1), arcs-length t)) run));
          behind = refl;
          fresh = fresh_start (take depth p) (earlier_in (wide x) n l) (run_start t v) d.fresh;
        }
      where
        run : (a : ℕ) → T (leaves (net_of x.nodes t closed) (end_of (arcs_of t) x.start (take depth p)) a) → (run_start t v ≤ a) × (a < run_start t (v + 1))
        run a h =
            let y = leaves-e (net_of x.nodes t closed) (end_of (arcs_of t) x.start (take depth p)) a h in
            let k : a < records t = omega (arith, y.is-arc, arcs-length t) in
            run-has x.nodes t d.fine v a k (sym (ap (λ z. z.from) (arc-is t a k)) ∙ y.starts ∙ d.ends)

  module _ (a e : ℕ) (m q c : List ℕ) (r : ℕ) (g : Turning x t closed l p b depth n a e m q c r) where
    pub turn-done : e ≤ a → Went x t closed l p b depth n m q c (Some r)
    turn-done h =
        record {
          list-long = g.list-long;
          path-long = g.path-long;
          path = g.path;
          room = g.room;
          found = (g.few, g.listed, sym (ap (insert_all (arcs_of t) (earlier_in (wide x) r m)) (left-done (trip_of x t closed b) (wide x - depth - 1) (take depth p) a e h) ∙ insert_all-none (arcs_of t) (earlier_in (wide x) r m)) ∙ g.whole, g.behind);
        }

    module _ (in-run : a < e) where
      step : left (trip_of x t closed b) (wide x - depth - 1) (take depth p) a e ≡ found_by (trip_of x t closed b) (wide x - depth - 1) (take depth p) a ++ left (trip_of x t closed b) (wide x - depth - 1) (take depth p) (a + 1) e
      step = left_step (trip_of x t closed b) (wide x - depth - 1) (take depth p) a e in-run

      pub turn-skip : tries (trip_of x t closed b) (take depth p) a ≡ false → Turning x t closed l p b depth n (a + 1) e m q c r
      turn-skip z =
          record {
            list-long = g.list-long;
            path-long = g.path-long;
            path = g.path;
            room = g.room;
            few = g.few;
            listed = g.listed;
            whole = ap (insert_all (arcs_of t) (earlier_in (wide x) r m))
                (sym (step ∙ ap (λ y. y ++ left (trip_of x t closed b) (wide x - depth - 1) (take depth p) (a + 1) e) (found_none (trip_of x t closed b) (wide x - depth - 1) (take depth p) a z))) ∙ g.whole;
            behind = g.behind;
            fresh = fresh-later (take depth p) (earlier_in (wide x) r m) a g.fresh;
          }

      module _ (is-e : e ≡ run_start t (v + 1)) (from_start : run_start t v ≤ a) where
        pub arc-below : a < records t
        arc-below = omega (arith, run-le t (v + 1))

        u-below : to_at t a < x.nodes
        u-below = (all-good x.nodes t d.fine a arc-below).end

        to_is : (arc (arcs_of t) a).to ≡ to_at t a
        to_is = ap (λ z. z.to) (arc-is t a arc-below)

        leaves-is : leaves (net_of x.nodes t closed) (end_of (arcs_of t) x.start (take depth p)) a ≡ is_open_at closed a
        unfolding leaves
        leaves-is =
            ap₂ ◌&&◌ (ap (λ z. z && is_open_at closed a) (lt-ltb a (length (arcs_of t)) (omega (arith, arcs-length t, arc-below))))
            (eq-eqb (arc (arcs_of t) a).from (end_of (arcs_of t) x.start (take depth p)) (ap (λ z. z.from) (arc-is t a arc-below) ∙ run_is x.nodes t d.fine v a from_start (omega arith) ∙ sym d.ends))
            ∙ and-true (is_open_at closed a)

        new_is : not (has (arc (arcs_of t) a).to (visited (arcs_of t) x.start (take depth p))) ≡ eqb (seen_at c (to_at t a)) 0
        new_is =
            ap not (ap (λ z. has z (visited (arcs_of t) x.start (take depth p))) to_is ∙ d.seen (to_at t a) u-below)
            ∙ not-not (eqb (seen_at b (to_at t a)) 0) ∙ ap (λ z. eqb z 0) (sym (g.room.seens (to_at t a)))

        longer : length_of (arcs_of t) (take depth p ++ (a ∷ [])) ≡ size + len_at t a
        unfolding length_of
        longer = omega (arith, length_of-append (arcs_of t) (take depth p) (a ∷ []), ap (λ z. z.len) (arc-is t a arc-below), d.is-long)

        may-is : may_arrive (arcs_of t) x.start (go_in x.nodes b) x.d x.most (take depth p ++ (a ∷ [])) ≡ leb ((size + len_at t a + long_at field c (to_at t a)) * x.d) x.most
        unfolding may_arrive
        may-is =
            ap (λ z. leb (z * x.d) x.most)
            (ap₂ ◌+◌ longer (ap (go_in x.nodes b) (end_of-more (arcs_of t) x.start (take depth p) a ∙ to_is) ∙ go-below x.nodes b (to_at t a) u-below ∙ sym (g.room.dists (to_at t a))))

        pub goes-is : goes_by t closed x c a size ≡ tries (trip_of x t closed b) (take depth p) a
        unfolding goes_by tries
        goes-is = sym (ap₂ ◌&&◌ leaves-is (ap₂ ◌&&◌ new_is may-is))

        module _ (on : tries (trip_of x t closed b) (take depth p) a ≡ true) where
          further : T (partial (net_of x.nodes t closed) x.start (take depth p ++ (a ∷ [])))
          further = partial-more (net_of x.nodes t closed) x.start (take depth p) a d.is-partial (tries-next (trip_of x t closed b) (take depth p) a on)

          pub room-on : depth < wide x
          room-on =
              omega (arith, partial-short (net_of x.nodes t closed) x.start d.s-below (table-sound x.nodes t d.fine closed).to_below (take depth p ++ (a ∷ [])) further, length-append (take depth p) (a ∷ []), path-depth)

          -- the node is not marked
          unmarked : seen_at c (to_at t a) ≡ 0
          unfolding tries
          unmarked =
              let y = not (has (arc (arcs_of t) a).to (visited (arcs_of t) x.start (take depth p))) in
              let z = may_arrive (arcs_of t) x.start (go_in x.nodes b) x.d x.most (take depth p ++ (a ∷ [])) in
              eqb-true (seen_at c (to_at t a)) 0
              (sym new_is ∙ true-e y (and_l y z (and_r (leaves (net_of x.nodes t closed) (end_of (arcs_of t) x.start (take depth p)) a) (y && z) (subst T (sym on) tt))))

          pub u-in : to_at t a * room_bytes + room_bytes ≤ length c
          u-in = omega (arith, d.roomy, g.room.long, u-below)

          path-on : take (depth + 1) (set q depth a) ≡ take depth p ++ (a ∷ [])
          path-on =
              ap (λ k. take k (set q depth a)) (add-one depth) ∙ take-suc-set q depth a (omega (arith, g.path-long, d.path-long, room-on)) ∙ ap (λ z. z ++ (a ∷ [])) g.path

          marked-seen : (w : ℕ) → w < x.nodes → has w (visited (arcs_of t) x.start (take depth p ++ (a ∷ []))) ≡ not (eqb (seen_at (put_word seen_field c (to_at t a) 1) w) 0)
          marked-seen w h =
              ap (has w) (visited-append (arcs_of t) x.start (take depth p) (a ∷ [])) ∙ has_more w (arc (arcs_of t) a).to (visited (arcs_of t) x.start (take depth p))
              ∙ ap (λ z. has w (visited (arcs_of t) x.start (take depth p)) || eqb w z) to_is
              ∙ ⊎_elim
              (λ z. ap (λ y. has w (visited (arcs_of t) x.start (take depth p)) || y) (eq-eqb w (to_at t a) z) ∙ or-true (has w (visited (arcs_of t) x.start (take depth p)))
              ∙ sym (ap (λ y. not (eqb y 0)) (ap (seen_at (put_word seen_field c (to_at t a) 1)) z ∙ word-put seen_field c (to_at t a) 1 refl u-in (omega arith))))
              (λ z. ap (λ y. has w (visited (arcs_of t) x.start (take depth p)) || y) (ne_eqb w (to_at t a) z) ∙ or-false (has w (visited (arcs_of t) x.start (take depth p))) ∙ d.seen w h
              ∙ ap (λ y. not (eqb y 0)) (sym (word-put-node seen_field c (to_at t a) 1 refl w z ∙ g.room.seens w)))
              (either w (to_at t a))

          same-go : go_in x.nodes (put_word seen_field c (to_at t a) 1) ≡ go_in x.nodes b
          same-go = mark-go x.nodes c (to_at t a) 1 ∙ kept-go x.nodes g.room

          pub deep-next : Deep x t closed m (set q depth a) (put_word seen_field c (to_at t a) 1) (depth + 1) (to_at t a) (size + len_at t a) r
          deep-next =
              record {
                fine = d.fine;
                roomy = omega (arith, length-put 4 c (to_at t a * room_bytes + seen_field) 1, g.room.long, d.roomy);
                go-most = λ w. subst (λ (f : ℕ → ℕ). f w ≤ far) (sym same-go) (d.go-most w);
                s-below = d.s-below;
                d-most = d.d-most;
                path-long = length-set q depth a ∙ g.path-long ∙ d.path-long;
                deep = omega (arith, room-on);
                is-partial = subst (λ z. T (partial (net_of x.nodes t closed) x.start z)) (sym path-on) further;
                ends = ap (end_of (arcs_of t) x.start) path-on ∙ end_of-more (arcs_of t) x.start (take depth p) a ∙ to_is;
                is-long = ap (length_of (arcs_of t)) path-on ∙ longer;
                seen = λ w h. ap (λ z. has w (visited (arcs_of t) x.start z)) path-on ∙ marked-seen w h;
                listed = g.listed;
                few = g.few;
                slots = omega (arith, d.slots, g.list-long);
                slots-few = d.slots-few;
                fresh = subst (λ z. Fresh z (earlier_in (wide x) r m)) (sym path-on) (fresh-next (take depth p) (earlier_in (wide x) r m) a g.fresh);
              }

          -- what the call has found is what arc a finds
          by-arc : insert_all (arcs_of t) (earlier_in (wide x) r m) (goes_on (trip_of x t closed (put_word seen_field c (to_at t a) 1)) (wide x - (depth + 1)) (take (depth + 1) (set q depth a)))
              ≡ insert_all (arcs_of t) (earlier_in (wide x) r m) (goes_on (trip_of x t closed b) (wide x - depth - 1) (take depth p ++ (a ∷ [])))
          by-arc =
              let z : wide x - (depth + 1) ≡ wide x - depth - 1 = omega arith in
              ap (insert_all (arcs_of t) (earlier_in (wide x) r m))
              (ap {A = ℕ → ℕ} (λ f. goes_on (record { net = net_of x.nodes t closed; s = x.start; t = x.goal; D = f; d = x.d; most = x.most }) (wide x - (depth + 1)) (take (depth + 1) (set q depth a))) same-go
              ∙ ap₂ (λ k y. goes_on (trip_of x t closed b) k y) z path-on)

          -- and with what is left it makes the whole
          on-whole : insert_all (arcs_of t) (insert_all (arcs_of t) (earlier_in (wide x) r m) (goes_on (trip_of x t closed b) (wide x - depth - 1) (take depth p ++ (a ∷ [])))) (left (trip_of x t closed b) (wide x - depth - 1) (take depth p) (a + 1) e)
              ≡ insert_all (arcs_of t) (earlier_in (wide x) n l) (goes_on (trip_of x t closed b) (wide x - depth) (take depth p))
          on-whole =
              sym (insert_all-append (arcs_of t) (goes_on (trip_of x t closed b) (wide x - depth - 1) (take depth p ++ (a ∷ []))) (left (trip_of x t closed b) (wide x - depth - 1) (take depth p) (a + 1) e) (earlier_in (wide x) r m))
              ∙ ap (λ y. insert_all (arcs_of t) (earlier_in (wide x) r m) (y ++ left (trip_of x t closed b) (wide x - depth - 1) (take depth p) (a + 1) e)) (sym (found-tried (trip_of x t closed b) (wide x - depth - 1) (take depth p) a on))
              ∙ ap (insert_all (arcs_of t) (earlier_in (wide x) r m)) (sym step) ∙ g.whole

          module _ (m₂ q₂ c₂ : List ℕ) (r₂ : Option ℕ) (w : Went x t closed m (set q depth a) (put_word seen_field c (to_at t a) 1) (depth + 1) r m₂ q₂ c₂ r₂) where
            path-back : take depth q₂ ≡ take depth p
            path-back =
                let h : depth ≤ depth + 1 = omega arith in
                sym (take-take depth (depth + 1) q₂ h) ∙ ap (take depth) w.path ∙ take-take depth (depth + 1) (set q depth a) h ∙ take-set-le depth q depth a (omega arith) ∙ g.path

            long-back : length q₂ ≡ length p
            long-back = w.path-long ∙ length-set q depth a ∙ g.path-long

            room_back : Kept b (put_word seen_field c₂ (to_at t a) 0)
            room_back = kept-turn b c c₂ (to_at t a) u-in g.room unmarked w.room

            found-is : (k : Option ℕ) → r₂ ≡ k
                → Found x t m (insert_all (arcs_of t) (earlier_in (wide x) r m) (goes_on (trip_of x t closed (put_word seen_field c (to_at t a) 1)) (wide x - (depth + 1)) (take (depth + 1) (set q depth a)))) m₂ k
            found-is k h =
                subst (Found x t m (insert_all (arcs_of t) (earlier_in (wide x) r m) (goes_on (trip_of x t closed (put_word seen_field c (to_at t a) 1)) (wide x - (depth + 1)) (take (depth + 1) (set q depth a)))) m₂) h w.found

            pub turn_more : (k : ℕ) → r₂ ≡ Some k → Turning x t closed l p b depth n (a + 1) e m₂ q₂ (put_word seen_field c₂ (to_at t a) 0) k
            turn_more r₃ h = let o = found-is (Some r₃) h in go o.0 o.1 (o.2 ∙ by-arc) o.3
              where
                go : r₃ ≤ x.slots → Listed t (wide x) r₃ m₂ → earlier_in (wide x) r₃ m₂ ≡ insert_all (arcs_of t) (earlier_in (wide x) r m) (goes_on (trip_of x t closed b) (wide x - depth - 1) (take depth p ++ (a ∷ [])))
                    → drop (r₃ * wide x) m₂ ≡ drop (r₃ * wide x) m → Turning x t closed l p b depth n (a + 1) e m₂ q₂ (put_word seen_field c₂ (to_at t a) 0) r₃
                go few is z y =
                    record {
                      list-long = w.list-long ∙ g.list-long;
                      path-long = long-back;
                      path = path-back;
                      room = room_back;
                      few = few;
                      listed = is;
                      whole = ap (λ k. insert_all (arcs_of t) k (left (trip_of x t closed b) (wide x - depth - 1) (take depth p) (a + 1) e)) z ∙ on-whole;
                      behind = y ∙ drop-on l m (r * wide x) (r₃ * wide x) (mul-le-mul_right (wide x) grows) g.behind;
                      fresh = subst (FreshFrom (a + 1) (take depth p)) (sym z) (fresh-more (trip_of x t closed b) (wide x - depth - 1) (take depth p) (earlier_in (wide x) r m) a g.fresh);
                    }
                  where
                    grows : r ≤ r₃
                    grows =
                        omega (arith, insert_all-grows (arcs_of t) (goes_on (trip_of x t closed b) (wide x - depth - 1) (take depth p ++ (a ∷ []))) (earlier_in (wide x) r m), ap length z, length-earlier_in (wide x) r₃ m₂, length-earlier_in (wide x) r m)

            pub turn-over : r₂ ≡ None → Went x t closed l p b depth n m₂ q₂ (put_word seen_field c₂ (to_at t a) 0) None
            turn-over h =
                record {
                  list-long = w.list-long ∙ g.list-long;
                  path-long = long-back;
                  path = path-back;
                  room = room_back;
                  found = omega (
                    arith,
                    found-is None h,
                    ap length by-arc,
                    ap length on-whole,
                    insert_all-grows (arcs_of t) (left (trip_of x t closed b) (wide x - depth - 1) (take depth p) (a + 1) e) (insert_all (arcs_of t) (earlier_in (wide x) r m) (goes_on (trip_of x t closed b) (wide x - depth - 1) (take depth p ++ (a ∷ [])))),
                  );
                }

-- ---- what the calls ask and leave, by what they read

module _ (x : Range) (t closed l p b : List ℕ) (depth v size n : ℕ) (d : Deep x t closed l p b depth v size n) where
  pub arrive-asks : (table_fault x.nodes t ≡ good) × Listed t (length p) n l × (length p ≤ most_nodes) × (size ≡ length_of (arcs_of t) (take depth p)) × (depth ≤ length p)
      × Fits t (length p) (take depth p) × (x.slots * length p ≤ length l) × (x.slots < 4611686018427387904) × (Memᴰ (take depth p) (earlier_in (length p) n l) → ⊥)
  arrive-asks =
      subst (λ k. (table_fault x.nodes t ≡ good) × Listed t k n l × (k ≤ most_nodes) × (size ≡ length_of (arcs_of t) (take depth p)) × (depth ≤ k)
      × Fits t k (take depth p) × (x.slots * k ≤ length l) × (x.slots < 4611686018427387904) × (Memᴰ (take depth p) (earlier_in k n l) → ⊥)) (sym d.path-long) (
        d.fine,
        d.listed,
        omega (arith, (good-size x.nodes t d.fine).1),
        sym d.is-long,
        d.deep,
        path-fits x t closed l p b depth v size n d,
        d.slots,
        d.slots-few,
        path-new x t closed l p b depth v size n d,
      )

  pub arrived : v ≡ x.goal → (m : List ℕ) (r : Option ℕ)
      → ((x.slots ≤ n) × (r ≡ None) × (m ≡ l)) ⊎ ((n < x.slots) × (r ≡ Some (n + 1)) × Placed t (length p) n l (take depth p) m) → Went x t closed l p b depth n m p b r
  arrived e m r o =
      ⊎_elim
      (λ y. subst (λ k. Went x t closed l p b depth n m p b k) (sym y.1) (subst (λ z. Went x t closed l p b depth n z p b None) (sym y.2) (arrived-full x t closed l p b depth v size n d e y.0)))
      (λ y. subst (λ k. Went x t closed l p b depth n m p b k) (sym y.1)
      (arrived-placed x t closed l p b depth v size n d e m y.0 (subst (λ k. Placed t k n l (take depth p) m) d.path-long y.2)))
      o

  pub turn-begin : (lo hi : ℕ) → lo ≡ run_start t v → hi ≡ run_start t (v + 1) → v ≢ x.goal → (run_start t v ≤ lo) × Turning x t closed l p b depth n lo hi l p b n
  turn-begin lo hi e f ne =
      (omega arith, subst (λ k. Turning x t closed l p b depth n k hi l p b n) (sym e) (subst (λ k. Turning x t closed l p b depth n (run_start t v) k l p b n) (sym f) (turn-start x t closed l p b depth v size n d ne)))

  pub next-depth : depth + 1 < 4294967296
  next-depth = omega (arith, d.deep, (good-size x.nodes t d.fine).1)

  pub next-node : v + 1 < 4294967296
  next-node = omega (arith, v_below x t closed l p b depth v size n d, (good-size x.nodes t d.fine).1)

  module _ (a e : ℕ) (m q c : List ℕ) (r : ℕ) (g : Turning x t closed l p b depth n a e m q c r) (in-run : a < e) (is-e : e ≡ run_start t (v + 1)) (from_start : run_start t v ≤ a) where
    pub goes-asks : (table_fault x.nodes t ≡ good) × (a < records t) × Roomy x.nodes c × (size < far) × (x.d ≤ most_d) × ((u : ℕ) → go_in x.nodes c u ≤ far)
    goes-asks = (
      d.fine,
      arc-below x t closed l p b depth v size n d a e m q c r g in-run is-e from_start,
      omega (arith, d.roomy, g.room.long),
      size_below x t closed l p b depth v size n d,
      d.d-most,
      λ u. subst (λ (f : ℕ → ℕ). f u ≤ far) (sym (kept-go x.nodes g.room)) (d.go-most u),
    )

    pub skipped : goes_by t closed x c a size ≡ false → Turning x t closed l p b depth n (a + 1) e m q c r
    skipped z = turn-skip x t closed l p b depth v size n d a e m q c r g in-run (sym (goes-is x t closed l p b depth v size n d a e m q c r g in-run is-e from_start) ∙ z)

    module _ (yes-on : goes_by t closed x c a size ≡ true) where
      on : tries (trip_of x t closed b) (take depth p) a ≡ true
      on = sym (goes-is x t closed l p b depth v size n d a e m q c r g in-run is-e from_start) ∙ yes-on

      pub enter-asks : (u : ℕ) → u ≡ to_at t a → (depth < length q) × (a < 4294967296) × (u * room_bytes + room_bytes ≤ length c)
      enter-asks u eu = (
        omega (arith, g.path-long, d.path-long, room-on x t closed l p b depth v size n d a e m q c r g in-run is-e from_start on),
        omega (arith, arc-below x t closed l p b depth v size n d a e m q c r g in-run is-e from_start, (good-size x.nodes t d.fine).3),
        rw eu (u-in x t closed l p b depth v size n d a e m q c r g in-run is-e from_start on),
      )

      module _ (q' c' : List ℕ) (u z : ℕ) (eq : q' ≡ set q depth a) (ec : c' ≡ put_word seen_field c u 1) (eu : u ≡ to_at t a) (ez : z ≡ len_at t a) where
        room-is : c' ≡ put_word seen_field c (to_at t a) 1
        room-is = ec ∙ ap (λ k. put_word seen_field c k 1) eu

        pub call_asks : Deep x t closed m q' c' (depth + 1) u (size + z) r
        call_asks = rw (eq, room-is, eu, ez) (deep-next x t closed l p b depth v size n d a e m q c r g in-run is-e from_start on)

        pub call-falls : length q' - (depth + 1) < length p - depth
        call-falls = omega (arith, ap length eq, length-set q depth a, g.path-long, d.path-long, room-on x t closed l p b depth v size n d a e m q c r g in-run is-e from_start on)

        module _ (m₂ q₂ c₂ : List ℕ) (r₂ : Option ℕ) (w : Went x t closed m q' c' (depth + 1) r m₂ q₂ c₂ r₂) where
          w' : Went x t closed m (set q depth a) (put_word seen_field c (to_at t a) 1) (depth + 1) r m₂ q₂ c₂ r₂
          w' = subst (λ k. Went x t closed m k (put_word seen_field c (to_at t a) 1) (depth + 1) r m₂ q₂ c₂ r₂) eq (subst (λ k. Went x t closed m q' k (depth + 1) r m₂ q₂ c₂ r₂) room-is w)

          pub leave-asks : u * room_bytes + room_bytes ≤ length c₂
          leave-asks = omega (arith, w.room.long, ap length ec, length-put 4 c (u * room_bytes + seen_field) 1, (enter-asks u eu).2)

          module _ (c₃ : List ℕ) (e₃ : c₃ ≡ put_word seen_field c₂ u 0) where
            back_is : c₃ ≡ put_word seen_field c₂ (to_at t a) 0
            back_is = e₃ ∙ ap (λ k. put_word seen_field c₂ k 0) eu

            pub went_on : (r₃ : ℕ) → r₂ ≡ Some r₃ → Turning x t closed l p b depth n (a + 1) e m₂ q₂ c₃ r₃
            went_on r₃ h =
                subst (λ k. Turning x t closed l p b depth n (a + 1) e m₂ q₂ k r₃) (sym back_is)
                (turn_more x t closed l p b depth v size n d a e m q c r g in-run is-e from_start on m₂ q₂ c₂ r₂ w' r₃ h)

            pub went-over : r₂ ≡ None → Went x t closed l p b depth n m₂ q₂ c₃ None
            went-over h =
                subst (λ k. Went x t closed l p b depth n m₂ q₂ k None) (sym back_is)
                (turn-over x t closed l p b depth v size n d a e m q c r g in-run is-e from_start on m₂ q₂ c₂ r₂ w' h)

-- ---- which arcs go on, by the bytes

module _ (t closed : List ℕ) (x : Range) (room : List ℕ) (a size : ℕ) where
  pub goes-closed : not (is_open_at closed a) ≡ true → goes_by t closed x room a size ≡ false
  unfolding goes_by
  goes-closed h = let e : is_open_at closed a ≡ false = sym (not-not (is_open_at closed a)) ∙ ap not h in rw e

  pub goes-seen : seen_at room (to_at t a) ≢ 0 → goes_by t closed x room a size ≡ false
  unfolding goes_by
  goes-seen h = rw (ne_eqb (seen_at room (to_at t a)) 0 h) (and-false (is_open_at closed a))
    where
      and-false : (b : Bool) → (b && false) ≡ false
      and-false true = refl
      and-false false = refl

  pub goes-open : not (is_open_at closed a) ≡ false → seen_at room (to_at t a) ≡ 0 → goes_by t closed x room a size ≡ leb ((size + len_at t a + long_at field room (to_at t a)) * x.d) x.most
  unfolding goes_by
  goes-open h k = let e : is_open_at closed a ≡ true = sym (not-not (is_open_at closed a)) ∙ ap not h in rw (e, eq-eqb (seen_at room (to_at t a)) 0 k)
