-- The turns of a profile. After r routes: looking at all candidates again, with those r kept, gives the profile; and the key of a node is that of its candidate if that is
-- within the threshold of all kept, else none. So the first of the queue is the next route (`kept_again`), and where it has no key, none is left (`kept-last`).
use mathlib.Core.Path.{◌≡◌, refl, sym, ap, ap₂, subst, ◌∙◌}
use mathlib.Core.Logic.{◌⊎◌, inl, inr, ⊎_elim}
use mathlib.Core.Bool.{Bool, true, false, ◌&&◌, cond}
use mathlib.Core.List.Memᴰ
use mathlib.Core.List.{List, [], ◌∷◌, ◌++◌, map, append-nil, append_assoc, map-append, Memᴰ}
use Prim.Native.Nat.{ℕ, suc, ◌+◌, ◌-◌, ◌*◌, ◌≤◌, ◌<◌}
use native.Mathlib.Omega.{arith}
use lib.Dec.{T, ltb}
use lib.ListN.{length, drop, replicate, length-append, length-map, length-set, length-replicate}
use lib.Seq.{drop_at}
use borrow.Author.Tests.{ltb-true, ltb-false}
use Rattle.lists.specs.Tests.{every}
use Rattle.lists.proofs.Cases.{cases, order}
use Rattle.words.specs.Part.{patch}
use Rattle.outcome.specs.Outcome.{plain, found, fewer}
use Rattle.net.specs.Limits.{most_routes}
use Rattle.net.specs.Route.{length_of, within}
use Rattle.net.specs.Round.{Query, within_all, Ending, answered, unanswered}
use Rattle.net.specs.Outcome.{summary, summaries, not_begun}
use Rattle.net.proofs.Valid.{Valid}
use Rattle.net.proofs.Listing.{partial-short}
use Rattle.labels.specs.Field.{no_number}
use Rattle.labels.specs.Chain.{slot_of}
use Rattle.search_ask.specs.declared.Ask.{Ask}
use Rattle.search_ask.specs.Ask.{Accepted, query_for, width}
use Rattle.summary.specs.declared.Sums.{Sums}
use Rattle.summary.specs.Sums.{set_entry, firsts}
use Rattle.node_queue.specs.Queue.{key_at, Queue}
use Rattle.query_rounds.specs.Area.{slots, area_with}
use Rattle.query_rounds.specs.Progress.{as_record}
use Rattle.query_rounds.specs.declared.Got.{Got}
use Rattle.query_rounds.proofs.AreaLaws.{slots-none, slots-more}
use Rattle.query_rounds.proofs.SumsLaws.{Shows, shows_more, shows_first}
use Rattle.via.specs.Via.{kept_of, profile, via_rounds}
use Rattle.via.specs.Joined.{DrivesOwn}
use Rattle.via.proofs.Profile.{sifted, kept_full, profile-kept, via-told, via-answers}
use Rattle.via_chains.specs.Chains.{Prepared, joined_in, both_in, key_for, no_key}
use Rattle.via_chains.proofs.ChainsLaws.{key_below, key_apart, prepared-beside}
use Rattle.via_drop.specs.Drop.{Dropped}
use Rattle.via_rounds.specs.declared.Turn.{Turn}
use Rattle.via_rounds.specs.Turn.{Begun, going_on, Taking, Taken}
use Rattle.via_rounds.specs.Profiled.{Profiled}
use Rattle.via_rounds.proofs.NodesLaws.{in-turn-rising, in-turn-e, in-turn-i}
use Rattle.via_rounds.proofs.KeptLaws.{FirstLeft, kept_again, kept-last}
use Rattle.via_rounds.proofs.BesideLaws.{joined_same, both-same, key-same}
use Rattle.via_rounds.proofs.CandidatesLaws.{nodes_in, candidates, candidates-same, valid, own, profile-of, candidate-long}

-- the routes kept, as rounds
abbrev pub as_rounds : List (List ℕ) → List Ending
as_rounds kept = map (λ p. answered p 0) kept

-- the key that a node has once these are kept
abbrev key_after : Query → List (List ℕ) → List ℕ → ℕ → ℕ
key_after q kept l v =
    cond (both_in q.net.nodes l v && within_all q kept (joined_in q.net q.s q.t l v)) (key_for q.net.nodes l v) no_key

pub record Midway (q : Query) (w k : ℕ) (area₀ room₀ area room : List ℕ) (x : Turn) : Type 0 where
  pub kept : List (List ℕ)
  pub count : length kept ≡ x.r
  pub few : x.r ≤ k
  pub prepared : Prepared q.net q.s q.t room
  pub queue : Queue q.net.nodes room x.root
  pub gives : kept_of q k kept (candidates q.net q.s q.t room) ≡ profile q k
  pub keys : x.r < k → (v : ℕ) → v < q.net.nodes → key_at room v ≡ key_after q kept room v
  pub area-is : area ≡ area_with w k area₀ kept
  pub area-long : length area ≡ length area₀
  pub room-long : length room ≡ length room₀
  pub shows : Shows q x.sums (as_rounds kept)
  pub rows : (length x.sums.length ≡ most_routes) × (length x.sums.arcs ≡ most_routes) × (length x.sums.labels ≡ most_routes)

-- over an area whose slots were blanked, slots are filled as over the area before
area-again : (w k : ℕ) (a b : List ℕ) → a ≡ area_with w k b [] → (ps : List (List ℕ)) → area_with w k a ps ≡ area_with w k b ps
unfolding area_with
area-again w k a b e ps =
    ap (λ l. slots w k ps ++ l)
    (ap (drop (k * w)) (e ∙ ap (λ l. l ++ drop (k * w) b) (slots-none w k)) ∙ drop_at (replicate (k * w) no_number) (drop (k * w) b) (k * w) (length-replicate (k * w) no_number))

-- ---- tests

and-true : (x y : Bool) → (x && y) ≡ true → (x ≡ true) × (y ≡ true)
and-true true y e = (refl, e)
and-true false y e = absurd (subst T (sym e) tt)

and-false : (x y : Bool) → (x && y) ≡ false → (x ≡ false) ⊎ (y ≡ false)
and-false true y e = inr e
and-false false y e = inl refl

-- a key is that of a candidate
has_key : (b : Bool) (x : ℕ) → cond b x no_key < no_key → b ≡ true
has_key true x h = refl
has_key false x h = absurd (omega arith)

every_more : {A : Type 0} (f : A → Bool) (xs : List A) (y : A) → every f (xs ++ (y ∷ [])) ≡ (every f xs && f y)
unfolding every
every_more f [] y = one (f y)
  where
    one : (b : Bool) → (b && true) ≡ b
    one true = refl
    one false = refl
every_more f (x ∷ xs) y = go (f x) (every_more f xs y)
  where
    go : (b : Bool) → every f (xs ++ (y ∷ [])) ≡ (every f xs && f y) → (b && every f (xs ++ (y ∷ []))) ≡ (b && every f xs && f y)
    go true e = e
    go false e = refl

within_more : (q : Query) (kept : List (List ℕ)) (p c : List ℕ) → within_all q (kept ++ (p ∷ [])) c ≡ (within_all q kept c && within q.net q.a q.b c p)
unfolding within_all
within_more q kept p c = every_more (within q.net q.a q.b c) kept p

-- three tests, two of them made before
keys-more : (b x y : Bool) (m n : ℕ) → b ≡ true → m ≡ cond (b && x) n no_key → cond y m no_key ≡ cond (b && (x && y)) n no_key
keys-more true true true m n e h = h
keys-more true true false m n e h = refl
keys-more true false true m n e h = h
keys-more true false false m n e h = refl
keys-more false x y m n e h = absurd (subst T (sym e) tt)

-- a round without an answer shows as one not begun
shows-none : (q : Query) (t : Sums) (made : List Ending) → Shows q t made → length made < most_routes → Shows q t (made ++ (unanswered 0 ∷ []))
unfolding summary
shows-none q t made s h =
    let i : most_routes - length made ≡ suc (most_routes - length (made ++ (unanswered 0 ∷ []))) = omega (arith, length-append made (unanswered 0 ∷ [])) in
    let rest = replicate (most_routes - length (made ++ (unanswered 0 ∷ []))) not_begun in
    s ∙ ap (λ n. map as_record (map (summary q) made ++ replicate n not_begun)) i
    ∙ ap (map as_record) (sym (append_assoc (map (summary q) made) (not_begun ∷ []) rest) ∙ ap (λ l. l ++ rest) (sym (map-append (summary q) made (unanswered 0 ∷ []))))

module _ (ask : Ask) (table closed : List ℕ) (ok : Accepted ask table) where
  abbrev q : Query
  q = query_for ask table closed []

  abbrev w : ℕ
  w = width ask

  abbrev is-valid : Valid q
  is-valid = valid ask table closed ok

  abbrev is-own : DrivesOwn q.net
  is-own = own ask table closed ok

  module _ (k : ℕ) (area₀ room₀ area room : List ℕ) (x : Turn) (m : Midway q w k area₀ room₀ area room x) where
    abbrev chain_by : ℕ → List ℕ
    chain_by = joined_in q.net q.s q.t room

    abbrev key : ℕ → ℕ
    key = key_for ask.nodes room

    abbrev both : ℕ → Bool
    both = both_in ask.nodes room

    abbrev ns : List ℕ
    ns = nodes_in ask.nodes room

    -- ---- the first left

    abbrev root : ℕ
    root = x.root

    root_below : root < ask.nodes
    root_below = m.queue.root.used

    module _ (on : going_on x.r k room x.root ≡ true) where
      pub below : x.r < k
      below = ltb-true x.r k (and-true (ltb x.r k) (ltb (key_at room root) no_key) on).0

      key_left : key_at room root < no_key
      key_left = ltb-true (key_at room root) no_key (and-true (ltb x.r k) (ltb (key_at room root) no_key) on).1

      tests : (both root ≡ true) × (within_all q m.kept (chain_by root) ≡ true)
      tests =
          let b = both root in
          let i = within_all q m.kept (chain_by root) in
          and-true b i (has_key (b && i) (key root) (subst (λ n. n < no_key) (m.keys below root root_below) key_left))

      -- the key of a node within the threshold of all kept
      key_of : (v : ℕ) → v < ask.nodes → both v ≡ true → within_all q m.kept (chain_by v) ≡ true → key_at room v ≡ key v
      key_of v h b i = m.keys below v h ∙ ap (λ t. cond t (key v) no_key) (ap₂ ◌&&◌ b i)

      first-left : FirstLeft q is-own ok.a-below k chain_by key m.kept ns root
      first-left =
          record {
            is-in = in-turn-i key both ask.nodes root root_below tests.0;
            is_within = tests.1;
            least = λ v i h. let e = in-turn-e key both ask.nodes v i in
                omega (arith, key_of root root_below tests.0 tests.1, key_of v e.0 e.1 h, m.queue.root.least v (omega arith) e.0 e.0);
          }

      abbrev more : List (List ℕ)
      more = m.kept ++ (chain_by root ∷ [])

      gives_more : kept_of q k more (candidates q.net q.s q.t room) ≡ profile q k
      gives_more =
          sym (kept_again q is-own ok.a-below k chain_by key m.kept ns (in-turn-rising key both ask.nodes)
          (λ v u i j e. let a = in-turn-e key both ask.nodes v i in let b = in-turn-e key both ask.nodes u j in key_apart ask table closed room ok m.prepared v u a.0 b.0 a.1 b.1 e)
          (omega (arith, below, m.count)) root first-left (candidate-long ask table closed ok room m.prepared root root_below tests.0))
          ∙ m.gives

      -- what is kept is a route, so it fits its slot
      more-short : (p : List ℕ) → Memᴰ p more → length p ≤ w
      more-short p i =
          let s = sifted q k (candidates q.net q.s q.t room) more in
          let r = (profile-kept q is-valid k).is-route p (subst (Memᴰ p) (sym s.is ∙ gives_more) (Memᴰ.append_left s.more i)) in
          omega (arith, partial-short q.net q.s is-valid.s-below is-valid.sound.to_below p r.0, ok.s-below)

      pub taking : k ≤ most_routes → k * w ≤ length area₀ → Taking ask table closed k area room x.r root
      taking few slots =
          record {
            accepted = ok;
            prepared = m.prepared;
            queue = m.queue;
            both = tests.0;
            short = more-short (chain_by root) (Memᴰ.append_right m.kept (Memᴰ.head refl));
            below = below;
            few = few;
            slots = omega (arith, m.area-long, slots);
          }

      -- ---- one more kept

      module _ (few : k ≤ most_routes) (area' room' : List ℕ) (y : Turn) (same_area : length area' ≡ length area) (same-room : length room' ≡ length room)
          (t : Taken q w k (chain_by root) area room x area' room' y) where
        abbrev p : List ℕ
        p = chain_by root

        in-slots : area' ≡ area_with w k area₀ more
        unfolding area_with
        in-slots =
            t.area ∙ ap₂ (λ r a. patch (r * w) (r * w + w) a (slot_of w p)) (sym m.count) m.area-is
            ∙ slots-more w k m.kept p (drop (k * w) area₀) (omega (arith, below, m.count)) (λ c i. more-short c (Memᴰ.append_left (p ∷ []) i))

        shows-next : Shows q y.sums (as_rounds more)
        unfolding summary
        shows-next =
            subst (λ s. Shows q s (as_rounds more)) (sym t.sums)
            (subst (Shows q (set_entry x.sums x.r (record { length = length_of q.net.arcs p; arcs = length p; labels = 0 }))) (sym (map-append (λ c. answered c 0) m.kept (p ∷ [])))
            (shows_more q x.sums (as_rounds m.kept) x.r _ (answered p 0) m.shows (length-map m.kept (λ c. answered c 0) ∙ m.count) (omega (arith, below, few)) m.rows.0 m.rows.1 m.rows.2 refl))

        rows_next : (length y.sums.length ≡ most_routes) × (length y.sums.arcs ≡ most_routes) × (length y.sums.labels ≡ most_routes)
        rows_next =
            subst (λ s. (length s.length ≡ most_routes) × (length s.arcs ≡ most_routes) × (length s.labels ≡ most_routes)) (sym t.sums)
            (length-set x.sums.length x.r _ ∙ m.rows.0, length-set x.sums.arcs x.r _ ∙ m.rows.1, length-set x.sums.labels x.r _ ∙ m.rows.2)

        next : Prepared q.net q.s q.t room' → Queue ask.nodes room' y.root → candidates q.net q.s q.t room' ≡ candidates q.net q.s q.t room
            → (y.r < k → (v : ℕ) → v < ask.nodes → key_at room' v ≡ key_after q more room' v) → Midway q w k area₀ room₀ area' room' y
        next prepared queue same keys =
            record {
              kept = more;
              count = omega (arith, length-append m.kept (p ∷ []), m.count, t.count);
              few = omega (arith, t.count, below);
              prepared = prepared;
              queue = queue;
              gives = ap (kept_of q k more) same ∙ gives_more;
              keys = keys;
              area-is = in-slots;
              area-long = same_area ∙ m.area-long;
              room-long = same-room ∙ m.room-long;
              shows = shows-next;
              rows = rows_next;
            }

        -- what was dropped has no key
        dropped-keys : Dropped q p room room' y.root → (v : ℕ) → v < ask.nodes → key_at room' v ≡ key_after q more room v
        dropped-keys d v h = go (both v) refl
          where
            go : (b : Bool) → both v ≡ b → key_at room' v ≡ key_after q more room v
            go true e =
                d.keys v h e
                ∙ keys-more (both v) (within_all q m.kept (chain_by v)) (within q.net q.a q.b (chain_by v) p) (key_at room v) (key v) e (m.keys below v h)
                ∙ ap (λ z. cond (both v && z) (key v) no_key) (sym (within_more q m.kept p (chain_by v)))
            go false e =
                d.others v h (λ z. subst T (sym z ∙ e) tt) ∙ m.keys below v h
                ∙ ap (λ z. cond (z && within_all q m.kept (chain_by v)) (key v) no_key) e
                ∙ sym (ap (λ z. cond (z && within_all q more (chain_by v)) (key v) no_key) e)

        pub midway-step : Midway q w k area₀ room₀ area' room' y
        midway-step = ⊎_elim at_last before (order k y.r)
          where
            at_last : k ≤ y.r → Midway q w k area₀ room₀ area' room' y
            at_last h =
                let e = t.at_last (omega (arith, h, t.count, below)) in
                next (subst (Prepared q.net q.s q.t) (sym e.0) m.prepared) (subst (λ l. Queue ask.nodes l y.root) (sym e.0) (subst (Queue ask.nodes room) (sym e.1) m.queue))
                (ap (candidates q.net q.s q.t) e.0) (λ i. absurd (omega arith))

            before : y.r < k → Midway q w k area₀ room₀ area' room' y
            before h =
                let d = t.before h in
                let b = d.beside in
                next (prepared-beside q.net q.s q.t room room' b.field b.long m.prepared) d.queue (candidates-same q.net q.s q.t room room' b)
                (λ i v j. dropped-keys d v j
                ∙ sym (ap₂ (λ f g. cond (f v && within_all q more (g v)) (key_for ask.nodes room' v) no_key) (both-same room room' b ask.nodes) (joined_same room room' b q.net q.s q.t)
                ∙ ap (λ f. cond (both v && within_all q more (chain_by v)) (f v) no_key) (key-same room room' b ask.nodes)))

    -- ---- the end

    -- none is left
    none_left : x.r < k → no_key ≤ key_at room root → profile q k ≡ m.kept
    none_left h z = sym m.gives ∙ kept-last q is-own ok.a-below k chain_by key m.kept ns (λ v i. no v (in-turn-e key both ask.nodes v i))
      where
        no : (v : ℕ) → (v < ask.nodes) × (both v ≡ true) → within_all q m.kept (chain_by v) ≡ false
        no v e = ⊎_elim
            (λ i.
            let is : key_at room v ≡ key v = m.keys h v e.0 ∙ ap (λ t. cond t (key v) no_key) (ap₂ ◌&&◌ e.1 i) in
            absurd (omega (arith, is, key_below ask table closed room ok m.prepared v e.1, m.queue.root.least v (omega arith) e.0 e.0)))
            (λ i. i) (cases (within_all q m.kept (chain_by v)))

    kept-all : going_on x.r k room x.root ≡ false → profile q k ≡ m.kept
    kept-all off = ⊎_elim
        (λ e. sym m.gives ∙ kept_full q k m.kept (candidates q.net q.s q.t room) (omega (arith, ltb-false x.r k e, m.few, m.count)))
        (λ e. ⊎_elim
        (λ h. sym m.gives ∙ kept_full q k m.kept (candidates q.net q.s q.t room) (omega (arith, h, m.few, m.count)))
        (λ h. none_left h (ltb-false (key_at room root) no_key e)) (order k x.r))
        (and-false (ltb x.r k) (ltb (key_at room root) no_key) off)

    module _ (off : going_on x.r k room x.root ≡ false) (few : k ≤ most_routes) where
      abbrev last : List Ending
      last = cond (ltb x.r k) (unanswered 0 ∷ []) []

      rounds-are : via_rounds q k ≡ as_rounds m.kept ++ last
      unfolding via_rounds
      rounds-are = ap (λ ps. as_rounds ps ++ cond (ltb (length ps) k) (unanswered 0 ∷ []) []) (kept-all off) ∙ ap (λ n. as_rounds m.kept ++ cond (ltb n k) (unanswered 0 ∷ []) []) m.count

      rounds-long : length (as_rounds m.kept) ≡ x.r
      rounds-long = length-map m.kept (λ c. answered c 0) ∙ m.count

      -- a round without an answer has three zeros, as those not begun
      shows-last : Shows q x.sums (as_rounds m.kept ++ last) × (length (as_rounds m.kept ++ last) ≤ k)
      shows-last = go (ltb x.r k) refl
        where
          go : (b : Bool) → ltb x.r k ≡ b
              → Shows q x.sums (as_rounds m.kept ++ cond b (unanswered 0 ∷ []) []) × (length (as_rounds m.kept ++ cond b (unanswered 0 ∷ []) []) ≤ k)
          go true e = (
            shows-none q x.sums (as_rounds m.kept) m.shows (omega (arith, ltb-true x.r k e, rounds-long, few)),
            omega (arith, length-append (as_rounds m.kept) (unanswered 0 ∷ []), ltb-true x.r k e, rounds-long),
          )
          go false e = (
            subst (Shows q x.sums) (sym (append-nil (as_rounds m.kept))) m.shows,
            omega (arith, ap length (append-nil (as_rounds m.kept)), m.few, rounds-long),
          )

      pub midway_end : (b room₁ : List ℕ) → area₀ ≡ area_with w k b [] → length room₀ ≡ length room₁ → (g : Got) (room' : List ℕ) → g.told ≡ plain (cond (ltb x.r k) fewer found) → g.sums ≡ x.sums → g.n ≡ k → room' ≡ replicate (length room) 0
          → Profiled q w k b room₁ g area room'
      midway_end b room₁ blank same g room' tells sums all zeros =
          record {
            told = tells ∙ sym (via-told q is-valid k ∙ ap (λ n. plain (cond (ltb n k) fewer found)) (ap length (kept-all off) ∙ m.count));
            area = m.area-is ∙ area-again w k area₀ b blank m.kept ∙ ap (area_with w k b) (sym (via-answers q is-valid k ∙ kept-all off));
            all = all;
            sums = ap (λ s. firsts s k) sums ∙ shows_first q x.sums (as_rounds m.kept ++ last) k shows-last.0 shows-last.1 few
                ∙ ap (λ rs. map as_record (summaries q k rs)) (sym rounds-are);
            room = zeros ∙ ap (λ n. replicate n 0) (m.room-long ∙ same);
          }

  -- ---- the start

  abbrev at_start : ℕ → Turn
  at_start root =
      record { r = 0; root = root; sums = record { length = replicate most_routes 0; arcs = replicate most_routes 0; labels = replicate most_routes 0 } }

  all-keys : (l : List ℕ) (v : ℕ) → key_for ask.nodes l v ≡ key_after q [] l v
  unfolding key_for within_all every
  all-keys l v = go (both_in ask.nodes l v) _
    where
      go : (b : Bool) (n : ℕ) → cond b n no_key ≡ cond (b && true) (cond b n no_key) no_key
      go true n = refl
      go false n = refl

  pub midway_start : (k : ℕ) (b room₁ area room : List ℕ) (root : ℕ) → Begun ask table closed k b room₁ area room root
      → Midway q w k area room area room (at_start root)
  midway_start k b room₁ area room root h =
      record {
        kept = [];
        count = refl;
        few = omega arith;
        prepared = h.prepared;
        queue = h.queue;
        gives = profile-of ask table closed ok room h.prepared k;
        keys = λ i v j. h.keys v j ∙ all-keys room v;
        area-is = h.area ∙ sym (area-again w k area b h.area []);
        area-long = refl;
        room-long = refl;
        shows = refl;
        rows = (refl, refl, refl);
      }
