-- What the calls that set cursors are given, and give. A label that is put stands, holds its overlaps, and has a chain that no other has; the tree of those before it
-- stays right. Where it comes into its list only links change, and of the area only the round's own slot.
use mathlib.Core.Path.{◌≡◌, refl, sym, subst, ap, ◌∙◌}
use mathlib.Core.Logic.{◌≢◌, ◌⊎◌, inl, inr}
use mathlib.Core.List.{List, []}
use Prim.Native.Nat.{ℕ, ◌+◌, ◌*◌, ◌^◌, ◌≤◌, ◌<◌}
use native.Mathlib.Omega.{arith}
use lib.ListN.{length, get_or, set}
use Rattle.lists.specs.Tests.{keep}
use Rattle.lists.proofs.Cases.{order}
use Rattle.net.specs.Route.{end_of, length_of, overlap}
use Rattle.net.proofs.Listing.{end_below}
use Rattle.table.specs.Table.{arcs_of}
use Rattle.table.specs.Run.{run_start}
use Rattle.table.proofs.RunLaws.{run-le}
use Rattle.table.proofs.NetLaws.{arcs-length, table-sound}
use Rattle.labels.specs.Field.{label_bytes, most_earlier, end_at, Row, put_row}
use Rattle.labels.specs.Chain.{chain_at}
use Rattle.labels.specs.Standing.{Comparable, Standing, Holding}
use Rattle.labels.specs.Rows.{overlaps_of}
use Rattle.labels.proofs.ChainLaws.{chain-empty}
use Rattle.labels.proofs.OverlapLaws.{length-overlaps_of, overlaps-most, overlap-held}
use Rattle.labels.proofs.StoreLaws.{Fits, length-put_row, chain-other, chain-new}
use Rattle.labels.proofs.StandingLaws.{empty_row, standing-first, holding-first, standing-more, holding-more}
use Rattle.search_ask.specs.Ask.{Accepted, Among, net_for, query_for, chain_of, width}
use Rattle.search_ask.specs.Earlier.{Earlier, earlier_of}
use Rattle.search_ask.specs.declared.Ask.{Ask}
use Rattle.search_ask.specs.declared.Candidate.{Candidate}
use Rattle.search_ask.proofs.AskLaws.{few-records, nodes-most}
use Rattle.search_ask.proofs.EarlierLaws.{length-earlier_in}
use Rattle.search_driven.specs.Marks.{Filter}
use Rattle.search_trial.proofs.TrialLaws.{overlaps-open, holding-open}
use Rattle.search_queue.specs.Only.{Only}
use Rattle.search_queue.proofs.OnlyLaws.{only-trans, overlap-only, chain-only, standing-only, holding-only, comparable-only}
use Rattle.search_lists.specs.Listed.{Listed, FirstAt, place_of}
use Rattle.search_lists.specs.Run.{put_run, Runs}
use Rattle.search_lists.proofs.RunLaws.{only-run, runs-more}
use Rattle.search_lists.proofs.HeadLaws.{place-below}
use Rattle.search_advance.specs.Own.{Judging}
use Rattle.search_cursor.specs.Queue.{SameLists, Queued, QueuedBehind}
use Rattle.search_cursor.proofs.EnteredLaws.{queued-behind, link-working, run-working, queued-linked}
use Rattle.round_label.specs.Stage.{row_for, Entering, Entered}
use Rattle.round_label.specs.Lists.{ButSlot}
use Rattle.round_label.proofs.StageLaws.{query-same}
use Rattle.round_label.proofs.ListsLaws.{but-set, earlier-but, slots-but, listed-only, listed-row, listed-run, runs-only, runs-row, runs-linked}

pub judging-few : {ask : Ask} {t area lens marks l : List ℕ} {n : ℕ} → Judging ask t area lens marks l n → length lens ≤ most_earlier
judging-few {ask} {area = area} {lens} j = omega (arith, length-earlier_in (width ask) (length lens) area, j.holding.few)

pub judging-only : {ask : Ask} {t area lens marks l m : List ℕ} {n k : ℕ} → Only 20 20 k l m → SameLists l m → n ≢ 0 → Judging ask t area lens marks l n → Judging ask t area lens marks m n
judging-only {t = t} {l = l} {n = n} o same begun j =
    record {
      searching = record { accepted = j.searching.accepted; standing = standing-only o n j.searching.standing; comparable = comparable-only o n j.searching.comparable };
      holding = holding-only o n j.holding;
      earlier = j.earlier;
      filter = j.filter;
      listed = listed-only begun (judging-few j) j.listed o same;
      runs = runs-only t l n j.runs o same;
    }

-- where a run starts fits 32 bits
run_fits : {ask : Ask} {t : List ℕ} → Accepted ask t → (v : ℕ) → run_start t v < 2 ^ 32
run_fits {t = t} ok v = omega (arith, run-le t v, few-records ok)

-- ---- the first label

module _ (ask : Ask) (t closed area lens marks l : List ℕ) (ok : Accepted ask t) (e : Earlier (arcs_of t) (width ask) (length lens) area lens) (f : Filter t (earlier_of ask area lens) marks)
    (few : length (earlier_of ask area lens) ≤ most_earlier) (room : label_bytes ≤ length l) (b : List ℕ) (put : b ≡ put_row l 0 (empty_row (net_for ask t closed) ask.s (earlier_of ask area lens))) where
  s-fits : ask.s < 2 ^ 16
  s-fits = omega (arith, ok.s-below, nodes-most ok)

  first-standing : Standing (arcs_of t) ask.s b 1
  first-standing = rw put (standing-first (net_for ask t closed) ask.s (earlier_of ask area lens) l s-fits room few)

  first-holding : Holding (net_for ask t []) (earlier_of ask area lens) b 1
  first-holding = holding-open ask t closed [] (rw put (holding-first (net_for ask t closed) ask.s (earlier_of ask area lens) l s-fits room few))

  first-long : length b ≡ length l
  first-long = ap length put ∙ length-put_row l 0 (empty_row (net_for ask t closed) ask.s (earlier_of ask area lens))

  first-end : end_at b 0 ≡ ask.s
  unfolding end_of
  first-end = first-standing.ends 0 (omega arith) ∙ ap (end_of (arcs_of t) ask.s) (chain-empty b)

  -- the start of its run is put
  module _ (a : List ℕ) (run : a ≡ put_run b 0 (run_start t ask.s)) where
    first_run : Only 20 4 1 b a
    first_run = rw run (only-run t b 0 (run_start t ask.s) 1 (omega arith))

    -- it is at s, and has overlapped nothing
    pub first-at : (label_bytes ≤ length a) × FirstAt ask (length lens) a
    unfolding overlap length_of keep
    first-at = (
      omega (arith, first_run.long, first-long, room),
      record {
        node = ok.s-below;
        end = first_run.field 2 0 16 refl refl ∙ first-end;
        overlaps = λ j h.
            overlap-only (run-working first_run) 0 j (omega (arith, few, length-earlier_in (width ask) (length lens) area))
            ∙ overlap-held (net_for ask t []) first-holding 0 j (omega arith) (omega (arith, length-earlier_in (width ask) (length lens) area))
            ∙ ap (λ p. overlap (net_for ask t []) p (get_or (earlier_of ask area lens) j [])) (chain-empty b);
      },
    )

    -- its list begins
    module _ (m : List ℕ) (o : Only 30 2 1 a m) where
      pub first-working : Only 20 20 1 b m
      first-working = only-trans (run-working first_run) (link-working o)

      first_runs : Runs t a 1
      first_runs =
          subst (λ z. Runs t z 1) (sym run)
          (runs-more t b 0 (run_start t ask.s) (omega (arith, first-long, room)) (run_fits ok ask.s) (ap (run_start t) (sym first-end)) (λ i h. absurd (omega arith)))

      pub first-judging : Listed ask (length lens) area m 1 → Judging ask t area lens marks m 1
      first-judging h =
          let st = standing-only first-working 1 first-standing in
          record {
            searching = record {
              accepted = ok;
              standing = st;
              comparable = record { down = st.down; jumping = st.jumping; once = λ i j hi hj z. omega arith };
            };
            holding = holding-only first-working 1 first-holding;
            earlier = e;
            filter = f;
            listed = h;
            runs = runs-linked t a 1 first_runs o;
          }

      pub first-queued : (l' : List ℕ) → Queued (query_for ask t closed m) (earlier_of ask area lens) (chain_at m 0) l' 1 0 → Queued (query_for ask t closed l) (earlier_of ask area lens) [] l' 1 0
      first-queued l' h =
          subst (λ z. Queued (query_for ask t closed l) (earlier_of ask area lens) z l' 1 0) (chain-empty m)
          (subst (λ z. Queued z (earlier_of ask area lens) (chain_at m 0) l' 1 0) (query-same ask t closed m l (first-working.long ∙ first-long)) h)

-- ---- a label more

module _ (ask : Ask) (t closed area lens marks l : List ℕ) (n : ℕ) (c : Candidate) (own : List ℕ) (root : ℕ) (j : Judging ask t area lens marks l n) (k : Among t n c)
    (e : Entering (query_for ask t closed l) (earlier_of ask area lens) l n c own root) where
  pub own-few : length own ≤ most_earlier
  own-few = omega (arith, ap length e.overlaps, length-overlaps_of (net_for ask t closed) (earlier_of ask area lens) (chain_of l c), j.holding.few)

  abbrev row : Row
  row = row_for (arcs_of t) ask.s l c own

  own_is : own ≡ overlaps_of (net_for ask t []) (earlier_of ask area lens) (chain_of l c)
  own_is = e.overlaps ∙ overlaps-open ask t closed [] (earlier_of ask area lens) (chain_of l c)

  fits : Fits row
  fits =
      record {
        last-arc = omega (arith, k.arc-below, few-records j.searching.accepted);
        extends = omega (arith, k.label-below, e.few);
        len = omega (arith, e.most);
        end = omega (
          arith,
          end_below (net_for ask t []) ask.s j.searching.accepted.s-below (table-sound ask.nodes t j.searching.accepted.no-fault []).to_below (chain_of l c),
          nodes-most j.searching.accepted,
        );
        few = own-few;
        overlaps = λ r h. omega (arith, ap (λ z. get_or z r 0) own_is, overlaps-most (net_for ask t []) (earlier_of ask area lens) (chain_of l c) r, e.most);
      }

  module _ (b : List ℕ) (put : b ≡ put_row l n row) where
    stored-standing : Standing (arcs_of t) ask.s b (n + 1)
    stored-standing =
        rw put
        (standing-more row j.searching.standing e.room e.few e.begun fits k.label-below (omega (arith, k.arc-below, arcs-length t)) refl refl e.short e.most)

    stored-holding : Holding (net_for ask t []) (earlier_of ask area lens) b (n + 1)
    stored-holding = rw put (holding-more row j.searching.standing.down j.holding e.room e.begun fits k.label-below own_is)

    newest : chain_at b n ≡ chain_of l c
    newest = ap (λ z. chain_at z n) put ∙ chain-new row j.searching.standing.down e.room fits e.begun k.label-below

    older : (i : ℕ) → i < n → chain_at b i ≡ chain_at l i
    older i h = ap (λ z. chain_at z i) put ∙ chain-other row j.searching.standing.down i h

    stored-once : (x y : ℕ) → x < n + 1 → y < n + 1 → chain_at b x ≡ chain_at b y → x ≡ y
    stored-once x y hx hy z = go (order n x) (order n y)
      where
        go : (n ≤ x) ⊎ (x < n) → (n ≤ y) ⊎ (y < n) → x ≡ y
        go (inl a) (inl d) = omega arith
        go (inl a) (inr d) =
            let i : x ≡ n = omega arith in
            absurd (e.fresh y d (sym (older y d) ∙ sym z ∙ ap (chain_at b) i ∙ newest))
        go (inr a) (inl d) =
            let i : y ≡ n = omega arith in
            absurd (e.fresh x a (sym (older x a) ∙ z ∙ ap (chain_at b) i ∙ newest))
        go (inr a) (inr d) = j.searching.comparable.once x y a d (sym (older x a) ∙ z ∙ older y d)

    stored-comparable : Comparable b (n + 1)
    stored-comparable = record { down = stored-standing.down; jumping = stored-standing.jumping; once = stored-once }

    long : length b ≡ length l
    long = ap length put ∙ length-put_row l n row

    -- what coming into its list asks
    pub stored-listed : Listed ask (length lens) area b n
    stored-listed = rw put (listed-row e.begun (judging-few j) j.listed row)

    pub stored-room : n * label_bytes + label_bytes ≤ length b
    stored-room = rw long e.room

    end_is : end_at b n ≡ end_of (arcs_of t) ask.s (chain_of l c)
    end_is = stored-standing.ends n (omega arith) ∙ ap (end_of (arcs_of t) ask.s) newest

    pub stored-end : end_at b n < ask.nodes
    stored-end = rw end_is (end_below (net_for ask t []) ask.s j.searching.accepted.s-below (table-sound ask.nodes t j.searching.accepted.no-fault []).to_below (chain_of l c))

    pub stored-away : end_at b n ≢ ask.s
    stored-away z = e.away (sym end_is ∙ z)

    stored-queued : QueuedBehind (query_for ask t closed l) (earlier_of ask area lens) (chain_at b n) b n root
    stored-queued =
        let q = query_for ask t closed l in
        let w : QueuedBehind q (earlier_of ask area lens) (chain_of l c) (put_row l n row) n root =
        queued-behind q (earlier_of ask area lens) (chain_of l c) l n root row j.searching.standing.down e.room fits e.begun k.label-below e.queued in
        subst (λ z. QueuedBehind q (earlier_of ask area lens) z b n root) (sym newest)
        (subst (λ z. QueuedBehind q (earlier_of ask area lens) (chain_of l c) z n root) (sym put) w)

    pub stored-runs : Runs t b n
    stored-runs = rw put (runs-row t l n j.runs row)

    -- the start of its run is put: a are the bytes then
    module _ (a : List ℕ) (run : a ≡ put_run b n (run_start t (end_at b n))) where
      run_only : Only 20 4 (n + 1) b a
      run_only = rw run (only-run t b n (run_start t (end_at b n)) (n + 1) (omega arith))

      run-runs : Runs t a (n + 1)
      run-runs = subst (λ z. Runs t z (n + 1)) (sym run) (runs-more t b n (run_start t (end_at b n)) stored-room (run_fits j.searching.accepted (end_at b n)) refl stored-runs)

      -- what coming into its list asks
      pub run-listed : Listed ask (length lens) area a n
      run-listed = listed-run e.begun (judging-few j) stored-listed run_only

      pub run_room : n * label_bytes + label_bytes ≤ length a
      run_room = rw run_only.long stored-room

      pub run_end : end_at a n < ask.nodes
      run_end = rw (run_only.field 2 n 16 refl refl) stored-end

      pub run-away : end_at a n ≢ ask.s
      run-away z = stored-away (sym (run_only.field 2 n 16 refl refl) ∙ z)

      -- it is in its list: d are the bytes then, and area' the area
      module _ (d area' : List ℕ) (g : Only 30 2 (n + 1) a d) (word : area' ≡ set area (length lens * width ask + place_of ask.s (end_at a n)) (n + 1)) where
        working : Only 20 20 (n + 1) b d
        working = only-trans (run-working run_only) (link-working g)

        listed-runs : Runs t d (n + 1)
        listed-runs = runs-linked t a (n + 1) run-runs g

        around : ButSlot (width ask) (length lens) area area'
        around = rw word (but-set (width ask) (length lens) area (place_of ask.s (end_at a n)) (n + 1) (place-below ask.nodes ask.s (end_at a n) j.searching.accepted.s-below run_end run-away))

        earlier-is : earlier_of ask area' lens ≡ earlier_of ask area lens
        earlier-is = earlier-but around j.earlier.slots

        long-listed : length d ≡ length l
        long-listed = working.long ∙ long

        newest-listed : chain_at d n ≡ chain_at b n
        newest-listed = chain-only working n

        -- what the second one is given
        pub listed-judging : Listed ask (length lens) area' d (n + 1) → Judging ask t area' lens marks d (n + 1)
        listed-judging h =
            record {
              searching = record {
                accepted = j.searching.accepted;
                standing = standing-only working (n + 1) stored-standing;
                comparable = comparable-only working (n + 1) stored-comparable;
              };
              holding = subst (λ z. Holding (net_for ask t []) z d (n + 1)) (sym earlier-is) (holding-only working (n + 1) stored-holding);
              earlier = slots-but around j.earlier.slots j.earlier;
              filter = subst (λ z. Filter t z marks) (sym earlier-is) j.filter;
              listed = h;
              runs = listed-runs;
            }

        pub listed-queued : QueuedBehind (query_for ask t closed d) (earlier_of ask area' lens) (chain_at d n) d n root
        listed-queued =
            subst (λ z. QueuedBehind z (earlier_of ask area' lens) (chain_at d n) d n root) (query-same ask t closed l d (sym long-listed))
            (subst (λ z. QueuedBehind (query_for ask t closed l) z (chain_at d n) d n root) (sym earlier-is)
            (subst (λ z. QueuedBehind (query_for ask t closed l) (earlier_of ask area lens) z d n root) (sym newest-listed) (queued-linked working (λ i. g.field 4 i 24 refl refl ∙ run_only.field 4 i 24 refl refl) (λ i. g.field 8 i 32 refl refl ∙ run_only.field 8 i 32 refl refl) (λ i. g.field 2 i 28 refl refl ∙ run_only.field 2 i 28 refl refl) (query_for ask t closed l) (earlier_of ask area lens) (chain_at b n) n root stored-queued)))

        pub entered : Listed ask (length lens) area' d (n + 1) → (l' : List ℕ) (y : ℕ) → Only 20 20 (n + 1) d l' → SameLists d l' → Queued (query_for ask t closed d) (earlier_of ask area' lens) (chain_at d n) l' (n + 1) y
            → Entered (query_for ask t closed l) (earlier_of ask area lens) l n c l' y × ButSlot (width ask) (length lens) area area' × Listed ask (length lens) area' l' (n + 1) × Runs t l' (n + 1)
        entered listed l' y f same' h = (
          record {
            put = subst (λ z. Only 20 20 (n + 1) z l')
                (put ∙ ap (λ os. put_row l n (row_for (arcs_of t) ask.s l c os)) (own_is ∙ overlaps-open ask t [] closed (earlier_of ask area lens) (chain_of l c))) (only-trans working f);
            queued = subst (λ z. Queued (query_for ask t closed l) (earlier_of ask area lens) z l' (n + 1) y) (newest-listed ∙ newest)
                (subst (λ z. Queued (query_for ask t closed l) z (chain_at d n) l' (n + 1) y) earlier-is
                (subst (λ z. Queued z (earlier_of ask area' lens) (chain_at d n) l' (n + 1) y) (query-same ask t closed d l long-listed) h));
          },
          around,
          listed-only (λ z. omega arith) (judging-few j) listed f same',
          runs-only t d (n + 1) listed-runs f same',
        )
