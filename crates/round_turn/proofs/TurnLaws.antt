-- A turn, over lists. The labels' chains are the live partial routes not after `last`; the theory's step says what the first candidate, the root's, does to them, and
-- the store of a label adds its chain. Where only working bytes change all this stays. Nothing here reads code.
use mathlib.Core.Path.{◌≡◌, refl, sym, ap, subst, ◌∙◌}
use mathlib.Core.Logic.{◌⊎◌, inl, inr, ◌≢◌}
use mathlib.Core.Bool.{true, false}
use mathlib.Core.List.{List, [], ◌∷◌, ◌++◌, Memᴰ}
use Prim.Native.Nat.{ℕ, pred, ◌+◌, ◌*◌, ◌≤◌, ◌<◌}
use native.Mathlib.Omega.{arith}
use lib.Dec.{T}
use lib.ListN.{length, get_or, take, length-append}
use lib.Seq.{get_or_at}
use Rattle.lists.proofs.MemberLaws.{up_from-i}
use Rattle.net.specs.Net.{arc}
use Rattle.net.specs.Route.{end_of, length_of, before, partial}
use Rattle.net.specs.Round.{Query, counted, Ending, answered, unanswered, refused, ending}
use Rattle.net.specs.Labels.{extend, labels}
use Rattle.net.specs.Search.{passes, up_to, left}
use Rattle.net.specs.Limits.{most_nodes, most_length, most_labels}
use Rattle.net.proofs.Valid.{Valid}
use Rattle.net.proofs.Order.{before-irrefl, at-most-then}
use Rattle.net.proofs.Guide.{by_length}
use Rattle.net.proofs.Sorted.{Increasing}
use Rattle.net.proofs.Listing.{partial-short, end_below}
use Rattle.net.proofs.Lengths.{length_of-most}
use Rattle.net.proofs.Chains.{leaves-e}
use Rattle.net.proofs.Step.{Fails, Foremost, up_to-e, up_to-increasing, step-none, step-dropped, step-taken}
use Rattle.net.proofs.Ends.{ends_found, ends-refused, ends-none, ends_held}
use Rattle.net.proofs.Turns.{left-dropped, left-taken}
use Rattle.net.proofs.Labels.{Closed, labels-more, up_to-closed}
use Rattle.labels.specs.Field.{label_bytes, no_number, Row, put_row}
use Rattle.labels.specs.Chain.{chain_at, chains_in, labels_in}
use Rattle.labels.specs.Rows.{overlaps_of, row_of, labelled}
use Rattle.labels.specs.Standing.{Comparable, Standing, Holding}
use Rattle.labels.proofs.OverlapLaws.{length-overlaps_of, overlaps-most}
use Rattle.labels.proofs.StoreLaws.{Fits, length-put_row, chain-other, chains-more, length-chains_in, get_or-chains_in, labels-in-more}
use Rattle.labels.proofs.StandingLaws.{standing-more, holding-more, comparable-increasing}
use Rattle.labels.proofs.RowLaws.{labelled-more}
use Rattle.search_ask.specs.Ask.{Points, chain_of, last_in}
use Rattle.search_ask.specs.declared.Candidate.{Candidate}
use Rattle.search_ask.proofs.CandidateLaws.{last_some}
use Rattle.search_queue.specs.Working.{cursor_at}
use Rattle.search_queue.specs.Only.{Only}
use Rattle.search_queue.proofs.OnlyLaws.{chain-only, chains-only}
use Rattle.search_cursor.specs.Queue.{Queued, QueuedBut}
use Rattle.search_cursor.proofs.QueueLaws.{root-last, root-foremost, root-leaves, queued-looked}
use Rattle.search_clear.proofs.RowsLaws.{only_row}
use Rattle.round_label.specs.declared.State.{State}
use Rattle.round_label.specs.Stage.{guide, Going, Over, Keeps, row_for}
use Rattle.round_label.proofs.StageLaws.{chain-of-only, last-only, going-only, over-only, keeps-only}
use Rattle.round_label.specs.declared.Stage.TheVariants.{GoesOn, Answered, Unanswered, NoRoom}
use Rattle.round_turn.specs.Turn.{to_end, left_in, Turned}

-- what a label more asks: room in the bytes, and limits that its fields keep
pub record Roomy (q : Query) (l : List ℕ) (n : ℕ) : Type 0 where
  pub room : n < q.room
  pub bytes : n * label_bytes + label_bytes ≤ length l
  pub few : n < most_labels
  pub nodes-most : q.net.nodes ≤ most_nodes
  pub arcs-few : length q.net.arcs < no_number
  pub len-most : (a : ℕ) → (arc q.net.arcs a).len ≤ most_length

-- the row of a candidate's label
abbrev pub row_in : Query → List (List ℕ) → List ℕ → Candidate → Row
row_in q earlier l c = row_for q.net.arcs q.s l c (overlaps_of q.net earlier (chain_of l c))

module _ (q : Query) (earlier : List (List ℕ)) (v : Valid q) (l : List ℕ) (x : State) (g : Going q earlier l x) where
  pub inc : Increasing (guide q) (chains_in l x.n)
  inc = subst (Increasing (guide q)) (sym g.taken) (up_to-increasing q earlier v (guide q) (last_in l x.last))

  pub going-comparable : Comparable l x.n
  going-comparable = comparable-increasing (guide q) g.standing inc

  over : (e : Ending) → (ending q earlier ≡ e) × (take q.room (counted q earlier) ≡ chains_in l x.n) → Over q earlier l x.n e
  over e w =
      record {
        standing = g.standing;
        holding = g.holding;
        ends = w.0;
        chains = sym w.1;
        holds = g.read ∙ sym (ends_held q earlier v (guide q) (chains_in l x.n) w.1);
      }

  -- no candidate is left
  turn-none : ((d : List ℕ) → Rattle.net.proofs.Candidates.Candidate (guide q) q.net q.s (chains_in l x.n) (last_in l x.last) d → Fails q earlier (chains_in l x.n) d) → Over q earlier l x.n (unanswered x.n)
  turn-none e =
      over (unanswered x.n)
      (subst (λ n. (ending q earlier ≡ unanswered n) × (take q.room (counted q earlier) ≡ chains_in l x.n)) (length-chains_in l x.n)
      (ends-none q earlier v (guide q) (by_length q.net q.s) (chains_in l x.n) (step-none q earlier v (guide q) (by_length q.net q.s) (chains_in l x.n) (last_in l x.last) g.taken (omega (arith, length-chains_in l x.n, g.begun)) e) g.short (omega (arith, length-chains_in l x.n, g.fits))))

  -- the first candidate is c, those aside that fail
  module _ (c : Candidate) (points : Points q.net.arcs x.n c) (real : c.arc ≢ no_number) (root : ℕ)
      (first : Foremost q earlier (guide q) (chains_in l x.n) (last_in l x.last) (chain_of l c)) where
    -- it is dropped: the labels' chains are the live ones not after it, too
    going : chains_in l x.n ≡ up_to (guide q) q earlier (chain_of l c) → Going q earlier l (record { n = x.n; last = c; root = root; stage = GoesOn })
    going e =
        record {
          standing = g.standing;
          holding = g.holding;
          begun = g.begun;
          fits = g.fits;
          points = points;
          taken = e ∙ sym (ap (up_to (guide q) q earlier) (last_some l c real));
          read = g.read;
          short = g.short;
        }

    turn-dropped : passes q earlier (chains_in l x.n) (chain_of l c) ≡ false → Going q earlier l (record { n = x.n; last = c; root = root; stage = GoesOn })
    turn-dropped e = going (step-dropped q earlier v (guide q) (by_length q.net q.s) (chains_in l x.n) (last_in l x.last) g.taken (chain_of l c) first e)

    turn-dropped-less : left_in q l (record { n = x.n; last = c; root = root; stage = GoesOn }) < left_in q l (record { n = x.n; last = x.last; root = x.root; stage = GoesOn })
    turn-dropped-less =
        let k = first.is-candidate in
        omega (arith, left-dropped (guide q) q.net q.s q.room (chains_in l x.n) (last_in l x.last) (chain_of l c) k, ap (left (guide q) q.net q.s q.room (chains_in l x.n)) (last_some l c real))

    -- it passes both tests
    module _ (passed : passes q earlier (chains_in l x.n) (chain_of l c) ≡ true) where
      up : chains_in l x.n ++ ((chain_of l c) ∷ []) ≡ up_to (guide q) q earlier (chain_of l c)
      up = step-taken q earlier v (guide q) (by_length q.net q.s) (chains_in l x.n) (last_in l x.last) g.taken (chain_of l c) first passed

      -- there is no room for it
      turn-refused : q.room ≤ x.n → Over q earlier l x.n refused
      turn-refused h =
          over refused
          (ends-refused q earlier v (guide q) (by_length q.net q.s) (chains_in l x.n) (chain_of l c) up g.short (omega (arith, length-chains_in l x.n, g.fits)))

      -- it is taken up
      module _ (roomy : Roomy q l x.n) (is-arc : c.arc < length q.net.arcs) where
        abbrev row : Row
        row = row_in q earlier l c

        -- the bytes with its label
        abbrev made : List ℕ
        made = put_row l x.n row

        label-below : c.label < x.n
        label-below = points.label-below real

        chain-partial : T (partial q.net q.s (chain_of l c))
        chain-partial =
            (up_to-e q earlier v (guide q) (chain_of l c) (chain_of l c)
            (subst (Memᴰ (chain_of l c)) up (mathlib.Core.List.Memᴰ.append_right (chains_in l x.n) (mathlib.Core.List.Memᴰ.head refl)))).0.is-partial

        pub chain-short : length (chain_of l c) < most_nodes
        chain-short = omega (arith, partial-short q.net q.s v.s-below v.sound.to_below (chain_of l c) chain-partial, v.s-below)

        pub chain-most : length_of q.net.arcs (chain_of l c) ≤ most_nodes * most_length
        chain-most =
            omega (arith, length_of-most q.net.arcs most_length roomy.len-most (chain_of l c), chain-short)

        fits : Fits row
        fits =
            record {
              last-arc = omega arith;
              extends = omega (arith, label-below);
              len = omega (arith, chain-most);
              end = omega (arith, end_below q.net q.s v.s-below v.sound.to_below (chain_of l c));
              few = omega (arith, length-overlaps_of q.net earlier (chain_of l c), g.holding.few);
              overlaps = λ r h. omega (arith, overlaps-most q.net earlier (chain_of l c) r, chain-most);
            }

        -- the store adds the chain and the label
        chains-up : chains_in made (x.n + 1) ≡ chains_in l x.n ++ ((chain_of l c) ∷ [])
        chains-up = chains-more row g.standing.down roomy.bytes fits g.begun label-below

        get_or-label : get_or (chains_in l x.n) c.label [] ≡ chain_at l c.label
        get_or-label = get_or-chains_in l x.n c.label label-below

        closed : Closed (chains_in l x.n)
        closed = subst Closed (sym g.taken) (up_to-closed q earlier v (guide q) (by_length q.net q.s) (last_in l x.last))

        in_list : c.label < length (chains_in l x.n)
        in_list = omega (arith, length-chains_in l x.n, label-below)

        read_up : labels_in made (x.n + 1) ≡ labels (chains_in made (x.n + 1))
        read_up =
            labels-in-more l x.n row roomy.bytes fits (λ e. omega arith)
            ∙ ap (λ ls. ls ++ (extend c.label c.arc ∷ [])) g.read
            ∙ sym (labels-more (guide q) (chains_in l x.n) inc closed c.label c.arc in_list)
            ∙ ap (λ p. labels (chains_in l x.n ++ ((p ++ (c.arc ∷ [])) ∷ []))) get_or-label
            ∙ sym (ap labels chains-up)

        standing-up : Standing q.net.arcs q.s made (x.n + 1)
        standing-up = standing-more row g.standing roomy.bytes roomy.few g.begun fits label-below is-arc refl refl chain-short chain-most

        holding-up : Holding q.net earlier made (x.n + 1)
        holding-up = holding-more row g.standing.down g.holding roomy.bytes g.begun fits label-below refl

        last_up : last_in made c ≡ chain_of l c
        last_up = last_some made c real ∙ ap (λ p. p ++ (c.arc ∷ [])) (chain-other row g.standing.down c.label label-below)

        turn-taken : end_of q.net.arcs q.s (chain_of l c) ≢ q.t
            → Going q earlier made (record { n = x.n + 1; last = c; root = root; stage = GoesOn })
        turn-taken far =
            record {
              standing = standing-up;
              holding = holding-up;
              begun = λ e. omega arith;
              fits = omega arith;
              points = record {
                label-below = λ e. omega (arith, label-below);
                arc-below = λ e. points.arc-below real;
              };
              taken = chains-up ∙ up ∙ sym (ap (up_to (guide q) q earlier) last_up);
              read = read_up;
              short = λ p m e. short-up p e (mathlib.Core.List.Memᴰ.append_cases (chains_in l x.n) (subst (Memᴰ p) chains-up m));
            }
          where
            short-up : (p : List ℕ) → end_of q.net.arcs q.s p ≡ q.t → Memᴰ p (chains_in l x.n) ⊎ Memᴰ p ((chain_of l c) ∷ []) → ⊥
            short-up p e (inl m) = g.short p m e
            short-up p e (inr m) = far (subst (λ z. end_of q.net.arcs q.s z ≡ q.t) (mathlib.Core.List.Memᴰ.eq_of_singleton m) e)

        newest : chain_at made x.n ≡ chain_of l c
        newest =
            sym (get_or-chains_in made (x.n + 1) x.n (omega arith))
            ∙ ap (λ ps. get_or ps x.n []) chains-up
            ∙ get_or_at (chains_in l x.n) (chain_of l c) [] [] x.n (length-chains_in l x.n)

        turn-answer : end_of q.net.arcs q.s (chain_of l c) ≡ q.t
            → Over q earlier made (x.n + 1) (answered (chain_at made (pred (x.n + 1))) (x.n + 1))
        turn-answer e =
            let n : length (chains_in l x.n ++ ((chain_of l c) ∷ [])) ≡ x.n + 1 =
            length-append (chains_in l x.n) ((chain_of l c) ∷ []) ∙ ap (λ k. k + 1) (length-chains_in l x.n) in
            let w = ends_found q earlier v (guide q) (by_length q.net q.s) (chains_in l x.n) (chain_of l c) up g.short e (omega arith) in
            let k : pred (x.n + 1) ≡ x.n = omega arith in
            record {
              standing = standing-up;
              holding = holding-up;
              ends = w.0 ∙ ap (answered (chain_of l c)) n
                  ∙ ap (λ p. answered p (x.n + 1)) (sym newest ∙ ap (chain_at made) (sym k));
              chains = chains-up ∙ sym w.1;
              holds = read_up ∙ ap labels chains-up ∙ sym (ends_held q earlier v (guide q) (chains_in l x.n ++ ((chain_of l c) ∷ [])) w.1);
            }

        turn-keeps : Keeps q earlier l x.n made (x.n + 1)
        unfolding row_of
        turn-keeps l₀ h =
            let base = labelled q.net q.s earlier l₀ (chains_in l x.n) in
            let e : put_row base x.n row ≡ labelled q.net q.s earlier l₀ (chains_in made (x.n + 1)) =
            ap (λ n. put_row base n row) (sym (length-chains_in l x.n))
            ∙ ap (λ p. put_row base (length (chains_in l x.n)) (row_of q.net q.s earlier (extend c.label c.arc) (p ++ (c.arc ∷ [])))) (sym get_or-label)
            ∙ sym (labelled-more q.net q.s earlier l₀ (chains_in l x.n) inc closed c.label c.arc in_list)
            ∙ ap (λ p. labelled q.net q.s earlier l₀ (chains_in l x.n ++ ((p ++ (c.arc ∷ [])) ∷ []))) get_or-label
            ∙ ap (labelled q.net q.s earlier l₀) (sym chains-up) in
            subst (λ z. Only 20 20 (x.n + 1) z made) e (only_row h row fits.few)

        turn-taken-less : left (guide q) q.net q.s q.room (chains_in made (x.n + 1)) (last_in made c) < left (guide q) q.net q.s q.room (chains_in l x.n) (last_in l x.last)
        turn-taken-less =
            let k = first.is-candidate in
            rw (chains-up, last_up) (left-taken (guide q) q.net q.s q.room (chains_in l x.n) (last_in l x.last) (chain_of l c) k (omega (arith, length-chains_in l x.n)))

-- ---- a turn, as the code has it: the root's candidate is looked at

module _ (q : Query) (earlier : List (List ℕ)) (v : Valid q) (l : List ℕ) (x : State) (g : Going q earlier l x) (at : x.stage ≡ GoesOn) (len-most : (a : ℕ) → (arc q.net.arcs a).len ≤ most_length)
    (qu : Queued q earlier (last_in l x.last) l x.n x.root) where
  pub turned_none : cursor_at l x.root ≡ no_number → Turned q earlier l x l (record { n = x.n; last = x.last; root = x.root; stage = Unanswered })
  turned_none e =
      record {
        long = refl;
        stage = turn-none q earlier v l x g (root-last q earlier (last_in l x.last) l x.n x.root g.standing len-most qu e);
        keeps = λ l₀ k. k;
        less = omega (arith, ap to_end at);
      }

  module _ (a : ℕ) (is : a ≡ cursor_at l x.root) (real : a ≢ no_number) where
    abbrev c : Candidate
    c = record { label = x.root; arc = a }

    found : cursor_at l x.root ≢ no_number
    found e = real (is ∙ e)

    first : Foremost q earlier (guide q) (chains_in l x.n) (last_in l x.last) (chain_of l c)
    first = rw is (root-foremost q earlier (last_in l x.last) l x.n x.root g.standing len-most qu found)

    pub arc-below : a < length q.net.arcs
    arc-below = (leaves-e q.net (end_of q.net.arcs q.s (chain_at l x.root)) a (rw is (root-leaves q earlier (last_in l x.last) l x.n x.root g.standing len-most qu found))).is-arc

    points : Points q.net.arcs x.n c
    points = record { label-below = λ e. qu.root.used; arc-below = λ e. arc-below }

    -- what moving the root's cursor asks
    pub looked : QueuedBut q earlier (chain_of l c) l x.n x.root
    looked = rw is (queued-looked q earlier (last_in l x.last) l x.n x.root g.standing len-most qu (inc q earlier v l x g) found)

    -- it is dropped, and the root's cursor moves on
    pub turned-dropped : passes q earlier (chains_in l x.n) (chain_of l c) ≡ false → (l' : List ℕ) (k : ℕ) → Only 20 20 x.n l l' → Queued q earlier (chain_of l c) l' x.n k
        → Turned q earlier l x l' (record { n = x.n; last = c; root = k; stage = GoesOn })
    turned-dropped e l' k o qu' =
        record {
          long = o.long;
          stage = (
            going-only o q earlier (record { n = x.n; last = c; root = k; stage = GoesOn }) (turn-dropped q earlier v l x g c points real k first e),
            subst (λ z. Queued q earlier z l' x.n k) (sym (last-only o c ∙ last_some l c real)) qu',
          );
          keeps = keeps-only q earlier x.n o;
          less = rw (chains-only o x.n, last-only o c) (omega (arith, ap to_end at, turn-dropped-less q earlier v l x g c points real k first));
        }

    module _ (passed : passes q earlier (chains_in l x.n) (chain_of l c) ≡ true) where
      pub turned-refused : q.room ≤ x.n → (m : List ℕ) → Only 20 20 x.n l m → Turned q earlier l x m (record { n = x.n; last = x.last; root = x.root; stage = NoRoom })
      turned-refused h m o =
          record {
            long = o.long;
            stage = over-only o q earlier x.n refused (turn-refused q earlier v l x g c points real x.root first passed h);
            keeps = keeps-only q earlier x.n o;
            less = rw (chains-only o x.n, last-only o x.last) (omega (arith, ap to_end at));
          }

      module _ (roomy : Roomy q l x.n) where
        pub short-enough : length (chain_of l c) < most_nodes
        short-enough = chain-short q earlier v l x g c points real 0 first passed roomy arc-below

        pub light-enough : length_of q.net.arcs (chain_of l c) ≤ most_nodes * most_length
        light-enough = chain-most q earlier v l x g c points real 0 first passed roomy arc-below

        -- no label has its chain
        pub fresh : (i : ℕ) → i < x.n → chain_at l i ≢ chain_of l c
        unfolding chains_in
        fresh i h e =
            let m : Memᴰ (chain_at l i) (up_to (guide q) q earlier (last_in l x.last)) = subst (Memᴰ (chain_at l i)) g.taken (mathlib.Core.List.Memᴰ.map (chain_at l) (up_from-i 0 x.n i (omega arith) (omega arith))) in
            before-irrefl (guide q) (chain_of l c)
            (subst (λ z. T (before (guide q) z (chain_of l c))) e
            (at-most-then (guide q) (chain_at l i) (last_in l x.last) (chain_of l c) (up_to-e q earlier v (guide q) (last_in l x.last) (chain_at l i) m).1 first.is-candidate.after))

        -- taken up, after the root's cursor moved on: m are the bytes then
        module _ (m : List ℕ) (o : Only 20 20 x.n l m) where
          first-between : Foremost q earlier (guide q) (chains_in m x.n) (last_in m x.last) (chain_of m c)
          first-between = rw (chains-only o x.n, last-only o x.last, chain-only o x.root) first

          passed-between : passes q earlier (chains_in m x.n) (chain_of m c) ≡ true
          passed-between = rw (chains-only o x.n, chain-only o x.root) passed

          roomy-between : Roomy q m x.n
          roomy-between =
              record {
                room = roomy.room;
                bytes = rw o.long roomy.bytes;
                few = roomy.few;
                nodes-most = roomy.nodes-most;
                arcs-few = roomy.arcs-few;
                len-most = len-most;
              }

          going-between : Going q earlier m x
          going-between = going-only o q earlier x g

          less-between : left (guide q) q.net q.s q.room (chains_in m x.n) (last_in m x.last) ≡ left (guide q) q.net q.s q.room (chains_in l x.n) (last_in l x.last)
          less-between = rw (chains-only o x.n, last-only o x.last)

          pub turned-answer : end_of q.net.arcs q.s (chain_of l c) ≡ q.t → (l' : List ℕ) → l' ≡ put_row m x.n (row_in q earlier m c)
              → Turned q earlier l x l' (record { n = x.n + 1; last = c; root = x.root; stage = Answered })
          turned-answer e l' put =
              let e' = subst (λ z. end_of q.net.arcs q.s z ≡ q.t) (sym (chain-of-only o c)) e in
              subst (λ b. Turned q earlier l x b (record { n = x.n + 1; last = c; root = x.root; stage = Answered })) (sym put)
              (record {
                long = length-put_row m x.n (row_in q earlier m c) ∙ o.long;
                stage = (λ z. omega arith, turn-answer q earlier v m x going-between c points real x.root first-between passed-between roomy-between arc-below e');
                keeps = λ l₀ h. turn-keeps q earlier v m x going-between c points real x.root first-between passed-between roomy-between arc-below l₀ (keeps-only q earlier x.n o l₀ h);
                less = omega (arith, ap to_end at, turn-taken-less q earlier v m x going-between c points real x.root first-between passed-between roomy-between arc-below, less-between);
              })

          pub turned_taken : end_of q.net.arcs q.s (chain_of l c) ≢ q.t → (l' : List ℕ) (k : ℕ) → Only 20 20 (x.n + 1) (put_row m x.n (row_in q earlier m c)) l'
              → Queued q earlier (chain_of l c) l' (x.n + 1) k → Turned q earlier l x l' (record { n = x.n + 1; last = c; root = k; stage = GoesOn })
          turned_taken far l' k f qu' =
              let far' = subst (λ z. end_of q.net.arcs q.s z ≢ q.t) (sym (chain-of-only o c)) far in
              let last-is : last_in l' c ≡ chain_of l c =
              last-only f c ∙ last_up q earlier v m x going-between c points real k first-between passed-between roomy-between arc-below ∙ chain-of-only o c in
              let less' = turn-taken-less q earlier v m x going-between c points real k first-between passed-between roomy-between arc-below in
              record {
                long = f.long ∙ length-put_row m x.n (row_in q earlier m c) ∙ o.long;
                stage = (
                  going-only f q earlier (record { n = x.n + 1; last = c; root = k; stage = GoesOn }) (turn-taken q earlier v m x going-between c points real k first-between passed-between roomy-between arc-below far'),
                  subst (λ z. Queued q earlier z l' (x.n + 1) k) (sym last-is) qu',
                );
                keeps = λ l₀ h. keeps-only q earlier (x.n + 1) f l₀
                    (turn-keeps q earlier v m x going-between c points real k first-between passed-between roomy-between arc-below l₀ (keeps-only q earlier x.n o l₀ h));
                less = rw (chains-only f (x.n + 1), last-only f c)
                    (omega (arith, ap to_end at, less', less-between));
              }
