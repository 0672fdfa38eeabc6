-- One round more. How it ended is the theory's ending, so what was made gets that ending behind it and what is to come loses it; an answer's slot is the next
-- earlier route, and the summaries get one record more.
use mathlib.Core.Path.{◌≡◌, refl, sym, ap, ap₂, subst, ◌∙◌}
use mathlib.Core.Bool.{Bool, true, false, cond}
use mathlib.Core.Logic.{◌≢◌}
use mathlib.Core.List.{List, [], ◌∷◌, ◌++◌, map, append_assoc, append-nil}
use Prim.Native.Nat.{ℕ, suc, ◌+◌, ◌-◌, ◌*◌, ◌≤◌, ◌<◌}
use native.Mathlib.Nat.{mul-le-mul_right}
use native.Mathlib.Omega.{arith}
use lib.Dec.{eqb}
use lib.ListN.{length, get_or, set, take, replicate, length-set, length-take}
use lib.Seq.{get_or-set_same, get_or-set_other, get_or-take}
use borrow.Author.Tests.{eqb-true, eqb-false}
use Rattle.lists.specs.Tests.{up_from}
use Rattle.lists.proofs.LoopLaws.{map-up_from-more, map-up_from-cong, length-map-up_from}
use Rattle.words.specs.Part.{slot}
use Rattle.words.proofs.PartLaws.{slot-other}
use Rattle.net.specs.Net.{Arc, arc}
use Rattle.net.specs.Route.{length_of}
use Rattle.net.specs.Limits.{most_nodes, most_length, most_routes, most_labels}
use Rattle.net.specs.Round.{Query, Ending, answered, unanswered, refused, ending}
use Rattle.net.specs.Outcome.{go_on, rounds_by, rounds, summary}
use Rattle.net.proofs.Valid.{Valid}
use Rattle.net.proofs.Ends.{ending-answered, ending-unanswered}
use Rattle.labels.specs.Field.{no_number}
use Rattle.labels.specs.Chain.{slot_of}
use Rattle.search_ask.specs.Earlier.{route_in, earlier_in, Earlier}
use Rattle.round.specs.declared.Ended.{Ended}
use Rattle.round.specs.declared.Ended.TheVariants.{Answer, NoAnswer, Refused}
use Rattle.round.specs.Round.{shown, area_after}
use Rattle.round.proofs.EarlierLaws.{length-slot_of, answered-short, here, there, length-area, earlier_more, earlier-kept}
use Rattle.query_rounds.specs.Area.{area_with}
use Rattle.summary.specs.declared.Summary.{Summary}
use Rattle.summary.specs.Sums.{set_entry}
use Rattle.query_rounds.specs.Progress.{Progress, progress, as_record, answered_in, last_round, to_come, made_in, Underway, Slotted, Stepped, to_end, after_of}
use Rattle.query_rounds.specs.declared.Added.{Added}
use Rattle.query_rounds.specs.declared.Stage.{Stage}
use Rattle.query_rounds.specs.declared.Stage.TheVariants.{GoesOn, Found, Fewer, NoRoom}
use Rattle.query_rounds.proofs.AreaLaws.{area-more}
use Rattle.query_rounds.proofs.SumsLaws.{Shows, shows_more}

-- ---- the ending behind each case

shown-answer : (q : Query) (z : Ending) (l m n : ℕ) → Answer l m n ≡ shown q z → (p : List ℕ) × (z ≡ answered p n) × (l ≡ length_of q.net.arcs p) × (m ≡ length p)
unfolding shown
shown-answer q (answered p c) l m n e =
    let i : l ≡ length_of q.net.arcs p = cc in
    let j : m ≡ length p = cc in
    let k : c ≡ n = cc in
    (p, ap (answered p) k, i, j)
shown-answer q (unanswered c) l m n e = let z : ◌≡◌ {A = ℕ} 0 1 = cc in absurd (omega arith)
shown-answer q refused l m n e = let z : ◌≡◌ {A = ℕ} 0 1 = cc in absurd (omega arith)

shown-none : (q : Query) (z : Ending) (n : ℕ) → NoAnswer n ≡ shown q z → z ≡ unanswered n
unfolding shown
shown-none q (answered p c) n e = let z : ◌≡◌ {A = ℕ} 0 1 = cc in absurd (omega arith)
shown-none q (unanswered c) n e = let k : c ≡ n = cc in ap unanswered k
shown-none q refused n e = let z : ◌≡◌ {A = ℕ} 0 1 = cc in absurd (omega arith)

shown-refused : (q : Query) (z : Ending) → Refused ≡ shown q z → z ≡ refused
unfolding shown
shown-refused q (answered p c) e = let z : ◌≡◌ {A = ℕ} 0 1 = cc in absurd (omega arith)
shown-refused q (unanswered c) e = let z : ◌≡◌ {A = ℕ} 0 1 = cc in absurd (omega arith)
shown-refused q refused e = refl

-- ---- what was made

abbrev answer_at : ℕ → List ℕ → List ℕ → ℕ → Ending
answer_at w area counts j = answered (route_in (slot w j area)) (get_or counts j 0)

pub length-answered_in : (w : ℕ) (area : List ℕ) (x : Progress) → length (answered_in w area x) ≡ x.r
unfolding answered_in
length-answered_in w area x = length-map-up_from (answer_at w area x.sums.labels) 0 x.r

-- one round more is to be made: what is asked of the query and its buffers, and where it stands
pub record Stepping (q : Query) (k : ℕ) (area : List ℕ) (x : Progress) : Type 0 where
  pub valid : Valid q
  pub few-arcs : length q.net.arcs < no_number
  pub nodes-most : q.net.nodes ≤ most_nodes
  pub len-most : (a : ℕ) → (arc q.net.arcs a).len ≤ most_length
  pub k-most : k ≤ most_routes
  pub room : k * (q.net.nodes - 1) ≤ length area
  pub underway : Underway q (q.net.nodes - 1) k area x
  pub at : x.stage ≡ GoesOn

-- a length set past the earlier ones changes none of them
earlier-set : (arcs : List Arc) (w r : ℕ) (area lens : List ℕ) (v : ℕ) → Earlier arcs w r area lens → Earlier arcs w r area (set lens r v)
earlier-set arcs w r area lens v h =
    record {
      few = h.few;
      slots = h.slots;
      formed = h.formed;
      enough = omega (arith, h.enough, length-set lens r v);
      lengths = λ j m. get_or-set_other lens r j v 0 (λ e. omega arith) ∙ h.lengths j m;
      most = λ j m. rw (get_or-set_other lens r j v 0 (λ e. omega arith)) (h.most j m);
    }

-- the lengths that are lent: the first r
pub lens-long : (lens : List ℕ) (r : ℕ) → r ≤ length lens → length (take (r - 0) lens) ≡ r
lens-long lens r h = omega (arith, length-take (r - 0) lens)

pub earlier-lent : {arcs : List Arc} {w r : ℕ} {area lens : List ℕ} → Earlier arcs w r area lens → Earlier arcs w (length (take (r - 0) lens)) area (take (r - 0) lens)
earlier-lent {arcs} {w} {r} {area} {lens} h =
    let n = lens-long lens r h.enough in
    let at : (j : ℕ) → j < r → get_or (take (r - 0) lens) j 0 ≡ get_or lens j 0 = λ j m. get_or-take (r - 0) lens j 0 (omega arith) in
    record {
      few = omega (arith, n, h.few);
      slots = rw n h.slots;
      formed = λ j m. h.formed j (omega (arith, n));
      enough = omega arith;
      lengths = λ j m. at j (omega (arith, n)) ∙ h.lengths j (omega (arith, n));
      most = λ j m. rw (at j (omega (arith, n))) (h.most j (omega (arith, n)));
    }

module _ (q : Query) (k : ℕ) (area : List ℕ) (x : Progress) (on : Stepping q k area x) where
  abbrev w : ℕ
  w = q.net.nodes - 1

  pub below : x.r < k
  below = on.underway.going on.at

  pub slots-room : x.r * w + w ≤ length area
  slots-room = omega (arith, on.room, mul-le-mul_right {m = suc x.r} {n = k} w below)

  made-now : made_in w area x ≡ answered_in w area x
  made-now = ap (λ s. answered_in w area x ++ last_round s x) on.at ∙ append-nil (answered_in w area x)

  shows-now : Shows q x.sums (answered_in w area x)
  shows-now = subst (Shows q x.sums) made-now on.underway.sums

  -- what is to come begins with this round
  to-come : answered_in w area x ++ rounds q (k - x.r) (earlier_in w x.r area) ≡ rounds q k []
  to-come = ap₂ ◌++◌ (sym made-now) (sym (ap (λ s. to_come s q k (earlier_in w x.r area) x) on.at)) ∙ on.underway.made

  this-round : (z : Ending) → ending q (earlier_in w x.r area) ≡ z
      → rounds q (k - x.r) (earlier_in w x.r area) ≡ go_on z (λ p. rounds q (k - (x.r + 1)) (earlier_in w x.r area ++ (p ∷ [])))
  unfolding rounds_by
  this-round z e =
      let n : k - x.r ≡ suc (k - (x.r + 1)) = omega (arith, below) in
      ap (λ m. rounds q m (earlier_in w x.r area)) n
      ∙ ap (λ y. go_on y (λ p. rounds q (k - (x.r + 1)) (earlier_in w x.r area ++ (p ∷ [])))) e

  -- counts of the rounds before stay
  answered-kept : (c : ℕ) → map (answer_at w area (set x.sums.labels x.r c)) (up_from 0 x.r) ≡ answered_in w area x
  unfolding answered_in
  answered-kept c =
      map-up_from-cong (answer_at w area (set x.sums.labels x.r c)) (answer_at w area x.sums.labels) 0 x.r
      (λ j a b. ap (answered (route_in (slot w j area))) (get_or-set_other x.sums.labels x.r j c 0 (λ e. omega arith)))

  rows-kept : (y : Summary) → (length (set_entry x.sums x.r y).length ≡ most_routes) × (length (set_entry x.sums x.r y).arcs ≡ most_routes) × (length (set_entry x.sums x.r y).labels ≡ most_routes)
  rows-kept y = (
    length-set x.sums.length x.r y.length ∙ on.underway.rows.0,
    length-set x.sums.arcs x.r y.arcs ∙ on.underway.rows.1,
    length-set x.sums.labels x.r y.labels ∙ on.underway.rows.2,
  )

  -- ---- an answer

  module _ (l m n : ℕ) (ends : Answer l m n ≡ shown q (ending q (earlier_in w x.r area))) (area' : List ℕ) (is : area' ≡ area_after w x.r area (ending q (earlier_in w x.r area))) where
    p : List ℕ
    p = (shown-answer q (ending q (earlier_in w x.r area)) l m n ends).0

    found : ending q (earlier_in w x.r area) ≡ answered p n
    unfolding p
    found = (shown-answer q (ending q (earlier_in w x.r area)) l m n ends).1

    len_is : l ≡ length_of q.net.arcs p
    unfolding p
    len_is = (shown-answer q (ending q (earlier_in w x.r area)) l m n ends).2

    arcs-is : m ≡ length p
    unfolding p
    arcs-is = (shown-answer q (ending q (earlier_in w x.r area)) l m n ends).3

    after : area' ≡ area_after w x.r area (answered p n)
    after = is ∙ ap (area_after w x.r area) found

    abbrev row : Summary
    row = record { length = l; arcs = m; labels = n }

    next : Stage → Progress
    next s = record { r = x.r + 1; stage = s; sums = set_entry x.sums x.r row }

    earlier-next : earlier_in w (x.r + 1) area' ≡ earlier_in w x.r area ++ (p ∷ [])
    earlier-next = ap (earlier_in w (x.r + 1)) after ∙ earlier_more q (earlier_in w x.r area) on.valid on.few-arcs p n found x.r area slots-room

    answered-next : (s : Stage) → answered_in w area' (next s) ≡ answered_in w area x ++ (answered p n ∷ [])
    unfolding answered_in next
    answered-next s =
        let counts = set x.sums.labels x.r n in
        let area'' = area_after w x.r area (answered p n) in
        ap (λ b. map (answer_at w b counts) (up_from 0 (x.r + 1))) after
        ∙ map-up_from-more (answer_at w area'' counts) x.r
        ∙ ap₂ (λ i j. i ++ (j ∷ []))
        (map-up_from-cong (answer_at w area'' counts) (answer_at w area counts) 0 x.r (λ j a b. ap (λ y. answered y (get_or counts j 0)) (there q (earlier_in w x.r area) on.valid on.few-arcs p n found x.r area slots-room j (omega arith))) ∙ answered-kept n)
        (ap₂ answered (here q (earlier_in w x.r area) on.valid on.few-arcs p n found x.r area slots-room) (get_or-set_same x.sums.labels x.r n 0 (omega (arith, on.underway.rows.2, below))))

    earlier-held : Earlier q.net.arcs w (x.r + 1) area' (set x.sums.length x.r l)
    earlier-held =
        subst (λ b. Earlier q.net.arcs w (x.r + 1) b (set x.sums.length x.r l)) (sym after)
        (subst (λ y. Earlier q.net.arcs w (x.r + 1) (area_after w x.r area (answered p n)) (set x.sums.length x.r y)) (sym len_is)
        (earlier-kept q (earlier_in w x.r area) on.valid on.few-arcs p n found x.r area slots-room x.sums.length on.underway.earlier (omega (arith, below, on.k-most)) (omega (arith, on.underway.rows.0, below)) on.nodes-most on.len-most))

    shows-next : (s : Stage) → Shows q (next s).sums (answered_in w area x ++ (answered p n ∷ []))
    unfolding next summary
    shows-next s =
        shows_more q x.sums (answered_in w area x) x.r row (answered p n) shows-now (length-answered_in w area x) (omega (arith, below, on.k-most)) on.underway.rows.0 on.underway.rows.1 on.underway.rows.2
        (cc (len_is, arcs-is))

    -- in whichever stage, made up of what was made and is to come
    made-next : answered_in w area x ++ (answered p n ∷ rounds q (k - (x.r + 1)) (earlier_in w x.r area ++ (p ∷ []))) ≡ rounds q k []
    unfolding go_on
    made-next = ap (λ ys. answered_in w area x ++ ys) (sym (this-round (answered p n) found)) ∙ to-come

    slotted : Slotted w k area x.r area' (x.r + 1)
    slotted b e = after ∙ area-more w k x.r b area p n below e ∙ ap (area_with w k b) (sym earlier-next)

    long-next : length area' ≡ length area
    long-next = ap length after ∙ length-area q (earlier_in w x.r area) on.valid on.few-arcs p n found x.r area slots-room

    -- the slots after it are blank
    blank-next : (j : ℕ) → x.r + 1 ≤ j → j < k → slot w j area' ≡ replicate w no_number
    unfolding area_after
    blank-next j a b =
        ap (slot w j) after
        ∙ slot-other w x.r j area (slot_of w p) slots-room (length-slot_of w p (answered-short q (earlier_in w x.r area) on.valid on.few-arcs p n found)) (λ e. omega arith)
        ∙ on.underway.blank j (omega arith) b

    stepped-found : x.r + 1 ≡ k → Stepped q w k area x area' (next Found)
    unfolding next rounds_by
    stepped-found e =
        let z : k - (x.r + 1) ≡ 0 = omega arith in
        record {
          long = long-next;
          underway = record {
            going = λ i. absurd (cc);
            few = omega arith;
            rows = rows-kept row;
            earlier = earlier-held;
            blank = blank-next;
            made = append-nil (answered_in w area' (next Found) ++ []) ∙ append-nil (answered_in w area' (next Found)) ∙ answered-next Found
                ∙ ap (λ i. answered_in w area x ++ (answered p n ∷ rounds q i (earlier_in w x.r area ++ (p ∷ [])))) (sym z) ∙ made-next;
            sums = subst (Shows q (next Found).sums) (sym (append-nil (answered_in w area' (next Found)) ∙ answered-next Found)) (shows-next Found);
          };
          slots = slotted;
          less = omega (arith, ap to_end on.at);
        }

    stepped-on : x.r + 1 ≢ k → Stepped q w k area x area' (next GoesOn)
    unfolding next
    stepped-on ne =
        record {
          long = long-next;
          underway = record {
            going = λ i. omega (arith, below);
            few = omega (arith, below);
            rows = rows-kept row;
            earlier = earlier-held;
            blank = blank-next;
            made = ap₂ ◌++◌ (append-nil (answered_in w area' (next GoesOn)) ∙ answered-next GoesOn) (ap (rounds q (k - (x.r + 1))) earlier-next)
                ∙ append_assoc (answered_in w area x) (answered p n ∷ []) (rounds q (k - (x.r + 1)) (earlier_in w x.r area ++ (p ∷ [])))
                ∙ made-next;
            sums = subst (Shows q (next GoesOn).sums) (sym (append-nil (answered_in w area' (next GoesOn)) ∙ answered-next GoesOn)) (shows-next GoesOn);
          };
          slots = slotted;
          less = omega (arith, below, ap to_end on.at);
        }

    pub stepped-answer : Stepped q w k area x area' (record { r = x.r + 1; stage = cond (eqb (x.r + 1) k) Found GoesOn; sums = set_entry x.sums x.r row })
    unfolding next
    stepped-answer = go (eqb (x.r + 1) k) refl
      where
        go : (b : Bool) → eqb (x.r + 1) k ≡ b → Stepped q w k area x area' (record { r = x.r + 1; stage = cond b Found GoesOn; sums = set_entry x.sums x.r row })
        go true e = stepped-found (eqb-true (x.r + 1) k e)
        go false e = stepped-on (eqb-false (x.r + 1) k e)

  -- ---- none

  -- the last round ends the query: z is its ending, and c its label count
  abbrev ended : Stage → ℕ → Progress
  ended s c = record { r = x.r; stage = s; sums = set_entry x.sums x.r (record { length = 0; arcs = 0; labels = c }) }

  module _ (z : Ending) (c : ℕ) (s : Stage) (found : ending q (earlier_in w x.r area) ≡ z) (stops : go_on z (λ p. rounds q (k - (x.r + 1)) (earlier_in w x.r area ++ (p ∷ []))) ≡ z ∷ [])
      (late : to_end s ≡ 0) (last : last_round s (ended s c) ≡ z ∷ []) (none-come : (e : List (List ℕ)) → to_come s q k e (ended s c) ≡ []) (shows : as_record (summary q z) ≡ record { length = 0; arcs = 0; labels = c }) where
    made-over : made_in w area (ended s c) ≡ answered_in w area x ++ (z ∷ [])
    unfolding answered_in
    made-over = ap₂ ◌++◌ (answered-kept c) last

    stepped-over : (area' : List ℕ) → area' ≡ area_after w x.r area z → area_after w x.r area z ≡ area → Stepped q w k area x area' (ended s c)
    stepped-over area' e f =
        subst (λ b. Stepped q w k area x b (ended s c)) (sym (e ∙ f))
        (record {
          long = refl;
          underway = record {
            going = λ i. absurd (omega (arith, late, ap to_end i));
            few = on.underway.few;
            rows = rows-kept (record { length = 0; arcs = 0; labels = c });
            earlier = earlier-set q.net.arcs w x.r area x.sums.length 0 on.underway.earlier;
            blank = on.underway.blank;
            made = ap₂ ◌++◌ made-over (none-come (earlier_in w x.r area)) ∙ append-nil (answered_in w area x ++ (z ∷ []))
                ∙ ap (λ ys. answered_in w area x ++ ys) (sym stops ∙ sym (this-round z found)) ∙ to-come;
            sums = subst (Shows q (ended s c).sums) (sym made-over)
                (shows_more q x.sums (answered_in w area x) x.r (record { length = 0; arcs = 0; labels = c }) z shows-now (length-answered_in w area x) (omega (arith, below, on.k-most))
                on.underway.rows.0 on.underway.rows.1 on.underway.rows.2 shows);
          };
          slots = λ b g. g;
          less = omega (arith, late, ap to_end on.at);
        })

  count_at : (c : ℕ) → get_or (set x.sums.labels x.r c) x.r 0 ≡ c
  count_at c = get_or-set_same x.sums.labels x.r c 0 (omega (arith, on.underway.rows.2, below, on.k-most))

  pub stepped-none : (n : ℕ) → NoAnswer n ≡ shown q (ending q (earlier_in w x.r area)) → (area' : List ℕ) → area' ≡ area_after w x.r area (ending q (earlier_in w x.r area))
      → Stepped q w k area x area' (ended Fewer n)
  unfolding go_on summary area_after
  stepped-none n ends area' is =
      let f = shown-none q (ending q (earlier_in w x.r area)) n ends in
      stepped-over (unanswered n) n Fewer f refl refl (ap (λ i. unanswered i ∷ []) (count_at n)) (λ e. refl) refl area' (is ∙ ap (area_after w x.r area) f) refl

  pub stepped-refused : Refused ≡ shown q (ending q (earlier_in w x.r area)) → (area' : List ℕ) → area' ≡ area_after w x.r area (ending q (earlier_in w x.r area))
      → Stepped q w k area x area' (ended NoRoom q.room)
  unfolding go_on summary area_after
  stepped-refused ends area' is =
      let f = shown-refused q (ending q (earlier_in w x.r area)) ends in
      stepped-over refused q.room NoRoom f refl refl refl (λ e. refl) refl area' (is ∙ ap (area_after w x.r area) f) refl

  -- ---- whichever it was

  -- what a round adds, over the summaries so far
  abbrev over : Added → Progress
  over y = record { r = y.r; stage = y.stage; sums = set_entry x.sums x.r y.row }

  pub stepped-after : (e : Ended) → e ≡ shown q (ending q (earlier_in w x.r area)) → (area' : List ℕ) → area' ≡ area_after w x.r area (ending q (earlier_in w x.r area))
      → (room : ℕ) → room ≡ q.room → (y : Added) → y ≡ after_of e x.r k room
      → Stepped q w k area x area' (over y)
  stepped-after (Answer l m n) ends area' is room i y a = subst (λ v. Stepped q w k area x area' (over v)) (sym a) (stepped-answer l m n ends area' is)
  stepped-after (NoAnswer n) ends area' is room i y a = subst (λ v. Stepped q w k area x area' (over v)) (sym a) (stepped-none n ends area' is)
  stepped-after Refused ends area' is room i y a =
      subst (λ v. Stepped q w k area x area' (over v)) (sym (a ∙ ap (after_of Refused x.r k) i)) (stepped-refused ends area' is)

  -- an answer has fewer arcs than there are nodes, and a label count is at most the room: both fit 16 bits
  abbrev Small : Added → Type 0
  Small y = (y.row.arcs < 65536) × (y.row.labels < 65536)

  pub small-after : q.room ≤ most_labels → (e : Ended) → e ≡ shown q (ending q (earlier_in w x.r area)) → (room : ℕ) → room ≡ q.room → (y : Added) → y ≡ after_of e x.r k room → Small y
  small-after h (Answer l m n) ends room i y a =
      let s = shown-answer q (ending q (earlier_in w x.r area)) l m n ends in
      let short = answered-short q (earlier_in w x.r area) on.valid on.few-arcs s.0 n s.1 in
      subst Small (sym a)
      (omega (arith, s.3, short, on.nodes-most), omega (arith, h, (ending-answered q (earlier_in w x.r area) on.valid (length_of q.net.arcs) s.0 n s.1).2))
  small-after h (NoAnswer n) ends room i y a =
      let f = shown-none q (ending q (earlier_in w x.r area)) n ends in
      subst Small (sym a) (omega arith, omega (arith, h, (ending-unanswered q (earlier_in w x.r area) on.valid (length_of q.net.arcs) n f).2))
  small-after h Refused ends room i y a = subst Small (sym a) (omega arith, omega (arith, h, i))

-- the rows as the step leaves them
pub stepped-rows : (q : Query) (w k : ℕ) (area area' : List ℕ) (x : Progress) (y : Added) (lens arcs labels : List ℕ)
    → lens ≡ set x.sums.length x.r y.row.length → arcs ≡ set x.sums.arcs x.r y.row.arcs → labels ≡ set x.sums.labels x.r y.row.labels
    → Stepped q w k area x area' (record { r = y.r; stage = y.stage; sums = set_entry x.sums x.r y.row }) → Stepped q w k area x area' (progress y.r y.stage lens arcs labels)
stepped-rows q w k area area' x y lens arcs labels e f g s =
    subst (λ l. Stepped q w k area x area' (progress y.r y.stage l arcs labels)) (sym e)
    (subst (λ l. Stepped q w k area x area' (progress y.r y.stage (set x.sums.length x.r y.row.length) l labels)) (sym f)
    (subst (λ l. Stepped q w k area x area' (progress y.r y.stage (set x.sums.length x.r y.row.length) (set x.sums.arcs x.r y.row.arcs) l)) (sym g) s))
