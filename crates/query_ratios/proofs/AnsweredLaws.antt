-- What a query that was not refused leaves is what the ratios ask. Each answer is a simple route from s to another node: its arcs are the table's, at least one and
-- at most nodes − 1, so its length is positive and within bounds. Its slot read back is the answer, and its summary has its length and its number of arcs; the other
-- rounds have 0 arcs, so the answers are the rounds before the first that has none.
use mathlib.Core.Path.{◌≡◌, refl, sym, ap, subst, ◌∙◌}
use mathlib.Core.Logic.{◌≢◌, ⊎_elim}
use mathlib.Core.Bool.{true, false, cond}
use mathlib.Core.List.{List, [], ◌∷◌, ◌++◌, map, append-nil, Memᴰ}
use Prim.Native.Nat.{ℕ, zero, suc, ◌+◌, ◌-◌, ◌*◌, ◌≤◌, ◌<◌}
use native.Mathlib.Omega.{arith}
use native.Mathlib.Nat.{mul-le-mul}
use borrow.Author.Tests.{eqb-true, ne_eqb}
use lib.Dec.{eqb}
use lib.ListN.{length, get_or, take, drop, replicate, length-append, length-replicate, get_or-eq_default, get_or-map}
use lib.Seq.{drop-nil, take-append_seam, ext_get_or}
use Rattle.lists.specs.Tests.{distinct, up_from}
use Rattle.lists.proofs.Cases.{cases, order}
use Rattle.lists.proofs.TestLaws.{and_l}
use Rattle.lists.proofs.IndexLaws.{first-is}
use Rattle.lists.proofs.LoopLaws.{length-map-up_from, get_or-map-up_from}
use Rattle.words.specs.Part.{slot}
use Rattle.net.specs.Limits.{most_nodes, most_length}
use Rattle.net.specs.Net.{Net}
use Rattle.net.specs.Route.{visited, end_of, chain, partial, length_of}
use Rattle.net.specs.Round.{Query, Ending, answered, unanswered, refused, ending}
use Rattle.net.specs.Outcome.{go_on, rounds_by, rounds, answers, summary, summaries, not_begun}
use Rattle.net.proofs.Valid.{Sound, Valid}
use Rattle.net.proofs.Listing.{partial-short}
use Rattle.net.proofs.Lengths.{length_of-most}
use Rattle.net.proofs.Answer.{Eligible, answer-some}
use Rattle.table.specs.Table.{arcs_of}
use Rattle.table.proofs.NetLaws.{arcs-length}
use Rattle.labels.specs.Field.{no_number}
use Rattle.labels.specs.Chain.{slot_of}
use Rattle.search_ask.specs.Ask.{net_for}
use Rattle.search_ask.specs.Earlier.{route_in, earlier_in}
use Rattle.search_ask.proofs.AskLaws.{accepted-valid, few-arcs, nodes-most, lengths-most}
use Rattle.round.proofs.EarlierLaws.{slot-route, length-slot_of, chain-arcs}
use Rattle.summary.specs.Sums.{record_at}
use Rattle.query_rounds.specs.Area.{slots, area_with}
use Rattle.query_rounds.specs.Progress.{as_record}
use Rattle.query_rounds.specs.declared.Got.{Got}
use Rattle.query_rounds.proofs.AreaLaws.{slots_at}
use Rattle.query_rounds.proofs.FinishLaws.{rounds-few}
use Rattle.query_rounds.proofs.SumsLaws.{get_or-firsts}
use Rattle.query.specs.Query.{Input, query_of, width, reaches, refused_of, rounds_of, area_due, sums_due, Cored}
use Rattle.query.specs.Promises.{before}
use Rattle.query.proofs.DecideLaws.{Reached, reached}
use Rattle.query.proofs.Promises.{demand-2}
use Rattle.ratios.specs.declared.Ratios.{Ratios}
use Rattle.ratios.specs.declared.Rows.{Rows}
use Rattle.ratios.specs.Ratios.{ratios_for}
use Rattle.ratios.specs.Rows.{firsts, written}
use Rattle.ratios.specs.Routes.{route_at, Arcs, Routes, answered_in, Answered}
use Rattle.query_ratios.specs.declared.Rated.{Rated}
use Rattle.query_ratios.specs.Rated.{ratios_due, CoredRatios}
use Rattle.query_ratios.proofs.OpenLaws.{ratios-open}

-- ---- lists

get_or-in : (p : List ℕ) (m : ℕ) → m < length p → Memᴰ (get_or p m 0) p
get_or-in [] m h = absurd (omega arith)
get_or-in (a ∷ p) zero h = Memᴰ.head refl
get_or-in (a ∷ p) (suc m) h = Memᴰ.tail (get_or-in p m (omega arith))

-- numbers that are not 0 are in the list
enough : (l : List ℕ) (n : ℕ) → ((j : ℕ) → j < n → 1 ≤ get_or l j 0) → n ≤ length l
enough l n h = ⊎_elim (λ m. m) (λ m. absurd (omega (arith, h (length l) m, get_or-eq_default l 0 {n = length l} (omega arith)))) (order n (length l))

module _ {A : Type 0} where
  at-end : (l : List A) (n : ℕ) → l ++ drop n [] ≡ l
  at-end l n = ap (λ t. l ++ t) (drop-nil n) ∙ append-nil l

  -- what is read past the end may as well stand there
  get_or-padded : (l : List A) (n j : ℕ) (d : A) → get_or (l ++ replicate n d) j d ≡ get_or l j d
  get_or-padded [] zero j d = refl
  get_or-padded [] (suc n) zero d = refl
  get_or-padded [] (suc n) (suc j) d = get_or-padded [] n j d
  get_or-padded (x ∷ l) n zero d = refl
  get_or-padded (x ∷ l) n (suc j) d = get_or-padded l n j d

-- ---- a route from s to another node

module _ (net : Net) where
  some-arc : (s t : ℕ) (p : List ℕ) → end_of net.arcs s p ≡ t → s ≢ t → 1 ≤ length p
  unfolding end_of
  some-arc s t [] e ne = absurd (ne e)
  some-arc s t (a ∷ p) e ne = omega arith

  length_of-positive : Sound net → (p : List ℕ) → 1 ≤ length p → 1 ≤ length_of net.arcs p
  unfolding length_of
  length_of-positive v [] h = absurd (omega arith)
  length_of-positive v (a ∷ p) h = omega (arith, v.positive a)

-- ---- rounds, their answers and their summaries

answers-few : (rs : List Ending) → length (answers rs) ≤ length rs
unfolding answers
answers-few [] = omega arith
answers-few (answered p n ∷ rs) = omega (arith, answers-few rs)
answers-few (unanswered n ∷ rs) = omega (arith, answers-few rs)
answers-few (refused ∷ rs) = omega (arith, answers-few rs)

-- the summary of round j, from 0, is that of answer j, which has no arcs where there is none
module _ (q : Query) where
  abbrev Shown : List Ending → ℕ → Type 0
  Shown rs j =
      ((get_or (map (summary q) rs) j not_begun).len ≡ length_of q.net.arcs (get_or (answers rs) j []))
      × ((get_or (map (summary q) rs) j not_begun).arcs ≡ length (get_or (answers rs) j []))

  shown-at : (k : ℕ) (earlier : List (List ℕ)) (j : ℕ) → Shown (rounds q k earlier) j
  unfolding rounds_by go_on answers summary length_of
  shown-at zero earlier j = (refl, refl)
  shown-at (suc k) earlier j = go (ending q earlier) j (λ p. shown-at k (earlier ++ (p ∷ [])))
    where
      go : (z : Ending) (m : ℕ) → ((p : List ℕ) (n : ℕ) → Shown (rounds q k (earlier ++ (p ∷ []))) n) → Shown (go_on z (λ p. rounds q k (earlier ++ (p ∷ [])))) m
      go (answered p n) zero below = (refl, refl)
      go (answered p n) (suc m) below = below p m
      go (unanswered n) zero below = (refl, refl)
      go (unanswered n) (suc m) below = (refl, refl)
      go refused zero below = (refl, refl)
      go refused (suc m) below = (refl, refl)

-- ---- slots

slots_length : (w k : ℕ) (ps : List (List ℕ)) → ((i : ℕ) → i < length ps → length (get_or ps i []) ≤ w) → length (slots w k ps) ≡ k * w
unfolding slots
slots_length w zero ps h = omega arith
slots_length w (suc k) [] h =
    omega (arith, length-append (replicate w no_number) (slots w k []), length-replicate w no_number, slots_length w k [] h)
slots_length w (suc k) (p ∷ ps) h =
    omega (arith, length-append (slot_of w p) (slots w k ps), length-slot_of w p (h 0 (omega arith)), slots_length w k ps (λ i m. h (suc i) (omega arith)))

-- ---- the answers of a query that was not refused

module _ (i : Input) (h : reaches i ≡ true) where
  abbrev found : List (List ℕ)
  found = answers (rounds_of i)

  abbrev route : ℕ → List ℕ
  route j = get_or (answers (rounds_of i)) j []

  on : Reached i
  unfolding reaches
  on = reached i (eqb-true (refused_of i).outcome 0 h)

  valid : Valid (query_of i)
  valid = accepted-valid on.passed.ask i.closed i.labels

  found-few : length found ≤ i.k
  found-few = omega (arith, answers-few (rounds_of i), rounds-few (query_of i) i.k [])

  module _ (j : ℕ) (m : j < length found) where
    eligible : Eligible (query_of i) (before i j) (route j)
    eligible = (answer-some (query_of i) (before i j) valid (route j) ((demand-2 i).each j m)).is-eligible

    short : length (route j) ≤ width i
    short = omega (arith, partial-short (query_of i).net (query_of i).s valid.s-below valid.sound.to_below (route j) eligible.is-partial)

    some : 1 ≤ length (route j)
    some = some-arc (query_of i).net (query_of i).s (query_of i).t (route j) eligible.ends on.passed.ask.apart

    arcs-in : (a : ℕ) → Memᴰ a (route j) → a < length (arcs_of i.table)
    unfolding partial
    arcs-in = chain-arcs (query_of i).net (query_of i).s (route j)
        (and_l (chain (query_of i).net (query_of i).s (route j)) (distinct (visited (query_of i).net.arcs (query_of i).s (route j))) eligible.is-partial)

    arcs-are : Arcs i.table (route j)
    arcs-are a l = omega (arith, arcs-in (get_or (route j) a 0) (get_or-in (route j) a l), arcs-length i.table)

    long : 1 ≤ length_of (arcs_of i.table) (route j)
    long = length_of-positive (query_of i).net valid.sound (route j) some

    bounded : length_of (arcs_of i.table) (route j) ≤ most_nodes * most_length
    bounded = omega (arith, length_of-most (arcs_of i.table) most_length (lengths-most on.passed.ask) (route j), short, nodes-most on.passed.ask)

  -- ---- what the query leaves

  module _ (g : Got) (labels' area' : List ℕ) (c : Cored i g labels' area') where
    many : g.n ≡ i.k
    many = c.many ∙ ap (λ b. cond b i.k 0) h

    area-is : area' ≡ area_with (width i) i.k i.area found
    unfolding area_due
    area-is = c.area ∙ ap (λ b. cond b (area_with (width i) i.k i.area found) i.area) h

    area-long : i.k * width i ≤ length area'
    unfolding area_with
    area-long =
        omega (arith, ap length area-is, length-append (slots (width i) i.k found) (drop (i.k * width i) i.area), slots_length (width i) i.k found short)

    slot_is : (j : ℕ) → j < length found → slot (width i) j area' ≡ slot_of (width i) (route j)
    unfolding area_with
    slot_is j m = ap (slot (width i) j) area-is ∙ slots_at (width i) i.k found (drop (i.k * width i) i.area) j short (omega (arith, found-few))

    route-is : (j : ℕ) → j < length found → route_at i.ask area' j ≡ route j
    route-is j m = ap route_in (slot_is j m) ∙ slot-route (width i) (route j) (λ a l. omega (arith, arcs-in j m a l, few-arcs on.passed.ask))

    sums-is : Rattle.summary.specs.Sums.firsts g.sums g.n ≡ map as_record (summaries (query_of i) i.k (rounds_of i))
    unfolding sums_due
    sums-is =
        let rows = map as_record (summaries (query_of i) i.k (rounds_of i)) in
        sym (at-end (Rattle.summary.specs.Sums.firsts g.sums g.n) g.n) ∙ c.sums [] ∙ ap (λ b. cond b (rows ++ drop i.k []) []) h ∙ at-end rows i.k

    row_is : (j : ℕ) → j < i.k → record_at g.sums j ≡ as_record (get_or (map (summary (query_of i)) (rounds_of i)) j not_begun)
    unfolding summaries
    row_is j m =
        sym (get_or-firsts g.sums g.n j (as_record not_begun) (omega (arith, many)))
        ∙ ap (λ l. get_or l j (as_record not_begun)) sums-is
        ∙ get_or-map as_record (summaries (query_of i) i.k (rounds_of i)) j not_begun
        ∙ ap as_record (get_or-padded (map (summary (query_of i)) (rounds_of i)) (i.k - length (rounds_of i)) j not_begun)

    len_is : (j : ℕ) → j < i.k → get_or g.sums.length j 0 ≡ length_of (arcs_of i.table) (route j)
    len_is j m = ap (λ x. x.length) (row_is j m) ∙ (shown-at (query_of i) i.k [] j).0

    count-is : (j : ℕ) → j < i.k → get_or g.sums.arcs j 0 ≡ length (route j)
    count-is j m = ap (λ x. x.arcs) (row_is j m) ∙ (shown-at (query_of i) i.k [] j).1

    answered-are : answered_in g.sums.arcs g.n ≡ length found
    unfolding answered_in
    answered-are =
        first-is (λ j. eqb (get_or g.sums.arcs j 0) 0) g.n 0 (length found) (omega arith) (omega (arith, many, found-few))
        (λ j a b. ne_eqb (get_or g.sums.arcs j 0) 0 (λ e. omega (arith, count-is j (omega (arith, found-few)), some j b)))
        (λ b. ap (λ n. eqb n 0) (count-is (length found) (omega (arith, many)) ∙ ap length (get_or-eq_default found [] {n = length found} (omega arith))))

    earlier-are : earlier_in (width i) (length found) area' ≡ found
    unfolding earlier_in
    earlier-are =
        ext_get_or [] (map (route_at i.ask area') (up_from 0 (length found))) found (length-map-up_from (route_at i.ask area') 0 (length found))
        (λ j m.
        let l : j < length found = omega (arith, length-map-up_from (route_at i.ask area') 0 (length found)) in
        let z : 0 + j ≡ j = omega arith in
        get_or-map-up_from (route_at i.ask area') 0 (length found) j [] l ∙ ap (route_at i.ask area') z ∙ route-is j l)

    len-at : (j : ℕ) → j < length found → get_or g.sums.length j 0 ≡ length_of (arcs_of i.table) (route j)
    len-at j m = len_is j (omega (arith, found-few))

    count_at : (j : ℕ) → j < length found → get_or g.sums.arcs j 0 ≡ length (route j)
    count_at j m = count-is j (omega (arith, found-few))

    front : (j : ℕ) → j < length found → take (get_or g.sums.arcs j 0) (slot (width i) j area') ≡ route_at i.ask area' j
    front j m =
        ap (λ n. take n (slot (width i) j area')) (count_at j m) ∙ ap (take (length (route j))) (slot_is j m)
        ∙ take-append_seam (route j) (replicate (width i - length (route j)) no_number) ∙ sym (route-is j m)

    routes : Routes i.ask i.table area' g.sums.length g.sums.arcs (length found)
    routes =
        record {
          accepted = on.passed.ask;
          few = omega (arith, found-few, on.passed.k-most);
          slots = omega (arith, mul-le-mul {m₁ = width i} {m₂ = width i} found-few (omega arith), area-long);
          lens-enough = enough g.sums.length (length found) (λ j m. omega (arith, len-at j m, long j m));
          counts-enough = enough g.sums.arcs (length found) (λ j m. omega (arith, count_at j m, some j m));
          fits = λ j m. omega (arith, count_at j m, short j m);
          front = front;
          arcs = λ j m. subst (Arcs i.table) (sym (route-is j m)) (arcs-are j m);
          lengths = λ j m. len-at j m ∙ ap (length_of (arcs_of i.table)) (sym (route-is j m));
          positive = λ j m. omega (arith, len-at j m, long j m);
          most = λ j m. omega (arith, len-at j m, bounded j m);
        }

    answered-reached : Answered i.ask i.table area' g.sums g.n
    answered-reached =
        record { few = c.few; routes = subst (Routes i.ask i.table area' g.sums.length g.sums.arcs) (sym answered-are) routes }

    ratios-reached : (rows : Rows)
        → firsts rows g.n ≡ ratios_for (net_for i.ask i.table []) g.n (earlier_in (width i) (answered_in g.sums.arcs g.n) area')
        → (b : List Ratios) → written rows g.n b ≡ ratios_due i b
    unfolding ratios_due
    ratios-reached rows e b =
        ap (λ l. l ++ drop g.n b)
        (e ∙ ap (λ n. ratios_for (net_for i.ask i.table []) g.n (earlier_in (width i) n area')) answered-are
        ∙ ap (ratios_for (net_for i.ask i.table []) g.n) earlier-are ∙ ratios-open i.ask i.table [] i.closed g.n found)
        ∙ ap (λ n. ratios_for (query_of i).net n found ++ drop n b) many
        ∙ sym (ap (λ z. cond z (ratios_for (query_of i).net i.k found ++ drop i.k b) b) h)

    some-rounds : g.n ≢ 0
    some-rounds e = omega (arith, many, on.passed.k-least)

-- ---- refused or not

module _ (i : Input) (g : Got) (labels' area' : List ℕ) (c : Cored i g labels' area') where
  none_written : reaches i ≡ false → g.n ≡ 0
  none_written h = c.many ∙ ap (λ b. cond b i.k 0) h

  pub cored-answered : g.n ≢ 0 → Answered i.ask i.table area' g.sums g.n
  cored-answered ne = ⊎_elim (λ h. answered-reached i h g labels' area' c) (λ h. absurd (ne (none_written h))) (cases (reaches i))

  cored-ratios : (rows : Rows)
      → (g.n ≢ 0 → firsts rows g.n ≡ ratios_for (net_for i.ask i.table []) g.n (earlier_in (width i) (answered_in g.sums.arcs g.n) area'))
      → (b : List Ratios) → written rows g.n b ≡ ratios_due i b
  unfolding ratios_due
  cored-ratios rows e b =
      ⊎_elim
      (λ h. ratios-reached i h g labels' area' c rows (e (some-rounds i h g labels' area' c)) b)
      (λ h.
      ap (λ n. written rows n b) (none_written h)
      ∙ sym (ap (λ z. cond z (ratios_for (query_of i).net i.k (answers (rounds_of i)) ++ drop i.k b) b) h))
      (cases (reaches i))

  pub rated : (rows : Rows)
      → (g.n ≢ 0 → firsts rows g.n ≡ ratios_for (net_for i.ask i.table []) g.n (earlier_in (width i) (answered_in g.sums.arcs g.n) area'))
      → CoredRatios i (record { told = g.told; sums = g.sums; rows = rows; n = g.n }) labels' area'
  rated rows e = record { cored = c; ratios = cored-ratios rows e }

-- of inputs that go by a number, at equal numbers
pub rated-same : (f : ℕ → Input) (x y : ℕ) (g : Rated) (labels' area' : List ℕ) → x ≡ y → CoredRatios (f x) g labels' area' → CoredRatios (f y) g labels' area'
rated-same f x y g labels' area' e c = subst (λ n. CoredRatios (f n) g labels' area') e c
