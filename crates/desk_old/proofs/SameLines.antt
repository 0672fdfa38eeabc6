-- The text of the new form prints the lines of the old one, where the old query reached the rounds. Its first line is read as the five numbers that were written, and not
-- as seven, since a newline follows the fifth. What follows is a written road file behind a comment: it reads as the arcs of the table, within the program's limits. The
-- table was good, so its arcs stand in order, and ordering them makes the table again. So both texts ask the same query.
use mathlib.Core.Path.{◌≡◌, refl, sym, ap, ap₂, ◌∙◌}
use mathlib.Core.Bool.{Bool, true, false, not, ◌||◌, cond}
use mathlib.Core.List.{List, [], ◌∷◌, ◌++◌, append_assoc}
use mathlib.Core.Logic.{⊎_elim}
use mathlib.Core.Option.{Option, none, some}
use Prim.Native.Nat.{ℕ, suc, ◌+◌, ◌≤◌}
use native.Mathlib.Omega.{arith}
use lib.Dec.{ltb, eqb}
use lib.ListN.{length, get_or, drop}
use lib.Seq.{get_or-append_seam, get_or-drop, drop-append-add, drop-drop}
use borrow.Author.Tests.{ltb-false, le-ltb, eqb-false, ne_eqb}
use Rattle.lists.specs.Tests.{has}
use Rattle.lists.proofs.Cases.{cases}
use Rattle.net.specs.Net.{Arc}
use Rattle.numerals.specs.Decimal.{most_number, digits, number, decimal}
use Rattle.numerals.proofs.DecimalLaws.{number-decimal}
use Rattle.table.specs.Table.{arcs_of, table_of}
use Rattle.table.specs.Fault.{table_fault, good}
use Rattle.table.proofs.TableLaws.{length-table_of, made-no-roads}
use Rattle.table.proofs.NetLaws.{arcs-length}
use Rattle.road_line.specs.Line.{is_comment, line_of}
use Rattle.road_file.specs.File.{Fed, unfed, feed, malformed, roads, missing, ended_of, roads_in}
use Rattle.road_write.specs.Written.{text_of}
use Rattle.road_trip.specs.Text.{whole}
use Rattle.road_trip.proofs.LineLaws.{has-append, decimal-newline}
use Rattle.road_trip.proofs.Comment.{comment-says-nothing}
use Rattle.road_trip.proofs.Trip.{text-reads, table-due, table-bytes}
use Rattle.query.specs.Query.{reaches, tells_due}
use Rattle.query.proofs.DecideLaws.{Passed, passed}
use Rattle.query.proofs.Promises.{reached}
use Rattle.desk_line.specs.Limits.{most_nodes_read, most_arcs_read}
use Rattle.desk_line.specs.Line.{Row, separator, prepend, with_number, past, line_from}
use Rattle.desk_query.specs.Query.{First, query, as_query, unless_old, first_in}
use Rattle.desk_feed.specs.Road.{from_newline, road_file, Road, Judged, taken, above, judged_as, judged, road_in}
use Rattle.desk_feed.proofs.HeldLaws.{in-fed}
use Rattle.desk_output.specs.Line.{numbers_text, route_text}
use Rattle.desk_text.specs.Desk.{refused_text, reply_text, asked, file_text, text_for, desk_text}
use Rattle.desk_old_input.specs.Text.{asks, said}
use Rattle.desk_old_input.proofs.SaidLaws.{said-limits}
use Rattle.desk_old.specs.Old.{query_numbers, asked_old, old_text_for, old_desk_text}
use Rattle.desk_old.specs.Turned.{query_text, new_text, turned_for, turned_text}

-- ---- the query line

-- a number that was written, and the byte after it
line-next : (n : ℕ) (text : List ℕ) (at v c : ℕ) (l : List ℕ) → drop at text ≡ decimal v ++ (c ∷ l) → v ≤ most_number → digits (c ∷ l) ≡ []
    → (line_from (suc n) text at ≡ cond (eqb c (separator n)) (prepend v (line_from n text (at + length (decimal v) + 1))) none)
    × (drop (at + length (decimal v) + 1) text ≡ l)
unfolding line_from with_number past
line-next n text at v c l e h d =
    let m = length (decimal v) in
    let read : number (drop at text) ≡ some (record { is = v; takes = m }) = ap number e ∙ number-decimal v (c ∷ l) h d in
    let byte : get_or text (at + m) 0 ≡ c = sym (get_or-drop at text m 0) ∙ ap (λ z. get_or z m 0) e ∙ get_or-append_seam (decimal v) c l 0 in
    let place : at + m + 1 ≡ at + (m + 1) = omega arith in
    (rw (read, byte), ap (λ k. drop k text) place ∙ sym (drop-drop (m + 1) at text) ∙ ap (drop (m + 1)) e ∙ drop-append-add (decimal v) (c ∷ l) 1)

record Numbers (s t k a b : ℕ) : Type 0 where
  s-small : s ≤ most_number
  t-small : t ≤ most_number
  k-small : k ≤ most_number
  a_small : a ≤ most_number
  b-small : b ≤ most_number

-- ---- its bytes

route-is : (s t k : ℕ) (vs : List ℕ) → route_text s t k vs ≡ decimal s ++ (numbers_text (t ∷ k ∷ vs) ++ (10 ∷ []))
unfolding route_text
route-is s t k vs = refl

numbers-first : (v : ℕ) (vs l : List ℕ) → numbers_text (v ∷ vs) ++ l ≡ 32 ∷ (decimal v ++ (numbers_text vs ++ l))
unfolding numbers_text
numbers-first v vs l = ap (λ z. 32 ∷ z) (append_assoc (decimal v) (numbers_text vs) l)

numbers-none : (l : List ℕ) → numbers_text [] ++ l ≡ l
unfolding numbers_text
numbers-none l = refl

query-then : (s t k a b : ℕ) (r : List ℕ) → query_text s t k a b ++ r ≡ decimal s ++ (numbers_text (t ∷ k ∷ a ∷ b ∷ []) ++ (10 ∷ r))
query-then s t k a b r =
    let vs = numbers_text (t ∷ k ∷ a ∷ b ∷ []) in
    ap (λ z. z ++ r) (route-is s t k (a ∷ b ∷ [])) ∙ append_assoc (decimal s) (vs ++ (10 ∷ [])) r ∙ ap (λ z. decimal s ++ z) (append_assoc vs (10 ∷ []) r)

module _ (s t k a b : ℕ) (r : List ℕ) (n : Numbers s t k a b) where
  abbrev input : List ℕ
  input = query_text s t k a b ++ r

  input-is : input ≡ decimal s ++ (32 ∷ (decimal t ++ (32 ∷ (decimal k ++ (32 ∷ (decimal a ++ (32 ∷ (decimal b ++ (10 ∷ r)))))))))
  input-is =
      query-then s t k a b r
      ∙ ap (λ z. decimal s ++ z)
      (numbers-first t (k ∷ a ∷ b ∷ []) (10 ∷ r)
      ∙ ap (λ z. 32 ∷ (decimal t ++ z))
      (numbers-first k (a ∷ b ∷ []) (10 ∷ r)
      ∙ ap (λ z. 32 ∷ (decimal k ++ z))
      (numbers-first a (b ∷ []) (10 ∷ r)
      ∙ ap (λ z. 32 ∷ (decimal a ++ z)) (numbers-first b [] (10 ∷ r) ∙ ap (λ z. 32 ∷ (decimal b ++ z)) (numbers-none (10 ∷ r))))))

  -- five numbers, and then what is left of a line of more
  five : (m : ℕ) → (at : ℕ)
      × (line_from (suc (suc (suc (suc (suc m))))) input 0 ≡ prepend s (prepend t (prepend k (prepend a (cond (eqb 10 (separator m)) (prepend b (line_from m input at)) none)))))
  unfolding digits
  five m =
      let i = line-next (suc (suc (suc (suc m)))) input 0 s 32 _ input-is n.s-small refl in
      let ii = line-next (suc (suc (suc m))) input _ t 32 _ i.1 n.t-small refl in
      let iii = line-next (suc (suc m)) input _ k 32 _ ii.1 n.k-small refl in
      let iv = line-next (suc m) input _ a 32 _ iii.1 n.a_small refl in
      let v = line-next m input _ b 10 r iv.1 n.b-small refl in
      (_, i.0 ∙ ap (prepend s) (ii.0 ∙ ap (prepend t) (iii.0 ∙ ap (prepend k) (iv.0 ∙ ap (prepend a) v.0))))

  query-read : first_in input ≡ query (s ∷ t ∷ k ∷ a ∷ b ∷ [])
  unfolding first_in unless_old as_query prepend line_from
  query-read = ap₂ (λ (x : Option Row) (y : Option Row). unless_old x (as_query y)) (five 2).1 (five 0).1

-- ---- the road file behind it

from_past : (l r : List ℕ) → has 10 l ≡ false → from_newline (l ++ (10 ∷ r)) ≡ 10 ∷ r
unfolding from_newline has
from_past [] r h = refl
from_past (b ∷ l) r h =
    ⊎_elim
    (λ e. let z : ◌≡◌ {A = ℕ} 0 1 = cc (rw e at h) in absurd (omega arith))
    (λ e. rw (ne_eqb b 10 (λ z. eqb-false 10 b e (sym z))) (from_past l r (rw e at h)))
    (cases (eqb 10 b))

numbers-newline : (vs : List ℕ) → has 10 (numbers_text vs) ≡ false
unfolding numbers_text has
numbers-newline [] = refl
numbers-newline (v ∷ vs) = has-append 10 (decimal v) (numbers_text vs) (decimal-newline v) (numbers-newline vs)

road-file : (s t k a b : ℕ) (r : List ℕ) → road_file (query_text s t k a b ++ r) ≡ 99 ∷ 10 ∷ r
unfolding road_file
road-file s t k a b r =
    let vs = numbers_text (t ∷ k ∷ a ∷ b ∷ []) in
    let l = decimal s ++ vs in
    let e : query_text s t k a b ++ r ≡ l ++ (10 ∷ r) = query-then s t k a b r ∙ sym (append_assoc (decimal s) vs (10 ∷ r)) in
    ap (λ z. 99 ∷ from_newline z) e ∙ ap (λ z. 99 ∷ z) (from_past l r (has-append 10 (decimal s) vs (decimal-newline s) (numbers-newline (t ∷ k ∷ a ∷ b ∷ []))))

none_of : (x y z : Bool) → (x || y || z) ≡ false → z ≡ false
none_of true y z e = let w : ◌≡◌ {A = ℕ} 0 1 = cc in absurd (omega arith)
none_of false true z e = let w : ◌≡◌ {A = ℕ} 0 1 = cc in absurd (omega arith)
none_of false false z e = e

-- what the tests of a whole road file were
by_tests : (w m : Bool) (a b n nodes : ℕ) (xs arcs : List Arc) → cond (not w) (malformed a) (cond m (malformed b) (roads n xs)) ≡ roads nodes arcs
    → (m ≡ false) × (n ≡ nodes) × (xs ≡ arcs)
by_tests true true a b n nodes xs arcs e = let z : ◌≡◌ {A = ℕ} 0 1 = cc in absurd (omega arith)
by_tests true false a b n nodes xs arcs e = (refl, cc, cc)
by_tests false m a b n nodes xs arcs e = let z : ◌≡◌ {A = ℕ} 0 1 = cc in absurd (omega arith)

-- a road file that is whole says as many arcs as there are
ended-sizes : (f : Fed) (nodes : ℕ) (arcs : List Arc) → ended_of f ≡ roads nodes arcs → (f.said.nodes ≡ nodes) × (f.said.wanted ≤ length arcs)
unfolding ended_of missing
ended-sizes f nodes arcs e =
    let few = ltb (length f.said.arcs) f.said.wanted in
    let t = by_tests (eqb f.said.wrong 0) (ltb 0 (length f.rest) || not f.said.begun || few) _ _ _ nodes _ arcs e in (
      t.1,
      omega (arith, ap length t.2, ltb-false (length f.said.arcs) f.said.wanted (none_of (ltb 0 (length f.rest)) (not f.said.begun) few t.0)),
    )

road-taken : (x : Road) (nodes : ℕ) (arcs : List Arc) → ended_of x.fed ≡ roads nodes arcs → nodes ≤ most_nodes_read → length arcs ≤ most_arcs_read → judged x ≡ taken nodes arcs
unfolding judged judged_as above
road-taken x nodes arcs e h g =
    let z = ended-sizes x.fed nodes arcs e in
    ap (judged_as x) e ∙ rw (le-ltb most_nodes_read x.fed.said.nodes (omega (arith, z.0)), le-ltb most_arcs_read x.fed.said.wanted (omega (arith, z.1)))

-- ---- the two texts

module _ (vs : List ℕ) (xs : List Arc) (few : get_or vs 0 0 ≤ most_nodes_read) (most : length xs ≤ most_arcs_read) (on : reaches (asked_old vs xs) ≡ true) where
  abbrev nodes : ℕ
  nodes = get_or vs 0 0

  abbrev table : List ℕ
  table = table_of xs

  fine : table_fault nodes table ≡ good
  fine = (reached (asked_old vs xs) on).0

  abbrev p : Passed (asked_old vs xs)
  p = passed (asked_old vs xs) fine (reached (asked_old vs xs) on).1

  numbers : Numbers (get_or vs 2 0) (get_or vs 3 0) (get_or vs 4 0) (get_or vs 5 0) (get_or vs 6 0)
  numbers = record {
    s-small = omega (arith, p.ask.s-below, few);
    t-small = omega (arith, p.ask.goal-below, few);
    k-small = omega (arith, p.k-most);
    a_small = omega (arith, p.ask.a-below, p.ask.b-most);
    b-small = omega (arith, p.ask.b-most);
  }

  whole-road : ended_of (road_in (new_text vs xs)).fed ≡ roads nodes (arcs_of table)
  unfolding roads_in whole has line_of is_comment
  whole-road =
      ap ended_of (in-fed (new_text vs xs) ∙ ap (feed unfed) (road-file _ _ _ _ _ (text_of nodes table)))
      ∙ comment-says-nothing nodes (arcs_of table) [] (99 ∷ []) (text_of nodes table) refl refl refl (text-reads nodes table (table-bytes xs) fine)

  arcs-few : length (arcs_of table) ≤ most_arcs_read
  arcs-few = omega (arith, arcs-length table, length-table_of xs, most)

  same_text : desk_text (new_text vs xs) ≡ reply_text (asked_old vs xs)
  unfolding desk_text text_for file_text
  same_text =
      ap₂ (λ (x : First) (y : Judged). text_for x y) (query-read _ _ _ _ _ (text_of nodes table) numbers) (road-taken (road_in (new_text vs xs)) nodes (arcs_of table) whole-road few arcs-few)
      ∙ ap (λ t. reply_text (asked (query_numbers vs) nodes t)) (table-due nodes table (table-bytes xs) fine (made-no-roads xs))

turned-is : (input : List ℕ) → turned_text input ≡ turned_for (said input)
unfolding turned_text
turned-is input = refl

turned_on : (vs : List ℕ) (xs : List Arc) → reaches (asked_old vs xs) ≡ true → turned_for (asks vs xs) ≡ new_text vs xs
unfolding turned_for
turned_on vs xs on = ap (λ b. cond b (new_text vs xs) (refused_text (tells_due (asked_old vs xs)))) on

old-is : (input : List ℕ) → old_desk_text input ≡ old_text_for (said input)
unfolding old_desk_text
old-is input = refl

old-asks : (vs : List ℕ) (xs : List Arc) → old_text_for (asks vs xs) ≡ reply_text (asked_old vs xs)
unfolding old_text_for
old-asks vs xs = refl

-- "for each old input that gave outcome 0, 1 or 11 the result prints the same lines"
pub same_lines : (input vs : List ℕ) (xs : List Arc) → said input ≡ asks vs xs → reaches (asked_old vs xs) ≡ true → desk_text (turned_text input) ≡ old_desk_text input
same_lines input vs xs e on =
    let limits = said-limits input vs xs e in
    ap desk_text (turned-is input ∙ ap turned_for e ∙ turned_on vs xs on)
    ∙ same_text vs xs limits.0 limits.1 on
    ∙ sym (old-is input ∙ ap old_text_for e ∙ old-asks vs xs)

-- "any other gets its `refused` line"
pub refused-malformed : (input : List ℕ) (n : ℕ) → said input ≡ Rattle.desk_old_input.specs.Text.malformed n → turned_text input ≡ old_desk_text input
unfolding turned_text turned_for old_desk_text old_text_for
refused-malformed input n e = rw e

pub refused-asked : (input vs : List ℕ) (xs : List Arc) → said input ≡ asks vs xs → reaches (asked_old vs xs) ≡ false → turned_text input ≡ old_desk_text input
unfolding turned_text turned_for old_desk_text old_text_for reply_text
refused-asked input vs xs e off = rw (e, off)
