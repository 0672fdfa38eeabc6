-- A query that reached the rounds has summaries to write, and one that was refused has none. Where it reached them, the first k summaries and the area are those of its
-- rounds, and no route is longer than a slot.
use mathlib.Core.Path.{◌≡◌, refl, sym, ap, subst, ◌∙◌}
use mathlib.Core.Logic.{◌⊎◌, inl, inr, ◌≢◌}
use mathlib.Core.Bool.{Bool, true, false, cond}
use mathlib.Core.List.{List, [], ◌∷◌, ◌++◌, map, append-nil, Memᴰ}
use Prim.Native.Nat.{ℕ, zero, suc, ◌-◌, ◌*◌, ◌≤◌, ◌<◌}
use native.Mathlib.Nat.{mul-le-mul}
use native.Mathlib.Omega.{arith}
use lib.ListN.{length, get_or, drop, replicate}
use Rattle.lists.proofs.Cases.{cases}
use Rattle.net.specs.Limits.{most_routes}
use Rattle.net.specs.Round.{Query, Ending, answered, unanswered, refused}
use Rattle.net.specs.Outcome.{answers, summary, summaries, not_begun}
use Rattle.net.proofs.Valid.{Valid}
use Rattle.labels.specs.Field.{no_number}
use Rattle.search_ask.proofs.AskLaws.{accepted-valid, few-arcs, nodes-least}
use Rattle.summary.specs.declared.Summary.{Summary}
use Rattle.summary.specs.Sums.{record_at, firsts}
use Rattle.query_rounds.specs.Area.{area_with}
use Rattle.query_rounds.specs.Progress.{as_record}
use Rattle.query_rounds.specs.declared.Got.{Got}
use Rattle.query_rounds.proofs.SumsLaws.{get_or-firsts}
use Rattle.query.specs.Query.{Input, query_of, width, reaches, rounds_of, tells_due, area_due, sums_due, Cored}
use Rattle.query.proofs.DecideLaws.{Passed, passed}
use Rattle.query.proofs.Promises.{reached}
use Rattle.desk_line.specs.Limits.{most_nodes_read}
use Rattle.text_put.specs.Put.{Appended}
use Rattle.desk_text.specs.Desk.{desk_words, refused_text, end_lines, end_text, reply_text}
use Rattle.desk_text.specs.Print.{Shows, Small}
use Rattle.desk_text.specs.Shown.{Gave, Known, KnownEnd, Shown, ShownEnd}
use Rattle.desk_text.proofs.ShapeLaws.{rounds-shape, answers-short}

pub reached-passed : (i : Input) → reaches i ≡ true → Passed i
reached-passed i on = let w = reached i on in passed i w.0 w.1

-- ---- whether a query reached the rounds, and what is printed of it

module _ (i : Input) (g : Got) (labels' area : List ℕ) (c : Cored i g labels' area) where
  reached-many : g.n ≢ 0 → reaches i ≡ true
  reached-many ne = go (reaches i) c.many
    where
      go : (b : Bool) → g.n ≡ cond b i.k 0 → b ≡ true
      go true e = refl
      go false e = absurd (ne e)

  refused-many : g.n ≡ 0 → reaches i ≡ false
  refused-many z = go (cases (reaches i))
    where
      go : (reaches i ≡ true) ⊎ (reaches i ≡ false) → reaches i ≡ false
      go (inl on) = absurd (omega (arith, z, c.many ∙ ap (λ b. cond b i.k 0) on, (reached-passed i on).k-least))
      go (inr off) = off

  reply-refused : g.n ≡ 0 → refused_text g.told ≡ reply_text i
  unfolding reply_text
  reply-refused z = ap refused_text c.told ∙ sym (ap (λ b. cond b (end_text i) (refused_text (tells_due i))) (refused-many z))

  reply-end : g.n ≢ 0 → end_lines (query_of i) g.told.outcome (rounds_of i) ≡ reply_text i
  unfolding reply_text end_text
  reply-end ne = ap (λ y. end_lines (query_of i) y.outcome (rounds_of i)) c.told ∙ sym (ap (λ b. cond b (end_text i) (refused_text (tells_due i))) (reached-many ne))

-- ---- a query that reached the rounds

drop-nil : (n : ℕ) (xs : List Summary) → xs ≡ [] → drop n xs ≡ []
drop-nil zero xs e = e
drop-nil (suc n) [] e = refl
drop-nil (suc n) (x ∷ xs) e = let z : ◌≡◌ {A = ℕ} 0 1 = cc in absurd (omega arith)

-- no summary has more arcs than the longest answer
blank-small : (q : Query) (w n j : ℕ) → (get_or (map as_record (replicate n not_begun)) j (as_record not_begun)).arcs ≤ w
blank-small q w zero j = omega arith
blank-small q w (suc n) zero = omega arith
blank-small q w (suc n) (suc j) = blank-small q w n j

sums-small : (q : Query) (w n : ℕ) (rs : List Ending) → ((p : List ℕ) → Memᴰ p (answers rs) → length p ≤ w) → (j : ℕ)
    → (get_or (map as_record (map (summary q) rs ++ replicate n not_begun)) j (as_record not_begun)).arcs ≤ w
unfolding summary answers
sums-small q w n [] h j = blank-small q w n j
sums-small q w n (answered p m ∷ rs) h zero = h p (Memᴰ.head refl)
sums-small q w n (answered p m ∷ rs) h (suc j) = sums-small q w n rs (λ x i. h x (Memᴰ.tail i)) j
sums-small q w n (unanswered m ∷ rs) h zero = omega arith
sums-small q w n (unanswered m ∷ rs) h (suc j) = sums-small q w n rs h j
sums-small q w n (refused ∷ rs) h zero = omega arith
sums-small q w n (refused ∷ rs) h (suc j) = sums-small q w n rs h j

module _ (i : Input) (g : Got) (labels' area : List ℕ) (c : Cored i g labels' area) (on : reaches i ≡ true) where
  valid : Valid (query_of i)
  valid = accepted-valid (reached-passed i on).ask i.closed i.labels

  few : length (query_of i).net.arcs < no_number
  few = few-arcs (reached-passed i on).ask

  short : (p : List ℕ) → Memᴰ p (answers (rounds_of i)) → length p ≤ width i
  short = answers-short (query_of i) valid few i.k []

  written-first : firsts g.sums g.n ≡ map as_record (summaries (query_of i) i.k (rounds_of i))
  unfolding sums_due
  written-first =
      let due = map as_record (summaries (query_of i) i.k (rounds_of i)) in
      sym (append-nil (firsts g.sums g.n)) ∙ ap (λ l. firsts g.sums g.n ++ l) (sym (drop-nil g.n [] refl)) ∙ c.sums []
      ∙ ap (λ b. cond b (due ++ drop i.k []) []) on ∙ ap (λ l. due ++ l) (drop-nil i.k [] refl) ∙ append-nil due

  all-written : g.n ≡ i.k
  all-written = c.many ∙ ap (λ b. cond b i.k 0) on

  summed : firsts g.sums i.k ≡ map as_record (summaries (query_of i) i.k (rounds_of i))
  summed = ap (firsts g.sums) (sym all-written) ∙ written-first

  small : Small g.sums i.k (width i)
  unfolding summaries
  small j h =
      let e : get_or (map as_record (summaries (query_of i) i.k (rounds_of i))) j (as_record not_begun) ≡ record_at g.sums j = ap (λ l. get_or l j (as_record not_begun)) (sym summed) ∙ get_or-firsts g.sums i.k j (as_record not_begun) h in
      subst (λ (s : Summary). s.arcs ≤ width i) e (sums-small (query_of i) (width i) (i.k - length (rounds_of i)) (rounds_of i) short j)

  shows : Shows (query_of i) (rounds_of i) (width i) i.k g.sums area
  unfolding area_due
  shows = record {
    shape = rounds-shape (query_of i) valid (reached-passed i on).ask.apart i.k [];
    summed = summed;
    area₀ = i.area;
    slotted = c.area ∙ ap (λ b. cond b (area_with (width i) i.k i.area (answers (rounds_of i))) i.area) on;
    short = short;
  }

-- ---- of what a query gave

module _ (i : Input) (g : Got) (nodes k : ℕ) (area : List ℕ) (x : Gave i g nodes k area) (on : reaches i ≡ true) where
  pub gave-nodes : 1 ≤ nodes
  gave-nodes = omega (arith, x.nodes, nodes-least (reached-passed i on).ask)

  pub gave-routes : k ≤ most_routes
  gave-routes = omega (arith, x.k, (reached-passed i on).k-most)

  pub gave-small : Small g.sums k (nodes - 1)
  gave-small = subst (λ n. Small g.sums k (n - 1)) x.nodes (subst (λ n. Small g.sums n (width i)) x.k (small i g x.labels area x.cored on))

  pub gave-words : nodes ≤ most_nodes_read → desk_words ≤ length area → k * (nodes - 1) ≤ length area
  gave-words h l = omega (arith, mul-le-mul {m₁ = nodes - 1} {m₂ = most_nodes_read - 1} gave-routes (omega arith))

  pub gave-shows : Shows (query_of i) (rounds_of i) (nodes - 1) k g.sums area
  gave-shows =
      subst (λ n. Shows (query_of i) (rounds_of i) (n - 1) k g.sums area) x.nodes
      (subst (λ n. Shows (query_of i) (rounds_of i) (width i) n g.sums area) x.k (shows i g x.labels area x.cored on))

-- ---- by the number of summaries

module _ (g : Got) (nodes k : ℕ) (area : List ℕ) where
  pub known-end : g.n ≢ 0 → Known g nodes k area → KnownEnd g nodes k area
  known-end ne (i, y) = (i, (y, reached-many i g y.labels area y.cored ne))

  pub shown-end : (out out' : List ℕ) (r : ℕ) → g.n ≢ 0 → ShownEnd g nodes k area out out' r → Shown g nodes k area out out' r
  shown-end out out' r ne h i y =
      subst (λ l. Appended out 0 l out' r) (reply-end i g y.labels area y.cored ne) (h i y (reached-many i g y.labels area y.cored ne))

  pub shown-refused : (out out' : List ℕ) (r : ℕ) → g.n ≡ 0 → Appended out 0 (refused_text g.told) out' r → Shown g nodes k area out out' r
  shown-refused out out' r z h i y = subst (λ l. Appended out 0 l out' r) (reply-refused i g y.labels area y.cored z) h
