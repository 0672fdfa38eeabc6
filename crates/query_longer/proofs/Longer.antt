-- Longer lists and looser thresholds (02.8), of every call: what reaches the rounds is a valid query, so the laws of the rounds (net/proofs/Longer.antt) hold of it. A
-- call leaves its answers in slots and its summaries in front, so two calls whose answers begin alike leave the same there.
use mathlib.Core.Path.{◌≡◌, sym, ap, ap₂, subst, ◌∙◌}
use mathlib.Core.Bool.{true, cond}
use mathlib.Core.List.{List, [], ◌∷◌, ◌++◌, map}
use mathlib.Core.Logic.{◌≢◌}
use Prim.Native.Nat.{ℕ, ◌-◌, ◌≤◌, ◌<◌}
use native.Mathlib.Omega.{arith}
use lib.ListN.{get_or, take, drop, length-map}
use lib.Seq.{take-append-le, get_or-take}
use Rattle.words.specs.Part.{slot}
use Rattle.outcome.specs.declared.Told.{Told}
use Rattle.outcome.specs.Outcome.{room}
use Rattle.net.specs.Route.{length_of}
use Rattle.net.specs.Round.{Query}
use Rattle.net.specs.Outcome.{told, rounds, answers, summaries}
use Rattle.net.specs.Longer.{answers_for, EndsIn11, at, Greater, NeverFall, SecondWithin, Longer}
use Rattle.net.proofs.Valid.{Valid}
use Rattle.net.proofs.Longer.{summaries-enough, longer}
use Rattle.table.specs.Table.{net_of}
use Rattle.labels.specs.Chain.{slot_of}
use Rattle.search_ask.specs.Ask.{Accepted}
use Rattle.search_ask.proofs.AskLaws.{accepted-valid}
use Rattle.summary.specs.declared.Summary.{Summary}
use Rattle.query_rounds.specs.Progress.{as_record}
use Rattle.query_rounds.proofs.SumsLaws.{take-map}
use Rattle.query.specs.Query.{Input, query_of, width, reaches, refused_of, rounds_of, tells_due, sums_due, Replied}
use Rattle.query.proofs.DecideLaws.{passed}
use Rattle.query.proofs.Promises.{reached}
use Rattle.query.proofs.Whole.{whole, whole-routes, slot-holds}
use Rattle.query_longer.specs.Longer.{SameTrip, SameQuestion, Begins}

-- ---- a call that reaches the rounds

module _ (i : Input) (h : reaches i ≡ true) where
  accepted : Accepted i.ask i.table
  accepted = let w = reached i h in (passed i w.0 w.1).ask

  valid : Valid (query_of i)
  valid = accepted-valid accepted i.closed i.labels

  tells : tells_due i ≡ told 1 (rounds_of i)
  unfolding tells_due
  tells = ap (λ b. cond b (told 1 (rounds_of i)) (refused_of i)) h

  -- "Lengths never fall from one answer to the next."
  pub never-fall : NeverFall (query_of i).net.arcs (answers (rounds_of i))
  never-fall = (longer (query_of i) valid).never-fall i.k

  module _ (x : Told) (labels' area' : List ℕ) (sums₀ sums' : List Summary) (r : Replied i x labels' area' sums₀ sums') where
    slot_is : (n : ℕ) → n < i.k → slot (width i) n area' ≡ slot_of (width i) (get_or (answers (rounds_of i)) n [])
    slot_is n m =
        slot-holds i h x labels' area' sums₀ sums' (whole i h x labels' area' sums₀ sums' r) n m
        ∙ ap (λ ps. slot_of (width i) (get_or ps n [])) (whole-routes i h x labels' area' sums₀ sums' r)

    -- the first summaries left, up to k of them
    sums-are : (n : ℕ) → n ≤ i.k → take n sums' ≡ map as_record (take n (summaries (query_of i) i.k (rounds_of i)))
    unfolding sums_due
    sums-are n m =
        let ss = summaries (query_of i) i.k (rounds_of i) in
        ap (take n) (r.sums ∙ ap (λ b. cond b (map as_record ss ++ drop i.k sums₀) sums₀) h)
        ∙ take-append-le n (map as_record ss) (drop i.k sums₀) (omega (arith, length-map ss as_record, summaries-enough (query_of i) i.k (rounds_of i)))
        ∙ take-map as_record n ss

-- ---- two calls

-- it is the same trip where the tables, the closure bytes and the numbers are the same
pub same_bytes : (i j : Input) → i.table ≡ j.table → i.closed ≡ j.closed → i.ask.nodes ≡ j.ask.nodes
    → i.ask.s ≡ j.ask.s → i.ask.goal ≡ j.ask.goal → SameTrip i j
same_bytes i j table shut nodes s goal =
    record { net = ap₂ (net_of i.ask.nodes) table shut ∙ ap (λ n. net_of n j.table j.closed) nodes; s = s; t = goal }

same-trip : (i j : Input) → SameTrip i j → (a b labels : ℕ) → at (query_of i) a b labels ≡ at (query_of j) a b labels
same-trip i j e a b labels =
    ap₂ {C = Query} (λ net s. record { net = net; s = s; t = (query_of i).t; a = a; b = b; room = labels }) e.net e.s
    ∙ ap {B = Query} (λ t. record { net = (query_of j).net; s = (query_of j).s; t = t; a = a; b = b; room = labels }) e.t

same-query : (i j : Input) → SameQuestion i j → query_of i ≡ query_of j
same-query i j e =
    same-trip i j e.trip (query_of i).a (query_of i).b (query_of i).room
    ∙ ap₂ (λ a b. at (query_of j) a b (query_of i).room) e.a e.b
    ∙ ap (at (query_of j) (query_of j).a (query_of j).b) e.room

-- "Where both calls reach the rounds with the same room, the answers for k are the first k of those for any greater k."
pub longer-lists : (i j : Input) → reaches i ≡ true → reaches j ≡ true → SameQuestion i j → i.k ≤ j.k
    → (x y : Told) (labelsᵢ areaᵢ labelsⱼ areaⱼ : List ℕ) (beforeᵢ sumsᵢ beforeⱼ sumsⱼ : List Summary)
    → Replied i x labelsᵢ areaᵢ beforeᵢ sumsᵢ → Replied j y labelsⱼ areaⱼ beforeⱼ sumsⱼ → Begins i j areaᵢ areaⱼ sumsᵢ sumsⱼ
longer-lists i j hᵢ hⱼ same k x y labelsᵢ areaᵢ labelsⱼ areaⱼ beforeᵢ sumsᵢ beforeⱼ sumsⱼ rᵢ rⱼ =
    record {
      routes = routes;
      slots = λ r m.
          slot_is i hᵢ x labelsᵢ areaᵢ beforeᵢ sumsᵢ rᵢ r m ∙ ap (λ ps. slot_of (width i) (get_or ps r [])) routes
          ∙ ap (slot_of (width i)) (get_or-take i.k (answers (rounds_of j)) r [] m)
          ∙ sym (subst (λ n. slot n r areaⱼ ≡ slot_of n (get_or (answers (rounds_of j)) r [])) (sym wide) (slot_is j hⱼ y labelsⱼ areaⱼ beforeⱼ sumsⱼ rⱼ r (omega arith)));
      sums =
          sums-are i hᵢ x labelsᵢ areaᵢ beforeᵢ sumsᵢ rᵢ i.k (omega arith)
          ∙ ap (map as_record) (sym (laws.begins-summaries i.k i.k (omega arith)) ∙ laws.begins-summaries i.k j.k k
          ∙ ap (λ q. take i.k (summaries q j.k (rounds q j.k []))) e)
          ∙ sym (sums-are j hⱼ y labelsⱼ areaⱼ beforeⱼ sumsⱼ rⱼ i.k k);
    }
  where
    laws : Longer (query_of i)
    laws = longer (query_of i) (valid i hᵢ)

    e : query_of i ≡ query_of j
    e = same-query i j same

    wide : width i ≡ width j
    wide = ap (λ (q : Query). q.net.nodes - 1) e

    routes : answers (rounds_of i) ≡ take i.k (answers (rounds_of j))
    routes = laws.begins i.k j.k k ∙ ap (λ q. take i.k (answers_for q j.k)) e

-- "For the second route only, where neither call ends in 11: if it exists at a threshold, it exists at every greater permitted one, and is there no longer." That the
-- first call has a second route says already that it did not end in 11 before it.
pub looser : (i j : Input) → reaches i ≡ true → reaches j ≡ true → SameTrip i j → Greater (query_of i) (query_of j).a (query_of j).b
    → (tells_due j).outcome ≢ room → (p w : List ℕ) (ps : List (List ℕ)) → answers (rounds_of i) ≡ p ∷ w ∷ ps → 2 ≤ j.k
    → SecondWithin (query_of j) j.k (length_of (query_of i).net.arcs w)
looser i j hᵢ hⱼ same greater fits p w ps e two =
    subst (λ q. SecondWithin q j.k (length_of (query_of i).net.arcs w)) same-as
    ((longer (query_of i) (valid i hᵢ)).looser (query_of j).a (query_of j).b (query_of j).room i.k j.k p w ps (accepted i hᵢ).b-least greater e two
    (subst (λ q. EndsIn11 q j.k → ⊥) (sym same-as) (λ z. fits (ap (λ (t : Told). t.outcome) (tells j hⱼ) ∙ z))))
  where
    same-as : at (query_of i) (query_of j).a (query_of j).b (query_of j).room ≡ query_of j
    same-as = same-trip i j same (query_of j).a (query_of j).b (query_of j).room
