-- Each way to the end of a read is one case of the contract: what the reader's wrong line tells decides between a malformed file and roads, and of these the table's
-- fault and the room decide. The table that is due is one of zeros: each of its records ends in four of them.
use mathlib.Core.Path.{◌≡◌, refl, sym, ap, subst, ◌∙◌}
use mathlib.Core.List.{List, ◌++◌}
use mathlib.Core.Bool.{Bool, true, false, not, ◌&&◌, ◌||◌}
use mathlib.Core.Logic.{◌≢◌, ◌⊎◌, inl, inr}
use Prim.Native.Nat.{ℕ, ◌*◌, ◌≤◌, ◌<◌}
use native.Mathlib.Omega.{arith}
use lib.Dec.{leb, ltb}
use lib.ListN.{length, drop}
use borrow.Author.Tests.{lt-leb, le-leb, lt-ltb, le-ltb}
use Rattle.std.proofs.Common.{Result, Ok, Err}
use Rattle.outcome.specs.declared.Told.{Told}
use Rattle.outcome.specs.declared.Refusal.{Refusal}
use Rattle.outcome.specs.Outcome.{file, buffers, size, plain, beside, told_of}
use Rattle.outcome.proofs.OutcomeLaws.{refused_not_zero}
use Rattle.net.specs.Net.{Arc}
use Rattle.table.specs.Table.{NoRoads}
use Rattle.table.specs.Fault.{wrong_size, table_fault, good}
use Rattle.table.proofs.TableLaws.{length-table_of, made-no-roads}
use Rattle.net.specs.Limits.{most_nodes, most_arcs}
use Rattle.road_order.specs.Ordered.{ordered}
use Rattle.road_order.specs.Lowest.{Pick, rank}
use Rattle.road_order.proofs.LowestLaws.{length-ordered}
use Rattle.road_file.specs.File.{roads_in, unfed, feed}
use Rattle.road_file.specs.Reader.{reader_of, wrong_by}
use Rattle.road_file.proofs.EndLaws.{ended-good, ended-wrong}
use Rattle.road_file.proofs.SmallLaws.{said-small}
use Rattle.road_judge.specs.Judged.{pick_in}
use Rattle.road_judge.proofs.FaultsLaws.{size_is, told_none, told-lowest, told-size}
use Rattle.road_made.specs.declared.Made.{Made}
use Rattle.road_read.specs.Read.{table_due, Tabled, ReadAs, Read}

pub length-due : (arcs : List Arc) → length (table_due arcs) ≡ length arcs * 16
length-due arcs = length-table_of (ordered arcs) ∙ ap (λ n. n * 16) (length-ordered arcs)

pub due-no-roads : (arcs : List Arc) → NoRoads (table_due arcs)
due-no-roads arcs = made-no-roads (ordered arcs)

module _ (text table : List ℕ) where
  abbrev arcs : List Arc
  arcs = (feed unfed text).said.arcs

  abbrev nodes : ℕ
  nodes = (feed unfed text).said.nodes

  -- an answer that is refused, with the table as it was
  pub read-malformed : (told : Told) → told ≡ beside file (wrong_by (reader_of (feed unfed text))) → wrong_by (reader_of (feed unfed text)) ≢ 0 → Read text table (Err told) table
  unfolding roads_in
  read-malformed told e ne =
      subst (λ r. ReadAs r table (Err told) table) (sym (ended-wrong (feed unfed text) ne)) (record { told_is = e; bytes-is = refl; nodes-is = refl; area-is = refl })

  module _ (fine : wrong_by (reader_of (feed unfed text)) ≡ 0) where
    tabled : (answer : Result Made Told) (table' : List ℕ) → Tabled nodes arcs table answer table' → Read text table answer table'
    unfolding roads_in
    tabled answer table' t = subst (λ r. ReadAs r table answer table') (sym (ended-good (feed unfed text) fine)) t

    pub read-faulty : (refusal : Refusal) → told_of refusal ≡ table_fault nodes (table_due arcs) → Read text table (Err (told_of refusal)) table
    read-faulty refusal e =
        let ne = refused_not_zero refusal in
        tabled (Err (told_of refusal)) table
        (record {
          faulty = λ k. record { told_is = e; bytes-is = refl; nodes-is = refl; area-is = refl };
          small = λ k h. absurd (ne (ap (λ z. z.outcome) (e ∙ k)));
          done = λ k h. absurd (ne (ap (λ z. z.outcome) (e ∙ k)));
        })

    module _ (is-good : table_fault nodes (table_due arcs) ≡ good) where
      pub read_small : (told : Told) → told ≡ plain buffers → length table < length (table_due arcs) → Read text table (Err told) table
      read_small told e h =
          tabled (Err told) table
          (record {
            faulty = λ k. absurd (k is-good);
            small = λ k l. record { told_is = e; bytes-is = refl; nodes-is = refl; area-is = refl };
            done = λ k l. absurd (omega arith);
          })

      pub read_done : (n m : ℕ) (table' : List ℕ) → n ≡ length (table_due arcs) → m ≡ nodes → length (table_due arcs) ≤ length table
          → table' ≡ table_due arcs ++ drop (length (table_due arcs)) table → Read text table (Ok (record { bytes = n; nodes = m })) table'
      read_done n m table' i j h z =
          tabled (Ok (record { bytes = n; nodes = m })) table'
          (record { faulty = λ k. absurd (k is-good); small = λ k l. absurd (omega arith); done = λ k l. record { told_is = refl; bytes-is = i; nodes-is = j; area-is = z } })

-- ---- the fault, by the tests of the code

outside : (a b c : Bool) → (a ≡ false) ⊎ ((b ≡ false) ⊎ (c ≡ true)) → (not (a && b) || c) ≡ true
outside false b c h = refl
outside true false c h = refl
outside true true true h = refl
outside true true false (inl e) = sym e
outside true true false (inr (inl e)) = sym e
outside true true false (inr (inr e)) = e

module _ (text : List ℕ) where
  abbrev as-due : List ℕ
  as-due = table_due (feed unfed text).said.arcs

  abbrev count : ℕ
  count = (feed unfed text).said.nodes

  abbrev pick : Pick
  pick = pick_in (feed unfed text)

  wrong : (leb 1 count ≡ false) ⊎ ((leb count most_nodes ≡ false) ⊎ (ltb most_arcs (length (feed unfed text).said.arcs) ≡ true)) → table_fault count as-due ≡ plain size
  wrong h =
      told-size count (feed unfed text).said.arcs
      (size_is count (feed unfed text).said.arcs ∙ outside (leb 1 count) (leb count most_nodes) (ltb most_arcs (length (feed unfed text).said.arcs)) h)

  pub fault-low : count < 1 → table_fault count as-due ≡ plain size
  fault-low h = wrong (inl (lt-leb 1 count h))

  pub fault-high : most_nodes < count → table_fault count as-due ≡ plain size
  fault-high h = wrong (inr (inl (lt-leb count most_nodes h)))

  pub fault-many : most_arcs < length (feed unfed text).said.arcs → table_fault count as-due ≡ plain size
  fault-many h = wrong (inr (inr (lt-ltb most_arcs (length (feed unfed text).said.arcs) h)))

  module _ (low : 1 ≤ count) (high : count ≤ most_nodes) (few : length (feed unfed text).said.arcs ≤ most_arcs) where
    right : wrong_size count as-due ≡ false
    right =
        size_is count (feed unfed text).said.arcs
        ∙ rw (le-leb 1 count low, le-leb count most_nodes high, le-ltb most_arcs (length (feed unfed text).said.arcs) few)

    pub fault-none : pick.fault ≡ 0 → table_fault count as-due ≡ good
    fault-none e = told_none count (feed unfed text).said.arcs (said-small text) right e

    pub fault-lowest : pick.fault ≢ 0 → table_fault count as-due ≡ beside pick.fault (rank pick (feed unfed text).said.arcs)
    fault-lowest ne = told-lowest count (feed unfed text).said.arcs (said-small text) right ne
