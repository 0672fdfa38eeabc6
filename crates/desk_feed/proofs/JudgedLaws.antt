-- What the reader tells at the end is what the road file is: 12 or 14 with its line, or its nodes and arcs. Where it is neither, the `p` line is within the limits, and
-- there are no more arcs than it says; so the table has room for all, and holds them in file order.
use mathlib.Core.Path.{◌≡◌, refl, sym, ap, subst, ◌∙◌}
use mathlib.Core.Bool.{Bool, true, false, ◌&&◌, ◌||◌, cond}
use mathlib.Core.List.{List, ◌++◌}
use mathlib.Core.Logic.{◌≢◌, ⊎_elim}
use Prim.Native.Nat.{ℕ, ◌*◌, ◌≤◌}
use native.Mathlib.Omega.{arith}
use lib.Dec.{ltb, eqb}
use lib.ListN.{length, drop, length-replicate}
use borrow.Author.Tests.{ltb-false, eqb-true, eqb-false}
use Rattle.lists.proofs.Cases.{cases}
use Rattle.outcome.specs.declared.Told.{Told}
use Rattle.outcome.specs.Outcome.{found, text, file, plain, beside}
use Rattle.net.specs.Net.{Arc}
use Rattle.net.specs.Small.{AllSmall}
use Rattle.table.specs.Table.{table_of}
use Rattle.road_file.specs.File.{Fed, Roads, malformed, roads, ended_of}
use Rattle.road_file.specs.Reader.{reader_of, wrong_by}
use Rattle.road_file.proofs.EndLaws.{ended-good, ended-wrong}
use Rattle.road_file.proofs.SmallLaws.{said-small, said-few}
use Rattle.road_sort.specs.Sorted.{Placed, sorted_table}
use Rattle.road_order.specs.Ordered.{ordered}
use Rattle.road_fill.specs.Filled.{cleared}
use Rattle.road_fill.proofs.MadeLaws.{placed_at, made_at}
use Rattle.desk_line.specs.Limits.{most_nodes_read, most_arcs_read}
use Rattle.desk_feed.specs.Road.{Road, Judged, refused, taken, above, judged_as, judged, road_file, road_in}
use Rattle.desk_feed.specs.Taken.{table_bytes, above_by, sized_first, judged_by, State, state_of}
use Rattle.desk_feed.proofs.HeldLaws.{zeros, in-fed, held}

-- ---- by the tests

abbrev told : Bool → ℕ → ℕ → Told
told a w n = cond (a && (eqb w 0 || ltb n w)) (beside text n) (cond (eqb w 0) (plain found) (beside file w))

abbrev is : Bool → ℕ → Roads → Judged
is a n (malformed line) = cond (a && ltb n line) (refused (beside text n)) (refused (beside file line))
is a n (roads nodes arcs) = cond a (refused (beside text n)) (taken nodes arcs)

told-taken : (a : Bool) (w n nodes : ℕ) (arcs : List Arc) (y : Roads) → (w ≡ 0 → y ≡ roads nodes arcs) → (told a w n).outcome ≡ 0
    → (is a n y ≡ taken nodes arcs) × (a ≡ false)
told-taken true w n nodes arcs y h e =
    ⊎_elim
    (λ z. absurd (omega (arith, rw z at e)))
    (λ z. ⊎_elim (λ l. absurd (omega (arith, rw (z, l) at e))) (λ l. absurd (omega (arith, rw (z, l) at e))) (cases (ltb n w)))
    (cases (eqb w 0))
told-taken false w n nodes arcs y h e =
    ⊎_elim
    (λ z. (ap (is false n) (h (eqb-true w 0 z)), refl))
    (λ z. absurd (omega (arith, rw z at e)))
    (cases (eqb w 0))

told-wrong : (w n : ℕ) (y : Roads) → eqb w 0 ≡ false → y ≡ malformed w → is true n y ≡ refused (told true w n)
told-wrong w n y z k =
    ap (is true n) k ∙ go (ltb n w) ∙ ap refused (sym (ap (λ t. cond (t || ltb n w) (beside text n) (cond t (plain found) (beside file w))) z))
  where
    go : (b : Bool) → cond b (refused (beside text n)) (refused (beside file w)) ≡ refused (cond b (beside text n) (beside file w))
    go true = refl
    go false = refl

told-refused : (a : Bool) (w n nodes : ℕ) (arcs : List Arc) (y : Roads) → (w ≡ 0 → y ≡ roads nodes arcs) → (w ≢ 0 → y ≡ malformed w) → (told a w n).outcome ≢ 0
    → is a n y ≡ refused (told a w n)
told-refused true w n nodes arcs y h g e =
    ⊎_elim
    (λ z. rw z (ap (is true n) (h (eqb-true w 0 z))))
    (λ z. told-wrong w n y z (g (eqb-false w 0 z)))
    (cases (eqb w 0))
told-refused false w n nodes arcs y h g e =
    ⊎_elim
    (λ z. absurd (e (ap (λ t. (cond {A = Told} t (plain found) (beside file w)).outcome) z)))
    (λ z. rw z (ap (is false n) (g (eqb-false w 0 z))))
    (cases (eqb w 0))

judged-is : (x : Road) (y : Roads) → judged_as x y ≡ is (above x.fed.said) x.sized y
unfolding judged_as
judged-is x (malformed line) = refl
judged-is x (roads nodes arcs) = refl

module _ (x : Road) where
  by-is : judged_by (reader_of x.fed) x.sized ≡ told (above x.fed.said) (wrong_by (reader_of x.fed)) x.sized
  unfolding judged_by above_by above sized_first
  by-is = refl

  judged-taken : (judged_by (reader_of x.fed) x.sized).outcome ≡ 0 → (judged x ≡ taken x.fed.said.nodes x.fed.said.arcs) × (above x.fed.said ≡ false)
  unfolding judged
  judged-taken e =
      let w = told-taken (above x.fed.said) (wrong_by (reader_of x.fed)) x.sized _ _ (ended_of x.fed) (ended-good x.fed) (ap (λ (t : Told). t.outcome) (sym by-is) ∙ e) in
      (judged-is x (ended_of x.fed) ∙ w.0, w.1)

  judged-refused : (judged_by (reader_of x.fed) x.sized).outcome ≢ 0 → judged x ≡ refused (judged_by (reader_of x.fed) x.sized)
  unfolding judged
  judged-refused e =
      judged-is x (ended_of x.fed)
      ∙ told-refused (above x.fed.said) (wrong_by (reader_of x.fed)) x.sized _ _ (ended_of x.fed) (ended-good x.fed) (ended-wrong x.fed)
      (λ z. e (ap (λ (t : Told). t.outcome) by-is ∙ z))
      ∙ ap refused (sym by-is)

neither : (a b : Bool) → (a || b) ≡ false → (a ≡ false) × (b ≡ false)
neither true b e = let z : ◌≡◌ {A = ℕ} 0 1 = cc in absurd (omega arith)
neither false b e = (refl, e)

-- ---- of an input

module _ (input : List ℕ) where
  abbrev kept : State
  kept = state_of input

  abbrev arcs : List Arc
  arcs = (road_in input).fed.said.arcs

  reader-is : judged_by kept.taken.reader kept.taken.sized ≡ judged_by (reader_of (road_in input).fed) (road_in input).sized
  reader-is = let o = (held input).road in ap (λ r. judged_by r kept.taken.sized) o.reader ∙ ap (judged_by (reader_of (road_in input).fed)) o.sized

  pub input-refused : (judged_by kept.taken.reader kept.taken.sized).outcome ≢ 0 → judged (road_in input) ≡ refused (judged_by kept.taken.reader kept.taken.sized)
  input-refused e = judged-refused (road_in input) (λ z. e (ap (λ (t : Told). t.outcome) reader-is ∙ z)) ∙ ap refused (sym reader-is)

  pub record Whole : Type 0 where
    pub is : judged (road_in input) ≡ taken kept.taken.reader.nodes arcs
    pub nodes : kept.taken.reader.nodes ≤ most_nodes_read
    pub count : kept.taken.reader.count ≡ length arcs
    pub few : kept.taken.reader.count ≤ most_arcs_read
    pub placed : Placed kept.table kept.taken.reader.count
    pub made : cleared kept.taken.reader.count (sorted_table kept.taken.reader.count kept.table)
        ≡ table_of (ordered arcs) ++ drop (kept.taken.reader.count * 16) zeros

  pub input-whole : (judged_by kept.taken.reader kept.taken.sized).outcome ≡ 0 → Whole
  unfolding above
  input-whole e =
      let o = (held input).road in
      let w = judged-taken (road_in input) (ap (λ (t : Told). t.outcome) (sym reader-is) ∙ e) in
      let limits = neither _ _ w.1 in
      let nodes-is : kept.taken.reader.nodes ≡ (road_in input).fed.said.nodes = ap (λ r. r.nodes) o.reader in
      let count : kept.taken.reader.count ≡ length arcs = ap (λ r. r.count) o.reader in
      let said : length arcs ≤ (road_in input).fed.said.wanted =
      subst (λ (f : Fed). length f.said.arcs ≤ f.said.wanted) (sym (in-fed input)) (said-few (road_file input)) in
      let few : length arcs ≤ most_arcs_read = omega (arith, said, ltb-false most_arcs_read (road_in input).fed.said.wanted limits.1) in
      let small : AllSmall arcs = subst (λ (f : Fed). AllSmall f.said.arcs) (sym (in-fed input)) (said-small (road_file input)) in
      let room = length-replicate {A = ℕ} table_bytes 0 in
      let n = kept.taken.reader.count in
      record {
        is = w.0 ∙ ap (λ m. taken m arcs) (sym nodes-is);
        nodes = omega (arith, nodes-is, ltb-false most_nodes_read (road_in input).fed.said.nodes limits.0);
        count = count;
        few = omega (arith, count, few);
        placed = placed_at arcs zeros kept.table n count (o.stored few) (omega (arith, count, few, room)) (omega (arith, count, few));
        made =
            ap (λ t. cleared n (sorted_table n t)) (o.stored few)
            ∙ made_at arcs zeros n count (omega (arith, count, few, room)) (omega (arith, count, few)) small;
      }
