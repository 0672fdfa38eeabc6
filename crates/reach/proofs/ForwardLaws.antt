-- The arcs that leave u are those of its run, so a turn goes along the run, up to the table's end or a record of another node.
use mathlib.Core.Path.{◌≡◌, refl, sym, ap, subst, ◌∙◌}
use mathlib.Core.Logic.{◌⊎◌, inl, inr, ⊎_elim}
use mathlib.Core.Bool.{Bool, true, false}
use mathlib.Core.List.{List}
use Prim.Native.Nat.{ℕ, ◌+◌, ◌≤◌, ◌<◌}
use native.Mathlib.Omega.{arith}
use lib.Dec.{T}
use Rattle.lists.proofs.Cases.{order}
use Rattle.net.specs.Net.{arc}
use Rattle.distances.specs.Search.{Open}
use Rattle.table.specs.Table.{records, from_at, to_at, len_at, arcs_of, is_open_at, net_of}
use Rattle.table.specs.Fault.{table_fault, good}
use Rattle.table.specs.Run.{run_start}
use Rattle.table.proofs.FaultLaws.{all-good}
use Rattle.table.proofs.NetLaws.{arcs-length, arc-is}
use Rattle.table.proofs.RunLaws.{run_is, run-has}
use Rattle.run_notes.specs.Noted.{start_by}
use Rattle.reach.specs.declared.Stand.{Stand}
use Rattle.reach.specs.Steps.{Passed}
use Rattle.reach.specs.Turn.{Turn}
use Rattle.reach.specs.Way.{AllFrom, NoneFrom}
use Rattle.reach.proofs.LookingLaws.{turn-skip, turn-look}

-- ---- the arcs of a table

module _ (nodes : ℕ) (t closed : List ℕ) where
  pub open-arc : (a : ℕ) → a < records t → is_open_at closed a ≡ true → Open (net_of nodes t closed) a
  open-arc a h o = (omega (arith, arcs-length t), subst T (sym o) tt)

  pub arc-open : (a : ℕ) → Open (net_of nodes t closed) a → (a < records t) × (is_open_at closed a ≡ true)
  arc-open a o = (omega (arith, o.0, arcs-length t), truth (is_open_at closed a) o.1)
    where
      truth : (b : Bool) → T b → b ≡ true
      truth true h = refl
      truth false h = absurd h

module _ (nodes : ℕ) (t closed : List ℕ) (ok : table_fault nodes t ≡ good) (u : ℕ) where
  -- an open arc that leaves u is one of its run
  in-run : (e : ℕ) → Open (net_of nodes t closed) e → (arc (arcs_of t) e).from ≡ u → (e < records t) × (run_start t u ≤ e) × (e < run_start t (u + 1))
  in-run e o starts =
      let h = (arc-open nodes t closed e o).0 in
      let w = run-has nodes t ok u e h (sym (ap (λ y. y.from) (arc-is t e h)) ∙ starts) in
      (h, w.0, w.1)

  -- the run is over where the table is, and at a record of another node
  run-none : (a : ℕ) → run_start t u ≤ a → (records t ≤ a) ⊎ (from_at t a ≡ u → ⊥) → NoneFrom (net_of nodes t closed) u a
  run-none a low (inl h) e o starts p = absurd (omega (arith, (in-run e o starts).0))
  run-none a low (inr h) e o starts p =
      ⊎_elim (λ w. absurd (omega (arith, (in-run e o starts).2))) (λ w. h (run_is nodes t ok u a low w)) (order (run_start t (u + 1)) a)

-- The walk along u's run in the table itself: at record i the arcs from number i on are yet to be looked at.
abbrev pub Run : List ℕ → ℕ → ℕ → ℕ → Type 0
Run t u i lo = (lo ≡ i) × (run_start t u ≤ i)

pub forward-begins : (nodes : ℕ) (t w closed : List ℕ) (u : ℕ) → table_fault nodes t ≡ good → w ≡ t → (lo : ℕ) × Run t u (start_by from_at w u) lo × AllFrom (net_of nodes t closed) u lo
unfolding run_start start_by
forward-begins nodes t w closed u ok right =
    subst (λ (y : List ℕ). (lo : ℕ) × Run t u (start_by from_at y u) lo × AllFrom (net_of nodes t closed) u lo) (sym right)
    (run_start t u, (refl, omega arith), λ e o starts. (in-run nodes t closed ok u e o starts).1)

pub forward-ends : (nodes : ℕ) (t w closed : List ℕ) (u i lo : ℕ) → table_fault nodes t ≡ good → w ≡ t → Run t u i lo → (records w ≤ i) ⊎ (from_at w i ≡ u → ⊥) → NoneFrom (net_of nodes t closed) u lo
forward-ends nodes t w closed u i lo ok right at over =
    subst (NoneFrom (net_of nodes t closed) u) (sym at.0)
    (run-none nodes t closed ok u i at.1 (subst (λ (y : List ℕ). (records y ≤ i) ⊎ (from_at y i ≡ u → ⊥)) right over))

-- ---- a turn

module _ (nodes : ℕ) (t closed : List ℕ) (ok : table_fault nodes t ≡ good) (s : ℕ) (x : Stand) (l m : List ℕ) (root u d : ℕ) where
  module _ (a : ℕ) (k : Turn (net_of nodes t closed) s x l m root u d a) (high : a < records t) (starts : from_at t a ≡ u) where
    passed : is_open_at closed a ≡ false → Turn (net_of nodes t closed) s x l m root u d (a + 1)
    passed z =
        turn-skip (net_of nodes t closed) s x l m root u d a k (a + 1)
        (λ e o w p q. let y : e ≡ a = omega arith in subst T (sym (arc-open nodes t closed e o).1 ∙ ap (is_open_at closed) y ∙ z) tt)

    pub forward-pass : (w c : ℕ) → w ≡ to_at t a → w < nodes → c ≡ d + len_at t a → (m' : List ℕ) (r : ℕ) → Passed closed x nodes m root w a c m' r → Turn (net_of nodes t closed) s x l m' r u d (a + 1)
    forward-pass w c ew h ec m' r (inl y) =
        subst (λ (q : List ℕ). Turn (net_of nodes t closed) s x l q r u d (a + 1)) (sym y.1) (subst (λ q. Turn (net_of nodes t closed) s x l m q u d (a + 1)) (sym y.2) (passed y.0))
    forward-pass w c ew h ec m' r (inr y) =
        turn-look (net_of nodes t closed) s x l m root u d a k (open-arc nodes t closed a high y.0) (ap (λ y. y.from) (arc-is t a high) ∙ starts) w
        (ap (λ y. y.to) (arc-is t a high) ∙ sym ew) h c (omega (arith, ec, ap (λ y. y.len) (arc-is t a high))) m' r y.1

-- an arc's end is a node
pub end-node : (nodes : ℕ) (t : List ℕ) → table_fault nodes t ≡ good → (a : ℕ) → a < records t → to_at t a < nodes
end-node nodes t ok a h = (all-good nodes t ok a h).end
