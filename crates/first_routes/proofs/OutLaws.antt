-- The open arcs out of a node are those of its run in the table; `next_open` goes from one to the next and skips none. Distances stay where nothing is stored over them.
use mathlib.Core.Path.{◌≡◌, sym, ap, subst, fun_ext, ◌∙◌}
use mathlib.Core.Bool.{true, cond}
use mathlib.Core.Logic.{⊎_elim}
use mathlib.Core.List.{List}
use Prim.Native.Nat.{ℕ, ◌+◌, ◌≤◌, ◌<◌}
use native.Mathlib.Omega.{arith}
use lib.Dec.{T, ltb}
use lib.ListN.{length}
use borrow.Author.Tests.{lt-ltb}
use Rattle.lists.proofs.Cases.{order}
use Rattle.net.specs.Route.{leaves}
use Rattle.net.proofs.Chains.{leaves-e, leaves-i}
use Rattle.table.specs.Table.{records, is_open_at, net_of}
use Rattle.table.specs.Fault.{table_fault, good}
use Rattle.table.specs.Run.{run_start}
use Rattle.table.proofs.NetLaws.{arcs-length, arc-is}
use Rattle.table.proofs.RunLaws.{run-le, run_is, run-has, next-ge, next_le, next-passes, next-skips}
use Rattle.closures.specs.Closed.{next_open}
use Rattle.closures.proofs.ClosedLaws.{next-open}
use Rattle.working_room.specs.Field.{long_at, word_at}
use Rattle.reach.specs.declared.Stand.{Stand}
use Rattle.reach.specs.Stand.{dist_in}
use Rattle.run_notes.proofs.NotedLaws.{leaving-same}
use Rattle.first_routes.specs.Measured.{Measured}

module _ (nodes : ℕ) (t closed : List ℕ) (ok : table_fault nodes t ≡ good) (v a : ℕ) where
  pub out-run : T (leaves (net_of nodes t closed) v a) → (run_start t v ≤ a) × (a < run_start t (v + 1)) × T (is_open_at closed a)
  out-run h =
      let l = leaves-e (net_of nodes t closed) v a h in
      let b : a < records t = omega (arith, arcs-length t, l.is-arc) in
      let w = run-has nodes t ok v a b (rw (arc-is t a b) at l.starts) in
      (w.0, w.1, l.is-usable)

  pub run_out : run_start t v ≤ a → a < run_start t (v + 1) → is_open_at closed a ≡ true → T (leaves (net_of nodes t closed) v a)
  run_out h k o =
      let b : a < records t = omega (arith, run-le t (v + 1)) in
      leaves-i (net_of nodes t closed) v a (record { is-arc = omega (arith, arcs-length t); is-usable = subst T (sym o) tt; starts = rw (arc-is t a b) (run_is nodes t ok v a h k) })

module _ (closed : List ℕ) (a e c : ℕ) (h : a ≤ e) (is : c ≡ next_open closed a e) where
  pub next-within : (a ≤ c) × (c ≤ e) × (c < e → is_open_at closed c ≡ true)
  next-within = rw (is ∙ next-open closed a e h) (next-ge (is_open_at closed) a e h, next_le (is_open_at closed) a e h, next-passes (is_open_at closed) a e h)

  pub next_past : (x : ℕ) → a ≤ x → T (is_open_at closed x) → c ≤ x
  next_past x k o = ⊎_elim (λ w. w) (λ w. absurd (subst T (next-skips (is_open_at closed) a e h x k (omega (arith, is ∙ next-open closed a e h))) o)) (order c x)

pub dist-at : (x : Stand) (n : ℕ) (l : List ℕ) (v : ℕ) → v < n → dist_in x n l v ≡ long_at x.dist l v
dist-at x n l v h = rw (lt-ltb v n h)

pub dist_same : (x : Stand) (n : ℕ) (l m : List ℕ) → ((v : ℕ) → long_at x.dist m v ≡ long_at x.dist l v) → dist_in x n m ≡ dist_in x n l
dist_same x n l m f = fun_ext (λ v. ap (λ d. cond (ltb v n) d x.far) (f v))

pub measured-same : (x : Stand) (n : ℕ) (t l m : List ℕ) → length m ≡ length l → dist_in x n m ≡ dist_in x n l → ((v : ℕ) → word_at 56 m v ≡ word_at 56 l v) → Measured x n t l → Measured x n t m
measured-same x n t l m long e f h =
    record {
      no-fault = h.no-fault;
      roomy = record { few = h.roomy.few; enough = omega (arith, h.roomy.enough) };
      most = subst (λ d. (v : ℕ) → d v ≤ x.far) (sym e) h.most;
      noted = leaving-same n t l m f h.noted;
    }
