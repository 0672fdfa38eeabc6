-- A search leaves the notes of where runs start: its fields lie before them.
use mathlib.Core.Logic.{inr}
use mathlib.Core.List.{List}
use Prim.Native.Nat.{ℕ}
use native.Mathlib.Omega.{arith}
use Rattle.run_notes.specs.Noted.{LeavingNoted}
use Rattle.run_notes.proofs.NotedLaws.{leaving-same}
use Rattle.reach.specs.declared.Stand.{Stand}
use Rattle.reach.specs.Stand.{BeforeNotes, Elsewhere}

module _ (x : Stand) (b : BeforeNotes x) (nodes : ℕ) (t : List ℕ) {l m : List ℕ} (e : Elsewhere x l m) where
  pub leaving-else : LeavingNoted nodes t l → LeavingNoted nodes t m
  leaving-else = leaving-same nodes t l m (λ v. e.field 4 v 56 (omega arith) (omega arith) (inr b.dist) (inr b.last))
