-- Where there is such a record `write` makes it; where there is none `with_record` gives the bytes as they are.
use borrow.Author.Rules.{rules}
use mathlib.Core.Path.{◌≡◌, sym, ◌∙◌}
use mathlib.Core.List.{List}
use Prim.Native.Nat.{ℕ, ◌<◌, ◌≤◌}
use borrow.Author.Tests.{lt-ltb, le-ltb}
use Rattle.net.specs.Net.{Arc}
use Rattle.table.specs.Table.{records, put_arc, with_record}
use Rattle.table.proofs.arc.put.Statement.{statement}
use Rattle.table.proofs.arc.put.Tie as tie

within : (t : List ℕ) (i : ℕ) (x : Arc) → i < records t → with_record t i x ≡ put_arc t i x
unfolding with_record
within t i x h = rw (lt-ltb i (records t) h)

past : (t : List ℕ) (i : ℕ) (x : Arc) → records t ≤ i → with_record t i x ≡ t
unfolding with_record
past t i x h = rw (le-ltb i (records t) h)

returns : tie.Need-returns-then-i-table
returns c = c.before.before.write.ensures ∙ sym (within _ _ _ c.before.before.before.before.if-i-table.true)

pub put_spec : {M : Type 1} → statement M
put_spec = tie.close (tie.spec (λ c κs. search rules) (λ c. search rules) returns (λ c. sym (past _ _ _ c.if-i-table.false)))
