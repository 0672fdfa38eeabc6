-- A record by its bytes. Where the bytes of a record are those of a row, its fields are the row's, as they are once the row is put there; where they are all zero it
-- is free, and in its form. A row is proper where its fields are in their form, so that it makes a record in its form.
use mathlib.Core.Path.{◌≡◌, refl, sym, ◌∙◌}
use mathlib.Core.Bool.{true}
use mathlib.Core.List.{List}
use mathlib.Core.Logic.{◌≢◌}
use Prim.Native.Nat.{ℕ, ◌≤◌, ◌<◌}
use native.Mathlib.Omega.{arith}
use lib.ListN.{length, get_or}
use Rattle.words.specs.Part.{slot}
use Rattle.net.specs.Limits.{most_routes, most_arcs}
use Rattle.plan_record.specs.Record.{record_bytes, records, plan_at, rank_at, used_at, part_at, part_arcs, arcs_at, formed, Row, record_of, with_record, free}
use Rattle.plan_record.proofs.RecordLaws.{plan-of, rank-of, used-of, part_of, arcs-of, formed-of, bytes-here, plan-cleared, formed-cleared, length-record_of, plan-put, rank-put, used-put, part-put, arcs-put, formed-put}

pub record Proper (x : Row) : Type 0 where
  pub some : x.plan ≢ 0
  pub plan-fits : x.plan < 4294967296
  pub rank-low : x.rank < most_routes
  pub part-fits : x.part < 65536
  pub least : 1 ≤ length x.arcs
  pub most : length x.arcs ≤ part_arcs
  pub low : (k : ℕ) → k < length x.arcs → get_or x.arcs k 0 < most_arcs

module _ (f : List ℕ) (i : ℕ) (x : Row) (h : i < records f) (w : Proper x) (e : slot record_bytes i f ≡ record_of x) where
  g : List ℕ
  g = with_record f i (record_of x)

  as-put : slot record_bytes i f ≡ slot record_bytes i g
  unfolding g
  as-put = e ∙ sym (bytes-here f i (record_of x) h (length-record_of x w.most))

  pub plan-row : plan_at f i ≡ x.plan
  unfolding g
  plan-row = plan-of f g i i as-put ∙ plan-put f i x h w.most w.plan-fits

  pub rank-row : rank_at f i ≡ x.rank
  unfolding g
  rank-row = rank-of f g i i as-put ∙ rank-put f i x h w.most

  pub used-row : used_at f i ≡ length x.arcs
  unfolding g
  used-row = used-of f g i i as-put ∙ used-put f i x h w.most

  pub part-row : part_at f i ≡ x.part
  unfolding g
  part-row = part_of f g i i as-put ∙ part-put f i x h w.most w.part-fits

  pub arcs-row : arcs_at f i ≡ x.arcs
  unfolding g
  arcs-row = arcs-of f g i i as-put ∙ arcs-put f i x h w.most (λ j b. omega (arith, w.low j b))

  pub formed-row : formed f i ≡ true
  unfolding g
  formed-row = formed-of f g i i as-put ∙ formed-put f i x h w.most w.low w.some w.plan-fits w.rank-low w.least

module _ (f : List ℕ) (i : ℕ) (h : i < records f) (e : slot record_bytes i f ≡ free) where
  as-cleared : slot record_bytes i f ≡ slot record_bytes i (with_record f i free)
  as-cleared = e ∙ sym (bytes-here f i free h refl)

  pub plan-free : plan_at f i ≡ 0
  plan-free = plan-of f (with_record f i free) i i as-cleared ∙ plan-cleared f i h

  pub formed-free : formed f i ≡ true
  formed-free = formed-of f (with_record f i free) i i as-cleared ∙ formed-cleared f i h
