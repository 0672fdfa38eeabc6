-- A malformed line has a number from 1 on, since the arc lines are numbered from 2; and a text that asks names at most 1,024 nodes and 4,096 arcs, since more of them is
-- malformed. So what was read is either a malformed line, and its refusal is due, or the query that the text asks.
use mathlib.Core.Path.{◌≡◌, refl, sym, ap, ap₂, ◌∙◌}
use mathlib.Core.Logic.{◌≢◌}
use mathlib.Core.Bool.{Bool, true, false, ◌||◌, cond}
use mathlib.Core.List.{List, [], ◌∷◌}
use mathlib.Core.Option.{Option, none, some}
use Prim.Native.Nat.{ℕ, zero, suc, ◌+◌, ◌-◌, ◌*◌, ◌≤◌}
use native.Mathlib.Nat.{sub-zero}
use native.Mathlib.Omega.{arith}
use borrow.Author.Tests.{ltb-false, eq-eqb, ne_eqb}
use lib.Dec.{ltb, eqb}
use lib.ListN.{length, get_or, take, replicate, length-replicate}
use Rattle.net.specs.Net.{Arc}
use Rattle.std.specs.Prelude.{Ok, Err}
use Rattle.outcome.specs.declared.Told.{Told}
use Rattle.outcome.specs.Outcome.{beside}
use Rattle.table.specs.Table.{record_bytes, table_of}
use Rattle.table.proofs.TableLaws.{table-put}
use Rattle.query.specs.Query.{Input, refused_of, reaches, tells_due}
use Rattle.desk_line.specs.Limits.{most_nodes_read, most_arcs_read}
use Rattle.desk_line.specs.Line.{Row, line_from, after}
use Rattle.desk_old_input.specs.Text.{ArcLines, all, bad, with_arc, with_row, arc_in, arcs_from, Said, asks, malformed, with_arcs, with_header, said}
use Rattle.desk_old_input.specs.Parsed.{text_read, TextRead}
use Rattle.desk_old_input.specs.declared.Asked.{Asked}
use Rattle.desk_text.specs.Desk.{refused_text, read_query}
use Rattle.desk_old.specs.Turned.{written, turned_for, turned_text}
use Rattle.desk_old.specs.Read.{asking, turned_of}

-- the number of a malformed arc line is not below the first one's
abbrev From : ℕ → ArcLines → Type 0
From n (all xs) = Unit {0}
From n (bad m) = n ≤ m

from_less : (n : ℕ) (x : ArcLines) → From (n + 1) x → From n x
from_less n (all xs) h = tt
from_less n (bad m) h = omega arith

with-arc : (n : ℕ) (a : Arc) (x : ArcLines) → From n x → From n (with_arc a x)
unfolding with_arc
with-arc n a (all xs) h = tt
with-arc n a (bad m) h = h

with-row : (n : ℕ) (r : Option Row) (x : ArcLines) → From n x → From n (with_row n r x)
unfolding with_row
with-row n none x h = omega arith
with-row n (some r) x h = with-arc n (arc_in r.values) x h

ended : (b : Bool) (n : ℕ) → From n (cond b (all []) (bad n))
ended true n = tt
ended false n = omega arith

arcs-from : (m : ℕ) (text : List ℕ) (at n : ℕ) → From n (arcs_from m text at n)
unfolding arcs_from
arcs-from zero text at n = ended (eqb at (length text)) n
arcs-from (suc m) text at n =
    with-row n (line_from 3 text at) (arcs_from m text (after at (line_from 3 text at)) (n + 1)) (from_less n (arcs_from m text (after at (line_from 3 text at)) (n + 1)) (arcs-from m text (after at (line_from 3 text at)) (n + 1)))

-- what is known of what a text says
abbrev pub Sayable : Said → Type 0
Sayable (asks vs xs) = (get_or vs 0 0 ≤ most_nodes_read) × (get_or vs 1 0 ≤ most_arcs_read)
Sayable (malformed n) = 1 ≤ n

with-arcs : (vs : List ℕ) (x : ArcLines) → get_or vs 0 0 ≤ most_nodes_read → get_or vs 1 0 ≤ most_arcs_read → From 2 x → Sayable (with_arcs vs x)
unfolding with_arcs
with-arcs vs (all xs) h g f = (h, g)
with-arcs vs (bad m) h g f = omega arith

limited : (x y : Bool) (vs : List ℕ) (z : ArcLines) → (x ≡ false → get_or vs 0 0 ≤ most_nodes_read) → (y ≡ false → get_or vs 1 0 ≤ most_arcs_read) → From 2 z
    → Sayable (cond (x || y) (malformed 1) (with_arcs vs z))
limited true y vs z h g f = omega arith
limited false true vs z h g f = omega arith
limited false false vs z h g f = with-arcs vs z (h refl) (g refl) f

with-header : (text : List ℕ) (r : Option Row) → Sayable (with_header text r)
unfolding with_header
with-header text none = omega arith
with-header text (some r) =
    limited (ltb most_nodes_read (get_or r.values 0 0)) (ltb most_arcs_read (get_or r.values 1 0)) r.values (arcs_from (get_or r.values 1 0) text r.next 2)
    (ltb-false most_nodes_read (get_or r.values 0 0)) (ltb-false most_arcs_read (get_or r.values 1 0)) (arcs-from (get_or r.values 1 0) text r.next 2)

pub sayable : (text : List ℕ) → Sayable (said text)
unfolding said
sayable text = with-header text (line_from 7 text 0)

-- ---- what was read of a text

module _ (text : List ℕ) (n : ℕ) (l l' : List ℕ) (r : TextRead text (Err n) l l') where
  pub turned-malformed : refused_text (beside Rattle.outcome.specs.Outcome.text n) ≡ turned_text text
  unfolding turned_text turned_for
  turned-malformed = go (said text) r.is
    where
      go : (s : Said) → text_read s (Err n) l l' → refused_text (beside Rattle.outcome.specs.Outcome.text n) ≡ turned_for s
      go (asks vs xs) w = absurd w
      go (malformed m) w = ap (λ k. refused_text (beside Rattle.outcome.specs.Outcome.text k)) w

-- what was read of the numbers vs
same : (x : Asked) (vs : List ℕ) (xs : List Arc) → vs ≡ x.nodes ∷ x.arcs ∷ x.s ∷ x.goal ∷ x.k ∷ x.a ∷ x.b ∷ [] → turned_of x (table_of xs) ≡ turned_for (asks vs xs)
unfolding turned_for
same x vs xs e = rw e

pub record Asking (text : List ℕ) (x : Asked) (l : List ℕ) : Type 0 where
  pub long : x.arcs * record_bytes ≤ length l
  pub most : x.arcs ≤ most_arcs_read
  pub due : turned_of x (take (x.arcs * record_bytes - 0) l) ≡ turned_text text

-- a table of as many records as arcs may be read
abbrev old_table : List ℕ
old_table = replicate (most_arcs_read * record_bytes) 0

pub asks-old : (text : List ℕ) (x : Asked) (l : List ℕ) → TextRead text (Ok x) old_table l → Asking text x l
unfolding turned_text
asks-old text x l r = go (said text) refl (sayable text) r.is
  where
    size : length l ≡ most_arcs_read * record_bytes
    size = r.long ∙ length-replicate {A = ℕ} (most_arcs_read * record_bytes) 0

    go : (s : Said) → said text ≡ s → Sayable s → text_read s (Ok x) old_table l → Asking text x l
    go (malformed m) e k w = absurd w
    go (asks vs xs) e k w =
        let v : (get_or vs 0 0 ≡ x.nodes) × (get_or vs 1 0 ≡ x.arcs) = (ap (λ ys. get_or ys 0 0) w.0, ap (λ ys. get_or ys 1 0) w.0) in
        let table : take (x.arcs * record_bytes - 0) l ≡ table_of xs =
        ap₂ take (sub-zero (x.arcs * record_bytes) ∙ ap (λ m. m * record_bytes) (sym w.1)) w.2 ∙ table-put xs (most_arcs_read * record_bytes) (omega (arith, k.1, v.1, w.1)) in
        record {
          long = omega (arith, k.1, v.1, size);
          most = omega (arith, k.1, v.1);
          due = ap (turned_of x) table ∙ same x vs xs w.0 ∙ ap turned_for (sym e);
        }

-- ---- what is due of it

module _ (x : Asked) (table : List ℕ) where
  abbrev i : Input
  i = read_query (asking x) table

  pub turned-refused : (told : Told) → told ≡ refused_of i → told.outcome ≢ 0 → refused_text told ≡ turned_of x table
  unfolding reaches tells_due
  turned-refused told e ne = rw (ne_eqb (refused_of i).outcome 0 (λ z. ne (ap (λ (t : Told). t.outcome) e ∙ z))) (ap refused_text e)

  pub turned-written : (told : Told) → told ≡ refused_of i → told.outcome ≡ 0 → written x table ≡ turned_of x table
  unfolding reaches
  turned-written told e z = rw (eq-eqb (refused_of i).outcome 0 (sym (ap (λ (t : Told). t.outcome) e) ∙ z))
