-- What stands past place c of a text changes nothing of what it says, where c lies past every well-formed text. A line of n numbers is read within n * 11 bytes;
-- with a first line of seven numbers and at most 4,096 arc lines of three, all that is read stands within 135,245 bytes. A text that is longer has text after its
-- last line, whether it is cut past that place or not.
use mathlib.Core.Path.{◌≡◌, refl, ap, ◌∙◌}
use mathlib.Core.Logic.{⊎_elim}
use mathlib.Core.Bool.{Bool, true, false, ◌||◌}
use mathlib.Core.List.{List}
use mathlib.Core.Option.{Option, none, some}
use Prim.Native.Nat.{ℕ, zero, suc, ◌+◌, ◌*◌, ◌≤◌, ◌<◌}
use native.Mathlib.Omega.{arith}
use borrow.Author.Tests.{ltb-false, ne_eqb}
use lib.Dec.{ltb}
use lib.ListN.{length, get_or, take}
use lib.Seq.{length-take-le}
use Rattle.lists.proofs.Cases.{cases}
use Rattle.desk_line.specs.Line.{Row, line_from, after}
use Rattle.desk_line.proofs.CutLaws.{line-cut, after-reach, line-reach}
use Rattle.desk_line.specs.Limits.{most_nodes_read, most_arcs_read}
use Rattle.desk_old_input.specs.Text.{with_row, arcs_from, with_arcs, with_header, said}

-- ---- the arc lines

arcs-cut : (m : ℕ) (c : ℕ) (text : List ℕ) (at n : ℕ) → at + m * 33 < c → c ≤ length text → arcs_from m (take c text) at n ≡ arcs_from m text at n
unfolding arcs_from
arcs-cut zero c text at n h k = rw (length-take-le c text k, ne_eqb at c (λ e. omega arith), ne_eqb at (length text) (λ e. omega arith))
arcs-cut (suc m) c text at n h k =
    ap (λ (o : Option Row). with_row n o (arcs_from m (take c text) (after at o) (n + 1))) (line-cut 3 c text at (omega arith))
    ∙ ap (with_row n (line_from 3 text at)) (arcs-cut m c text (after at (line_from 3 text at)) (n + 1) (omega (arith, after-reach 3 text at at (at + 33) (omega arith) (omega arith))) k)

-- ---- the text

second-fails : (x y : Bool) → (x || y) ≡ false → y ≡ false
second-fails true y e =
    let z : ◌≡◌ {A = ℕ} 0 1 = cc in
    absurd (omega arith)
second-fails false y e = e

-- What stands past place c of a text changes nothing of what it says, where c lies past every well-formed text.
pub said-cut : (c : ℕ) (text : List ℕ) → 135246 ≤ c → c ≤ length text → said (take c text) ≡ said text
unfolding said with_header
said-cut c text h k = ap (with_header (take c text)) (line-cut 7 c text 0 (omega arith)) ∙ go (line_from 7 text 0) refl
  where
    go : (o : Option Row) → line_from 7 text 0 ≡ o → with_header (take c text) o ≡ with_header text o
    go none e = refl
    go (some r) e =
        let nodes = ltb most_nodes_read (get_or r.values 0 0) in
        let arcs = ltb most_arcs_read (get_or r.values 1 0) in
        ⊎_elim
        (λ t. rw t)
        (λ t.
        let few = ltb-false most_arcs_read (get_or r.values 1 0) (second-fails nodes arcs t) in
        let ends = line-reach 7 text 0 r e in
        rw t (ap (with_arcs r.values) (arcs-cut (get_or r.values 1 0) c text r.next 2 (omega arith) k)))
        (cases (nodes || arcs))
