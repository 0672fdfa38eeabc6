-- What the reading functions give.
use Rattle.std.specs.Prelude.{◌≡◌, List, [], ◌∷◌, ℕ, length, Option, None, Some, Result, Ok, Err}
use Rattle.std.proofs.Math.Option.{none, some}
use Rattle.table.specs.Table.{put_arc, put_arcs}
use Rattle.desk_line.specs.Line.{line_from}
use Rattle.desk_old_input.specs.Text.{ArcLines, all, bad, arc_in, arcs_from, Said, asks, malformed, said}
use Rattle.desk_old_input.specs.declared.Asked.{Asked}

-- An arc line at `at`, whose arc stands as record i.
abbrev pub arc_read : Option ℕ → List ℕ → ℕ → ℕ → List ℕ → List ℕ → Type 0
arc_read (Some p) text at i l l' = (vs : List ℕ) × (line_from 3 text at ≡ some (record { values = vs; next = p })) × (l' ≡ put_arc l i (arc_in vs))
arc_read None text at i l l' = line_from 3 text at ≡ none

-- Where all arc lines are well-formed their arcs stand in the table; else the first malformed line is told, and the table keeps its length.
abbrev pub arcs_read : {X : Type 0} → ArcLines → Result X ℕ → List ℕ → List ℕ → Type 0
arcs_read (all xs) (Ok x) l l' = l' ≡ put_arcs l 0 xs
arcs_read (all xs) (Err n) l l' = ⊥
arcs_read (bad n) (Ok x) l l' = ⊥
arcs_read (bad n) (Err m) l l' = m ≡ n

pub record TableRead {X : Type 0} (text : List ℕ) (at m : ℕ) (r : Result X ℕ) (l l' : List ℕ) : Type 0 where
  pub long : length l' ≡ length l
  pub is : arcs_read (arcs_from m text at 2) r l l'

-- The same of the whole text.
abbrev pub text_read : Said → Result Asked ℕ → List ℕ → List ℕ → Type 0
text_read (asks vs xs) (Ok r) l l' = (vs ≡ r.nodes ∷ r.arcs ∷ r.s ∷ r.goal ∷ r.k ∷ r.a ∷ r.b ∷ []) × (length xs ≡ r.arcs) × (l' ≡ put_arcs l 0 xs)
text_read (asks vs xs) (Err n) l l' = ⊥
text_read (malformed n) (Ok r) l l' = ⊥
text_read (malformed n) (Err m) l l' = m ≡ n

pub record TextRead (text : List ℕ) (r : Result Asked ℕ) (l l' : List ℕ) : Type 0 where
  pub long : length l' ≡ length l
  pub is : text_read (said text) r l l'
