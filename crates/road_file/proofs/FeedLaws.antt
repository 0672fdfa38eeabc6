-- Only the whole text counts; and the reader is a function of what was fed: a byte changes it as it changes that. Where a line ends the scan is the line by the
-- law of road_line, and both go the same way, since they test the same numbers.
use mathlib.Core.Path.{◌≡◌, refl, sym, ap, ap₂, ◌∙◌}
use mathlib.Core.Bool.{Bool, true, false, ◌&&◌, cond}
use mathlib.Core.List.{List, [], ◌∷◌, ◌++◌}
use Prim.Native.Nat.{ℕ, ◌+◌, ◌-◌}
use lib.Dec.{ltb, eqb}
use lib.ListN.{length, length-append}
use Rattle.net.specs.Net.{Arc}
use Rattle.road_line.specs.Line.{Line, comment, sizes, arc, other, line_of}
use Rattle.road_line.specs.declared.Scan.{Scan}
use Rattle.road_line.specs.Scan.{started, scan_from}
use Rattle.road_line.proofs.EndingLaws.{scanned-more}
use Rattle.road_line.proofs.ScanLaws.{scanned-is}
use Rattle.road_file.specs.declared.Reader.{Reader}
use Rattle.road_file.specs.File.{Said, Fed, next_line, refused, sized, extended, saying, feed_byte, feed}
use Rattle.road_file.specs.Reader.{last_arc, reader_of, sized_by, extended_by, said_by, fed_by}

-- feeding x and then y is feeding both at once
pub feed-append : (f : Fed) (x y : List ℕ) → feed f (x ++ y) ≡ feed (feed f x) y
unfolding feed
feed-append f [] y = refl
feed-append f (b ∷ x) y = feed-append (feed_byte f b) x y

pub last_more : (xs : List Arc) (a : Arc) → last_arc (xs ++ (a ∷ [])) ≡ a
unfolding last_arc
last_more [] a = refl
last_more (x ∷ []) a = refl
last_more (x ∷ y ∷ xs) a = last_more (y ∷ xs) a

-- ---- the reader

module _ {A B : Type 0} (f : A → B) where
  of-cond : (b : Bool) (x y : A) → f (cond b x y) ≡ cond b (f x) (f y)
  of-cond true x y = refl
  of-cond false x y = refl

-- the reader at the beginning of a line
abbrev newly : Said → Reader
newly s = reader_of (record { said = s; rest = [] })

-- the reader with another scan
abbrev scanning : Fed → Scan → Reader
scanning x z =
    record {
      scan = z;
      lines = x.said.lines;
      begun = x.said.begun;
      nodes = x.said.nodes;
      wanted = x.said.wanted;
      count = length x.said.arcs;
      from = (last_arc x.said.arcs).from;
      to = (last_arc x.said.arcs).to;
      len = (last_arc x.said.arcs).len;
      wrong = x.said.wrong;
    }

module _ (x : Fed) where
  sized-is : (n m : ℕ) → sized_by (reader_of x) n m ≡ newly (sized x.said n m)
  unfolding sized_by sized scan_from
  sized-is n m = sym (of-cond newly x.said.begun _ _)

  extended-is : (t h l : ℕ) → extended_by (reader_of x) t h l ≡ newly (extended x.said t h l)
  unfolding extended_by extended scan_from
  extended-is t h l =
      let a : Arc = record { from = t - 1; to = h - 1; len = l } in
      let s = x.said in
      let many : length (s.arcs ++ (a ∷ [])) ≡ length s.arcs + 1 = length-append s.arcs (a ∷ []) in
      let grown : newly (record { lines = next_line s.lines; begun = s.begun; nodes = s.nodes; wanted = s.wanted; arcs = s.arcs ++ (a ∷ []); wrong = s.wrong })
      ≡ record {
        scan = started;
        lines = next_line s.lines;
        begun = s.begun;
        nodes = s.nodes;
        wanted = s.wanted;
        count = length s.arcs + 1;
        from = t - 1;
        to = h - 1;
        len = l;
        wrong = s.wrong;
      } =
      ap₂ {C = Reader} (λ c z. record {
        scan = started;
        lines = next_line s.lines;
        begun = s.begun;
        nodes = s.nodes;
        wanted = s.wanted;
        count = c;
        from = z.from;
        to = z.to;
        len = z.len;
        wrong = s.wrong;
      }) many (last_more s.arcs a) in
      sym (of-cond newly (s.begun && ltb (length s.arcs) s.wanted) _ _ ∙ ap (λ z. cond (s.begun && ltb (length s.arcs) s.wanted) z (newly (refused s))) grown)

  said-is : (y : Line) → said_by (reader_of x) y ≡ newly (saying x.said y)
  unfolding said_by saying scan_from
  said-is comment = refl
  said-is (sizes n m) = sized-is n m
  said-is (arc t h l) = extended-is t h l
  said-is other = refl

  -- a byte changes the reader as it changes what was fed
  pub fed-is : (b : ℕ) → fed_by (reader_of x) b ≡ reader_of (feed_byte x b)
  unfolding fed_by feed_byte
  fed-is b =
      sym (of-cond reader_of (eqb b 10) (record { said = saying x.said (line_of x.rest); rest = [] }) (record { said = x.said; rest = x.rest ++ (b ∷ []) })
      ∙ ap₂ (cond (eqb b 10)) (sym (ap (said_by (reader_of x)) (scanned-is x.rest) ∙ said-is (line_of x.rest))) (ap (scanning x) (scanned-more x.rest b)))
