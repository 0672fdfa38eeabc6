-- The reader: of what was fed, what it keeps by value, and how a byte changes that.
use Rattle.std.specs.Prelude.{Bool, true, not, ◌&&◌, ◌||◌, cond, List, [], ◌∷◌, ℕ, ◌+◌, ◌-◌, ltb, eqb, length}
use Rattle.net.specs.Net.{Arc}
use Rattle.road_line.specs.Line.{Line, comment, sizes, arc, other}
use Rattle.road_line.specs.Scan.{unknown, started, scanned, scan_byte, read_of}
use Rattle.road_file.specs.declared.Reader.{Reader}
use Rattle.road_file.specs.File.{Fed, next_line}

-- The last of the arcs so far; before the first, zeros.
unfoldable pub last_arc : List Arc → Arc
last_arc [] = record { from = 0; to = 0; len = 0 }
last_arc (x ∷ []) = x
last_arc (x ∷ y ∷ xs) = last_arc (y ∷ xs)

-- What the reader keeps: the scan of the line that has not ended, the numbers of what was said, how many arcs there were, and the last of them.
abbrev pub reader_of : Fed → Reader
reader_of x =
    record {
      scan = scanned x.rest;
      lines = x.said.lines;
      begun = x.said.begun;
      nodes = x.said.nodes;
      wanted = x.said.wanted;
      count = length x.said.arcs;
      from = (last_arc x.said.arcs).from;
      to = (last_arc x.said.arcs).to;
      len = (last_arc x.said.arcs).len;
      wrong = x.said.wrong;
    }

abbrev pub passed_by : Reader → Reader
passed_by r =
    record {
      scan = started;
      lines = next_line r.lines;
      begun = r.begun;
      nodes = r.nodes;
      wanted = r.wanted;
      count = r.count;
      from = r.from;
      to = r.to;
      len = r.len;
      wrong = r.wrong;
    }

abbrev pub refused_by : Reader → Reader
refused_by r =
    record {
      scan = started;
      lines = next_line r.lines;
      begun = r.begun;
      nodes = r.nodes;
      wanted = r.wanted;
      count = r.count;
      from = r.from;
      to = r.to;
      len = r.len;
      wrong = cond (eqb r.wrong 0) (next_line r.lines) r.wrong;
    }

unfoldable pub sized_by : Reader → ℕ → ℕ → Reader
unfolding next_line
sized_by r n m =
    cond r.begun (refused_by r)
    (record {
      scan = started;
      lines = next_line r.lines;
      begun = true;
      nodes = n;
      wanted = m;
      count = r.count;
      from = r.from;
      to = r.to;
      len = r.len;
      wrong = r.wrong;
    })

unfoldable pub extended_by : Reader → ℕ → ℕ → ℕ → Reader
unfolding next_line
extended_by r t h l =
    cond (r.begun && ltb r.count r.wanted)
    (record {
      scan = started;
      lines = next_line r.lines;
      begun = r.begun;
      nodes = r.nodes;
      wanted = r.wanted;
      count = r.count + 1;
      from = t - 1;
      to = h - 1;
      len = l;
      wrong = r.wrong;
    })
    (refused_by r)

unfoldable pub said_by : Reader → Line → Reader
unfolding sized_by extended_by
said_by r comment = passed_by r
said_by r (sizes n m) = sized_by r n m
said_by r (arc t h l) = extended_by r t h l
said_by r other = refused_by r

abbrev pub scanned_by : Reader → ℕ → Reader
scanned_by r b =
    record {
      scan = scan_byte r.scan b;
      lines = r.lines;
      begun = r.begun;
      nodes = r.nodes;
      wanted = r.wanted;
      count = r.count;
      from = r.from;
      to = r.to;
      len = r.len;
      wrong = r.wrong;
    }

unfoldable pub fed_by : Reader → ℕ → Reader
unfolding said_by read_of scan_byte
fed_by r b = cond (eqb b 10) (said_by r (read_of r.scan)) (scanned_by r b)

-- Whether the file may not end here, and the number of its first line that is not permitted or missing; 0 for none.
unfoldable pub short_by : Reader → Bool
unfolding unknown
short_by r = not (unknown r.scan.kind) || not r.begun || ltb r.count r.wanted

unfoldable pub wrong_by : Reader → ℕ
unfolding short_by next_line
wrong_by r = cond (not (eqb r.wrong 0)) r.wrong (cond (short_by r) (next_line r.lines) 0)
