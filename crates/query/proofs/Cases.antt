-- The proved cases, asked of the call: table T and the two-arc table of P11 in bytes are good, have no road numbers and give the theory's arcs, and buffers of just the size that a case needs
-- are large enough. So `figure-told` and `figure-made` say of each row's own input what the P table says.
use mathlib.Core.Path.{◌≡◌, refl, sym, ap, ap₂, subst, ◌∙◌}
use mathlib.Core.Bool.{true, false, cond}
use mathlib.Core.List.{List, [], ◌∷◌, ◌++◌, map, Memᴰ}
use Prim.Native.Nat.{ℕ, ◌-◌, ◌*◌, ◌/◌, ◌≤◌}
use native.Mathlib.Omega.{arith}
use native.Mathlib.Nat.{mul-div_cancel}
use borrow.Author.Tests.{le-ltb}
use lib.ListN.{length, drop, replicate, length-replicate}
use Rattle.net.specs.Limits.{most_labels}
use Rattle.net.specs.Net.{Arc, plain}
use Rattle.net.specs.Round.{Query}
use Rattle.net.specs.Figures.{T, two, Figure, figures}
use Rattle.outcome.specs.declared.Told.{Told}
use Rattle.summary.specs.declared.Summary.{Summary}
use Rattle.words.specs.Number.{num}
use Rattle.labels.specs.Field.{label_bytes}
use Rattle.table.specs.Table.{arcs_of, table_of}
use Rattle.table.specs.Fault.{table_fault, good}
use Rattle.table.proofs.TableLaws.{made-no-roads}
use Rattle.table.proofs.NetLaws.{no-roads}
use Rattle.query_rounds.specs.Area.{area_with}
use Rattle.query_rounds.specs.Progress.{as_record}
use Rattle.query.specs.Query.{Input, query_of, width, too_small, reaches, area_due, sums_due, Replied}
use Rattle.query.proofs.Promises.{figure-told, figure-made}

pub T-good : table_fault 4 (table_of T) ≡ good
unfolding table_fault num table_of
T-good = refl

pub T-arcs : arcs_of (table_of T) ≡ T
unfolding arcs_of num table_of
T-arcs = refl

pub two_good : table_fault 2 (table_of two) ≡ good
unfolding table_fault num table_of
two_good = refl

pub two-arcs : arcs_of (table_of two) ≡ two
unfolding arcs_of num table_of
two-arcs = refl

abbrev zeros : ℕ → List ℕ
zeros n = replicate n 0

length-zeros : (n : ℕ) → length (zeros n) ≡ n
length-zeros n = length-replicate n 0

-- a query over a table of so many nodes, with room for so many labels, and an area and summaries for k routes
abbrev pub asking : List Arc → ℕ → ℕ → ℕ → ℕ → ℕ → ℕ → ℕ → Input
asking arcs nodes s goal k a b room =
    record {
      table = table_of arcs;
      closed = [];
      closing = false;
      ask = record { nodes = nodes; s = s; goal = goal; a = a; b = b };
      k = k;
      labels = zeros (room * label_bytes);
      area = zeros (k * (nodes - 1));
      lent = k;
    }

module _ (arcs : List Arc) (nodes s goal k a b room : ℕ) where
  room-is : length (zeros (room * label_bytes)) / label_bytes ≡ room
  room-is = ap (λ n. n / label_bytes) (length-zeros (room * label_bytes)) ∙ mul-div_cancel room (omega arith)

  pub asking-query : arcs_of (table_of arcs) ≡ arcs → query_of (asking arcs nodes s goal k a b room) ≡ record { net = plain nodes arcs; s = s; t = goal; a = a; b = b; room = room }
  asking-query e =
      ap₂ {C = Query} (λ n r. record { net = n; s = s; t = goal; a = a; b = b; room = r }) (no-roads (table_of arcs) (made-no-roads arcs) nodes [] ∙ ap (plain nodes) e) room-is

  pub asking-large : room ≤ most_labels → too_small (asking arcs nodes s goal k a b room) ≡ false
  unfolding too_small
  asking-large h =
      rw (le-ltb (length (zeros (k * (nodes - 1)))) (k * (nodes - 1)) (omega (arith, length-zeros (k * (nodes - 1)))), le-ltb k k (omega arith), le-ltb most_labels (length (zeros (room * label_bytes)) / label_bytes) (omega (arith, room-is)))

-- ---- every row of the table, asked of the call

abbrev pub asks_for : Figure → Input
asks_for f = asking f.asked.net.arcs f.asked.net.nodes f.asked.s f.asked.t f.k f.asked.a f.asked.b f.asked.room

-- what a row's own input rests on
abbrev Fit : Figure → Type 0
Fit f =
    (table_fault f.asked.net.nodes (table_of f.asked.net.arcs) ≡ good) × (arcs_of (table_of f.asked.net.arcs) ≡ f.asked.net.arcs)
    × (plain f.asked.net.nodes f.asked.net.arcs ≡ f.asked.net) × (f.asked.room ≤ most_labels)

unfoldable Fits : List Figure → Type 0
Fits [] = Unit {0}
Fits (f ∷ fs) = Fit f × Fits fs

fits-at : (fs : List Figure) → Fits fs → (f : Figure) → Memᴰ f fs → Fit f
unfolding Fits
fits-at (x ∷ fs) w f (Memᴰ.head e) = subst Fit (sym e) w.0
fits-at [] w f x = elim x [ ]
fits-at (x ∷ fs) w f (Memᴰ.tail m) = fits-at fs w.1 f m

figures-fit : Fits figures
unfolding Fits
figures-fit = (
  (T-good, T-arcs, refl, omega arith),
  (
    (T-good, T-arcs, refl, omega arith),
    (
      (T-good, T-arcs, refl, omega arith),
      (
        (T-good, T-arcs, refl, omega arith),
        (
          (T-good, T-arcs, refl, omega arith),
          (
            (T-good, T-arcs, refl, omega arith),
            (
              (T-good, T-arcs, refl, omega arith),
              (
                (T-good, T-arcs, refl, omega arith),
                ((T-good, T-arcs, refl, omega arith), ((T-good, T-arcs, refl, omega arith), ((two_good, two-arcs, refl, omega arith), ((T-good, T-arcs, refl, omega arith), tt)))),
              ),
            ),
          ),
        ),
      ),
    ),
  ),
)

module _ (f : Figure) (m : Memᴰ f figures) where
  fit : Fit f
  fit = fits-at figures figures-fit f m

  is-asked : query_of (asks_for f) ≡ f.asked
  is-asked =
      asking-query f.asked.net.arcs f.asked.net.nodes f.asked.s f.asked.t f.k f.asked.a f.asked.b f.asked.room fit.1
      ∙ ap (λ n. record { net = n; s = f.asked.s; t = f.asked.t; a = f.asked.a; b = f.asked.b; room = f.asked.room }) fit.2

  -- what the call tells and leaves is what the row says
  pub case-told : (x : Told) (labels' area' : List ℕ) (sums₀ sums' : List Summary) → Replied (asks_for f) x labels' area' sums₀ sums' → x ≡ f.due.told
  case-told x labels' area' sums₀ sums' r =
      r.told
      ∙ figure-told (asks_for f) fit.0 refl (asking-large f.asked.net.arcs f.asked.net.nodes f.asked.s f.asked.t f.k f.asked.a f.asked.b f.asked.room fit.3) f m is-asked refl

  pub case-made : (x : Told) (labels' area' : List ℕ) (sums₀ sums' : List Summary) → Replied (asks_for f) x labels' area' sums₀ sums' → reaches (asks_for f) ≡ true
      → (area' ≡ area_with (f.asked.net.nodes - 1) f.k (asks_for f).area f.due.routes) × (sums' ≡ map as_record f.due.summaries ++ drop f.k sums₀)
  unfolding area_due sums_due
  case-made x labels' area' sums₀ sums' r h =
      let i = asks_for f in
      let w = figure-made i h f m is-asked refl in (
        r.area ∙ ap₂ (λ b ps. cond b (area_with (width i) i.k i.area ps) i.area) h w.0,
        r.sums ∙ ap₂ (λ b l. cond b (map as_record l ++ drop i.k sums₀) sums₀) h w.1,
      )
