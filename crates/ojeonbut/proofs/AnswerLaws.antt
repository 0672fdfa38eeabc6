-- The answer of a core, as the exported queries hand it on: the machine values of its fields, and what is due once as many records are written as it says.
use mathlib.Core.Path.{◌≡◌, ◌∙◌}
use Prim.Native.Nat.{ℕ, ◌+◌, ◌*◌, ◌<◌, ◌^◌}
use mathlib.Core.List.{[], ◌∷◌, List}
use mir.Val.{Val}
use denote.Laws.{Is}
use denote.Struct.Laws as LL
use Rattle.net.specs.Limits.{most_routes}
use Rattle.summary.specs.declared.Summary.{Summary}
use Rattle.summary.specs.Sums.{written}
use Rattle.summary.specs.contracts.Sums as S
use Rattle.summary.proofs.Sums.TheLaws as S'
use Rattle.outcome.specs.contracts.Told as O
use Rattle.outcome.proofs.Told.TheLaws as O'
use Rattle.query_rounds.specs.declared.Got.{Got}
use Rattle.query_rounds.specs.contracts.Got as G
use Rattle.query_rounds.proofs.Got.TheLaws as G'
use Rattle.query.specs.Query.{Input, Replied, Cored}
use Rattle.query_via.specs.Via as Via
use Rattle.query_pair.specs.Pair as Pair

-- Where the field after the summaries stands: behind the 8 bytes of what is told, and 8, 2 and 2 bytes for each route.
abbrev pub after-sums : ℕ
after-sums = 8 + 12 * most_routes

abbrev pub mach : Got → Val
mach g = LL.tuple_val G.the_type G'.the_laws ((G.the_type).to g)

abbrev pub mach-sums : Got → Val
mach-sums g = LL.tuple_val S.the_type S'.the_laws ((S.the_type).to g.sums)

abbrev pub mach-told : Got → Val
mach-told g = LL.tuple_val O.the_type O'.the_laws ((O.the_type).to g.told)

module _ (g : Got) (is : Is G.the_row g (mach g ∷ [])) where
  pub is-told : Is O.the_row g.told (mach-told g ∷ [])
  is-told = (LL.owed G.the_type G'.the_laws g _ is).0

  pub is-sums : Is S.the_row g.sums (mach-sums g ∷ [])
  is-sums = (LL.owed G.the_type G'.the_laws g _ is).1.0

  pub n-fits : g.n < 2 ^ 64
  n-fits = (LL.owed G.the_type G'.the_laws g _ is).1.1.0.1

-- the summaries that were written are those due
pub replied : (i : Input) (g : Got) (xs us : List ℕ) (ys zs : List Summary) → Cored i g xs us → zs ≡ written g.sums g.n ys → Replied i g.told xs us ys zs
replied i g xs us ys zs said e = record { told = said.told; labels = said.labels; area = said.area; sums = e ∙ said.sums ys }

-- and those of a query for via routes
pub replied-via : (i : Via.Input) (g : Got) (us ws : List ℕ) (ys zs : List Summary) → Via.Cored i g us ws → zs ≡ written g.sums g.n ys → Via.Replied i g.told us ws ys zs
replied-via i g us ws ys zs said e = record { told = said.told; area = said.area; work = said.work; sums = e ∙ said.sums ys }

-- and those of a call for a pair
pub replied-pair : (i : Pair.Input) (g : Got) (us ws : List ℕ) (ys zs : List Summary) → Pair.Cored i g us ws → zs ≡ written g.sums g.n ys → Pair.Replied i g.told us ws ys zs
replied-pair i g us ws ys zs said e = record { told = said.told; work = said.work; routes = said.routes; right = said.right; area = said.area; sums = e ∙ said.sums ys }
