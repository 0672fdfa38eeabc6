-- The answer of the core with ratios, as the exported query hands it on: the machine values of its fields that the plain answer has not, and what is due once as many records of both kinds are written as it says.
use mathlib.Core.Path.{◌≡◌, ◌∙◌}
use Prim.Native.Nat.{ℕ, ◌+◌, ◌*◌, ◌<◌, ◌^◌}
use mathlib.Core.List.{[], ◌∷◌, List}
use mir.Val.{Val}
use denote.Laws.{Is}
use denote.Struct.Laws as LL
use Rattle.net.specs.Limits.{most_routes}
use Rattle.summary.specs.declared.Summary.{Summary}
use Rattle.summary.specs.Sums as Sums
use Rattle.summary.specs.contracts.Sums as S
use Rattle.outcome.specs.contracts.Told as O
use Rattle.ratios.specs.declared.Ratios.{Ratios}
use Rattle.ratios.specs.Rows as Rows
use Rattle.ratios.specs.contracts.Rows as Q
use Rattle.ratios.proofs.Rows.TheLaws as Q'
use Rattle.query.specs.Query.{Input}
use Rattle.query_ratios.specs.declared.Rated.{Rated}
use Rattle.query_ratios.specs.Rated.{RepliedRatios, CoredRatios, got_of}
use Rattle.query_ratios.specs.contracts.Rated as R
use Rattle.query_ratios.proofs.Rated.TheLaws as R'
use Rattle.ojeonbut.proofs.AnswerLaws.{after-sums, mach-sums, mach-told, replied}

-- Where the field after the ratios stands: two floats for each route further.
abbrev pub after-rows : ℕ
after-rows = after-sums + 16 * most_routes

abbrev pub mach-rated : Rated → Val
mach-rated g = LL.tuple_val R.the_type R'.the_laws ((R.the_type).to g)

abbrev pub mach-rows : Rated → Val
mach-rows g = LL.tuple_val Q.the_type Q'.the_laws ((Q.the_type).to g.rows)

module _ (g : Rated) (is : Is R.the_row g (mach-rated g ∷ [])) where
  pub is-told : Is O.the_row g.told (mach-told (got_of g) ∷ [])
  is-told = (LL.owed R.the_type R'.the_laws g _ is).0

  pub is-sums : Is S.the_row g.sums (mach-sums (got_of g) ∷ [])
  is-sums = (LL.owed R.the_type R'.the_laws g _ is).1.0

  pub is-rows : Is Q.the_row g.rows (mach-rows g ∷ [])
  is-rows = (LL.owed R.the_type R'.the_laws g _ is).1.1.0

  pub n-fits : g.n < 2 ^ 64
  n-fits = (LL.owed R.the_type R'.the_laws g _ is).1.1.1.0.1

-- the summaries and the ratios that were written are those due
pub replied-ratios : (i : Input) (g : Rated) (xs us : List ℕ) (ys zs : List Summary) (bs cs : List Ratios) → CoredRatios i g xs us → zs ≡ Sums.written g.sums g.n ys → cs ≡ Rows.written g.rows g.n bs → RepliedRatios i g.told xs us ys zs bs cs
replied-ratios i g xs us ys zs bs cs said e d = record { replied = replied i (got_of g) xs us ys zs said.cored e; ratios = d ∙ said.ratios bs }
