-- Only the first outcome has the number 0, so what is told of a refusal never reads as 0.
use Rattle.std.proofs.Common.{◌≢◌, refl, arith}
use Rattle.outcome.specs.declared.Outcome.{Outcome}
use Rattle.outcome.specs.declared.Outcome.TheVariants.{Found, Fewer, Node, Loop, Length, Order, Ends, Routes, Threshold, Buffers, Room, Text, Size, File, Closures, PlanFile, PlanRequest, PlanThere, PlanRoom, Second, NoPair, Range, ListFull, TooFew, OldForm, Numbered}
use Rattle.outcome.specs.declared.Refusal.{Refusal}
use Rattle.outcome.specs.Outcome.{number_of, told_of}

pub not_found : (outcome : Outcome) → outcome ≢ Found → number_of outcome ≢ 0
not_found Found ne z = ne refl
not_found Fewer ne z = absurd (omega arith)
not_found Node ne z = absurd (omega arith)
not_found Loop ne z = absurd (omega arith)
not_found Length ne z = absurd (omega arith)
not_found Order ne z = absurd (omega arith)
not_found Ends ne z = absurd (omega arith)
not_found Routes ne z = absurd (omega arith)
not_found Threshold ne z = absurd (omega arith)
not_found Buffers ne z = absurd (omega arith)
not_found Room ne z = absurd (omega arith)
not_found Text ne z = absurd (omega arith)
not_found Size ne z = absurd (omega arith)
not_found File ne z = absurd (omega arith)
not_found Closures ne z = absurd (omega arith)
not_found PlanFile ne z = absurd (omega arith)
not_found PlanRequest ne z = absurd (omega arith)
not_found PlanThere ne z = absurd (omega arith)
not_found PlanRoom ne z = absurd (omega arith)
not_found Second ne z = absurd (omega arith)
not_found NoPair ne z = absurd (omega arith)
not_found Range ne z = absurd (omega arith)
not_found ListFull ne z = absurd (omega arith)
not_found TooFew ne z = absurd (omega arith)
not_found OldForm ne z = absurd (omega arith)
not_found Numbered ne z = absurd (omega arith)

-- what is told of a refusal has another outcome than 0
pub refused_not_zero : (refusal : Refusal) → (told_of refusal).outcome ≢ 0
refused_not_zero refusal = not_found refusal.outcome refusal.refused
