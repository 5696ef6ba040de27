-- The lowest that the rows of the table tell.
use Rattle.std.proofs.Common.{rules, arith, ◌∷◌}
use Rattle.std.specs.Prelude.{◌<◌, option_to_list}
use Rattle.base.specs.Back.{application_shown, application_count}
use Rattle.base.proofs.Kept.{sound_long}
use Rattle.in_use.specs.Held.{application_told}
use Rattle.in_use.proofs.HeldLaws.{applied_lowest}
use Rattle.in_use.proofs.lowest_applied.Goals as goal

pub application_count-requires : goal.application_count-requires
application_count-requires c = sound_long c.requires

pub lowest_of-requires : goal.lowest_of-requires
lowest_of-requires c = λ i h. let below : i < application_count c.args.base.now = omega (arith, h, c.application_count.ensures.is) in search rules

pub returns : goal.returns
returns c =
    let x = c.args in
    applied_lowest _ _ _ c.application_count.ensures.is
    (c.lowest_of.ensures (λ i. application_told x.d (x.t ∷ option_to_list x.reverse) (application_shown x.base.now i)) (λ i r h told. search rules))
