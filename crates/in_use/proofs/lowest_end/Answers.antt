-- The lowest that the rows of the table tell.
use Rattle.std.proofs.Common.{rules, arith, ◌∷◌}
use Rattle.std.specs.Prelude.{◌<◌, option_to_list}
use Rattle.base.specs.Back.{end_shown, end_count}
use Rattle.base.proofs.Kept.{sound_long}
use Rattle.in_use.specs.Held.{end_told}
use Rattle.in_use.proofs.HeldLaws.{ends_lowest}
use Rattle.in_use.proofs.lowest_end.Goals as goal

pub end_count-requires : goal.end_count-requires
end_count-requires c = sound_long c.requires

pub lowest_of-requires : goal.lowest_of-requires
lowest_of-requires c = λ i h. let below : i < end_count c.args.base.now = omega (arith, h, c.end_count.ensures.is) in search rules

pub returns : goal.returns
returns c =
    let x = c.args in
    ends_lowest _ _ _ c.end_count.ensures.is
    (c.lowest_of.ensures (λ i. end_told x.d (x.t ∷ option_to_list x.reverse) (end_shown x.base.now i)) (λ i r h told. search rules))
