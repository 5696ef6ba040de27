-- What is wrong with the SDS or the two names that a call is given: what was told of the SDS, and else of either name.
use Rattle.std.proofs.Common.{refl, sym, ◌∙◌}
use Rattle.rules.specs.01-Lists.{all}
use Rattle.rules.specs.09-Refusals.{malformed}
use Rattle.rules.proofs.Bools.{or_left, or_right}
use Rattle.rules.proofs.NameTests.{formed_passes, malformed_stops}
use Rattle.base.proofs.TestedLaws.{come_next, come_stops, come_through, first_on}
use Rattle.conditions.proofs.AimedLaws.{come_on, neither}
use Rattle.conditions.proofs.aimed.aimed_two.Goals as goal

pub returns-in_err-aimed_at : goal.returns-in_err-aimed_at
returns-in_err-aimed_at c = first_on _ _ c.from_residual.ensures _ c.in_err-aimed_at.ensures

pub returns-then-not-is_well_formed : goal.returns-then-not-is_well_formed
unfolding all
returns-then-not-is_well_formed c =
    come_stops (come_on c.in_ok-aimed_at.ensures refl refl _)
    (or_left _ _ (malformed_stops _ (sym c.is_well_formed.ensures ∙ c.if-not-is_well_formed.true))) refl

pub returns-then-not-is_well_formed-2 : goal.returns-then-not-is_well_formed-2
unfolding all
returns-then-not-is_well_formed-2 c =
    come_stops (come_on c.in_ok-aimed_at.ensures refl refl _)
    (or_right (malformed c.args.name.now) _ (malformed_stops _ (sym c.is_well_formed-2.ensures ∙ c.if-not-is_well_formed-2.true))) refl

pub returns : goal.returns
unfolding all
returns c =
    come_through (come_next (come_on c.in_ok-aimed_at.ensures refl refl _) (neither
    (formed_passes _ (sym c.is_well_formed.ensures ∙ c.if-not-is_well_formed.false))
    (formed_passes _ (sym c.is_well_formed-2.ensures ∙ c.if-not-is_well_formed-2.false))))
