-- The places of a pair: what was told of its SDS and names, then its refusals test by test.
use Rattle.std.proofs.Common.{refl, sym, ◌∙◌}
use Rattle.std.proofs.lemmas.Result.{IfOk-from_err}
use Rattle.rules.specs.declared.Refused.TheVariants.{UnknownCode, NameTaken}
use Rattle.base.proofs.TestedLaws.{tested_sound, come_next, first_on}
use Rattle.conditions.proofs.AimedLaws.{refused_here, come_aimed}
use Rattle.change_pairs.proofs.PairLaws.{pair_placed}
use Rattle.change_pairs.proofs.places_for.Goals as goal

pub returns-in_err-aimed_two : goal.returns-in_err-aimed_two
returns-in_err-aimed_two c =
    let on = c.from_residual.ensures in
    record { told = first_on _ _ on _ c.in_err-aimed_two.ensures; so = IfOk-from_err _ _ on.0 }

pub returns-then-is_no_pair : goal.returns-then-is_no_pair
returns-then-is_no_pair c =
    refused_here UnknownCode (come_aimed _ c.in_ok-aimed_two.ensures refl _) (sym c.is_no_pair.ensures ∙ c.if-is_no_pair.true) refl refl

pub are_taken-requires : goal.are_taken-requires
are_taken-requires c = tested_sound c.in_ok-aimed_two.ensures refl

pub returns-then-are_taken : goal.returns-then-are_taken
returns-then-are_taken c =
    refused_here NameTaken
    (come_next (come_aimed _ c.in_ok-aimed_two.ensures refl _) (sym c.is_no_pair.ensures ∙ c.if-is_no_pair.false))
    (sym c.are_taken.ensures ∙ c.if-are_taken.true) refl refl

pub room_for_two-requires : goal.room_for_two-requires
room_for_two-requires c = tested_sound c.in_ok-aimed_two.ensures refl

pub returns : goal.returns
returns c =
    pair_placed c.in_ok-aimed_two.ensures (sym c.is_no_pair.ensures ∙ c.if-is_no_pair.false) (sym c.are_taken.ensures ∙ c.if-are_taken.false)
    c.room_for_two.ensures
