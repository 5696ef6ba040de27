-- The place of one new type: what its two parts tell, and the value kind between them, are its refusals.
use Rattle.std.proofs.Common.{refl}
use Rattle.std.proofs.lemmas.Result.{IfOk-from_err}
use Rattle.rules.specs.declared.Refused.TheVariants.{UnknownCode}
use Rattle.base.proofs.TestedLaws.{tested_sound, first_on}
use Rattle.conditions.proofs.AimedLaws.{refused_here, come_aimed}
use Rattle.change_types.proofs.CreateLaws.{room_placed}
use Rattle.change_types.proofs.place_for.Goals as goal

pub returns-in_err-aimed : goal.returns-in_err-aimed
returns-in_err-aimed c =
    let on = c.from_residual.ensures in
    record { told = first_on _ _ on _ c.in_err-aimed.ensures; so = IfOk-from_err _ _ on.0 }

pub returns-then-unknown : goal.returns-then-unknown
returns-then-unknown c = refused_here UnknownCode (come_aimed _ c.in_ok-aimed.ensures refl _) c.if-unknown.true refl refl

pub room_for-requires : goal.room_for-requires
room_for-requires c = tested_sound c.in_ok-aimed.ensures refl

pub returns : goal.returns
returns c = room_placed c.in_ok-aimed.ensures c.if-unknown.false c.room_for.ensures
