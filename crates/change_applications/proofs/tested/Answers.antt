-- What apply and unapply test of their types: what was told of the two names, then the kinds of their types.
use Rattle.std.proofs.Common.{refl, ◌∙◌}
use Rattle.std.proofs.lemmas.Result.{IfOk-from_err}
use Rattle.rules.specs.declared.Refused.TheVariants.{WrongKind}
use Rattle.rules.specs.01-Lists.{all}
use Rattle.base.proofs.Kept.{sound_long}
use Rattle.base.proofs.TestedLaws.{come_next, come_through, first_on}
use Rattle.conditions.proofs.AimedLaws.{come_on, refused_here}
use Rattle.change_applications.proofs.ApplyLaws.{wrong_named}
use Rattle.change_applications.proofs.tested.Goals as goal

pub returns-in_err-a : goal.returns-in_err-a
returns-in_err-a c =
    let on = c.from_residual.ensures in
    record { told = first_on _ _ on _ c.in_err-a.ensures.told; so = IfOk-from_err _ _ on.0 }

pub is_wrong_kind-requires : goal.is_wrong_kind-requires
is_wrong_kind-requires c = sound_long c.requires

pub returns-then-is_wrong_kind : goal.returns-then-is_wrong_kind
unfolding all
returns-then-is_wrong_kind c =
    let named = c.in_ok-a.ensures in
    refused_here WrongKind (come_on named.told refl refl _) (wrong_named named.so c.is_wrong_kind.ensures ∙ c.if-is_wrong_kind.true) refl refl

pub returns : goal.returns
unfolding all
returns c =
    let named = c.in_ok-a.ensures in
    record {
      told = come_through (come_next (come_on named.told refl refl _) (wrong_named named.so c.is_wrong_kind.ensures ∙ c.if-is_wrong_kind.false));
      so = named.so;
    }
