-- What the calls on ends test of their types: what was told of the two names, then the kinds of their types.
use Rattle.std.proofs.Common.{refl}
use Rattle.std.proofs.lemmas.Result.{IfOk-from_err}
use Rattle.rules.specs.declared.Refused.TheVariants.{WrongKind}
use Rattle.rules.specs.01-Lists.{all}
use Rattle.base.proofs.Kept.{sound_long}
use Rattle.base.proofs.TestedLaws.{come_next, come_through, first_on}
use Rattle.conditions.proofs.AimedLaws.{come_on, refused_here}
use Rattle.change_ends.proofs.EndLaws.{no_link_there, no_object_there, both_kinds}
use Rattle.change_ends.proofs.aimed_at.Goals as goal

pub returns-in_err-l : goal.returns-in_err-l
returns-in_err-l c =
    let on = c.from_residual.ensures in
    record { told = first_on _ _ on _ c.in_err-l.ensures.told; so = IfOk-from_err _ _ on.0 }

pub kind-requires : goal.kind-requires
kind-requires c = (sound_long c.requires, c.in_ok-l.ensures.so.one.below)

pub returns-then-kind-ne-LINK : goal.returns-then-kind-ne-LINK
unfolding all
returns-then-kind-ne-LINK c =
    let named = c.in_ok-l.ensures in
    refused_here WrongKind (come_on named.told refl refl _) (no_link_there named.so c.kind.ensures c.if-kind-ne-LINK.true) refl refl

pub kind-requires-2 : goal.kind-requires-2
kind-requires-2 c = (sound_long c.requires, c.in_ok-l.ensures.so.two.below)

pub returns-then-kind-ne-OBJECT : goal.returns-then-kind-ne-OBJECT
unfolding all
returns-then-kind-ne-OBJECT c =
    let named = c.in_ok-l.ensures in
    refused_here WrongKind (come_on named.told refl refl _) (no_object_there named.so c.kind-2.ensures c.if-kind-ne-OBJECT.true) refl refl

pub returns : goal.returns
unfolding all
returns c =
    let named = c.in_ok-l.ensures in
    record {
      told = come_through (come_next (come_on named.told refl refl _)
          (both_kinds named.so c.kind.ensures c.if-kind-ne-LINK.false c.kind-2.ensures c.if-kind-ne-OBJECT.false));
      so = named.so;
    }
