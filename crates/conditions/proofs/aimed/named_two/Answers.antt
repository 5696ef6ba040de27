-- The types of two names are found, or one of them is not.
use Rattle.std.proofs.Common.{refl, arith}
use Rattle.rules.specs.declared.Refused.TheVariants.{NoSuchType}
use Rattle.rules.specs.09-Refusals.{no_such_name}
use Rattle.rules.proofs.Bools.{or_left, or_right}
use Rattle.base.specs.Back.{schema_of}
use Rattle.base.proofs.TestedLaws.{come_first, come_next, come_through}
use Rattle.conditions.proofs.AimedLaws.{refused_here, missing, there, type_found, neither}
use Rattle.conditions.proofs.aimed.named_two.Goals as goal

pub returns-in_default : goal.returns-in_default
returns-in_default c =
    refused_here NoSuchType (come_first c.requires) (or_left _ _ (missing c.in_default.ensures.named refl)) refl refl

pub returns-in_default-type_in : goal.returns-in_default-type_in
returns-in_default-type_in c =
    let x = c.args in
    refused_here NoSuchType (come_first c.requires)
    (or_right (no_such_name (schema_of x.base.now) x.sds x.name.now) _ (missing c.in_default-type_in.ensures.named refl)) refl refl

pub returns : goal.returns
returns c =
    let one = c.in-Some.ensures in
    let two = c.in-Some-type_in.ensures in
    record {
      told = come_through (come_next (come_first c.requires) (neither (there one.named (λ z. omega arith)) (there two.named (λ z. omega arith))));
      so = record { one = type_found one.named (λ z. omega arith); two = type_found two.named (λ z. omega arith) };
    }
