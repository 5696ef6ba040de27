-- The type of a name is found, or there is none.
use Rattle.std.proofs.Common.{refl, arith}
use Rattle.rules.specs.declared.Refused.TheVariants.{NoSuchType}
use Rattle.base.proofs.TestedLaws.{come_first, come_next, come_through}
use Rattle.conditions.proofs.AimedLaws.{refused_here, missing, there, type_found}
use Rattle.conditions.proofs.aimed.named.Goals as goal

pub returns-in_default : goal.returns-in_default
returns-in_default c = refused_here NoSuchType (come_first c.requires) (missing c.in_default.ensures.named refl) refl refl

pub returns : goal.returns
returns c =
    let found = c.in-Some.ensures in
    record {
      told = come_through (come_next (come_first c.requires) (there found.named (λ z. omega arith)));
      so = type_found found.named (λ z. omega arith);
    }
