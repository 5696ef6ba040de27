-- Without a row no type bears the name; else the type of the row that was found does.
use Rattle.std.proofs.Common.{arith, ℕ, Option, sym, subst}
use Rattle.std.specs.Option.{unwrap_or}
use Rattle.base.proofs.Back.{sound_good}
use Rattle.base.specs.Back.{schema_of}
use Rattle.base.proofs.Kept.{sound_long}
use Rattle.lookup.specs.Found.{NamedIn}
use Rattle.lookup.proofs.RowBytes.{few_presences}
use Rattle.lookup.proofs.NamedLaws.{type_below, named_here, named_not_here}
use Rattle.lookup.proofs.named.type_in.Goals as goal

pub row_named-requires : goal.row_named-requires
row_named-requires c = sound_long c.requires

pub returns-in_err-row-clause-named : goal.returns-in_err-row-clause-named
returns-in_err-row-clause-named c =
    let x = c.args in
    subst (λ (o : Option ℕ). NamedIn (schema_of x.base.now) x.d x.name.now (unwrap_or o 128)) (sym c.from_residual.ensures)
    (named_not_here c.in_err-row.ensures.first (omega arith))

pub presence_type-requires : goal.presence_type-requires
presence_type-requires c = (sound_long c.requires, omega (arith, c.in_ok-row.ensures.below, few_presences c.args.base.now))

pub returns-clause-named : goal.returns-clause-named
returns-clause-named c = named_here c.in_ok-row.ensures.first (sound_good c.requires) c.in_ok-row.ensures.below _ c.presence_type.ensures.is

pub returns-clause-below : goal.returns-clause-below
returns-clause-below c =
    omega (arith, c.presence_type.ensures.is, type_below c.args.base.now (sound_good c.requires) c.in_ok-row.row c.in_ok-row.ensures.below)
