-- The first row that is found is of the first SDS that has the name.
use Rattle.std.proofs.Common.{ℕ, sym, ap, ◌∙◌, arith}
use borrow.Author.Count.{below_more}
use Rattle.rules.specs.04-Schema.{bears, type_named}
use Rattle.base.specs.Back.{schema_of}
use Rattle.base.proofs.Back.{sound_good}
use Rattle.base.proofs.Kept.{sound_long}
use Rattle.lookup.proofs.NamedLaws.{bears_none, bears_it, type_is, type_below}
use Rattle.lookup.proofs.RowBytes.{few_presences}
use Rattle.working.proofs.FindLaws.{named_first, named_nowhere}
use Rattle.working.proofs.find.type_named.Goals as goal

pub row_named-requires : goal.row_named-requires
row_named-requires c = sound_long c.requires

pub presence_type-requires : goal.presence_type-requires
presence_type-requires c = (sound_long c.requires, omega (arith, c.in-Some.ensures.below, few_presences c.args.base.now))

pub returns-in-Some-clause-named : goal.returns-in-Some-clause-named
returns-in-Some-clause-named c =
    let b = c.args.base.now in
    let n = c.args.name.now in
    let row = c.in-Some.ensures in
    let d = c.wide.ensures.0 in
    named_first (schema_of b) c.args.schema.now n c.loop-d.d-index _ c.loop-d-test.true c.loop-d.invariant
    (ap (λ (e : ℕ). bears (schema_of b) e n) (sym d) ∙ bears_it row.first row.below)
    (omega (arith, type_below b (sound_good c.requires) _ row.below, c.presence_type.ensures.is))
    (c.presence_type.ensures.is ∙ type_is row.first row.below ∙ ap (λ (e : ℕ). type_named (schema_of b) e n) d)

pub returns-in-Some-clause-below : goal.returns-in-Some-clause-below
returns-in-Some-clause-below c =
    omega (arith, type_below c.args.base.now (sound_good c.requires) c.in-Some.row c.in-Some.ensures.below, c.presence_type.ensures.is)

pub loop-d-preserved : goal.loop-d-preserved
loop-d-preserved c =
    let b = c.args.base.now in
    let n = c.args.name.now in
    below_more _ _ c.loop-d.invariant
    (ap (λ (e : ℕ). bears (schema_of b) e n) (sym c.wide.ensures.0) ∙ bears_none c.in_default.ensures.first (omega arith))

pub returns-clause-named : goal.returns-clause-named
returns-clause-named c =
    named_nowhere (schema_of c.args.base.now) c.args.schema.now c.args.name.now
    (λ k h. c.loop-d.invariant k (omega (arith, c.loop-d-test.false)))
