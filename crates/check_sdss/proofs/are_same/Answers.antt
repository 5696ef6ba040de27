-- The first halves tell names apart, or the second ones decide.
use Rattle.std.proofs.Common.{arith, sym, ◌∙◌}
use mathlib.Core.Path.{ap₂}
use lib.Dec.{eqb}
use borrow.Author.Tests.{ne_eqb}
use Rattle.rows.proofs.FoldLaws.{low_part, first_half_other, first_half_same}
use Rattle.check_sdss.proofs.are_same.Goals as goal

pub folded-requires : goal.folded-requires
folded-requires c = let a = c.requires.0 in (omega (arith, a.long), low_part _ 0 8 a.each (omega (arith, a.long)))

pub folded-requires-2 : goal.folded-requires-2
folded-requires-2 c = let b = c.requires.1 in (omega (arith, b.long), low_part _ 0 8 b.each (omega (arith, b.long)))

pub folded-requires-then-folded : goal.folded-requires-then-folded
folded-requires-then-folded c = let a = c.requires.0 in (omega (arith, a.long), low_part _ 8 8 a.each (omega (arith, a.long)))

pub folded-requires-then-folded-2 : goal.folded-requires-then-folded-2
folded-requires-then-folded-2 c = let b = c.requires.1 in (omega (arith, b.long), low_part _ 8 8 b.each (omega (arith, b.long)))

pub returns-then-folded : goal.returns-then-folded
returns-then-folded c =
    let bytes = c.type_inv in
    ap₂ eqb c.folded-then-folded.ensures c.folded-then-folded-2.ensures
    ∙ sym (first_half_same c.requires.0 c.requires.1 (λ j. (bytes.a j).fits) (λ j. (bytes.b j).fits)
    (sym c.folded.ensures ∙ c.if-folded.true ∙ c.folded-2.ensures))

pub returns-else-folded : goal.returns-else-folded
returns-else-folded c =
    let bytes = c.type_inv in
    ne_eqb c.folded.result c.folded-2.result c.if-folded.false
    ∙ sym (first_half_other c.requires.0 c.requires.1 (λ j. (bytes.a j).fits) (λ j. (bytes.b j).fits)
    (λ e. c.if-folded.false (c.folded.ensures ∙ e ∙ sym c.folded-2.ensures)))
