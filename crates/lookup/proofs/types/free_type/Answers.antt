-- The first byte of a type's row tells whether its number is used.
use Rattle.std.proofs.Common.{sym, ap, not, ◌∙◌, arith}
use borrow.Author.Count.{below_more}
use borrow.Author.Tests.{eq-eqb, ne_eqb}
use Rattle.base.proofs.Kept.{sound_long}
use Rattle.lookup.proofs.KindBytes.{used_byte}
use Rattle.lookup.proofs.types.free_type.Goals as goal

pub kind-requires : goal.kind-requires
kind-requires c = (sound_long c.requires, c.loop-t-test.true)

pub returns-then-kind-eq-UNUSED-clause-lowest : goal.returns-then-kind-eq-UNUSED-clause-lowest
returns-then-kind-eq-UNUSED-clause-lowest c =
    let l = c.loop-t in
    let k = c.kind in
    record {
      fits = omega (arith, c.loop-t-test.true);
      used = λ t h u. l.invariant t u h;
      free = λ h. (omega (arith, c.loop-t.auto.t), sym (used_byte c.requires l.t k.result h k.ensures.is) ∙ ap not (eq-eqb k.result 0 c.if-kind-eq-UNUSED.true));
    }

pub loop-t-preserved : goal.loop-t-preserved
loop-t-preserved c =
    let l = c.loop-t in
    let k = c.kind in
    below_more _ _ l.invariant
    (λ h. sym (used_byte c.requires l.t k.result c.loop-t-test.true k.ensures.is) ∙ ap not (ne_eqb k.result 0 c.if-kind-eq-UNUSED.false))
