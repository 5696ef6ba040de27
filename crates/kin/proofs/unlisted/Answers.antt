-- `kin::unlisted`: a row says its SDS.
use Rattle.std.proofs.Common.{ℕ, sym, ap, ◌∙◌, arith}
use borrow.Author.Count.{below_more}
use Rattle.base.specs.Back.{presence_shown}
use Rattle.base.proofs.Kept.{sound_long}
use Rattle.type_set.specs.Set.{bit}
use Rattle.lookup.proofs.RowBytes.{few_presences, presence_small}
use Rattle.kin.proofs.unlisted.Goals as goal

pub at-requires : goal.at-requires
at-requires c = (omega arith, omega (arith, few_presences c.args.base.now))

pub presence_sds-requires : goal.presence_sds-requires
presence_sds-requires c = (sound_long c.requires.0, omega (arith, few_presences c.args.base.now))

pub lists-requires : goal.lists-requires
lists-requires c = omega (arith, (presence_small c.requires.0 c.at.result (omega arith)).0)

pub loop-i-preserved : goal.loop-i-preserved
loop-i-preserved c =
    let x = c.args in
    below_more _ c.loop-i.i c.loop-i.invariant
    (ap (λ (j : ℕ). bit x.sdss (presence_shown x.base.now j).sds) (sym c.at.ensures.1)
    ∙ sym (c.lists.ensures ∙ ap (bit x.sdss) c.presence_sds.ensures.is) ∙ c.if-lists.false)
