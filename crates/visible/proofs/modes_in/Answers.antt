-- `visible::modes_in`: a row that is shown joins its modes.
use Rattle.std.proofs.Common.{◌≡◌, ◌<◌, sym, ap, ◌∙◌, arith}
use lib.Bits.{bit_or}
use Rattle.base.specs.Back.{presence_count, presence_shown}
use Rattle.base.proofs.Back.{sound_good}
use Rattle.base.proofs.Kept.{sound_long}
use Rattle.base.proofs.Shown.{presence_there}
use Rattle.type_set.specs.Set.{bit}
use Rattle.visible.proofs.ModeLaws.{joined_none, joined_shown, joined_passed, joined_all}
use Rattle.visible.proofs.modes_in.Goals.{then-is_shown, else-is_shown}
use Rattle.visible.proofs.modes_in.Goals as goal

pub loop-i-init : goal.loop-i-init
loop-i-init c =
    let x = c.args in
    (joined_none (bit x.sdss) x.t (λ p. p.usage) x.base.now, joined_none (bit x.sdss) x.t (λ p. p.definition) x.base.now)

pub presence_usage-usage-requires : goal.presence_usage-usage-requires
presence_usage-usage-requires c = (sound_long c.requires, omega (arith, c.count-i-end.ensures.fits))

pub presence_definition-definition-requires : goal.presence_definition-definition-requires
presence_definition-definition-requires c = (sound_long c.requires, omega (arith, c.count-i-end.ensures.fits))

pub loop-i-preserved : goal.loop-i-preserved
loop-i-preserved c =
    let l = c.loop-i in
    let b = c.args.base.now in
    let sdss = bit c.args.sdss in
    let t = c.args.t in
    let h : l.i < presence_count b = omega (arith, c.count-i-end.ensures.is) in
    let known = (sound_good c.requires).modes_known (presence_shown b l.i) (presence_there b l.i h) in
    let shown = c.is_shown.ensures in
    elim c.if-is_shown.branch [
      | then-is_shown w ↦ let it = sym w.if-is_shown.true ∙ shown in (
        w.usage-is ∙ ap (bit_or l.usage) w.presence_usage-usage.ensures.is ∙ joined_shown sdss t (λ p. p.usage) b l.i h known.usage l.invariant.0 it,
        w.definition-is ∙ ap (bit_or l.definition) w.presence_definition-definition.ensures.is
            ∙ joined_shown sdss t (λ p. p.definition) b l.i h known.definition l.invariant.1 it,
      )
      | else-is_shown w ↦ let it = sym w.if-is_shown.false ∙ shown in (
        w.usage-is ∙ joined_passed sdss t (λ p. p.usage) b l.i h known.usage l.invariant.0 it,
        w.definition-is ∙ joined_passed sdss t (λ p. p.definition) b l.i h known.definition l.invariant.1 it,
      )
    ]

pub returns : goal.returns
returns c =
    let x = c.args in
    let l = c.loop-i in
    let end : l.i ≡ presence_count x.base.now = omega (arith, c.count-i-end.ensures.is) in (
      joined_all (bit x.sdss) x.t (λ p. p.usage) x.base.now l.invariant.0 end,
      joined_all (bit x.sdss) x.t (λ p. p.definition) x.base.now l.invariant.1 end,
    )
