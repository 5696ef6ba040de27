-- Each row in turn, and then all of them.
use Rattle.std.proofs.Common.{arith}
use Rattle.base.proofs.StoredLaws.{shows_stored}
use Rattle.change_presences.proofs.ModesLaws.{asked_none, asked_count, asked_rise, asked_more, asked_all}
use Rattle.change_presences.proofs.modes.write_all.Goals as goal

pub loop-i-init : goal.loop-i-init
loop-i-init c = let x = c.args in (omega arith, λ s. asked_none s x.d x.t x.reverse x.modes.usage x.modes.definition)

pub write_if-requires-clause-stored : goal.write_if-requires-clause-stored
write_if-requires-clause-stored c = shows_stored (c.loop-i.invariant.1 c.requires.sound.0)

pub write_if-requires-clause-i_bound : goal.write_if-requires-clause-i_bound
write_if-requires-clause-i_bound c =
    let x = c.args in
    let l = c.loop-i in
    let s = c.requires.sound.0 in (
      omega (
        arith,
        c.loop-i-test.true,
        c.count-i-end.ensures.is,
        asked_count s x.d x.t x.reverse x.modes.usage x.modes.definition l.i (l.invariant.1 s),
      ),
      c.requires.sound.1,
    )

pub write_if-requires-clause-base_value : goal.write_if-requires-clause-base_value
write_if-requires-clause-base_value c =
    let x = c.args in
    let l = c.loop-i in
    let s = c.requires.sound.0 in
    asked_rise s x.d x.t x.reverse x.modes.usage x.modes.definition l.i (l.invariant.1 s)

pub loop-i-preserved : goal.loop-i-preserved
loop-i-preserved c =
    let x = c.args in
    let l = c.loop-i in (
      omega (arith, c.loop-i-test.true, c.count-i-end.ensures.is),
      λ s. asked_more s x.d x.t x.reverse x.modes.usage x.modes.definition l.i (l.invariant.1 s) c.write_if.ensures,
    )

pub returns : goal.returns
returns c =
    let x = c.args in
    let l = c.loop-i in
    let s = c.requires.sound.0 in
    asked_all s x.d x.t x.reverse x.modes.usage x.modes.definition l.i (l.invariant.1 s)
    (omega (arith, c.loop-i-test.false, l.invariant.0, c.count-i-end.ensures.is))
