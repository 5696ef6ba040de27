-- The SDS of the row is that of row `last`, or none that may stand behind it, or a later one.
use Rattle.std.proofs.Common.{arith, sym, ap, ◌∙◌}
use Rattle.rules.specs.04-Schema.{used_sds}
use Rattle.base.specs.Back.{schema_of}
use Rattle.lookup.proofs.SdsShown.{used_below}
use Rattle.check_presences.proofs.FloorLaws.{begun_same, begun_back, begun_unused, begun_new}
use Rattle.check_presences.proofs.begun.Goals.{then-d-before-2-via-then-d-before-2, then-d-before-2-via-else-d-before-2+then-not-is_sds}
use Rattle.check_presences.proofs.begun.Goals as goal

pub returns-then-d-before : goal.returns-then-d-before
returns-then-d-before c =
    let x = c.requires in
    begun_same c.args.base.now x.base_len.0 x.last (sym c.presence_sds-before.ensures.is ∙ sym c.if-d-before.true ∙ c.presence_sds-d.ensures.is)

pub returns-then-d-before-2 : goal.returns-then-d-before-2
returns-then-d-before-2 c =
    let b = c.args.base.now in
    let x = c.requires in
    elim c.then-d-before-2.branch [
      | then-d-before-2-via-then-d-before-2 w ↦ begun_back b x.base_len.0 x.last
          (omega (arith, c.presence_sds-before.ensures.is, c.presence_sds-d.ensures.is, w.if-d-before-2.true))
      | then-d-before-2-via-else-d-before-2+then-not-is_sds w ↦ begun_unused b x.base_len.0 x.last
          (ap (used_sds (schema_of b)) (sym c.presence_sds-d.ensures.is) ∙ sym w.is_sds.ensures ∙ w.if-not-is_sds.true)
    ]

pub overflow_shl-d : goal.overflow_shl-d
overflow_shl-d c =
    used_below c.args.base.now c.requires.base_len.0 c.presence_sds-d.result (sym c.is_sds.ensures ∙ c.if-not-is_sds.false)

pub returns : goal.returns
returns c =
    let x = c.requires in
    begun_new c.args.base.now x.base_len.0 x.last c.presence_sds-d.ensures.is
    (omega (arith, c.presence_sds-before.ensures.is, c.if-d-before-2.false, c.if-d-before.false)) (sym c.is_sds.ensures ∙ c.if-not-is_sds.false)
    c.bottom.ensures
