-- The tests are the fields of `ObjectFine`.
use Rattle.std.proofs.Common.{ℕ, ◌<◌, arith, sym, ap, ◌∙◌}
use mathlib.Core.Bool.{true≢false}
use Rattle.rules.specs.04-Schema.{kind_of, is_object, present}
use Rattle.base.specs.Back.{schema_of}
use Rattle.lookup.proofs.KindBytes.{object_byte}
use Rattle.check_held.proofs.HeldLaws.{is_held}
use Rattle.check_ends.proofs.GroupLaws.{sds_small, object_small}
use Rattle.check_ends.proofs.object_fine.Goals as goal

pub is_held-requires-clause-held_len : goal.is_held-requires-clause-held_len
is_held-requires-clause-held_len c = (c.requires.reached.1.holds.room, omega (arith, c.end_sds.ensures.is, sds_small c.requires.reached.0))

pub is_held-requires-clause-t_lt_types : goal.is_held-requires-clause-t_lt_types
is_held-requires-clause-t_lt_types c = omega (arith, c.end_object-o.ensures.is, object_small c.requires.reached.0)

pub returns : goal.returns
returns c =
    let b = c.args.base.now in
    let d = c.end_sds.ensures.is in
    let o = c.end_object-o.ensures.is in
    let object : c.end_object-o.result < 128 = omega (arith, o, object_small c.requires.reached.0) in
    let tested = object_byte b _ _ object c.kind.ensures.is ∙ ap (λ (m : ℕ). is_object (kind_of (schema_of b) m)) o in
    let there = is_held c.requires.reached.1.holds c.is_held.ensures c.if-not-is_held.false in
    record {
      holds = λ e. record { is = sym tested ∙ e; held = sym (λ j. present (schema_of b) (d j) (o j)) ∙ there };
      fails = λ e f. true≢false (sym (tested ∙ f.is) ∙ e);
    }
