-- The tests are the fields of `LinkFine`.
use Rattle.std.proofs.Common.{◌≡◌, ℕ, ◌<◌, arith, sym, ap, ◌∙◌}
use borrow.Author.Tests.{eqb-true, eq-eqb}
use Rattle.rules.specs.04-Schema.{kind_of, is_link, present}
use Rattle.rows.proofs.Decides.{decides_no}
use Rattle.base.specs.Back.{schema_of}
use Rattle.lookup.proofs.KindBytes.{link_byte}
use Rattle.check_held.proofs.HeldLaws.{not_held, is_held}
use Rattle.check_ends.specs.Ends as specs
use Rattle.check_ends.proofs.GroupLaws.{sds_small, link_small}
use Rattle.check_ends.proofs.link_fine.Goals as goal

pub kind-requires : goal.kind-requires
kind-requires c = (c.requires.reached.0.long, omega (arith, c.requires.link_value, link_small c.requires.reached.0))

pub returns-then-kind-ne-LINK : goal.returns-then-kind-ne-LINK
returns-then-kind-ne-LINK c =
    let b = c.args.base.now in
    let link : c.args.link < 128 = omega (arith, c.requires.link_value, link_small c.requires.reached.0) in
    let tested = link_byte b _ _ link c.kind.ensures.is ∙ ap (λ (m : ℕ). is_link (kind_of (schema_of b) m)) c.requires.link_value in
    decides_no (λ f. c.if-kind-ne-LINK.true (eqb-true _ 3 (tested ∙ f.is)))

pub is_held-requires-clause-held_len : goal.is_held-requires-clause-held_len
is_held-requires-clause-held_len c = (c.requires.reached.1.holds.room, omega (arith, c.end_sds.ensures.is, sds_small c.requires.reached.0))

pub is_held-requires-clause-t_lt_types : goal.is_held-requires-clause-t_lt_types
is_held-requires-clause-t_lt_types c = omega (arith, c.requires.link_value, link_small c.requires.reached.0)

pub returns : goal.returns
returns c =
    let b = c.args.base.now in
    let holds = c.requires.reached.1.holds in
    let d = c.end_sds.ensures.is in
    let l = c.requires.link_value in
    let link : c.args.link < 128 = omega (arith, l, link_small c.requires.reached.0) in
    let tested = link_byte b _ _ link c.kind.ensures.is ∙ ap (λ (m : ℕ). is_link (kind_of (schema_of b) m)) l in
    let same : present (schema_of b) c.end_sds.result c.args.link ≡ present (schema_of b) (specs.sds_byte b c.args.i) (specs.link_byte b c.args.i)
    = λ j. present (schema_of b) (d j) (l j) in
    record {
      holds = λ e. record { is = sym tested ∙ eq-eqb _ 3 c.if-kind-ne-LINK.false; held = sym same ∙ is_held holds c.is_held.ensures e };
      fails = λ e f. not_held holds c.is_held.ensures e (same ∙ f.held);
    }
