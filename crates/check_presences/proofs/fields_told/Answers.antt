-- What is gathered of fields, types and modes is told.
use Rattle.std.proofs.Common.{arith, sym, ◌∙◌}
use Rattle.check_presences.proofs.TellLaws.{kept_first, kept_more, all_kept, strange_tails, told}
use Rattle.check_presences.proofs.fields_told.Goals as goal

pub loop-i-init : goal.loop-i-init
loop-i-init c = kept_first c.args.base.now c.requires.base_len.0 c.requires.system_first

pub loop-i-preserved : goal.loop-i-preserved
loop-i-preserved c =
    let x = c.requires in
    kept_more x.base_len.0 x.base_len.1 x.system_first (λ j. (c.type_inv.base j).fits) (omega arith) c.loop-i-test.true
    c.loop-i.invariant c.gather.ensures c.tail-row.ensures

pub returns-then-any-ne-ALL : goal.returns-then-any-ne-ALL
returns-then-any-ne-ALL c =
    let x = c.requires in
    let kept = all_kept c.loop-i.invariant (omega (arith, x.system_first.some)) in
    strange_tails kept x.base_len.0 x.base_len.1 x.system_first c.if-any-ne-ALL.true

pub returns-then-all-eq-ALL : goal.returns-then-all-eq-ALL
returns-then-all-eq-ALL c =
    let kept = all_kept c.loop-i.invariant (omega (arith, c.requires.system_first.some)) in
    told kept (sym c.is_blank_field.ensures ∙ c.if-not-is_blank_field.false) c.if-any-ne-ALL.false (λ e. c.if-all-eq-ALL.true)

pub returns : goal.returns
returns c =
    let kept = all_kept c.loop-i.invariant (omega (arith, c.requires.system_first.some)) in
    told kept (sym c.is_blank_field.ensures ∙ c.if-not-is_blank_field.false) c.if-any-ne-ALL.false (λ e. cc)
