-- `name_fields::is_blank_field` meets its contract: a byte more is blank where none of its bits is set.
use Rattle.std.proofs.Common.{sym, ◌∙◌}
use Rattle.name_fields.proofs.FieldLaws.{blank_more, blank_end}
use Rattle.name_fields.proofs.is_blank_field.Goals as goal

pub loop-c-preserved : goal.loop-c-preserved
loop-c-preserved c = c.loop-c.invariant ∙ blank_more c.args.field.now c.loop-c.c-index c.loop-c.bits c.loop-c-test.true

pub returns : goal.returns
returns c = sym (c.loop-c.invariant ∙ blank_end c.args.field.now c.loop-c.c-index c.loop-c.bits c.loop-c-test.false)
