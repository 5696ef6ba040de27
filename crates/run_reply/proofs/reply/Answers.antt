-- `reply`: each command's function says what the rule does; with none of the six the line is unreadable.
use Rattle.std.proofs.Common.{◌∙◌, Some, sym, ap}
use Rattle.run_reply.proofs.ReplyLaws.{replied_sds, replied_import, replied_object, replied_remove, replied_desc, replied_depth}
use Rattle.run_reply.proofs.ReplyLaws.{replied_unreadable}
use Rattle.run_reply.proofs.SayLaws.{says_unreadable}
use Rattle.run_reply.proofs.reply.Goals as goal

pub returns-in-Some-Sds : goal.returns-in-Some-Sds
returns-in-Some-Sds c = replied_sds _ (sym c.of.ensures ∙ c.in-Some-Sds.is ∙ ap Some c.in-Some-Sds.field-0-is) c.sds.ensures

pub returns-in-Some-Import : goal.returns-in-Some-Import
returns-in-Some-Import c = replied_import _ (sym c.of.ensures ∙ c.in-Some-Import.is ∙ ap Some c.in-Some-Import.field-0-is) c.import.ensures

pub returns-in-Some-Object : goal.returns-in-Some-Object
returns-in-Some-Object c = replied_object _ (sym c.of.ensures ∙ c.in-Some-Object.is ∙ ap Some c.in-Some-Object.field-0-is) c.object.ensures

pub returns-in-Some-Remove : goal.returns-in-Some-Remove
returns-in-Some-Remove c = replied_remove _ (sym c.of.ensures ∙ c.in-Some-Remove.is ∙ ap Some c.in-Some-Remove.field-0-is) c.remove.ensures

pub returns-in-Some-Desc : goal.returns-in-Some-Desc
returns-in-Some-Desc c = replied_desc _ (sym c.of.ensures ∙ c.in-Some-Desc.is ∙ ap Some c.in-Some-Desc.field-0-is) c.desc.ensures

pub returns-in-Some-Depth : goal.returns-in-Some-Depth
returns-in-Some-Depth c = replied_depth _ (sym c.of.ensures ∙ c.in-Some-Depth.is ∙ ap Some c.in-Some-Depth.field-0-is) c.depth.ensures

pub returns-in-None : goal.returns-in-None
returns-in-None c = replied_unreadable _ (sym c.of.ensures ∙ c.in-None.is) (says_unreadable c.requires.0 c.unreadable.ensures)
