-- `name_fields::is_name_field` meets its contract: behind a space follow a well-formed name and zeros.
use Rattle.std.proofs.Common.{◌∙◌}
use Rattle.name_fields.proofs.FieldLaws.{following_named}
use Rattle.name_fields.proofs.is_name_field.Goals as goal

pub returns : goal.returns
returns c = c.follows.ensures ∙ following_named c.args.field.now c.requires
