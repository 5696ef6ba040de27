-- What the field holds before its zeros is the name.
use Rattle.std.proofs.Common.{sym, ap, ◌∙◌}
use Rattle.rules.specs.Read.{strip}
use Rattle.base.proofs.Shown.{sds_is}
use Rattle.lookup.proofs.sdss.sds_name.Goals as goal

pub returns : goal.returns
returns c = c.name_length.ensures.name ∙ ap strip c.sds_field-field.ensures ∙ sym (sds_is c.args.base.now c.args.d c.requires.1)
