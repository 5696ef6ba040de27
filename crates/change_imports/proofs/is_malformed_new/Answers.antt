-- A new name that is blank passes, and any other is tested.
use Rattle.std.proofs.Common.{not, sym, ap, ◌∙◌}
use Rattle.change_imports.proofs.ImportLaws.{blank_fine, given_tested}
use Rattle.change_imports.proofs.is_malformed_new.Goals as goal

pub returns-then-not-is_empty : goal.returns-then-not-is_empty
returns-then-not-is_empty c = given_tested _ (sym c.is_empty.ensures ∙ c.if-not-is_empty.true) c.is_well_formed.ensures

pub returns-else-not-is_empty : goal.returns-else-not-is_empty
returns-else-not-is_empty c = ap not c.if-not-is_empty.false ∙ blank_fine _ (sym c.is_empty.ensures ∙ c.if-not-is_empty.false)
