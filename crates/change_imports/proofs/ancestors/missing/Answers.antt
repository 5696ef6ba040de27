-- `ancestors::missing`: all ancestors of the type, less what the SDS holds.
use Rattle.std.proofs.Common.{◌∙◌}
use Rattle.change_imports.proofs.AncestorLaws.{one_listed, missing_are}
use Rattle.change_imports.proofs.ancestors.missing.Goals as goal

pub listed-requires : goal.listed-requires
listed-requires c = one_listed _ c.requires.1.0

pub returns : goal.returns
returns c = λ k.
    c.without.ensures k
    ∙ missing_are _ _ _ c.requires.1.1 c.only.ensures c.ancestors_of-all.ensures c.listed.ensures c.visible.ensures k
