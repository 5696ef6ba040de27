-- `is_called`: an unused number bears no name, a used one that which `sds_name` hands back.
use Rattle.std.proofs.Common.{◌∙◌, List, ℕ, sym, ap}
use Rattle.rules.specs.03-Names.{same_name}
use Rattle.run_command.proofs.CalledLaws.{called_unused, called_used}
use Rattle.run_command.proofs.called.is_called.Goals as goal

pub returns-then-is_sds : goal.returns-then-is_sds
returns-then-is_sds c =
    c.is_same.ensures ∙ ap (λ (m : List ℕ). same_name m c.args.name.now) c.sds_name.ensures
    ∙ called_used _ _ _ (sym c.is_sds.ensures ∙ c.if-is_sds.true)

pub returns-else-is_sds : goal.returns-else-is_sds
returns-else-is_sds c = c.if-is_sds.false ∙ called_unused _ _ _ (sym c.is_sds.ensures ∙ c.if-is_sds.false)
