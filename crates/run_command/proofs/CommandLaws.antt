-- The command of a line, test by test. Assumes nothing.
use Rattle.std.proofs.Common.{◌≡◌, ◌∙◌, Bool, eqb, ap, sym}
use lib.Pointwise.{pointwise}
use Rattle.rules.specs.01-Lists.{same_bytes}
use Rattle.rules.specs.03-Names.{Name}
use Rattle.names.proofs.Laws.{equal_is}

-- a first word that is the command, or another
pub first_is : {w v : Name} (command : Name) → w ≡ v → {r t : Bool} → r ≡ pointwise eqb w command → r ≡ t → same_bytes v command ≡ t
first_is {w} command e r t = ap (λ (x : Name). same_bytes x command) (sym e) ∙ sym (r ∙ equal_is w command) ∙ t
