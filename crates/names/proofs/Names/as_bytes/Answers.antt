-- `names::Names::as_bytes`: what is left of the run is the names that are left.
use Rattle.std.proofs.Common.{◌∙◌, ap, refl, Bor, List, ℕ}
use Rattle.names.proofs.Laws.{rest_is}
use Rattle.names.proofs.Names.as_bytes.Goals as goal

pub returns : goal.returns
returns c = ap (λ (b : Bor (List ℕ)). b.now) c.unwrap_or.ensures ∙ rest_is c.args.self.rest _ refl
