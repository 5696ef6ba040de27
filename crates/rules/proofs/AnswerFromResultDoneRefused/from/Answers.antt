use Rattle.std.proofs.Common.{ap, sym}
use Rattle.rules.specs.09-Refusals.{answered}
use Rattle.rules.proofs.AnswerFromResultDoneRefused.from.Goals as goal

pub returns-in-Ok : goal.returns-in-Ok
returns-in-Ok c = sym (ap answered c.in-Ok.is)
