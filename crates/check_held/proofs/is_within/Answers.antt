-- What two words share is the first where it is within the other.
use Rattle.std.proofs.Common.{arith}
use borrow.Author.Tests.{eqb-true, eqb-false}
use Rattle.check_held.proofs.WordLaws.{within_of, of_within}
use Rattle.check_held.proofs.is_within.Goals as goal

pub returns : goal.returns
returns c =
    let x = c.args in record {
      holds = λ e. within_of x.sdss x.others (eqb-true _ x.sdss e);
      fails = λ e f. eqb-false _ x.sdss e (of_within x.sdss x.others (omega arith) f);
    }
