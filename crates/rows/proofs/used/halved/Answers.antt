-- `rows::used::halved` meets its contract: the bytes beside the place tell for their sides.
use Rattle.std.proofs.Common.{rules}
use Rattle.rows.proofs.Scan.{halved_told}
use Rattle.rows.proofs.used.halved.Goals as goal

pub returns : goal.returns
returns c = halved_told record {
  fits = c.parted.ensures.fits;
  last = λ k e. let h = c.parted.ensures.last k e in search rules;
  next = λ l. let h = c.parted.ensures.next l in search rules;
}
