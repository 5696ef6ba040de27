-- The number of a row has 24 bits.
use Rattle.std.proofs.Common.{◌<◌, arith}
use Rattle.base.specs.Rows.{application_at}
use Rattle.check_applications.proofs.NumberLaws.{row_small}
use Rattle.check_applications.proofs.numbered.Goals.{After-application_number}
use Rattle.check_applications.proofs.numbered.Goals as goal

small : (c : After-application_number) → c.application_number.result < 16777216
small c =
    let below = row_small c.args.base.now (application_at c.args.i) (omega (arith, c.requires.0, c.requires.1)) (λ j. (c.type_inv.base j).fits) in
    omega (arith, c.application_number.ensures)

pub overflow_mul-result : goal.overflow_mul-result
overflow_mul-result c = let h = small (goal.at.overflow_mul-result c).After-application_number in omega arith

pub overflow_add-result : goal.overflow_add-result
overflow_add-result c = let h = small (goal.at.overflow_add-result c).After-application_number in omega (arith, c.byte.ensures.small)

pub returns : goal.returns
returns c =
    let h = small (goal.at.returns c).After-application_number in
    let e = c.byte.ensures.small in
    record { is = omega (arith, c.application_number.ensures); small = omega arith }
