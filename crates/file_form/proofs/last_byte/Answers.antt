-- `file_form::last_byte` meets its contract, case by case. Assumes nothing.
use Rattle.std.proofs.Common.{◌≡◌, ◌/◌, ◌%◌, get_or, ap, arith, ◌∙◌}
use Rattle.file_form.proofs.Scan.{top_byte_far, top_byte_two, top_byte_last}
use Rattle.file_form.proofs.last_byte.Goals as goal

pub returns-in-1 : goal.returns-in-1
returns-in-1 c =
    let m = c.args.more in
    let low : get_or c.to_le_bytes.result 0 0 ≡ m % 256 = ap (λ l. get_or l 0 0) c.to_le_bytes.ensures ∙ omega arith in
    rw low (top_byte_last c.args.k m (omega arith) (λ two. omega arith))

pub returns-in-2 : goal.returns-in-2
returns-in-2 c =
    let m = c.args.more in
    let high : get_or c.to_le_bytes.result 1 0 ≡ m / 256 = ap (λ l. get_or l 1 0) c.to_le_bytes.ensures ∙ omega arith in
    rw high (top_byte_two c.args.k m c.in-2.is)

pub returns-in_default : goal.returns-in_default
returns-in_default c = let a = c.in_default in top_byte_far c.args.k c.args.more (omega arith)
