-- `file_sections::count` meets its contract: no room for the count, none for the entries, or the two bytes tell how many there are. Assumes nothing.
use Rattle.std.proofs.Common.{arith}
use Rattle.std.proofs.lemmas.Bool.Decides.{nat_tests}
use Rattle.file_sections.proofs.SectionLaws.{no_count, told}
use Rattle.file_sections.proofs.count.Goals as goal

pub returns-in_err-checked_sub : goal.returns-in_err-checked_sub
returns-in_err-checked_sub c =
    let none = c.from_residual.ensures in
    rw none (no_count c.args.file.now c.args.at c.args.w (omega (arith, c.in_err-checked_sub.ensures)))

pub returns-in_err-room : goal.returns-in_err-room
returns-in_err-room c =
    let none = c.from_residual-in_err-room.ensures in
    rw none (no_count c.args.file.now c.args.at c.args.w (omega (arith, c.in_err-room.ensures, c.in_ok-checked_sub.ensures)))

pub returns : goal.returns
returns c =
    let n = c.from-n.result in
    let bytes = c.from_le_bytes.ensures in
    let some = c.then_some.ensures in
    let a = c.in_ok-checked_sub.ensures in
    let b = c.in_ok-room.ensures in
    rw some (told c.args.file.now c.args.at c.args.w n (omega arith) (omega arith) _ (λ e. grind (arith, nat_tests)) (λ e. grind (arith, nat_tests)))
