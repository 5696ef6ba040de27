-- `number`: a number below 2 ^ 64 has at most 20 digits, and those that `io::decimal` makes are put down at their place.
use Rattle.std.proofs.Common.{◌≡◌, ◌≤◌, ◌∙◌, length, rules, arith}
use Rattle.std.proofs.lemmas.Grind.{common_steps}
use Rattle.io.specs.Digits.{last_digits}
use Rattle.run_print.proofs.PrintLaws.{places_few, number_printed}
use Rattle.run_print.proofs.number.Goals as goal

pub returns : goal.returns
returns c =
    let made = c.decimal-k.ensures in
    let fits : c.decimal-k.result ≤ 20 = places_few c.args.n c.decimal-k.result c.ranges.n.fits made.len in
    let long : c.decimal-k.result ≡ length c.copy_from_slice.new.self = grind (arith, common_steps) in
    let text : c.copy_from_slice.new.self ≡ last_digits 10 c.decimal-k.result c.args.n = c.copy_from_slice.ensures.after ∙ made.digits in
    number_printed c.args.out.now c.copy_from_slice.new.self c.args.at c.args.n c.decimal-k.result c.requires
    c.ranges.n.fits made.len long text (search rules)
