-- `names::is_letter_or_digit`: the library's test of a byte is the rules'.
use Rattle.std.proofs.Common.{◌∙◌, ◌||◌, eqb, sym, ap}
use Rattle.names.proofs.Laws.{letter_or_digit_is}
use Rattle.names.proofs.is_letter_or_digit.Goals as goal

pub returns-then-is_ascii_alphanumeric : goal.returns-then-is_ascii_alphanumeric
returns-then-is_ascii_alphanumeric c =
    let yes = sym c.is_ascii_alphanumeric.ensures.value ∙ c.if-is_ascii_alphanumeric.true in
    c.if-is_ascii_alphanumeric.true ∙ sym (ap (λ t. t || eqb c.args.c 95) yes) ∙ letter_or_digit_is c.args.c

pub returns-else-is_ascii_alphanumeric : goal.returns-else-is_ascii_alphanumeric
returns-else-is_ascii_alphanumeric c =
    let no = sym c.is_ascii_alphanumeric.ensures.value ∙ c.if-is_ascii_alphanumeric.false in
    sym (ap (λ t. t || eqb c.args.c 95) no) ∙ letter_or_digit_is c.args.c
