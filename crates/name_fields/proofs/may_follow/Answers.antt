-- `name_fields::may_follow` meets its contract: the comparisons are those of the definition.
use Rattle.std.proofs.Common.{refl}
use Rattle.rules.specs.03-Names.{letter, letter_or_digit}
use Rattle.name_fields.specs.Field.{may_follow}
use Rattle.name_fields.proofs.may_follow.Goals as goal

pub returns : goal.returns
unfolding may_follow letter letter_or_digit
returns c = refl
