-- `answer`: a refusal is its number alone; behind 0 the value is printed straight on, with a space before it.
use Rattle.std.proofs.Common.{arith}
use Rattle.run_print.proofs.PrintLaws.{decimal_few}
use Rattle.run_print.proofs.SpokenLaws.{answer_refused, answer_done}
use Rattle.run_print.proofs.answer.Goals as goal

pub returns-then-no-ne0 : goal.returns-then-no-ne0
returns-then-no-ne0 c = answer_refused _ c.if-no-ne0.true c.number-end.ensures

pub next_number-requires : goal.next_number-requires
next_number-requires c =
    omega (arith, c.requires, c.number-end.ensures.long, c.number-end.ensures.end, decimal_few 20 c.args.no)

pub returns : goal.returns
returns c = answer_done _ (omega (arith, c.if-no-ne0.false)) c.number-end.ensures c.next_number.ensures
