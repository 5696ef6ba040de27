-- `numbers`: each turn prints the next entry.
use Rattle.std.proofs.Common.{◌∙◌, arith}
use Rattle.run_print.proofs.PrintLaws.{going_first, going_next, going_all}
use Rattle.run_print.proofs.numbers.Goals as goal

pub loop-i-init : goal.loop-i-init
loop-i-init c = going_first _ _ _

pub next_number-end-requires : goal.next_number-end-requires
next_number-end-requires c =
    omega (arith, c.requires, c.loop-i.invariant.few, c.loop-i.auto.out, c.loop-i-test.true)

pub loop-i-preserved : goal.loop-i-preserved
loop-i-preserved c =
    going_next c.loop-i.invariant (c.from.ensures ∙ c.from_le_bytes-entry.ensures) c.next_number-end.ensures

pub returns : goal.returns
returns c = going_all c.loop-i.invariant (omega (arith, c.loop-i-test.false))
