-- `sds_called`: the first SDS that bears the name.
use Rattle.std.proofs.Common.{◌∙◌, sym, arith}
use borrow.Author.Count.{below_more}
use Rattle.run_command.proofs.CalledLaws.{called_first, called_none}
use Rattle.run_command.proofs.called.sds_called.Goals as goal

pub loop-d-preserved : goal.loop-d-preserved
loop-d-preserved c = below_more _ c.loop-d.d c.loop-d.invariant (sym c.is_called.ensures ∙ c.if-is_called.false)

pub returns-then-is_called : goal.returns-then-is_called
returns-then-is_called c =
    let small = c.loop-d-test.true in
    (called_first _ _ c.loop-d.d c.loop-d.invariant small (sym c.is_called.ensures ∙ c.if-is_called.true), omega arith)

pub returns : goal.returns
returns c = (called_none _ _ c.loop-d.d c.loop-d.invariant (omega (arith, c.loop-d-test.false)), omega arith)
