-- `next_line`: a turn keeps what the loop keeps, unless it makes the line whole or the input is over.
use Rattle.std.proofs.Common.{arith}
use Rattle.run_words.proofs.InputLaws.{reading_first, reading_over, reading_whole, reading_more, reading_spent}
use Rattle.run_words.proofs.input.Input.next_line.Goals as goal

pub loop-init : goal.loop-init
loop-init g c = rw c.clear.ensures (reading_first c.args.self.now)

pub returns-then-not-fill : goal.returns-then-not-fill
returns-then-not-fill g c = rw (c.is_empty.ensures, c.as_bytes.ensures) (reading_over c.loop.invariant c.fill.ensures c.if-not-fill.true)

pub returns-then-gather : goal.returns-then-gather
returns-then-gather g c = reading_whole c.loop.invariant c.fill.ensures c.if-not-fill.false c.gather.ensures c.if-gather.true

pub loop-preserved : goal.loop-preserved
loop-preserved g c = reading_more c.loop.invariant c.fill.ensures c.if-not-fill.false c.gather.ensures c.if-gather.false

pub returns : goal.returns
returns g c = reading_spent (omega (arith, c.loop.auto.counter-end, c.loop-test.false)) c.loop.invariant
