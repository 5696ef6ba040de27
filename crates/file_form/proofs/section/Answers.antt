-- `file_form::section` meets its contract: the entries that are left decide. Assumes nothing.
use Rattle.std.proofs.Common.{◌+◌, ◌-◌, ◌≡◌, arith}
use Rattle.file_form.proofs.Sections.{walked_short, left_first, left_stop, left_go, left_done}
use Rattle.file_form.proofs.section.Goals as goal

pub returns-then-file-at-lt-COUNT : goal.returns-then-file-at-lt-COUNT
returns-then-file-at-lt-COUNT c =
    let x = c.args in
    walked_short x.w x.file.now x.at c.requires.1 (λ i. (c.type_inv.file i).fits) c.requires.0 c.if-file-at-lt-COUNT.true

pub loop-left-init : goal.loop-left-init
loop-left-init c =
    let x = c.args in
    let start : x.at + 2 - (x.at + 2) ≡ 0 = omega arith in
    rw start
    (left_first x.w x.file.now x.at c.requires.1 (λ i. (c.type_inv.file i).fits) c.from_le_bytes-n.result (omega arith) c.from_le_bytes-n.ensures)

pub returns-then-good-w : goal.returns-then-good-w
returns-then-good-w c = left_stop c.loop-left.invariant (omega arith) (omega arith) c.fitting-good.ensures c.if-good-w.true

pub overflow_add-result : goal.overflow_add-result
overflow_add-result c = omega (arith, (returns-then-good-w c).inside)

pub loop-left-preserved : goal.loop-left-preserved
loop-left-preserved c = left_go c.loop-left.invariant (omega arith) (omega arith) c.fitting-good.ensures c.if-good-w.false

pub returns : goal.returns
returns c = left_done c.loop-left.invariant (omega arith)
