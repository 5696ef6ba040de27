-- `rows::used::every_second` meets its contract: one eight more at a time.
use Rattle.std.proofs.Common.{◌+◌, ◌*◌, ap, ◌∙◌, arith}
use Rattle.std.specs.Int.{w64, from_le_bytes}
use Rattle.rows.proofs.ZeroLaws.{eight_blank, eights_none, eights_more}
use Rattle.rows.proofs.used.every_second.Goals as goal

pub loop-i-init : goal.loop-i-init
loop-i-init c = eights_none c.args.base.now c.args.at

pub loop-i-preserved : goal.loop-i-preserved
loop-i-preserved c =
    let b = c.args.base.now in
    eights_more b c.args.at c.loop-i.i c.loop-i.invariant (eight_blank b (c.args.at + c.loop-i.i * 16) (λ i. (c.type_inv.base i).fits)
    (omega arith) (c.from_le_bytes-bits.ensures ∙ ap (from_le_bytes w64) c.eight.ensures))
