-- `rows::order::word` meets its contract: the first byte is worth most in either.
use Rattle.std.proofs.Common.{ap, ◌∙◌}
use Rattle.std.specs.Int.{w64, from_be_bytes}
use Rattle.rows.proofs.OrderLaws.{number_eight}
use Rattle.rows.proofs.order.word.Goals as goal

pub returns : goal.returns
returns c =
    c.from_be_bytes.ensures ∙ ap (from_be_bytes w64) c.eight.ensures ∙ number_eight c.args.base.now c.args.at c.requires
