-- `new_sds`, with word 1, does what `obey_sds` says, and its answer is printed.
use Rattle.std.proofs.Common.{rules}
use Rattle.run_reply.proofs.DoneLaws.{sds_done, kept_as}
use Rattle.run_reply.proofs.change.sds.Goals as goal

pub returns : goal.returns
returns c =
    sds_done _ (search rules) c.answer.ensures _ c.word.ensures (kept_as c.from-answer.ensures c.new_sds.ensures)
