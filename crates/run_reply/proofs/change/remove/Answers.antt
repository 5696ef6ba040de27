-- `remove_type`, with the SDS that word 1 names and with word 2, does what `obey_remove` says, and its answer is printed.
use Rattle.std.proofs.Common.{rules}
use Rattle.run_reply.proofs.DoneLaws.{remove_done, kept_as}
use Rattle.run_reply.proofs.change.remove.Goals as goal

pub returns : goal.returns
returns c =
    remove_done _ (search rules) c.answer.ensures _ _ c.sds-d.ensures.0 c.word.ensures
    (kept_as c.from-answer.ensures c.remove_type.ensures)
