-- `new_object`, with the SDS that word 1 names, word 2 and the words behind it, does what `obey_object` says, and its answer is printed.
use Rattle.std.proofs.Common.{rules}
use Rattle.run_reply.proofs.DoneLaws.{object_done, kept_as}
use Rattle.run_reply.proofs.change.object.Goals as goal

pub returns : goal.returns
returns c =
    object_done _ (search rules) c.answer.ensures _ _ _ c.sds-d.ensures.0 c.word-name.ensures c.words_from-parents.ensures
    (kept_as c.from-answer.ensures c.new_object.ensures)
