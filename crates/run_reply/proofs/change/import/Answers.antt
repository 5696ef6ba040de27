-- `import`, with the SDSs that words 1 and 2 name and with word 3, does what `obey_import` says, and its answer is printed.
use Rattle.std.proofs.Common.{rules}
use Rattle.run_reply.proofs.DoneLaws.{import_done, kept_as}
use Rattle.run_reply.proofs.change.import.Goals as goal

pub returns : goal.returns
returns c =
    import_done _ (search rules) c.answer.ensures _ _ _ c.sds-target.ensures.0 c.sds-source.ensures.0 c.word-name.ensures
    (kept_as c.from-answer.ensures c.import.ensures)
