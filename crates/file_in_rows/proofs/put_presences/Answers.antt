-- `file_in_rows::put_presences` meets its contract: one entry more, and none left. Assumes nothing.
use Rattle.std.proofs.Common.{length, length-append, ap, arith, ◌∙◌}
use Rattle.file_in_rows.proofs.LoadedLaws.{next_turn, all_turns}
use Rattle.file_in_rows.proofs.put_presences.Goals as goal

pub loop-i-preserved : goal.loop-i-preserved
loop-i-preserved c =
    let before = c.loop-i.invariant in
    let ((size, (cut, long), _), turn, next, _) = c.in-Some.ensures.steps in
    let entry = c.in-Some.entry.now in
    record {
      size = size ∙ before.size;
      behind = omega (arith, simp length-append at (ap length cut));
      turns = rw next (next_turn _ entry before.turns cut (long ∙ before.size) c.presence_row.ensures (rw turn at c.put_row.ensures));
    }

pub returns : goal.returns
returns c =
    let ((_, (short, _), _), _) = c.in-None.ensures.steps in
    all_turns _ c.loop-i.invariant.turns (omega arith)
