-- The rows passed that are begun are counted.
use Rattle.std.proofs.Common.{◌≤◌}
use Rattle.file_out.proofs.SpanLaws.{Counting}
use Rattle.file_out.proofs.NumberedLaws.{mark}
use Rattle.file_out.proofs.numbered.count.Given as goal

abbrev pub invariant-loop-k : goal.invariant-loop-k
invariant-loop-k l = record { few : l.used ≤ l.k; counted : Counting (mark l.base l.start l.width) l.n l.k l.used }
