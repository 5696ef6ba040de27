-- The rows passed are put down, behind the count of all.
use Rattle.std.proofs.Common.{◌-◌}
use Rattle.rules.specs.01-Lists.{joined}
use Rattle.file_out_presences.proofs.SpanLaws.{span}
use Rattle.file_out_presences.proofs.PutLaws.{Putting}
use Rattle.file_out.specs.Put.{row_entries}
use Rattle.file_out.proofs.NumberedLaws.{bytes_at}
use Rattle.file_out.proofs.numbered.put.Given as goal

abbrev pub invariant-loop-k : goal.invariant-loop-k
invariant-loop-k l =
    Putting (joined (row_entries l.base l.start l.width l.kept l.n)) l.initial.out l.initial.at l.out l.at
    (span (bytes_at l.base l.start l.width l.kept) l.k (l.n - l.k))
