-- The parents of the types passed are put down, behind the count of all.
use Rattle.std.proofs.Common.{◌-◌}
use Rattle.rules.specs.01-Lists.{joined}
use Rattle.rules.specs.04-Schema.{parents}
use Rattle.rules.specs.11-File.{parent_entries}
use Rattle.base.specs.Back.{schema_of}
use Rattle.file_out_presences.proofs.SpanLaws.{span}
use Rattle.file_out_presences.proofs.PutLaws.{Putting}
use Rattle.file_out.proofs.ParentLaws.{bytes_of}
use Rattle.file_out.proofs.parents.put.Given as goal

abbrev pub invariant-loop-t : goal.invariant-loop-t
invariant-loop-t l =
    Putting (joined (parent_entries (schema_of l.base))) l.initial.out l.initial.at l.out l.at
    (span (λ t. bytes_of t (parents (schema_of l.base) t)) l.t (128 - l.t))
