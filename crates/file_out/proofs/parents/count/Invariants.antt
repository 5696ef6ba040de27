-- The parents of the types passed are counted.
use Rattle.std.proofs.Common.{◌*◌, ◌≤◌}
use Rattle.base.specs.Back.{schema_of}
use Rattle.file_out.proofs.SpanLaws.{Counting}
use Rattle.file_out.proofs.ParentLaws.{entries_of}
use Rattle.file_out.proofs.parents.count.Given as goal

abbrev pub invariant-loop-t : goal.invariant-loop-t
invariant-loop-t l = record { few : l.n ≤ l.t * 4; counted : Counting (entries_of (schema_of l.base)) 128 l.t l.n }
