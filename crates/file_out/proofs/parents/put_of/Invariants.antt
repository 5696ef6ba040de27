-- The parents passed are put down, each behind the number of its child.
use Rattle.std.proofs.Common.{drop}
use Rattle.rules.specs.04-Schema.{parents}
use Rattle.base.specs.Back.{schema_of}
use Rattle.file_out_presences.proofs.PutLaws.{Putting}
use Rattle.file_out.proofs.ParentLaws.{bytes_of}
use Rattle.file_out.proofs.parents.put_of.Given as goal

abbrev pub invariant-loop-i : goal.invariant-loop-i
invariant-loop-i l =
    let ps = parents (schema_of l.base) l.t in
    Putting (bytes_of l.t ps) l.initial.out l.from l.out l.at (bytes_of l.t (drop l.i ps))
