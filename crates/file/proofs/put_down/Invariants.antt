-- The parts passed are put down.
use Rattle.base.specs.Back.{schema_of}
use Rattle.file_out.specs.Parts.{file_parts}
use Rattle.file.proofs.PartsLaws.{Down}
use Rattle.file.proofs.put_down.Given as goal

abbrev pub invariant-loop-j : goal.invariant-loop-j
invariant-loop-j l = Down (file_parts (schema_of l.base)) l.initial.out l.out l.at l.j
