-- What is left of the file decides.
use Rattle.std.proofs.Common.{◌≡◌, length}
use Rattle.base.specs.Back.{schema_of}
use Rattle.file_out.specs.Parts.{file_parts}
use Rattle.file.proofs.PartsLaws.{Met}
use Rattle.file.proofs.is_file_of.Given as goal

abbrev pub invariant-loop-j : goal.invariant-loop-j
invariant-loop-j l = record { room : length l.bytes ≡ 2562; met : Met (file_parts (schema_of l.base)) l.file l.rest l.j }
