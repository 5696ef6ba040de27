-- Before each turn the entries that are left decide.
use Rattle.std.proofs.Common.{◌≡◌}
use Rattle.std.specs.Slice.Iter.{chunks_exact_rest, chunks_exact_size}
use Rattle.file_in_types.specs.Steps.{step_of}
use Rattle.file_in_types.proofs.SectionLaws.{Going}
use Rattle.file_in_types.proofs.put_section.Given as goal

abbrev pub invariant-loop-entry : goal.invariant-loop-entry
invariant-loop-entry l = record {
  size : chunks_exact_size l.entry-iterator ≡ l.w;
  going : Going (step_of l.section) l.w l.initial.area l.entries (chunks_exact_rest l.entry-iterator) l.area;
}
