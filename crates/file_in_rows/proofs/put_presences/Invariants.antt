-- Before each turn what comes of the entries that are left comes of all.
use Rattle.std.proofs.Common.{◌≡◌, ◌+◌, ◌*◌, length}
use Rattle.std.specs.Iterator.Adapters.{enumerate_source, enumerate_count}
use Rattle.std.specs.Slice.Iter.{chunks_exact_rest, chunks_exact_size}
use Rattle.rules.specs.07-Picture.{presence_width}
use Rattle.file_in_rows.proofs.LoadedLaws.{Turns}
use Rattle.file_in_rows.proofs.put_presences.Given as goal

abbrev pub invariant-loop-i : goal.invariant-loop-i
invariant-loop-i l =
    let chunks = enumerate_source l.i-iterator in
    let i = enumerate_count l.i-iterator in
    record {
      size : chunks_exact_size chunks ≡ presence_width;
      behind : i * presence_width + length (chunks_exact_rest chunks) ≡ length l.entries;
      turns : Turns l.initial.area l.entries i (chunks_exact_rest chunks) l.area;
    }
