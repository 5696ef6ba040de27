-- What is left decides.
use Rattle.std.specs.Iterator.Adapters.{enumerate_source, enumerate_count, zip_first, zip_second}
use Rattle.std.specs.Slice.Iter.{iter_rest}
use Rattle.file_form.proofs.Scan.{AboveFrom}
use Rattle.file_form.proofs.above.Given as goal

abbrev pub invariant-loop-j : goal.invariant-loop-j
invariant-loop-j l =
    let pairs = enumerate_source l.j-iterator in
    record {
      goes : (goal.iterator-loop-j).can_next l.j-iterator;
      ends : (goal.iterator-loop-j).is_finite l.j-iterator;
      decides : AboveFrom l.prev l.e (enumerate_count l.j-iterator) (iter_rest (zip_second pairs)) (iter_rest (zip_first pairs));
    }
