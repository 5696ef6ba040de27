-- `count`: there are no more words than bytes, and one.
use Rattle.std.proofs.Common.{length, ap, inl, arith}
use Rattle.run_words.proofs.WordLaws.{words_few}
use Rattle.run_words.proofs.count.Goals as goal

pub count-requires-clause-fits : goal.count-requires-clause-fits
count-requires-clause-fits c = inl (omega (arith, words_few c.args.line.now, ap length c.of.ensures))
