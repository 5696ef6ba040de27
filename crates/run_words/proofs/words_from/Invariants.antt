-- `words_from`: so many words are passed over.
use Rattle.std.proofs.Common.{◌≡◌, drop}
use Rattle.rules.specs.03-Names.{names_in}
use Rattle.names.specs.Run.{left}
use Rattle.run_words.proofs.words_from.Given as goal

abbrev pub invariant-loop : goal.invariant-loop
invariant-loop l = left l.words ≡ drop l.counter (names_in l.line)
