-- `next_line`: what was gathered so far has no newline, and each turn brought a byte.
use Rattle.run_words.proofs.InputLaws.{Reading}
use Rattle.run_words.proofs.input.Input.next_line.Given as goal

abbrev pub invariant-loop : goal.invariant-loop
invariant-loop g l = Reading l.fn.self.unread l.line.kept l.self l.counter
