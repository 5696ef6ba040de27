-- `words_from`: the words that are left, put together again.
use Rattle.std.proofs.Common.{◌≡◌, ◌∙◌, ap, drop, arith}
use Rattle.rules.specs.03-Names.{names_in}
use Rattle.rules.specs.14-Run.{joined}
use Rattle.run_words.proofs.WordLaws.{walked}
use Rattle.run_words.proofs.words_from.Goals as goal

pub loop-preserved : goal.loop-preserved
loop-preserved c = walked (names_in c.args.line.now) c.loop.counter c.next.result c.next.ensures.steps c.loop.invariant

pub returns : goal.returns
returns c =
    let all : c.loop.counter ≡ c.args.i = omega (arith, c.loop.auto.counter-end, c.loop-test.false) in
    c.as_bytes.ensures ∙ ap joined (c.loop.invariant ∙ ap (λ k. drop k (names_in c.args.line.now)) all)
