-- `word`: the word of that place, or none.
use Rattle.std.proofs.Common.{◌∙◌, ℕ, List, Bor, refl, ap}
use Rattle.std.proofs.lemmas.Iterator.Consumers.{YieldsList-from_first, nth_from_yields_List}
use Rattle.rules.specs.03-Names.{names_in}
use Rattle.names.specs.Run.{left}
use Rattle.run_words.proofs.WordLaws.{word_is}
use Rattle.run_words.proofs.word.Goals as goal

pub returns : goal.returns
returns c =
    let ws = names_in c.args.line.now in
    let at = nth_from_yields_List c.nth.result _ c.args.i c.nth.ensures.ran (YieldsList-from_first (λ x. x.now) left ws c.of.ensures) in
    ap (λ (b : Bor (List ℕ)). b.now) c.unwrap_or.ensures ∙ word_is c.nth.result _ refl ws c.args.i at
