-- `has_blank`: a word that is empty is blank.
use Rattle.std.proofs.Common.{◌∙◌, rules}
use borrow.Author.Tests.{tests}
use Rattle.std.proofs.lemmas.Iterator.Consumers.{YieldsList-from_first}
use Rattle.std.proofs.lemmas.Iterator.Search.{any_from_yields_List}
use Rattle.rules.specs.03-Names.{blank, names_in}
use Rattle.names.specs.Run.{left}
use Rattle.names.proofs.Laws.{any_is}
use Rattle.run_words.proofs.has_blank.Goals as goal

pub returns : goal.returns
returns c =
    let ws = names_in c.args.line.now in
    any_from_yields_List blank _ _ c.any.result c.any.ensures.ran (YieldsList-from_first (λ x. x.now) left ws c.of.ensures)
    (λ x b q k. search (rules, tests))
    ∙ any_is blank ws
