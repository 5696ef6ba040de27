-- `names::is_same`: of one length, and byte by byte the same in lower case.
use Rattle.std.proofs.Common.{◌∙◌, rules, sym, ne_eqb}
use borrow.Author.Tests.{tests}
use Rattle.std.proofs.lemmas.Iterator.{YieldsList-from_slice, YieldsList-from_zip}
use Rattle.std.proofs.lemmas.Iterator.Search.{all_from_yields_List}
use Rattle.rules.proofs.03-Names.{unlike_long}
use Rattle.names.proofs.Laws.{alike, zipped_is}
use Rattle.names.proofs.is_same.Goals as goal

pub returns-then-a-b : goal.returns-then-a-b
returns-then-a-b c =
    let a = c.args.a.now in
    let b = c.args.b.now in
    all_from_yields_List alike c.all.new.self _ c.all.result c.all.ensures.ran
    (YieldsList-from_zip (YieldsList-from_slice a cc) (YieldsList-from_slice b cc)) (λ x t q k. search (rules, tests))
    ∙ zipped_is a b (search rules)

pub returns-else-a-b : goal.returns-else-a-b
returns-else-a-b c =
    let other = c.if-a-b.false in
    ne_eqb _ _ other ∙ sym (unlike_long c.args.a.now c.args.b.now other)
