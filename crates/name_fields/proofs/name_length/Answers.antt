-- `name_fields::name_length` meets its contract: the first zero is where the name ends.
use Rattle.std.proofs.Common.{◌≡◌, ◌≢◌, sym, ◌∙◌, rules}
use Rattle.std.proofs.lemmas.Iterator.{YieldsList-from_slice, IsFirst-from_position}
use borrow.Author.Tests.{tests}
use Rattle.name_fields.proofs.FieldLaws.{strip_first, stripped}
use Rattle.name_fields.proofs.name_length.Goals as goal

pub returns : goal.returns
returns c =
    let l = c.args.field.now in
    let first = IsFirst-from_position _ _ c.position.result (λ x. x ≡ 0) (λ x. x ≢ 0) c.position.ensures.ran (YieldsList-from_slice l cc)
    (λ x q k. search (rules, tests)) (λ x q k. search (rules, tests)) in
    stripped l c.unwrap_or.result (c.unwrap_or.ensures ∙ sym (strip_first l c.position.result first))
