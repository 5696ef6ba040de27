-- `names::is_well_formed`: test by test as the rules have them.
use Rattle.std.proofs.Common.{◌∙◌, ◌&&◌, ◌≡◌, ◌≤◌, true, false, length, get_or, sym, ap, arith, rules}
use borrow.Author.Tests.{tests}
use Rattle.std.proofs.lemmas.Grind.{common_steps}
use Rattle.std.proofs.lemmas.Iterator.{YieldsList-from_slice}
use Rattle.std.proofs.lemmas.Iterator.Search.{all_from_yields_List}
use Rattle.rules.specs.01-Lists.{all}
use Rattle.rules.specs.02-Limits.{limits}
use Rattle.rules.specs.03-Names.{letter, letter_or_digit}
use Rattle.names.proofs.Laws.{all_is, letter_is, formed_out, formed_is}
use Rattle.names.proofs.is_well_formed.Goals as goal

pub returns-then-not-contains : goal.returns-then-not-contains
returns-then-not-contains c = sym (formed_out c.args.name.now (λ h. grind (arith, common_steps)))

pub returns-then-is_ascii_alphabetic : goal.returns-then-is_ascii_alphabetic
returns-then-is_ascii_alphabetic c =
    let n = c.args.name.now in
    let low : 1 ≤ length n = grind (arith, common_steps) in
    let high : length n ≤ limits.name = grind (arith, common_steps) in
    let first : letter (get_or n 0 0) ≡ true
    = sym (letter_is (get_or n 0 0)) ∙ sym c.is_ascii_alphabetic.ensures.value ∙ c.if-is_ascii_alphabetic.true in
    let every = all_from_yields_List letter_or_digit _ _ c.all.result c.all.ensures.ran
    (YieldsList-from_slice n cc) (λ x b q k. search (rules, tests)) in
    every ∙ all_is letter_or_digit n ∙ sym (formed_is n low high ∙ ap (λ t. t && all letter_or_digit n) first)

pub returns-else-is_ascii_alphabetic : goal.returns-else-is_ascii_alphabetic
returns-else-is_ascii_alphabetic c =
    let n = c.args.name.now in
    let low : 1 ≤ length n = grind (arith, common_steps) in
    let high : length n ≤ limits.name = grind (arith, common_steps) in
    let first : letter (get_or n 0 0) ≡ false
    = sym (letter_is (get_or n 0 0)) ∙ sym c.is_ascii_alphabetic.ensures.value ∙ c.if-is_ascii_alphabetic.false in
    c.if-is_ascii_alphabetic.false ∙ sym (formed_is n low high ∙ ap (λ t. t && all letter_or_digit n) first)
