-- Where `find` or the scan refuses, its number is printed alone; else the count and the list, for which there is room, since it has at
-- most 128 types.
use Rattle.std.proofs.Common.{ℕ, [], ◌∷◌, ap, ◌∙◌, refl, arith}
use Rattle.base.proofs.TestedLaws.{positive}
use Rattle.run_print.proofs.SpokenLaws.{spoken_few}
use Rattle.run_reply.proofs.SayLaws.{scan_few}
use Rattle.run_reply.proofs.DoneLaws.{desc_not_found, desc_refused, desc_done, list_as, printed_as}
use Rattle.run_reply.proofs.question.desc.Goals as goal

pub returns-in-Err : goal.returns-in-Err
returns-in-Err c =
    desc_not_found _ _ _ _ c.requires.0 (c.alone-schema.ensures ∙ ap (λ (d : ℕ). d ∷ []) c.sds.ensures.0) c.word.ensures c.in-Err.ensures (positive _)
    (printed_as c.number.ensures c.number-in-Err.ensures)

pub returns-then-answer-ne0 : goal.returns-then-answer-ne0
returns-then-answer-ne0 c =
    desc_refused _ _ _ _ c.requires.0 (c.alone-schema.ensures ∙ ap (λ (d : ℕ). d ∷ []) c.sds.ensures.0) c.word.ensures c.in-Ok.ensures refl
    (list_as c.from-answer.ensures c.scan_object.ensures) c.answer-end.ensures
    c.if-answer-ne0.true

pub numbers-requires : goal.numbers-requires
numbers-requires c =
    let a = c.from-answer.result in
    let few = scan_few _ _ _ _ (list_as c.from-answer.ensures c.scan_object.ensures) in
    let short = spoken_few a.no a.one (omega (arith, c.if-answer-ne0.false)) in
    (omega (arith, c.requires.1, c.answer-end.ensures.long, c.answer-end.ensures.end, short, few), omega (arith, few))

pub returns : goal.returns
returns c =
    desc_done _ _ _ _ c.requires.0 (c.alone-schema.ensures ∙ ap (λ (d : ℕ). d ∷ []) c.sds.ensures.0) c.word.ensures c.in-Ok.ensures refl
    (list_as c.from-answer.ensures c.scan_object.ensures) c.answer-end.ensures
    (omega (arith, c.if-answer-ne0.false)) c.numbers.ensures
