-- Where `find` refuses, its number is printed alone; else the answer of `depth` on the type that was found, as `obey_depth` says.
use Rattle.std.proofs.Common.{ℕ, [], ◌∷◌, ap, ◌∙◌, refl}
use Rattle.base.proofs.TestedLaws.{positive}
use Rattle.run_reply.proofs.DoneLaws.{depth_not_found, depth_done, asked_as, printed_as}
use Rattle.run_reply.proofs.question.depth.Goals as goal

pub returns-in-Err : goal.returns-in-Err
returns-in-Err c =
    depth_not_found _ _ _ _ c.requires.0 (c.alone-schema.ensures ∙ ap (λ (d : ℕ). d ∷ []) c.sds.ensures.0) c.word.ensures c.in-Err.ensures (positive _)
    (printed_as c.number.ensures c.number-in-Err.ensures)

pub returns : goal.returns
returns c =
    depth_done _ _ _ _ c.requires.0 (c.alone-schema.ensures ∙ ap (λ (d : ℕ). d ∷ []) c.sds.ensures.0) c.word.ensures c.in-Ok.ensures refl
    (asked_as c.from-answer.ensures c.depth.ensures) c.answer.ensures
