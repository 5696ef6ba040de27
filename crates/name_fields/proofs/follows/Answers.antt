-- `name_fields::follows` meets its contract: a byte more may follow the one before it, or not.
use Rattle.std.proofs.Common.{Bool, ◌+◌, ◌&&◌, get_or, drop, take, sym, ap, ◌∙◌}
use Rattle.name_fields.specs.Field.{following}
use Rattle.name_fields.proofs.FieldLaws.{follow_more, follow_end}
use Rattle.name_fields.proofs.follows.Goals as goal

pub loop-c-preserved : goal.loop-c-preserved
loop-c-preserved c =
    let l = take 16 c.args.field.now in
    let i = c.loop-c.c-index in
    c.loop-c.invariant ∙ follow_more l i c.loop-c.last c.loop-c.fine c.loop-c-test.true
    ∙ ap (λ (t : Bool). (c.loop-c.fine && t) && following (get_or l i 0) (drop (i + 1) l)) (sym c.may_follow-fine.ensures)

pub returns : goal.returns
returns c = sym (c.loop-c.invariant ∙ follow_end (take 16 c.args.field.now) c.loop-c.c-index c.loop-c.last c.loop-c.fine c.loop-c-test.false)
