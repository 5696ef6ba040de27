-- A row of another SDS is of neither; of this one its type is asked.
use Rattle.std.proofs.Common.{sym, ap, ◌∙◌, ◌∷◌}
use Rattle.std.specs.Prelude.{option_to_list}
use Rattle.rules.specs.01-Lists.{among}
use Rattle.base.specs.Back.{presence_shown}
use Rattle.change_presences.proofs.ModesLaws.{in_another, in_it}
use Rattle.change_presences.proofs.modes.is_of_either.Goals as goal

pub returns-then-presence_sds-d : goal.returns-then-presence_sds-d
returns-then-presence_sds-d c =
    let x = c.args in
    in_another x.d x.t x.reverse (presence_shown x.base.now x.i) (λ e. c.if-presence_sds-d.true (c.presence_sds.ensures.is ∙ e))

pub returns : goal.returns
returns c =
    let x = c.args in
    c.is_either.ensures
    ∙ ap (among (x.t ∷ option_to_list x.reverse)) c.presence_type.ensures.is
    ∙ in_it x.d x.t x.reverse (presence_shown x.base.now x.i) (sym c.presence_sds.ensures.is ∙ c.if-presence_sds-d.false)
