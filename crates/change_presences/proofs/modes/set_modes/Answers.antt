-- Modes set: what the tests told, and then the rows of the type and of its reverse.
use Rattle.std.proofs.Common.{refl, sym, ◌∙◌}
use Rattle.rules.specs.declared.Refused.TheVariants.{UnknownMode}
use Rattle.base.proofs.Kept.{kept_done}
use Rattle.base.proofs.TestedLaws.{begun_stops, tested_stops, come_next, come_stops, come_rest, positive, answer_on, tested_sound}
use Rattle.conditions.proofs.AimedLaws.{come_aimed}
use Rattle.change_presences.proofs.ModesLaws.{set_left, goes_through}
use Rattle.change_presences.proofs.modes.set_modes.Goals as goal

pub returns-in_err-aimed : goal.returns-in_err-aimed
returns-in_err-aimed c = begun_stops _ c.in_err-aimed.ensures (positive _) (set_left _ _ _ _ _) (answer_on _ _ c.from_residual.ensures)

pub returns-then-is_unknown : goal.returns-then-is_unknown
returns-then-is_unknown c =
    tested_stops (come_stops (come_aimed _ c.in_ok-aimed.ensures refl _) (sym c.is_unknown.ensures ∙ c.if-is_unknown.true) refl)
    (positive UnknownMode) (set_left _ _ _ _ _) refl

pub named-requires : goal.named-requires
named-requires c = tested_sound c.in_ok-aimed.ensures refl

pub returns-in_err-t : goal.returns-in_err-t
returns-in_err-t c =
    tested_stops
    (come_rest (come_next (come_aimed _ c.in_ok-aimed.ensures refl _) (sym c.is_unknown.ensures ∙ c.if-is_unknown.false)) c.in_err-t.ensures.told)
    (positive _) (set_left _ _ _ _ _) (answer_on _ _ c.from_residual-in_err-t.ensures)

pub reverse_of-reverse-requires : goal.reverse_of-reverse-requires
reverse_of-reverse-requires c = (tested_sound c.in_ok-aimed.ensures refl, c.in_ok-t.ensures.so.below)

pub write_all-requires : goal.write_all-requires
write_all-requires c =
    let th = goes_through _ _ _ _ _
    (come_rest (come_next (come_aimed _ c.in_ok-aimed.ensures refl _) (sym c.is_unknown.ensures ∙ c.if-is_unknown.false)) c.in_ok-t.ensures.told)
    c.in_ok-t.ensures.so c.reverse_of-reverse.ensures.reverse c.reverse_of-reverse.ensures.below in
    record { sound = (th.aim.sound, th.aim.outside); modes_bound = th.small }

pub returns : goal.returns
returns c =
    let th = goes_through _ _ _ _ _
    (come_rest (come_next (come_aimed _ c.in_ok-aimed.ensures refl _) (sym c.is_unknown.ensures ∙ c.if-is_unknown.false)) c.in_ok-t.ensures.told)
    c.in_ok-t.ensures.so c.reverse_of-reverse.ensures.reverse c.reverse_of-reverse.ensures.below in
    kept_done th.aim.sound th.rule refl c.write_all.ensures.shown
