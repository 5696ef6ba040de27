-- Two presences that come in: the second goes in among those that the first one left.
use Rattle.std.proofs.Common.{refl, sym, ◌∙◌, arith}
use Rattle.rules.proofs.09-Refusals.{passes, stops, ends}
use Rattle.rules.proofs.NameTests.{two_names}
use Rattle.base.proofs.Kept.{sound_long, kept_refused, kept_done}
use Rattle.base.proofs.Shown.{presences_long}
use Rattle.base.proofs.StoredLaws.{sound_stored, shows_stored}
use Rattle.change_imports.proofs.ImportLaws.{enter_left, no_room, some_room, room_second, free_second, entered_both}
use Rattle.change_imports.proofs.enter_both.Goals as goal

pub returns-then-are_taken : goal.returns-then-are_taken
returns-then-are_taken c = kept_refused c.requires.sound (stops (enter_left _ _ _ _ _ _) (sym c.are_taken.ensures ∙ c.if-are_taken.true)) refl

pub presence_count-requires : goal.presence_count-requires
presence_count-requires c = sound_long c.requires.sound

pub returns-then-presence_count-gt-PRESENCES : goal.returns-then-presence_count-gt-PRESENCES
returns-then-presence_count-gt-PRESENCES c =
    kept_refused c.requires.sound
    (stops (passes (enter_left _ _ _ _ _ _) (sym c.are_taken.ensures ∙ c.if-are_taken.false))
    (no_room _ 2 (omega (arith, c.if-presence_count-gt-PRESENCES.true, c.presence_count.ensures.is)))) refl

pub put_presence-requires-clause-stored : goal.put_presence-requires-clause-stored
put_presence-requires-clause-stored c = sound_stored c.requires.sound

pub put_presence-requires-clause-base_len_bound : goal.put_presence-requires-clause-base_len_bound
put_presence-requires-clause-base_len_bound c =
    omega (arith, c.if-presence_count-gt-PRESENCES.false, c.presence_count.ensures.is, presences_long c.args.base.now)

pub put_presence-requires-clause-name_value_2 : goal.put_presence-requires-clause-name_value_2
put_presence-requires-clause-name_value_2 c = (two_names _ _ _ _ (sym c.are_taken.ensures ∙ c.if-are_taken.false)).free

pub put_presence-requires-2-clause-stored : goal.put_presence-requires-2-clause-stored
put_presence-requires-2-clause-stored c = shows_stored c.put_presence.ensures

pub put_presence-requires-2-clause-base_len_bound : goal.put_presence-requires-2-clause-base_len_bound
put_presence-requires-2-clause-base_len_bound c =
    room_second _ _ _ _ c.put_presence.ensures (omega (arith, c.if-presence_count-gt-PRESENCES.false, c.presence_count.ensures.is))

pub put_presence-requires-2-clause-name_value_2 : goal.put_presence-requires-2-clause-name_value_2
put_presence-requires-2-clause-name_value_2 c =
    let names = two_names _ _ _ _ (sym c.are_taken.ensures ∙ c.if-are_taken.false) in
    free_second _ _ _ _ c.put_presence.ensures _ names.apart names.other_free

pub returns : goal.returns
returns c =
    kept_done c.requires.sound
    (ends (passes (passes (enter_left _ _ _ _ _ _) (sym c.are_taken.ensures ∙ c.if-are_taken.false))
    (some_room _ 2 (omega (arith, c.if-presence_count-gt-PRESENCES.false, c.presence_count.ensures.is)))))
    refl (entered_both _ _ _ _ c.put_presence.ensures _ _ c.put_presence-2.ensures)
