-- One presence that comes in under a name, and nameless ones with it: what refuses leaves the base.
use Rattle.std.proofs.Common.{refl, sym, ◌∙◌, arith}
use lib.ListN.{length-map}
use Rattle.rules.specs.05-Descent.{members}
use Rattle.rules.specs.10-Changes.{nameless}
use Rattle.rules.proofs.05-Descent.{members_most}
use Rattle.rules.proofs.09-Refusals.{passes, stops, ends}
use Rattle.rules.proofs.NameTests.{one_taken, one_free}
use Rattle.base.proofs.Back.{sound_good}
use Rattle.base.proofs.Kept.{sound_long, kept_refused, kept_done}
use Rattle.base.proofs.Shown.{presences_long}
use Rattle.base.proofs.StoredLaws.{sound_stored, shows_stored}
use Rattle.lookup.proofs.NamedLaws.{found_bears}
use Rattle.type_set.specs.Set.{has}
use Rattle.change_imports.proofs.ImportLaws.{enter_left, no_room, some_room, lacking, entered_one}
use Rattle.change_imports.proofs.enter_one.Goals as goal

pub returns-then-is_some : goal.returns-then-is_some
returns-then-is_some c =
    kept_refused c.requires.sound
    (stops (enter_left _ _ _ _ _ _)
    (one_taken _ _ _ (sym (found_bears _ c.type_in.ensures.named c.type_in.ensures.below) ∙ sym c.is_some.ensures ∙ c.if-is_some.true))) refl

pub presence_count-requires : goal.presence_count-requires
presence_count-requires c = sound_long c.requires.sound

pub overflow_add-presence_count-2 : goal.overflow_add-presence_count-2
overflow_add-presence_count-2 c = omega (arith, c.count.ensures, members_most (has c.args.above), c.presence_count.ensures.fits)

pub returns-then-presence_count-count-gt-PRESENCES : goal.returns-then-presence_count-count-gt-PRESENCES
returns-then-presence_count-count-gt-PRESENCES c =
    let x = c.args in
    let many = length-map (members (has x.above)) (nameless x.d) in
    kept_refused c.requires.sound
    (stops
    (passes (enter_left _ _ _ _ _ _)
    (one_free _ _ _ (sym (found_bears _ c.type_in.ensures.named c.type_in.ensures.below) ∙ sym c.is_some.ensures ∙ c.if-is_some.false)))
    (no_room _ _ (omega (arith, many, c.count.ensures, c.presence_count.ensures.is, c.if-presence_count-count-gt-PRESENCES.true)))) refl

pub put_presence-requires-clause-stored : goal.put_presence-requires-clause-stored
put_presence-requires-clause-stored c = sound_stored c.requires.sound

pub put_presence-requires-clause-base_len_bound : goal.put_presence-requires-clause-base_len_bound
put_presence-requires-clause-base_len_bound c =
    omega (arith, c.if-presence_count-count-gt-PRESENCES.false, c.presence_count.ensures.is, presences_long c.args.base.now)

pub bring-requires-clause-stored : goal.bring-requires-clause-stored
bring-requires-clause-stored c = (shows_stored c.put_presence.ensures, (c.requires.enters.outside, c.requires.enters.small))

pub bring-requires-clause-lacking : goal.bring-requires-clause-lacking
bring-requires-clause-lacking c =
    lacking _ _ _ _ c.put_presence.ensures (sound_good c.requires.sound) _ c.requires.missing
    (omega (arith, c.if-presence_count-count-gt-PRESENCES.false, c.count.ensures, c.presence_count.ensures.is))

pub returns : goal.returns
returns c =
    let x = c.args in
    let many = length-map (members (has x.above)) (nameless x.d) in
    kept_done c.requires.sound
    (ends
    (passes
    (passes (enter_left _ _ _ _ _ _)
    (one_free _ _ _ (sym (found_bears _ c.type_in.ensures.named c.type_in.ensures.below) ∙ sym c.is_some.ensures ∙ c.if-is_some.false)))
    (some_room _ _ (omega (arith, many, c.count.ensures, c.presence_count.ensures.is, c.if-presence_count-count-gt-PRESENCES.false)))))
    refl (entered_one _ _ _ _ c.put_presence.ensures _ c.bring.ensures)
