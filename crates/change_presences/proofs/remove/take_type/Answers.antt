-- A type taken out of an SDS: its presence, that of its reverse, and the types that are gone.
use Rattle.std.proofs.Common.{ℕ, ap, Option}
use Rattle.std.specs.Option.{unwrap_or}
use Rattle.rules.proofs.05-Descent.{used_below}
use Rattle.rules.proofs.08-Working.{present_used}
use Rattle.base.proofs.Back.{sound_good}
use Rattle.base.proofs.StoredLaws.{sound_stored, shows_stored}
use Rattle.change_presences.proofs.HeldLaws.{held, some_below}
use Rattle.change_presences.proofs.RemoveLaws.{the_reverse, reverse_held, removed_one, removed_two}
use Rattle.change_presences.proofs.remove.take_type.Goals as goal

pub take_out-requires : goal.take_out-requires
take_out-requires c =
    let (sound, there) = c.requires.sound in
    record { stored = sound_stored sound; held_once = held (sound_good sound) _ _ there }

pub drop_if_gone-requires-clause-stored : goal.drop_if_gone-requires-clause-stored
drop_if_gone-requires-clause-stored c = shows_stored c.take_out.ensures

pub drop_if_gone-requires-clause-t_lt_types : goal.drop_if_gone-requires-clause-t_lt_types
drop_if_gone-requires-clause-t_lt_types c =
    let (sound, there) = c.requires.sound in
    used_below (sound_good sound) _ (present_used (sound_good sound) _ _ there)

pub returns-in_default : goal.returns-in_default
returns-in_default c =
    removed_one _ _ c.requires.reverse_of c.take_out.ensures (ap (λ (o : Option ℕ). unwrap_or o 128) c.in_default.is) c.drop_if_gone.ensures

pub take_out-requires-2-clause-stored : goal.take_out-requires-2-clause-stored
take_out-requires-2-clause-stored c = shows_stored c.take_out.ensures

pub take_out-requires-2-clause-held_once : goal.take_out-requires-2-clause-held_once
take_out-requires-2-clause-held_once c =
    let (sound, there) = c.requires.sound in
    reverse_held _ _ (the_reverse c.requires.reverse_of c.in-Some.is) c.take_out.ensures sound (held (sound_good sound) _ _ there)
    (some_below c.requires.below c.in-Some.is)

pub drop_if_gone-requires-2-clause-stored : goal.drop_if_gone-requires-2-clause-stored
drop_if_gone-requires-2-clause-stored c = shows_stored c.take_out-2.ensures

pub drop_if_gone-requires-3-clause-stored : goal.drop_if_gone-requires-3-clause-stored
drop_if_gone-requires-3-clause-stored c = shows_stored c.drop_if_gone-2.ensures

pub returns : goal.returns
returns c =
    removed_two _ _ (the_reverse c.requires.reverse_of c.in-Some.is) c.take_out.ensures (some_below c.requires.below c.in-Some.is)
    c.take_out-2.ensures c.drop_if_gone-2.ensures c.drop_if_gone-3.ensures
