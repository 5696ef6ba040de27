-- An end removed: what was told of its two types, its own test, and the rows of the end and of its mirror.
use Rattle.std.proofs.Common.{refl, arith}
use Rattle.base.proofs.Kept.{kept_refused, kept_done}
use Rattle.base.proofs.StoredLaws.{sound_stored, shows_stored}
use Rattle.base.proofs.TestedLaws.{begun_stops, positive, answer_on}
use Rattle.change_ends.proofs.EndLaws.{past_aimed, goes_through, remove_left, remove_none, removable}
use Rattle.change_ends.proofs.EndLaws.{removed_one, mirror_found, mirror_at, removed_both}
use Rattle.change_ends.proofs.remove_end.Goals as goal

pub returns-in_err-l : goal.returns-in_err-l
returns-in_err-l c =
    begun_stops _ c.in_err-l.ensures.told (positive _) (past_aimed _ _ _ c.requires.aimed (remove_left _ _ _ _ _))
    (answer_on _ _ c.from_residual.ensures)

pub end_row-requires-clause-stored : goal.end_row-requires-clause-stored
end_row-requires-clause-stored c = sound_stored (goes_through _ _ _ c.requires.aimed c.in_ok-l.ensures.so).sound

pub end_row-requires-clause-d_bound : goal.end_row-requires-clause-d_bound
end_row-requires-clause-d_bound c =
    let th = goes_through _ _ _ c.requires.aimed c.in_ok-l.ensures.so in
    (omega (arith, th.below), (omega (arith, th.link_below), (c.requires.side_bound, omega (arith, th.object_below))))

pub returns-in_default : goal.returns-in_default
returns-in_default c =
    let named = c.in_ok-l.ensures in
    kept_refused (goes_through _ _ _ c.requires.aimed named.so).sound
    (remove_none c.requires.aimed named.told named.so c.in_default.ensures.place (omega arith)) refl

pub take_end-requires-clause-stored : goal.take_end-requires-clause-stored
take_end-requires-clause-stored c = sound_stored (goes_through _ _ _ c.requires.aimed c.in_ok-l.ensures.so).sound

pub end_row-requires-in-Some-reverse-clause-stored : goal.end_row-requires-in-Some-reverse-clause-stored
end_row-requires-in-Some-reverse-clause-stored c = shows_stored c.take_end.ensures

pub unwrap-mirror-requires : goal.unwrap-mirror-requires
unwrap-mirror-requires c =
    let named = c.in_ok-l.ensures in
    let x = removable c.requires.aimed named.told named.so c.in-Some.ensures.place c.in-Some.ensures.below in
    let rev = c.in-Some-reverse.ensures in
    mirror_found x.through.sound _ x.place x.row_below c.take_end.ensures rev.reverse c.requires.side_bound rev.below _
    c.end_row-in-Some-reverse.ensures.place x.there

pub take_end-requires-in-Some-reverse-clause-stored : goal.take_end-requires-in-Some-reverse-clause-stored
take_end-requires-in-Some-reverse-clause-stored c = shows_stored c.take_end.ensures

pub returns-in-Some-reverse : goal.returns-in-Some-reverse
returns-in-Some-reverse c =
    let named = c.in_ok-l.ensures in
    let x = removable c.requires.aimed named.told named.so c.in-Some.ensures.place c.in-Some.ensures.below in
    let rev = c.in-Some-reverse.ensures in
    kept_done x.through.sound x.rule refl
    (removed_both x.through.sound _ x.place x.row_below c.take_end.ensures rev.reverse c.requires.side_bound rev.below
    (mirror_at x.through.sound _ x.place x.row_below c.take_end.ensures rev.reverse c.unwrap-mirror.ensures
    c.end_row-in-Some-reverse.ensures.place)
    x.there c.take_end-in-Some-reverse.ensures)

pub returns-in_default-reverse : goal.returns-in_default-reverse
returns-in_default-reverse c =
    let named = c.in_ok-l.ensures in
    let x = removable c.requires.aimed named.told named.so c.in-Some.ensures.place c.in-Some.ensures.below in
    kept_done x.through.sound x.rule refl
    (removed_one x.through.sound _ x.place x.row_below c.take_end.ensures c.in_default-reverse.ensures.reverse (omega arith))
