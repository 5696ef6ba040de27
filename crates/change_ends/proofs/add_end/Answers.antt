-- An end added: what was told of its two types, its own tests, and the rows of the end and of its mirror.
use Rattle.std.proofs.Common.{refl, sym, ◌∙◌, arith}
use Rattle.rules.proofs.09-Refusals.{stops}
use Rattle.base.proofs.Kept.{sound_long, kept_refused, kept_done}
use Rattle.base.proofs.StoredLaws.{sound_stored, shows_stored}
use Rattle.base.proofs.TestedLaws.{begun_stops, positive, answer_on}
use Rattle.change_ends.proofs.EndLaws.{past_aimed, goes_through, add_left, add_tests, add_full, addable}
use Rattle.change_ends.proofs.EndLaws.{room_first, room_second, second_free, added_one, added_both}
use Rattle.change_ends.proofs.add_end.Goals as goal

pub returns-in_err-l : goal.returns-in_err-l
returns-in_err-l c =
    begun_stops _ c.in_err-l.ensures.told (positive _) (past_aimed _ _ _ c.requires.aimed (add_left _ _ _ _ _))
    (answer_on _ _ c.from_residual.ensures)

pub is_end-requires-clause-d_bound : goal.is_end-requires-clause-d_bound
is_end-requires-clause-d_bound c =
    let th = goes_through _ _ _ c.requires.aimed c.in_ok-l.ensures.so in
    (omega (arith, th.below), (omega (arith, th.link_below), (c.requires.side_bound, omega (arith, th.object_below))))

pub returns-then-is_end : goal.returns-then-is_end
returns-then-is_end c =
    let named = c.in_ok-l.ensures in
    kept_refused (goes_through _ _ _ c.requires.aimed named.so).sound
    (stops (add_tests _ c.requires.aimed named.told named.so) (sym c.is_end.ensures ∙ c.if-is_end.true)) refl

pub is_full-requires : goal.is_full-requires
is_full-requires c = sound_long (goes_through _ _ _ c.requires.aimed c.in_ok-l.ensures.so).sound

pub returns-then-is_full : goal.returns-then-is_full
returns-then-is_full c =
    let named = c.in_ok-l.ensures in
    let rev = c.reverse_of-reverse.ensures in
    kept_refused (goes_through _ _ _ c.requires.aimed named.so).sound
    (add_full _ c.requires.aimed named.told named.so c.is_end.ensures c.if-is_end.false _ rev.reverse rev.below c.is_full.ensures c.if-is_full.true)
    refl

pub put_end-requires-clause-stored : goal.put_end-requires-clause-stored
put_end-requires-clause-stored c = sound_stored (goes_through _ _ _ c.requires.aimed c.in_ok-l.ensures.so).sound

pub put_end-requires-clause-fact : goal.put_end-requires-clause-fact
put_end-requires-clause-fact c =
    let th = goes_through _ _ _ c.requires.aimed c.in_ok-l.ensures.so in
    (th.outside, (omega (arith, th.below), (omega (arith, th.link_below), (c.requires.side_bound, omega (arith, th.object_below)))))

pub put_end-requires-clause-base_len_bound : goal.put_end-requires-clause-base_len_bound
put_end-requires-clause-base_len_bound c =
    let named = c.in_ok-l.ensures in
    let rev = c.reverse_of-reverse.ensures in
    let x
    = addable _ c.requires.aimed named.told named.so c.is_end.ensures c.if-is_end.false _ rev.reverse rev.below c.is_full.ensures c.if-is_full.false in
    room_first _ _ x.room

pub put_end-requires-in-Some-clause-stored : goal.put_end-requires-in-Some-clause-stored
put_end-requires-in-Some-clause-stored c = shows_stored c.put_end.ensures

pub put_end-requires-in-Some-clause-fact : goal.put_end-requires-in-Some-clause-fact
put_end-requires-in-Some-clause-fact c =
    let th = goes_through _ _ _ c.requires.aimed c.in_ok-l.ensures.so in
    (th.outside, (omega (arith, th.below), (omega (arith, c.in-Some.ensures.below), (omega arith, omega (arith, th.object_below)))))

pub put_end-requires-in-Some-clause-base_len_bound : goal.put_end-requires-in-Some-clause-base_len_bound
put_end-requires-in-Some-clause-base_len_bound c =
    let named = c.in_ok-l.ensures in
    let rev = c.reverse_of-reverse.ensures in
    let x
    = addable _ c.requires.aimed named.told named.so c.is_end.ensures c.if-is_end.false _ rev.reverse rev.below c.is_full.ensures c.if-is_full.false in
    room_second _ c.in-Some.ensures.reverse x.room _ _ _ c.put_end.ensures c.in-Some.ensures.below

pub put_end-requires-in-Some-clause-o_value : goal.put_end-requires-in-Some-clause-o_value
put_end-requires-in-Some-clause-o_value c =
    let named = c.in_ok-l.ensures in
    let rev = c.reverse_of-reverse.ensures in
    let x
    = addable _ c.requires.aimed named.told named.so c.is_end.ensures c.if-is_end.false _ rev.reverse rev.below c.is_full.ensures c.if-is_full.false in
    second_free _ c.in-Some.ensures.reverse x.room _ _ _ c.requires.side_bound c.put_end.ensures c.in-Some.ensures.below x.through.sound x.free

pub returns-in-Some : goal.returns-in-Some
returns-in-Some c =
    let named = c.in_ok-l.ensures in
    let rev = c.reverse_of-reverse.ensures in
    let x
    = addable _ c.requires.aimed named.told named.so c.is_end.ensures c.if-is_end.false _ rev.reverse rev.below c.is_full.ensures c.if-is_full.false in
    kept_done x.through.sound x.rule refl
    (added_both _ c.in-Some.ensures.reverse x.room _ _ _ c.requires.side_bound c.put_end.ensures c.in-Some.ensures.below c.put_end-in-Some.ensures)

pub returns-in_default : goal.returns-in_default
returns-in_default c =
    let named = c.in_ok-l.ensures in
    let rev = c.reverse_of-reverse.ensures in
    let x
    = addable _ c.requires.aimed named.told named.so c.is_end.ensures c.if-is_end.false _ rev.reverse rev.below c.is_full.ensures c.if-is_full.false in
    kept_done x.through.sound x.rule refl (added_one _ c.in_default.ensures.reverse x.room _ _ _ c.put_end.ensures (omega arith))
