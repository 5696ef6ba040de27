-- The view's refusals come first in the rule; then the three lists are its lists, and `put_three` tests the room.
use Rattle.rules.specs.11-Asks.{profile_list}
use Rattle.rules.specs.12-Contracts.{room}
use Rattle.base.specs.Back.{schema_of}
use Rattle.base.proofs.TestedLaws.{answer_on, listed_stops, positive}
use Rattle.ask_scans.proofs.ViewLaws.{viewed_passes}
use Rattle.ask.proofs.CallLaws.{profile_left, room_test, object_list, listed_three}
use Rattle.ask.proofs.profile.Goals as goal

pub returns-in_err-listed : goal.returns-in_err-listed
returns-in_err-listed c =
    let x = c.args in
    listed_stops _ c.in_err-listed.ensures.told (positive _) (profile_left x.schema.now x.t (room x.out.now) (schema_of x.base.now))
    (answer_on _ _ c.from_residual.ensures)

pub of_profile-lists-requires : goal.of_profile-lists-requires
of_profile-lists-requires c = let th = c.in_ok-listed.ensures.through in (th.sound, (th.below, th.held))

pub returns : goal.returns
unfolding profile_list
returns c =
    let x = c.args in
    let v = c.in_ok-listed.ensures in
    let th = v.through in
    let lists = c.of_profile-lists.ensures in
    listed_three th.sound (object_list th _ 3 lists.ancestors) (object_list th _ 5 lists.attributes) (object_list th _ 7 lists.links) c.put_three.ensures
    (viewed_passes v (room_test (room x.out.now) (profile_list x.schema.now x.t (schema_of x.base.now)))
    (profile_left x.schema.now x.t (room x.out.now) (schema_of x.base.now)))
