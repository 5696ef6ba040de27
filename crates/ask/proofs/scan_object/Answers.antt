-- The view's refusals come first in the rule; then the visible part of the scan is its list, and `put` tests the room.
use borrow.Author.Tests.{ltb-true}
use Rattle.rules.specs.11-Asks.{object_scan_list}
use Rattle.rules.specs.12-Contracts.{room}
use Rattle.base.specs.Back.{schema_of}
use Rattle.base.proofs.TestedLaws.{answer_on, listed_stops, positive}
use Rattle.ask_scans.proofs.ViewLaws.{viewed_passes}
use Rattle.ask.proofs.CallLaws.{scan_object_left, room_test, object_list, listed_put}
use Rattle.ask.proofs.scan_object.Goals as goal

pub returns-in_err-listed : goal.returns-in_err-listed
returns-in_err-listed c =
    let x = c.args in
    listed_stops _ c.in_err-listed.ensures.told (positive _) (scan_object_left x.schema.now x.t x.code (room x.out.now) (schema_of x.base.now))
    (answer_on _ _ c.from_residual.ensures)

pub of_object-set-requires : goal.of_object-set-requires
of_object-set-requires c =
    let v = c.in_ok-listed.ensures in
    let th = v.through in
    (th.sound, (th.below, (ltb-true c.args.code 10 v.code_known, th.held)))

pub returns : goal.returns
returns c =
    let x = c.args in
    let v = c.in_ok-listed.ensures in
    let l = object_scan_list x.schema.now x.t x.code (schema_of x.base.now) in
    listed_put v.through.sound _ l (object_list v.through _ x.code c.of_object-set.ensures) c.put.ensures
    (viewed_passes v (room_test (room x.out.now) l) (scan_object_left x.schema.now x.t x.code (room x.out.now) (schema_of x.base.now)))
