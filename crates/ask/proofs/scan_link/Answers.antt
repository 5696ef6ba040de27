-- The view's refusals come first in the rule; then the visible part of the scan is its list, and `put` tests the room.
use borrow.Author.Tests.{ltb-true}
use Rattle.rules.specs.11-Asks.{link_scan_list}
use Rattle.rules.specs.12-Contracts.{room}
use Rattle.base.specs.Back.{schema_of}
use Rattle.base.proofs.TestedLaws.{answer_on, listed_stops, positive}
use Rattle.ask_scans.proofs.ViewLaws.{viewed_passes}
use Rattle.ask.proofs.CallLaws.{scan_link_left, room_test, link_list, listed_put}
use Rattle.ask.proofs.scan_link.Goals as goal

pub returns-in_err-listed : goal.returns-in_err-listed
returns-in_err-listed c =
    let x = c.args in
    listed_stops _ c.in_err-listed.ensures.told (positive _) (scan_link_left x.schema.now x.t x.code (room x.out.now) (schema_of x.base.now))
    (answer_on _ _ c.from_residual.ensures)

pub of_link-set-requires : goal.of_link-set-requires
of_link-set-requires c =
    let v = c.in_ok-listed.ensures in
    let th = v.through in
    (th.sound, (th.below, ltb-true c.args.code 5 v.code_known))

pub returns : goal.returns
returns c =
    let x = c.args in
    let v = c.in_ok-listed.ensures in
    let l = link_scan_list x.schema.now x.t x.code (schema_of x.base.now) in
    listed_put v.through.sound _ l (link_list v.through _ x.code c.of_link-set.ensures) c.put.ensures
    (viewed_passes v (room_test (room x.out.now) l) (scan_link_left x.schema.now x.t x.code (room x.out.now) (schema_of x.base.now)))
