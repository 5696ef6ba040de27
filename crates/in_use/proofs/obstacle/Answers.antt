-- The three obstacles in the order of their numbers, each passed where it tells no type.
use Rattle.rules.specs.09-Refusals.{applied_there, end_there}
use Rattle.base.specs.Back.{schema_of}
use Rattle.base.proofs.TestedLaws.{come_through}
use Rattle.in_use.proofs.HeldLaws.{held_stops, held_passes, with_other, child_stops, past_child, past_applied}
use Rattle.in_use.proofs.obstacle.Goals as goal

pub returns-in-Some : goal.returns-in-Some
returns-in-Some c = let q = c.requires in child_stops q.sound c.args.d c.args.reverse q.reverse_of q.below c.in-Some.ensures

pub returns-in-Some-lowest_applied : goal.returns-in-Some-lowest_applied
returns-in-Some-lowest_applied c =
    let x = c.args in
    let q = c.requires in
    held_stops 17 (applied_there (schema_of x.base.now) x.d) _ (past_child q.sound x.d x.reverse q.reverse_of q.below c.in_default.ensures)
    (with_other x.reverse q.reverse_of q.below _ c.in-Some-lowest_applied.ensures)

pub returns-in-Some-lowest_end : goal.returns-in-Some-lowest_end
returns-in-Some-lowest_end c =
    let x = c.args in
    let q = c.requires in
    held_stops 18 (end_there (schema_of x.base.now) x.d) _
    (past_applied q.sound x.d x.reverse q.reverse_of q.below
    (past_child q.sound x.d x.reverse q.reverse_of q.below c.in_default.ensures) c.in_default-lowest_applied.ensures)
    (with_other x.reverse q.reverse_of q.below _ c.in-Some-lowest_end.ensures)

pub returns : goal.returns
returns c =
    let x = c.args in
    let q = c.requires in
    come_through
    (held_passes 18 (end_there (schema_of x.base.now) x.d) _
    (past_applied q.sound x.d x.reverse q.reverse_of q.below
    (past_child q.sound x.d x.reverse q.reverse_of q.below c.in_default.ensures) c.in_default-lowest_applied.ensures)
    (with_other x.reverse q.reverse_of q.below _ c.in_default-lowest_end.ensures))
