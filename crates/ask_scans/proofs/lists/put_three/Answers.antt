-- The counts are the lists' lengths, so the test of the room is that of `three_listing`; a list put down behind another goes on with it.
use Rattle.std.proofs.Common.{arith, refl}
use lib.ListN.{length-append}
use Rattle.rules.specs.05-Descent.{members}
use Rattle.rules.specs.09-Refusals.{success}
use Rattle.type_set.specs.Set.{has}
use Rattle.rules.proofs.05-Descent.{members_most}
use Rattle.type_set.proofs.PutLaws.{put_after}
use Rattle.ask_scans.proofs.ListLaws.{three_short, three_put}
use Rattle.ask_scans.proofs.lists.put_three.Goals as goal

pub overflow_add-l : goal.overflow_add-l
overflow_add-l c = omega (arith, c.count-l.ensures, c.count-m.ensures, members_most (has c.args.first), members_most (has c.args.second))

pub overflow_add-l-2 : goal.overflow_add-l-2
overflow_add-l-2 c =
    omega (
      arith,
      c.count-l.ensures,
      c.count-m.ensures,
      c.count-n.ensures,
      members_most (has c.args.first),
      members_most (has c.args.second),
      members_most (has c.args.third),
    )

pub returns-then-out-l : goal.returns-then-out-l
returns-then-out-l c = three_short _ _ _ _ (omega (arith, c.if-out-l.true, c.count-n.ensures, c.count-m.ensures, c.count-l.ensures)) refl

pub returns : goal.returns
returns c =
    let l = c.count-l.ensures in
    let m = c.count-m.ensures in
    let n = c.count-n.ensures in
    let x = c.args in
    three_put _ _ _ _ (omega (arith, c.if-out-l.false, l, m, n)) (λ i. success (l i) (m i) (n i))
    (put_after _ _ _ _ _ _ (omega (arith, l, m, length-append (members (has x.first)) (members (has x.second))))
    (put_after _ _ _ _ _ _ (omega (arith, l)) c.put_down.ensures c.put_down-2.ensures) c.put_down-3.ensures)
