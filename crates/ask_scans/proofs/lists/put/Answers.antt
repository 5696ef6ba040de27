-- The count is the list's length, so the test of the room is that of `listing`; past it the list is put down.
use Rattle.std.proofs.Common.{ℕ, ap, arith, refl}
use Rattle.rules.specs.09-Refusals.{success}
use Rattle.ask_scans.proofs.ListLaws.{list_short, list_put}
use Rattle.ask_scans.proofs.lists.put.Goals as goal

pub returns-then-out-n : goal.returns-then-out-n
returns-then-out-n c = list_short _ _ (omega (arith, c.if-out-n.true, c.count-n.ensures)) refl

pub returns : goal.returns
returns c =
    list_put _ _ (omega (arith, c.if-out-n.false, c.count-n.ensures)) (ap (λ (n : ℕ). success n 0 0) c.count-n.ensures) c.put_down.ensures
