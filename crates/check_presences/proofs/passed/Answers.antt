-- A row that goes on in the name of the one before it is above, and of another one `compared` decides.
use Rattle.std.proofs.Common.{◌≡◌, ℕ, ◌+◌, ◌-◌, arith, sym, ap, ◌∙◌, subst}
use Rattle.rows.specs.Rows.{part}
use Rattle.rows.specs.Order.{number, folded, Low}
use Rattle.base.specs.Rows.{presence_at}
use Rattle.check_presences.specs.Floor.{GoesOn}
use Rattle.check_presences.proofs.HalfLaws.{field_low}
use Rattle.check_presences.proofs.FloorLaws.{row_goes_on}
use Rattle.check_presences.proofs.passed.Goals as goal

pub folded-second-requires : goal.folded-second-requires
folded-second-requires c =
    let x = c.requires in
    let b = c.args.base.now in
    let low = (field_low b c.args.i x.base_len.0 x.base_len.1.1 x.field_fine.1).second in
    let there : c.args.at + 1 + 8 ≡ presence_at c.args.i + 9 = omega (arith, x.at_value.0) in
    (omega (arith, x.base_len, x.at_value.0), subst (λ (k : ℕ). Low (part b k 8)) (sym there) low)

pub returns-then-goes_on : goal.returns-then-goes_on
returns-then-goes_on c =
    let x = c.requires in
    let a = c.args in
    let b = a.base.now in
    let was : a.at - 20 ≡ presence_at a.last = omega (arith, x.at_value.1) in
    let there : a.at + 1 + 8 ≡ presence_at a.i + 9 = omega (arith, x.at_value.0) in
    let on = subst (λ (k : ℕ). GoesOn b k (presence_at a.i) a.floor c.folded-second.result) was
    (subst (λ (k : ℕ). GoesOn b (a.at - 20) k a.floor c.folded-second.result) x.at_value.0 (c.goes_on.ensures c.if-goes_on.true)) in
    row_goes_on b x.base_len.0 (λ j. (c.type_inv.base j).fits) x.base_len.1.0 x.base_len.1.1 x.field_fine.0 x.field_fine.1
    x.last on (c.folded-second.ensures ∙ ap (λ (k : ℕ). number 0 (folded (part b k 8))) there)
