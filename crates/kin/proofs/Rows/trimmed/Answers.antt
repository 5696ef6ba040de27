-- `kin::Rows::trimmed`: the rows that go are in none of these SDSs.
use Rattle.std.proofs.Common.{◌≡◌, Bool, ◌+◌, cond, refl, sym, ap, ◌∙◌, arith}
use Rattle.lookup.proofs.RowBytes.{few_presences}
use Rattle.type_set.specs.Set.{bit}
use Rattle.kin.proofs.PassLaws.{span_trimmed}
use Rattle.kin.proofs.Rows.trimmed.Goals.{then-self, else-self}
use Rattle.kin.proofs.Rows.trimmed.Goals as goal

pub overflow_add-from : goal.overflow_add-from
overflow_add-from c = omega (arith, c.requires.1.fits, c.unlisted-n.ensures.0, few_presences c.args.base.now)

pub returns : goal.returns
returns c =
    let x = c.args.self in
    let n = c.unlisted-n in
    let at : c.if-self.from ≡ cond x.down x.from (x.from + n.result) = elim c.if-self.branch [
      | then-self w ↦ w.from-is ∙ ap (λ (d : Bool). cond d x.from (x.from + n.result)) (sym w.if-self.true)
      | else-self w ↦ w.from-is ∙ ap (λ (d : Bool). cond d x.from (x.from + n.result)) (sym w.if-self.false)
    ] in
    (rw at (span_trimmed c.args.base.now (bit c.args.sdss) x.from x.count n.result x.down c.requires.1 n.ensures.0 n.ensures.1), refl)
