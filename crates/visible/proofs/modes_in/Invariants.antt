-- `visible::modes_in`: the two sets are those of the rows so far.
use Rattle.std.proofs.Common.{◌≡◌, take}
use Rattle.base.specs.Back.{schema_of}
use Rattle.type_set.specs.Set.{bit}
use Rattle.visible.specs.Shown.{joined}
use Rattle.visible.proofs.modes_in.Given as goal

abbrev pub invariant-loop-i : goal.invariant-loop-i
invariant-loop-i l =
    let ps = take l.i (schema_of l.base).presences in
    (l.usage ≡ joined (bit l.sdss) l.t (λ p. p.usage) ps) × (l.definition ≡ joined (bit l.sdss) l.t (λ p. p.definition) ps)
