-- `visible::is_end`: in a sound base the byte of a side is its code.
use Rattle.std.proofs.Common.{◌≡◌, ℕ, true, eqb, sym, ap, ◌∙◌, arith}
use Rattle.base.specs.Back.{end_shown}
use Rattle.base.proofs.Kept.{sound_long}
use Rattle.type_set.specs.Set.{bit}
use Rattle.lookup.proofs.RowBytes.{few_ends, end_small, side_byte}
use Rattle.visible.proofs.is_end.Goals as goal

pub end_sds-requires : goal.end_sds-requires
end_sds-requires c = (sound_long c.requires.0, omega (arith, few_ends c.args.base.now))

pub lists-requires : goal.lists-requires
lists-requires c = omega (arith, (end_small c.requires.0 _ c.requires.1).0)

pub end_side-requires : goal.end_side-requires
end_side-requires c = (sound_long c.requires.0, omega (arith, few_ends c.args.base.now))

pub returns-then-lists : goal.returns-then-lists
returns-then-lists c =
    let x = c.args in
    let on : bit x.sdss (end_shown x.base.now x.i).sds ≡ true = ap (bit x.sdss) (sym c.end_sds.ensures.is) ∙ sym c.lists.ensures ∙ c.if-lists.true in
    rw on (ap (λ (s : ℕ). eqb s x.side) (c.end_side.ensures.is ∙ side_byte c.requires.0 _ c.requires.1))
