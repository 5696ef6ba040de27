-- `kin::depth`: the first empty level is just above the end of the longest way.
use Rattle.std.proofs.Common.{◌≡◌, ℕ, true, false, Option, Some, None, is_some, MatchOption, sym, ◌∙◌, arith}
use Rattle.std.proofs.lemmas.Bool.{false≢true}
use Rattle.base.specs.Back.{schema_of}
use Rattle.base.proofs.Back.{sound_good}
use Rattle.type_set.specs.Set.{has}
use Rattle.lookup.proofs.Parents.{good_parental, object_below}
use Rattle.kin.proofs.KinLaws.{has_below}
use Rattle.kin.proofs.DepthLaws.{level_none, level_more, level_some, level_last, depth_small}
use Rattle.kin.proofs.depth.Goals as goal

pub only-requires : goal.only-requires
only-requires c = object_below c.args.base.now c.args.t c.requires.1

pub parents_of-s-requires : goal.parents_of-s-requires
parents_of-s-requires c = good_parental c.requires.0

pub loop-s-init : goal.loop-s-init
loop-s-init c =
    let one = c.only in
    let alone = level_none (schema_of c.args.base.now) c.args.t (has one.result) one.ensures in
    (omega arith, level_more _ alone (has_below one.result) c.parents_of-s.ensures)

pub parents_of-s-requires-in-loop-s : goal.parents_of-s-requires-in-loop-s
parents_of-s-requires-in-loop-s c = good_parental c.requires.0

pub overflow_add-d : goal.overflow_add-d
overflow_add-d c = omega (arith, depth_small (sound_good c.requires.0) c.args.t c.requires.1)

-- a level that is not passed has a type, and one that is has none
some : (P : Type 0) (Q : ℕ → Type 0) (o : Option ℕ) → MatchOption o P Q → is_some o ≡ true → (n : ℕ) × Q n
some P Q None h e = absurd (false≢true e)
some P Q (Some n) h e = (n, h)

none : (P : Type 0) (Q : ℕ → Type 0) (o : Option ℕ) → MatchOption o P Q → is_some o ≡ false → P
none P Q None h e = h
none P Q (Some n) h e = absurd (false≢true (sym e))

pub loop-s-smaller : goal.loop-s-smaller
loop-s-smaller c =
    let (n, one) = some _ _ c.lowest.result c.lowest.ensures (sym c.is_some.ensures ∙ c.loop-s-test.true) in
    let within = level_some (sound_good c.requires.0) c.args.t c.requires.1 c.loop-s.invariant.1 n one.passes in
    omega arith

pub loop-s-preserved : goal.loop-s-preserved
loop-s-preserved c =
    let (n, one) = some _ _ c.lowest.result c.lowest.ensures (sym c.is_some.ensures ∙ c.loop-s-test.true) in
    let within = level_some (sound_good c.requires.0) c.args.t c.requires.1 c.loop-s.invariant.1 n one.passes in
    (omega arith, level_more _ c.loop-s.invariant.1 (has_below c.loop-s.s) c.parents_of-s-in-loop-s.ensures)

pub returns : goal.returns
returns c =
    let empty = none _ _ c.lowest.result c.lowest.ensures (sym c.is_some.ensures ∙ c.loop-s-test.false) in
    let last = level_last (sound_good c.requires.0) c.args.t c.requires.1 c.loop-s.invariant.1 empty in
    omega arith
