-- `kin::add_child`: the type of the row is added where all three tests pass, or is there already.
use Rattle.std.proofs.Common.{ℕ, List, ◌||◌, eqb, sym, ap, ◌∙◌, arith}
use Rattle.base.specs.Back.{schema_of, presence_shown}
use Rattle.base.proofs.Kept.{sound_long}
use Rattle.type_set.specs.Set.{bit, has}
use Rattle.lookup.proofs.Parents.{good_parental}
use Rattle.lookup.proofs.RowBytes.{few_presences, presence_small}
use Rattle.kin.specs.Kin.{children_of}
use Rattle.kin.proofs.PassLaws.{not_listed, childless, there_already, added}
use Rattle.kin.proofs.add_child.Goals.{then-test-via-then-test, then-test-via-else-test+then-not-has_parent_in}
use Rattle.kin.proofs.add_child.Goals as goal

-- what the row says
abbrev sds : List ℕ → ℕ → ℕ
sds b i = (presence_shown b i).sds

abbrev type : List ℕ → ℕ → ℕ
type b i = (presence_shown b i).type

pub presence_sds-requires : goal.presence_sds-requires
presence_sds-requires c = (sound_long c.requires.0, omega (arith, few_presences c.args.base.now))

pub lists-requires : goal.lists-requires
lists-requires c = omega (arith, (presence_small c.requires.0 _ c.requires.1).0)

pub returns-then-not-lists : goal.returns-then-not-lists
returns-then-not-lists c =
    let x = c.args in
    λ k. not_listed (has x.s) (type x.base.now x.i) k _ _
    (sym (c.lists.ensures ∙ ap (bit x.sdss) c.presence_sds.ensures.is) ∙ c.if-not-lists.true)

pub presence_type-t-requires : goal.presence_type-t-requires
presence_type-t-requires c = (sound_long c.requires.0, omega (arith, few_presences c.args.base.now))

pub test-requires : goal.test-requires
test-requires c = omega (arith, (presence_small c.requires.0 _ c.requires.1).1)

pub has_parent_in-requires : goal.has_parent_in-requires
has_parent_in-requires c = (good_parental c.requires.0, omega (arith, (presence_small c.requires.0 _ c.requires.1).1))

pub returns-then-test : goal.returns-then-test
returns-then-test c =
    let x = c.args in
    let q = has x.s in
    let t = type x.base.now x.i in
    let listed = bit x.sdss (sds x.base.now x.i) in
    λ k. elim c.then-test.branch [
      | then-test-via-then-test w ↦
          there_already q t k listed _ (ap q (sym c.presence_type-t.ensures.is) ∙ sym c.test.ensures ∙ w.if-test.true)
      | then-test-via-else-test+then-not-has_parent_in w ↦
          let child = ap (children_of (schema_of x.base.now) q) (sym c.presence_type-t.ensures.is) ∙ sym w.has_parent_in.ensures in
          childless q t k listed _ (child ∙ w.if-not-has_parent_in.true)
    ]

pub add-requires : goal.add-requires
add-requires c = omega (arith, (presence_small c.requires.0 _ c.requires.1).1)

pub returns : goal.returns
returns c =
    let x = c.args in
    let child = ap (children_of (schema_of x.base.now) (has x.s)) (sym c.presence_type-t.ensures.is) ∙ sym c.has_parent_in.ensures in
    λ k. added (has x.s) (type x.base.now x.i) k _ _
    (c.add.ensures k ∙ ap (λ (t : ℕ). eqb k t || has x.s k) c.presence_type-t.ensures.is)
    (sym (c.lists.ensures ∙ ap (bit x.sdss) c.presence_sds.ensures.is) ∙ c.if-not-lists.false)
    (child ∙ c.if-not-has_parent_in.false)
