-- The root and the types passed are fine, or one refuses; while none is numbered otherwise their parents fall.
use Rattle.std.proofs.Common.{◌-◌, Some, arith, rules, sym, refl, ap, ◌∙◌}
use Rattle.std.proofs.lemmas.Option.{none-some, same_Some}
use Rattle.lookup.proofs.KindBytes.{count_byte}
use Rattle.check_types.specs.declared.Numbering.TheVariants.{Below}
use Rattle.check_types.specs.OneType.{ParentsBelow, TypeFine}
use Rattle.check_types.proofs.OneTypeLaws.{root_type, else_below}
use Rattle.check_types.proofs.NumberLaws.{from_more, from_before, unheld_told}
use Rattle.check_types.proofs.TypesLaws.{rows_fall, types_all, types_each, types_root, not_fine}
use Rattle.check_types.proofs.types_fine.Goals as goal

pub returns-then-not-root_fine : goal.returns-then-not-root_fine
returns-then-not-root_fine c =
    let x = c.requires in
    not_fine (λ f. c.root_fine.ensures.fails (search rules) (types_root x.holds x.base_len f))

pub loop-t-init : goal.loop-t-init
loop-t-init c =
    let long = c.requires.base_len in
    let unused = c.used_end-t.ensures.1.1 in (
      omega arith,
      λ k u l. (unheld_told long u (unused k u l)).fine Below refl,
      λ e k u l. (unheld_told long u (unused k u l)).falling refl,
    )

pub returns-in_err-type_fine : goal.returns-in_err-type_fine
returns-in_err-type_fine c =
    let x = c.requires in
    rw c.from_residual.ensures (not_fine (λ f.
    c.type_fine.ensures.not c.in_err-type_fine.was (types_each x.holds x.base_len f (c.loop-t.t - 1) (omega arith))))

pub loop-t-preserved-then-eq : goal.loop-t-preserved-then-eq
loop-t-preserved-then-eq c =
    let at = c.loop-t in (
      omega arith,
      from_before (TypeFine c.args.base.now c.args.held.now) 128 at.t (omega arith) at.invariant.1
          (c.type_fine.ensures.fine c.in_ok-type_fine.field-0 c.in_ok-type_fine.was),
      λ e. absurd cc,
    )

pub loop-t-preserved : goal.loop-t-preserved
loop-t-preserved c =
    let at = c.loop-t in
    let told = c.type_fine.ensures in
    let was = c.in_ok-type_fine.was in
    let below = was ∙ ap Some (else_below _ (sym c.eq.ensures ∙ c.if-eq.false)) in (
      omega arith,
      from_before (TypeFine c.args.base.now c.args.held.now) 128 at.t (omega arith) at.invariant.1 (told.fine c.in_ok-type_fine.field-0 was),
      λ e. from_before (λ k. ParentsBelow c.args.base.now k (count_byte c.args.base.now k) k) 128 at.t (omega arith) (at.invariant.2 e)
          (told.falling below),
    )

pub returns : goal.returns
returns c =
    let x = c.requires in
    let inv = c.loop-t.invariant in
    let root = c.root_fine.ensures.holds (search rules) in
    let all = types_all x.holds x.base_len root (λ k u.
    from_more (TypeFine c.args.base.now c.args.held.now) 128 0 (λ j v m. inv.1 j v (omega arith)) (root_type root) k u (omega arith)) in
    record {
      fine = λ _ _. all;
      not = λ e. absurd (none-some c.loop-t.numbering (sym e));
      falling = λ e. rows_fall _ x.base_len all.type_rows (λ k u.
          from_more (λ k. ParentsBelow c.args.base.now k (count_byte c.args.base.now k) k) 128 0
          (λ j v m. inv.2 (same_Some _ _ e) j v (omega arith)) (λ i v. absurd (omega (arith, root.row.parents.count))) k u (omega arith));
    }
