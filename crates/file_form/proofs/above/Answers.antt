-- `file_form::above` meets its contract: what is left decides. Assumes nothing.
use Rattle.std.proofs.Common.{rules, sym, ◌∙◌}
use mathlib.Core.Logic.{⊎_elim, inl, inr}
use Rattle.file_form.proofs.Scan.{above_end, above_more, above_less, above_full, above_go}
use Rattle.file_form.proofs.above.Goals.{then-x-y-via-then-x-y, then-x-y-via-else-x-y+then-is_full}
use Rattle.file_form.proofs.above.Goals as goal

pub returns-then-y-x : goal.returns-then-y-x
returns-then-y-x c =
    let ((e, prev), turn, next, _) = c.in-Some.ensures.steps in
    above_more (rw (prev, e) at c.loop-j.invariant.decides) c.if-y-x.true

pub returns-then-x-y : goal.returns-then-x-y
returns-then-x-y c =
    let ((e, prev), turn, next, _) = c.in-Some.ensures.steps in
    let s = rw (prev, e) at c.loop-j.invariant.decides in
    elim c.then-x-y.branch [
      | then-x-y-via-then-x-y w ↦ turn ∙ above_less s w.if-x-y.true
      | then-x-y-via-else-x-y+then-is_full w ↦
          turn ∙ above_full s c.if-y-x.false w.if-x-y.false (rw turn at (sym w.is_full.ensures ∙ w.if-is_full.true))
    ]

pub loop-j-preserved : goal.loop-j-preserved
loop-j-preserved c =
    let ((e, prev), turn, next, _) = c.in-Some.ensures.steps in
    let s = rw (prev, e) at c.loop-j.invariant.decides in
    record {
      goes = search rules;
      ends = search rules;
      decides = rw next (above_go s c.if-y-x.false c.if-x-y.false (rw turn at (sym c.is_full.ensures ∙ c.if-is_full.false)));
    }

pub returns : goal.returns
returns c =
    let (none, _) = c.in-None.ensures.steps in
    above_end _ _ c.loop-j.invariant.decides (⊎_elim (λ a. inl a.1.0) (λ b. inr b.1.0) none)
