-- The tests find what `SdssFine` asks and nothing else.
use Rattle.std.proofs.Common.{Bool, sym, ◌∙◌, subst, true≢false}
use Rattle.rules.specs.07-Picture.{pad}
use Rattle.rows.specs.Decides.{Decides}
use Rattle.rows.proofs.Decides.{decides_no}
use Rattle.check_held.specs.Fine.{SdssFine}
use Rattle.check_sdss.proofs.SdsLaws.{fields_of, alone_of, system_of, sdss_of}
use Rattle.check_sdss.proofs.sdss_fine.Goals.{then-sds_fields_fine, else-sds_fields_fine}
use Rattle.check_sdss.proofs.sdss_fine.Goals as goal

pub returns-then-names_differ : goal.returns-then-names_differ
unfolding pad
returns-then-names_differ c =
    let b = c.args.base.now in
    let f = c.sds_field in
    elim c.if-sds_fields_fine.branch [
      | then-sds_fields_fine w ↦ record {
        holds = λ e. sdss_of b c.requires (c.sds_fields_fine.ensures.holds w.if-sds_fields_fine.true)
            (w.names_differ.ensures.holds (sym w.value-is ∙ c.if-names_differ.true)) f.result.now f.ensures (sym c.is_equal.ensures ∙ e);
        fails = λ e s. true≢false (sym (system_of b c.requires s f.result.now f.ensures) ∙ sym c.is_equal.ensures ∙ e);
      }
      | else-sds_fields_fine w ↦ absurd (true≢false (sym c.if-names_differ.true ∙ w.value-is ∙ w.if-sds_fields_fine.false))
    ]

pub returns-else-names_differ : goal.returns-else-names_differ
returns-else-names_differ c =
    let b = c.args.base.now in
    subst (λ (r : Bool). Decides (SdssFine b) r) (sym c.if-names_differ.false) (decides_no (λ s. elim c.if-sds_fields_fine.branch [
      | then-sds_fields_fine w ↦ w.names_differ.ensures.fails (sym w.value-is ∙ c.if-names_differ.false) (alone_of b c.requires s)
      | else-sds_fields_fine w ↦ c.sds_fields_fine.ensures.fails w.if-sds_fields_fine.false (fields_of b c.requires s)
    ]))
