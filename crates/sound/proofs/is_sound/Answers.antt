-- The parts together are `Sound`, and a sound base has them all.
use Rattle.std.proofs.Common.{rules, sym, ◌∙◌}
use Rattle.rows.proofs.Decides.{decides_yes}
use Rattle.check_presences.proofs.PresenceLaws.{fine_count, no_system, no_sds, no_rest, no_rows, found_fine, found_holds, found_modes}
use denote.Enum.Bare.{same_true}
use Rattle.check_presences.specs.contracts.Modes.{the_type}
use Rattle.sound.proofs.Decided.{parental, decided_of, all_alike, refused, shown_of, sound_of}
use Rattle.sound.proofs.is_sound.Goals as goal

pub returns-then-base-ne-LENGTH : goal.returns-then-base-ne-LENGTH
returns-then-base-ne-LENGTH c = refused (λ d. c.if-base-ne-LENGTH.true d.long)

pub returns-then-not-sdss_fine : goal.returns-then-not-sdss_fine
returns-then-not-sdss_fine c = refused (λ d. c.sdss_fine.ensures.fails c.if-not-sdss_fine.true d.sdss)

pub returns-then-not-system_first : goal.returns-then-not-system_first
returns-then-not-system_first c =
    refused (λ d. no_system c.if-base-ne-LENGTH.false c.presences_halved-n.ensures
    (c.system_first.ensures.fails c.if-not-system_first.true) d.presences)

pub returns-then-not-is_sds : goal.returns-then-not-is_sds
returns-then-not-is_sds c =
    refused (λ d. no_sds c.if-base-ne-LENGTH.false c.presences_halved-n.ensures (c.system_first.ensures.holds c.if-not-system_first.false)
    (sym c.is_sds.ensures ∙ c.if-not-is_sds.true) d.presences)

pub returns-then-not-no_presence_from : goal.returns-then-not-no_presence_from
returns-then-not-no_presence_from c =
    refused (λ d. no_rest c.if-base-ne-LENGTH.false c.presences_halved-n.ensures
    (c.no_presence_from.ensures.fails c.if-not-no_presence_from.true) d.presences)

pub returns-in_default : goal.returns-in_default
returns-in_default c = refused (λ d. no_rows c.if-base-ne-LENGTH.false c.presences_halved-n.ensures c.in_default.ensures d.presences)

pub returns-then-not-rows_fine : goal.returns-then-not-rows_fine
returns-then-not-rows_fine c =
    refused (λ d. no_rows c.if-base-ne-LENGTH.false c.presences_halved-n.ensures (c.rows_fine.ensures.fine.fails c.if-not-rows_fine.true) d.presences)

pub types_fine-requires-clause-holds : goal.types_fine-requires-clause-holds
types_fine-requires-clause-holds c =
    let long = c.if-base-ne-LENGTH.false in
    let half = c.presences_halved-n.ensures in
    let rest = c.no_presence_from.ensures.holds c.if-not-no_presence_from.false in
    let rows = c.rows_fine.ensures.fine.holds c.if-not-rows_fine.false in
    let p = found_fine long half (c.system_first.ensures.holds c.if-not-system_first.false) rest rows in
    found_holds long half p (c.rows_fine.ensures.gathers c.if-not-rows_fine.false)

pub returns-in_default-types_fine : goal.returns-in_default-types_fine
returns-in_default-types_fine c = refused (λ d. c.types_fine.ensures.not (search rules) d.types)

pub is_acyclic-requires-clause-parental : goal.is_acyclic-requires-clause-parental
is_acyclic-requires-clause-parental c = parental c.if-base-ne-LENGTH.false (c.types_fine.ensures.fine c.in-Some-types_fine.numbering c.in-Some-types_fine.is)

pub returns-then-not-is_acyclic : goal.returns-then-not-is_acyclic
returns-then-not-is_acyclic c = refused (λ d. c.is_acyclic.ensures.fails c.if-not-is_acyclic.true d.acyclic)

pub applications_fine-requires-clause-shown : goal.applications_fine-requires-clause-shown
applications_fine-requires-clause-shown c =
    shown_of c.if-base-ne-LENGTH.false c.presences_halved-n.ensures (c.system_first.ensures.holds c.if-not-system_first.false)
    (c.no_presence_from.ensures.holds c.if-not-no_presence_from.false) (c.rows_fine.ensures.fine.holds c.if-not-rows_fine.false)
    (c.rows_fine.ensures.gathers c.if-not-rows_fine.false) (c.types_fine.ensures.fine c.in-Some-types_fine.numbering c.in-Some-types_fine.is)

pub returns-then-not-applications_fine : goal.returns-then-not-applications_fine
returns-then-not-applications_fine c = refused (λ d. c.applications_fine.ensures.fails c.if-not-applications_fine.true d.applications)

pub ends_fine-requires-clause-shown : goal.ends_fine-requires-clause-shown
ends_fine-requires-clause-shown c =
    shown_of c.if-base-ne-LENGTH.false c.presences_halved-n.ensures (c.system_first.ensures.holds c.if-not-system_first.false)
    (c.no_presence_from.ensures.holds c.if-not-no_presence_from.false) (c.rows_fine.ensures.fine.holds c.if-not-rows_fine.false)
    (c.rows_fine.ensures.gathers c.if-not-rows_fine.false) (c.types_fine.ensures.fine c.in-Some-types_fine.numbering c.in-Some-types_fine.is)

pub returns-then-not-ends_fine : goal.returns-then-not-ends_fine
returns-then-not-ends_fine c = refused (λ d. c.ends_fine.ensures.fails c.if-not-ends_fine.true d.ends)

pub returns-then-eq : goal.returns-then-eq
returns-then-eq c =
    let s =
    shown_of c.if-base-ne-LENGTH.false c.presences_halved-n.ensures (c.system_first.ensures.holds c.if-not-system_first.false)
    (c.no_presence_from.ensures.holds c.if-not-no_presence_from.false) (c.rows_fine.ensures.fine.holds c.if-not-rows_fine.false)
    (c.rows_fine.ensures.gathers c.if-not-rows_fine.false) (c.types_fine.ensures.fine c.in-Some-types_fine.numbering c.in-Some-types_fine.is) in
    decides_yes (sound_of s (c.sdss_fine.ensures.holds c.if-not-sdss_fine.false) (c.is_acyclic.ensures.holds c.if-not-is_acyclic.false)
    (c.applications_fine.ensures.holds c.if-not-applications_fine.false) (c.ends_fine.ensures.holds c.if-not-ends_fine.false)
    (all_alike _ _ (found_modes s.long c.presences_halved-n.ensures s.presences c.in-Some.ensures (same_true the_type (search rules) _ _ (sym c.if-eq.ensures)))))

pub pairs_fine-requires-clause-fine : goal.pairs_fine-requires-clause-fine
pairs_fine-requires-clause-fine c =
    let s =
    shown_of c.if-base-ne-LENGTH.false c.presences_halved-n.ensures (c.system_first.ensures.holds c.if-not-system_first.false)
    (c.no_presence_from.ensures.holds c.if-not-no_presence_from.false) (c.rows_fine.ensures.fine.holds c.if-not-rows_fine.false)
    (c.rows_fine.ensures.gathers c.if-not-rows_fine.false) (c.types_fine.ensures.fine c.in-Some-types_fine.numbering c.in-Some-types_fine.is) in
    record { long = s.long; presences = s.presences; types = s.types }

pub pairs_fine-requires-clause-n_value : goal.pairs_fine-requires-clause-n_value
pairs_fine-requires-clause-n_value c =
    let s =
    shown_of c.if-base-ne-LENGTH.false c.presences_halved-n.ensures (c.system_first.ensures.holds c.if-not-system_first.false)
    (c.no_presence_from.ensures.holds c.if-not-no_presence_from.false) (c.rows_fine.ensures.fine.holds c.if-not-rows_fine.false)
    (c.rows_fine.ensures.gathers c.if-not-rows_fine.false) (c.types_fine.ensures.fine c.in-Some-types_fine.numbering c.in-Some-types_fine.is) in
    (fine_count s.long c.presences_halved-n.ensures s.presences).is

pub returns : goal.returns
returns c =
    let s =
    shown_of c.if-base-ne-LENGTH.false c.presences_halved-n.ensures (c.system_first.ensures.holds c.if-not-system_first.false)
    (c.no_presence_from.ensures.holds c.if-not-no_presence_from.false) (c.rows_fine.ensures.fine.holds c.if-not-rows_fine.false)
    (c.rows_fine.ensures.gathers c.if-not-rows_fine.false) (c.types_fine.ensures.fine c.in-Some-types_fine.numbering c.in-Some-types_fine.is) in
    record {
      holds = λ e. sound_of s (c.sdss_fine.ensures.holds c.if-not-sdss_fine.false) (c.is_acyclic.ensures.holds c.if-not-is_acyclic.false)
          (c.applications_fine.ensures.holds c.if-not-applications_fine.false) (c.ends_fine.ensures.holds c.if-not-ends_fine.false)
          (c.pairs_fine.ensures.holds e);
      fails = λ e s. c.pairs_fine.ensures.fails e (decided_of s).alike;
    }
