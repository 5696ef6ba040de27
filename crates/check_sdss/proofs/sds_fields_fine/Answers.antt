-- Each field is fine: the closure tests one.
use Rattle.std.proofs.Common.{◌≡◌, true, false, refl, rules}
use Rattle.std.proofs.lemmas.Iterator.{cases_from_all, YieldsList-from_range}
use borrow.Author.Tests.{tests}
use Rattle.check_sdss.specs.Fields.{fine_field}
use Rattle.check_sdss.proofs.SdsLaws.{all_below}
use Rattle.check_sdss.proofs.sds_fields_fine.Goals as goal

pub returns : goal.returns
returns c =
    all_below 16 (fine_field c.args.base.now) c.all.result
    (cases_from_all _ _ _ (λ d. true ≡ fine_field c.args.base.now d) (λ d. false ≡ fine_field c.args.base.now d) c.all.ensures.ran
    (YieldsList-from_range 0 16 16 refl refl) (λ x q k. search (rules, tests)) (λ x q k. search (rules, tests)))
