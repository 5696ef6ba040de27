-- `working::listed::has_unknown`: a number is no SDS's exactly where no SDS is used under it.
use Rattle.std.proofs.Common.{◌≡◌, ℕ, Bool, true, false, not, List, length, refl, sym, ◌∙◌, rules, tests}
use Rattle.std.proofs.lemmas.Iterator.{YieldsList-from_slice}
use Rattle.std.proofs.lemmas.Iterator.Search.{any_from_yields_List}
use Rattle.rules.specs.04-Schema.{used_sds}
use Rattle.rules.specs.07-Picture.{base_length}
use Rattle.rules.specs.09-Refusals.{unknown_sds}
use Rattle.base.specs.Back.{schema_of}
use Rattle.lookup.proofs.SdsShown.{known, unknown}
use Rattle.working.proofs.ListedLaws.{any_is}
use Rattle.working.proofs.listed.has_unknown.Goals as goal

unused : (b : List ℕ) → length b ≡ base_length → (d : ℕ) → not (used_sds (schema_of b) d) ≡ unknown_sds (schema_of b) d
unused b long d = go (used_sds (schema_of b) d) refl
  where
    go : (x : Bool) → used_sds (schema_of b) d ≡ x → not x ≡ unknown_sds (schema_of b) d
    go true u = sym (known b long d u)
    go false u = sym (unknown b long d u)

pub returns : goal.returns
returns c =
    let b = c.args.base.now in
    let used : ℕ → Bool = used_sds (schema_of b) in
    any_from_yields_List (λ d. not (used d)) _ _ _ c.any.ensures.ran (YieldsList-from_slice c.args.schema.now cc) (λ x b q k. search (rules, tests))
    ∙ any_is (λ d. not (used d)) _ (unused b c.requires) c.args.schema.now
