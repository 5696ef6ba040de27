-- `visible::attributes`: the rows of the applications are gathered.
use Rattle.std.proofs.Common.{◌≡◌, ◌<◌, ◌+◌, ◌&&◌, get_or, arith, rules}
use Rattle.rules.specs.02-Limits.{limits}
use Rattle.rules.specs.Read.{attribute_offset}
use Rattle.base.specs.Rows.{application_at}
use Rattle.base.specs.Back.{application_count}
use Rattle.base.proofs.Kept.{sound_long}
use Rattle.type_set.specs.Set.{bit, has}
use Rattle.lookup.proofs.RowBytes.{few_applications, application_small}
use Rattle.visible.proofs.ShownLaws.{all_applications}
use Rattle.visible.proofs.attributes.Goals as goal

pub application_count-requires : goal.application_count-requires
application_count-requires c = sound_long c.requires

pub gather-requires-clause-passes : goal.gather-requires-clause-passes
gather-requires-clause-passes c = λ i h. let u : i < application_count c.args.base.now = omega arith in search rules

pub gather-requires-clause-value : goal.gather-requires-clause-value
gather-requires-clause-value c =
    let long = sound_long c.requires in
    λ i h. let u : i < limits.applications = omega (arith, few_applications c.args.base.now) in search rules

pub gather-requires-clause-types : goal.gather-requires-clause-types
gather-requires-clause-types c =
    λ i t h v.
    let is : t ≡ get_or c.args.base.now (application_at i + attribute_offset) 0 = search rules in
    omega (arith, (application_small c.requires i (omega arith)).1.1)

pub returns : goal.returns
returns c =
    all_applications c.args.base.now (has c.gather.result) c.gather.ensures (λ a. bit c.args.sdss a.sds && has c.args.types a.to) (λ a. a.attribute)
    c.application_count.ensures.is (λ i x h a. search rules) (λ i t h v. search rules)
