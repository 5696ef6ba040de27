-- `visible::links`: the rows of the ends are gathered.
use Rattle.std.proofs.Common.{◌≡◌, ◌<◌, ◌+◌, ◌&&◌, eqb, get_or, arith, rules}
use Rattle.rules.specs.02-Limits.{limits}
use Rattle.rules.specs.04-Schema.{side_code}
use Rattle.rules.specs.Read.{link_offset}
use Rattle.base.specs.Rows.{end_at}
use Rattle.base.specs.Back.{end_count}
use Rattle.base.proofs.Kept.{sound_long}
use Rattle.type_set.specs.Set.{bit, has}
use Rattle.lookup.proofs.RowBytes.{few_ends, end_small}
use Rattle.visible.proofs.ShownLaws.{all_ends}
use Rattle.visible.proofs.links.Goals as goal

pub end_count-requires : goal.end_count-requires
end_count-requires c = sound_long c.requires

pub gather-requires-clause-passes : goal.gather-requires-clause-passes
gather-requires-clause-passes c = λ i h. let u : i < end_count c.args.base.now = omega arith in search rules

pub gather-requires-clause-value : goal.gather-requires-clause-value
gather-requires-clause-value c =
    let long = sound_long c.requires in
    λ i h. let u : i < limits.ends = omega (arith, few_ends c.args.base.now) in search rules

pub gather-requires-clause-types : goal.gather-requires-clause-types
gather-requires-clause-types c =
    λ i t h v.
    let is : t ≡ get_or c.args.base.now (end_at i + link_offset) 0 = search rules in
    omega (arith, (end_small c.requires i (omega arith)).1.0)

pub returns : goal.returns
returns c =
    all_ends c.args.base.now (has c.gather.result) c.gather.ensures
    (λ e. (bit c.args.sdss e.sds && eqb (side_code e.side) c.args.side) && has c.args.types e.object) (λ e. e.link)
    c.end_count.ensures.is (λ i x h a. search rules) (λ i t h v. search rules)
