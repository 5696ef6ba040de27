-- `visible::visible`: the rows of the presences are gathered.
use Rattle.std.proofs.Common.{◌≡◌, ◌<◌, ◌+◌, get_or, arith, rules}
use Rattle.rules.specs.Read.{type_offset}
use Rattle.base.specs.Rows.{presence_at}
use Rattle.base.specs.Back.{presence_count}
use Rattle.base.proofs.Kept.{sound_long}
use Rattle.type_set.specs.Set.{bit, has}
use Rattle.lookup.proofs.RowBytes.{few_presences, presence_small}
use Rattle.visible.proofs.ShownLaws.{all_presences}
use Rattle.visible.proofs.visible.Goals as goal

pub gather-requires-clause-passes : goal.gather-requires-clause-passes
gather-requires-clause-passes c = λ i h. let u : i < presence_count c.args.base.now = omega arith in search rules

pub gather-requires-clause-value : goal.gather-requires-clause-value
gather-requires-clause-value c =
    let long = sound_long c.requires in
    λ i h. let u : i < 512 = omega (arith, few_presences c.args.base.now) in search rules

pub gather-requires-clause-types : goal.gather-requires-clause-types
gather-requires-clause-types c =
    λ i t h v.
    let is : t ≡ get_or c.args.base.now (presence_at i + type_offset) 0 = search rules in
    omega (arith, (presence_small c.requires i (omega arith)).1)

pub returns : goal.returns
returns c =
    all_presences c.args.base.now (has c.gather.result) c.gather.ensures (λ p. bit c.args.sdss p.sds) (λ p. p.type) c.count.ensures.is
    (λ i x h a. search rules) (λ i t h v. search rules)
