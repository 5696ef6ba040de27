-- `rows::used::is_zero` meets its contract: no bit was met exactly where all bytes passed are zero.
use Rattle.std.proofs.Common.{◌≡◌, ◌-◌, ◌*◌, ◌/◌, ℕ, [], List, length, get_or, drop, ap, ◌∙◌, arith, eq-eqb, ne_eqb}
use lib.Bits.{bit_or}
use Rattle.name_fields.specs.Field.{blank_field}
use Rattle.rows.specs.Rows.{part}
use Rattle.rows.proofs.Rows.{chunk_at}
use Rattle.rows.proofs.ZeroLaws.{passed_none, passed_more, zeros_told}
use Rattle.rows.proofs.used.is_zero.Goals as goal

pub loop-block-init : goal.loop-block-init
loop-block-init c = passed_none (part c.args.base.now c.args.from (c.args.to - c.args.from))

pub loop-block-preserved : goal.loop-block-preserved
loop-block-preserved c =
    let l = part c.args.base.now c.args.from (c.args.to - c.args.from) in
    let k = c.loop-block.block-index in
    let here = ap (λ (blocks : List (List ℕ)). get_or blocks k []) c.as_chunks.ensures.front
    ∙ chunk_at 128 (length l / 128) l k [] (omega (arith, c.as_chunks.ensures.front_len)) in
    passed_more l k c.loop-block.even c.loop-block.odd (get_or c.as_chunks.result.0.now k []) here c.loop-block.invariant
    c.every_second-even.ensures c.every_second-odd.ensures

pub returns-then-even-odd-eq0 : goal.returns-then-even-odd-eq0
returns-then-even-odd-eq0 c =
    let l = part c.args.base.now c.args.from (c.args.to - c.args.from) in
    let bits = bit_or c.loop-block.even c.loop-block.odd in
    let all : length l / 128 ≡ c.loop-block.block-index = omega (arith, c.as_chunks.ensures.front_len) in
    let left = c.as_chunks.ensures.back ∙ ap (λ (k : ℕ). drop (k * 128) l) all in
    zeros_told c.args.base.now c.args.from c.args.to (c.loop-block.block-index * 128) bits c.is_blank_field.result c.requires c.loop-block.invariant
    (rw (eq-eqb bits 0 c.if-even-odd-eq0.true) (c.is_blank_field.ensures ∙ ap blank_field left))

pub returns-else-even-odd-eq0 : goal.returns-else-even-odd-eq0
returns-else-even-odd-eq0 c =
    let bits = bit_or c.loop-block.even c.loop-block.odd in
    zeros_told c.args.base.now c.args.from c.args.to (c.loop-block.block-index * 128) bits _ c.requires c.loop-block.invariant
    (rw (ne_eqb bits 0 c.if-even-odd-eq0.false))
