-- what `rows::used::is_zero` keeps: no bit was met exactly where the blocks passed are blank
use Rattle.std.proofs.Common.{◌*◌, ◌-◌, take}
use lib.Bits.{bit_or}
use Rattle.name_fields.specs.Field.{blank_field}
use Rattle.rows.specs.Rows.{part, NoBit}
use Rattle.rows.proofs.used.is_zero.Given as goal

abbrev pub invariant-loop-block : goal.invariant-loop-block
invariant-loop-block l = NoBit (blank_field (take (l.block-index * 128) (part l.base l.from (l.to - l.from)))) (bit_or l.even l.odd)
