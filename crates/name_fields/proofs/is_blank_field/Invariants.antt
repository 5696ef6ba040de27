-- what `name_fields::is_blank_field` keeps: the field is blank exactly where no bit was met and what is left is blank
use Rattle.std.proofs.Common.{◌≡◌, ◌&&◌, eqb, drop}
use Rattle.name_fields.specs.Field.{blank_field}
use Rattle.name_fields.proofs.is_blank_field.Given as goal

abbrev pub invariant-loop-c : goal.invariant-loop-c
invariant-loop-c l = blank_field l.field ≡ (eqb l.bits 0 && blank_field (drop l.c-index l.field))
