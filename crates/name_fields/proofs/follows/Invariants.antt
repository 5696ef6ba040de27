-- what `name_fields::follows` keeps: each byte may follow exactly where each byte passed may, and each one left
use Rattle.std.proofs.Common.{◌≡◌, ◌&&◌, drop}
use Rattle.name_fields.specs.Field.{following}
use Rattle.name_fields.proofs.follows.Given as goal

abbrev pub invariant-loop-c : goal.invariant-loop-c
invariant-loop-c l = following l.fn.before l.field ≡ (l.fine && following l.last (drop l.c-index l.c-items))
