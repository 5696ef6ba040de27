-- The bits of the words passed are counted, at most 16 to a word.
use Rattle.std.proofs.Common.{◌≡◌, ◌≤◌, ◌*◌, take}
use Rattle.check_presences.specs.Gathered.{bits_in}
use Rattle.check_presences.proofs.bits_in.Given as goal

abbrev pub invariant-loop-w : goal.invariant-loop-w
invariant-loop-w l = record { few : l.bits ≤ l.w-index * 16; counted : l.bits ≡ bits_in (take l.w-index l.held) }
