-- what `name_fields::gather` keeps: no fault was and the bytes stand exactly where no fault is and those left stand
use Rattle.std.proofs.Common.{◌≡◌, ◌+◌, ◌&&◌, get_or, take, drop}
use Rattle.name_fields.specs.Field.{blank_field, standing}
use Rattle.name_fields.proofs.StandLaws.{left}
use Rattle.name_fields.proofs.gather.Given as goal

abbrev pub invariant-loop-i : goal.invariant-loop-i
invariant-loop-i l =
    (blank_field l.initial.faults && standing (get_or l.base l.at 0) (take 16 (drop (l.at + 1) l.base))) ≡ (blank_field l.faults && left l.base l.at l.i)
