-- 1, 15, or all of it.
use Rattle.std.proofs.Common.{refl, arith}
use Rattle.file.proofs.FileLaws.{filed_spoiled, filed_short, filed_done}
use Rattle.file.proofs.write_file.Goals as goal

pub returns-then-not-is_sound : goal.returns-then-not-is_sound
returns-then-not-is_sound c = filed_spoiled (c.is_sound.ensures.fails c.if-not-is_sound.true) refl

pub length-length-requires : goal.length-length-requires
length-length-requires c = c.is_sound.ensures.holds c.if-not-is_sound.false

pub returns-then-out-length : goal.returns-then-out-length
returns-then-out-length c =
    filed_short (c.is_sound.ensures.holds c.if-not-is_sound.false) c.length-length.ensures c.if-out-length.true refl

pub put_down-requires : goal.put_down-requires
put_down-requires c = (c.is_sound.ensures.holds c.if-not-is_sound.false, omega (arith, c.length-length.ensures, c.if-out-length.false))

pub returns : goal.returns
returns c =
    filed_done (c.is_sound.ensures.holds c.if-not-is_sound.false) c.length-length.ensures c.if-out-length.false c.put_down.ensures refl
