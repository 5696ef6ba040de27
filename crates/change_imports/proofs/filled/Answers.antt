-- A given name is padded with zeros; a name of the source is copied with its field.
use Rattle.std.proofs.Common.{sym, ◌∙◌, arith}
use Rattle.base.proofs.Kept.{sound_long}
use Rattle.change_imports.proofs.ImportLaws.{given_long, given_filled, row_some, row_is, row_room, own_long, own_filled}
use Rattle.change_imports.proofs.filled.Goals as goal

pub presence_row-requires : goal.presence_row-requires
presence_row-requires c = sound_long c.requires.sound

pub unwrap-row-requires : goal.unwrap-row-requires
unwrap-row-requires c = row_some _ c.presence_row.ensures.first c.requires.t_value

pub presence_field-requires : goal.presence_field-requires
presence_field-requires c =
    (sound_long c.requires.sound, row_room (row_is c.unwrap-row.ensures c.presence_row.ensures.first) c.requires.sound c.requires.t_value)

pub write-requires : goal.write-requires
write-requires c =
    omega (arith, own_long (row_is c.unwrap-row.ensures c.presence_row.ensures.first) c.requires.sound c.requires.t_value c.presence_field.ensures)

pub returns-then-is_empty : goal.returns-then-is_empty
returns-then-is_empty c =
    own_filled (row_is c.unwrap-row.ensures c.presence_row.ensures.first) c.requires.sound c.requires.t_value c.args.new.now
    (sym c.is_empty.ensures ∙ c.if-is_empty.true) c.presence_field.ensures c.write.ensures

pub write-requires-2 : goal.write-requires-2
write-requires-2 c = omega (arith, given_long c.args.new.now c.requires.value (sym c.is_empty.ensures ∙ c.if-is_empty.false))

pub returns : goal.returns
returns c = given_filled _ _ _ c.args.new.now _ c.requires.value (sym c.is_empty.ensures ∙ c.if-is_empty.false) c.write-2.ensures
