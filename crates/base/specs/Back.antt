-- The way back: the schema that the bytes of a base show, whatever they hold.
use Rattle.std.specs.Prelude.{ℕ, ◌+◌, ◌≡◌, List, length, get_or}
use Rattle.rules.specs.02-Limits.{limits}
use Rattle.rules.specs.03-Names.{Name}
use Rattle.rules.specs.04-Schema.{Schema, Kind, Presence, Application, End}
use Rattle.rules.specs.07-Picture.{base_length}
use Rattle.rules.specs.Read.{name_offset, type_offset, usage_offset, definition_offset, to_offset, attribute_offset, link_offset, side_offset}
use Rattle.rules.specs.Read.{object_offset, strip, read_side}
use Rattle.rows.specs.Rows.{part}
use Rattle.base.specs.Tables.{shown, used_rows, first_things, things, Written, BlankFrom, sdss, types, presences, applications, ends}
use Rattle.base.specs.Rows.{presence_at, application_at, end_at}

abbrev pub presence_count : List ℕ → ℕ
presence_count b = used_rows presences b

abbrev pub application_count : List ℕ → ℕ
application_count b = used_rows applications b

abbrev pub end_count : List ℕ → ℕ
end_count b = used_rows ends b

unfoldable pub schema_of : List ℕ → Schema
schema_of b = record {
  sdss = first_things sdss sdss.room b;
  types = first_things types types.room b;
  presences = things presences b;
  applications = things applications b;
  ends = things ends b;
}

-- what row i of each table shows, field by field
abbrev pub sds_shown : List ℕ → ℕ → Name
sds_shown b d = shown sdss b d

abbrev pub kind_shown : List ℕ → ℕ → Kind
kind_shown b t = shown types b t

abbrev pub presence_shown : List ℕ → ℕ → Presence
presence_shown b i = record {
  sds = get_or b (presence_at i) 0;
  name = strip (part b (presence_at i + name_offset) limits.name);
  type = get_or b (presence_at i + type_offset) 0;
  usage = get_or b (presence_at i + usage_offset) 0;
  definition = get_or b (presence_at i + definition_offset) 0;
}

abbrev pub application_shown : List ℕ → ℕ → Application
application_shown b i = record {
  sds = get_or b (application_at i) 0;
  to = get_or b (application_at i + to_offset) 0;
  attribute = get_or b (application_at i + attribute_offset) 0;
}

abbrev pub end_shown : List ℕ → ℕ → End
end_shown b i = record {
  sds = get_or b (end_at i) 0;
  link = get_or b (end_at i + link_offset) 0;
  side = read_side (get_or b (end_at i + side_offset) 0);
  object = get_or b (end_at i + object_offset) 0;
}

-- each row is as it would be written, and unused room is zero: what makes bytes the picture of the schema that they show
pub record Canonical (b : List ℕ) : Type 0 where
  pub long : length b ≡ base_length
  pub sds_fields : Written sdss sdss.room b
  pub type_rows : Written types types.room b
  pub presence_rows : Written presences (presence_count b) b
  pub end_rows : Written ends (end_count b) b
  pub presence_rest : BlankFrom presences (presence_count b) b
  pub application_rest : BlankFrom applications (application_count b) b
  pub end_rest : BlankFrom ends (end_count b) b
