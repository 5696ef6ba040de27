-- What the check of each table decides: that its rows are as they would be written, with zeros behind them, and the parts of `Good` that
-- it looks at. Together they are `Sound`.
use Rattle.std.specs.Prelude.{ℕ, ◌<◌, ◌≡◌, List, length}
use Rattle.rules.specs.01-Lists.{◌∈◌}
use Rattle.rules.specs.02-Limits.{limits}
use Rattle.rules.specs.04-Schema.{Presence}
use Rattle.rules.specs.07-Picture.{base_length}
use Rattle.rules.specs.Parts.{Sdss, Kinds, Parents, Reverses, PresenceRows, Once, Typed, Nameless, Closed, Somewhere, ApplicationRows, ApplicationsFit}
use Rattle.rules.specs.Parts.{EndRows, EndsFit, EndsMirrored}
use Rattle.base.specs.Tables.{BlankFrom, Written, sdss, types, presences, applications, ends}
use Rattle.base.specs.Back.{presence_count, application_count, end_count, schema_of}
use Rattle.check_held.specs.Held.{Holds}

pub record SdssFine (b : List ℕ) : Type 0 where
  pub sds_fields : Written sdss limits.sdss b
  pub sdss : Sdss (schema_of b).sdss

-- types are asked for their numbers alone, and those of nameless presences for their kind
pub record PresencesFine (b : List ℕ) : Type 0 where
  pub presence_rows : Written presences (presence_count b) b
  pub presence_rest : BlankFrom presences (presence_count b) b
  pub rows : PresenceRows (schema_of b).sdss (schema_of b).presences
  pub once : Once (schema_of b).presences
  pub nameless : Nameless (schema_of b).types (schema_of b).presences
  pub small : (p : Presence) → p ∈ (schema_of b).presences → p.type < limits.types

-- all but that no type is its own ancestor; with what the SDSs hold of each
pub record TypesFine (b : List ℕ) : Type 0 where
  pub type_rows : Written types limits.types b
  pub kinds : Kinds (schema_of b).types
  pub parents : Parents (schema_of b).types
  pub reverses : Reverses (schema_of b).types
  pub typed : Typed (schema_of b).types (schema_of b).presences
  pub closed : Closed (schema_of b).types (schema_of b).presences
  pub somewhere : Somewhere (schema_of b).types (schema_of b).presences

pub record ApplicationsFine (b : List ℕ) : Type 0 where
  pub application_rest : BlankFrom applications (application_count b) b
  pub rows : ApplicationRows (schema_of b).applications
  pub each : ApplicationsFit (schema_of b).types (schema_of b).presences (schema_of b).applications

pub record EndsFine (b : List ℕ) : Type 0 where
  pub end_rows : Written ends (end_count b) b
  pub end_rest : BlankFrom ends (end_count b) b
  pub rows : EndRows (schema_of b).ends
  pub each : EndsFit (schema_of b).types (schema_of b).presences (schema_of b).ends
  pub mirrored : EndsMirrored (schema_of b).types (schema_of b).ends

-- what is known where applications and ends are looked at: the presences and the types are fine, and the words show what is present
pub record Shown (b held : List ℕ) : Type 0 where
  pub long : length b ≡ base_length
  pub presences : PresencesFine b
  pub types : TypesFine b
  pub holds : Holds b held
