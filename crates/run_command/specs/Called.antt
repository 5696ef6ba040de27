-- SDSs by name.
use Rattle.std.specs.Prelude.{ℕ, Bool, ◌&&◌}
use Rattle.rules.specs.03-Names.{Name, same_name}
use Rattle.rules.specs.04-Schema.{Schema, sds_name, used_sds}

-- SDS d bears the name n
unfoldable pub called : Schema → Name → ℕ → Bool
called s n d = used_sds s d && same_name (sds_name s d) n
