-- A run of names parted by single spaces, given name by name.
use Rattle.std.specs.Prelude.{ℕ, List, [], Option, Some, None}
use Rattle.std.specs.Borrow.{Bor}
use Rattle.rules.specs.03-Names.{Name, parted}
use Rattle.names.specs.declared.Names.{Names}

-- the names in what is left of a run, none where nothing is
unfoldable pub left_in : Option (Bor (List ℕ)) → List Name
left_in None = []
left_in (Some run) = parted run.now

-- the names that are left
abbrev pub left : Names → List Name
left names = left_in names.rest
