-- Every change keeps a schema good, so every call does, and after any sequence of calls the schema is good. Assumes nothing.
use mathlib.Core.List.{List, [], ◌∷◌}
use Rattle.rules.specs.04-Schema.{Schema}
use Rattle.rules.specs.04-Schema.Side.{origin, destination}
use Rattle.rules.specs.06-Good.{Good}
use Rattle.rules.specs.13-History.{Change, Call, change_rule, next, after, after_all}
use Rattle.rules.specs.13-History.Change.{new_sds, remove_sds, new_object, new_attribute, new_designation, new_pair, import, apply, unapply}
use Rattle.rules.specs.13-History.Change.{apply_link, unapply_link, add_destination, remove_destination, remove_type, remove_number, rename, rename_number}
use Rattle.rules.specs.13-History.Change.{set_modes}
use Rattle.rules.specs.13-History.Reading.{accepted, not_accepted}
use Rattle.rules.specs.13-History.Call.{begin_fresh, change, ask, read}
use Rattle.rules.proofs.06-Good.{fresh_good}
use Rattle.history.proofs.Applications.{apply_keeps, unapply_keeps}
use Rattle.history.proofs.EndChanges.{add_end_keeps, remove_end_keeps}
use Rattle.history.proofs.SdsChanges.{new_sds_keeps, remove_sds_keeps}
use Rattle.history.proofs.NewTypes.{new_object_keeps, new_attribute_keeps, new_designation_keeps}
use Rattle.history.proofs.NewPair.{new_pair_keeps}
use Rattle.history.proofs.Imports.{import_keeps}
use Rattle.history.proofs.Removals.{remove_type_keeps, remove_number_keeps}
use Rattle.history.proofs.Renames.{rename_keeps, rename_number_keeps}
use Rattle.history.proofs.Modes.{set_modes_keeps}

pub every_change_keeps : (c : Change) (s : Schema) → Good s → Good (next s (change_rule c s))
every_change_keeps (new_sds n) = new_sds_keeps n
every_change_keeps (remove_sds d) = remove_sds_keeps d
every_change_keeps (new_object d n run) = new_object_keeps d n run
every_change_keeps (new_attribute d n v) = new_attribute_keeps d n v
every_change_keeps (new_designation d n) = new_designation_keeps d n
every_change_keeps (new_pair d n m c c') = new_pair_keeps d n m c c'
every_change_keeps (import target source n new new_reverse) = import_keeps target source n new new_reverse
every_change_keeps (apply d a n) = apply_keeps d a n
every_change_keeps (unapply d a n) = unapply_keeps d a n
every_change_keeps (apply_link d n m) = add_end_keeps origin d n m
every_change_keeps (unapply_link d n m) = remove_end_keeps origin d n m
every_change_keeps (add_destination d n m) = add_end_keeps destination d n m
every_change_keeps (remove_destination d n m) = remove_end_keeps destination d n m
every_change_keeps (remove_type d n) = remove_type_keeps d n
every_change_keeps (remove_number d t) = remove_number_keeps d t
every_change_keeps (rename d n new) = rename_keeps d n new
every_change_keeps (rename_number d t new) = rename_number_keeps d t new
every_change_keeps (set_modes d n usage definition) = set_modes_keeps d n usage definition

-- an ask changes nothing, and what a read takes in is good
pub call_keeps : (c : Call) (s : Schema) → Good s → Good (after s c)
call_keeps begin_fresh s g = fresh_good
call_keeps (change c) s g = every_change_keeps c s g
call_keeps (ask q) s g = g
call_keeps (read file (accepted s' w)) s g = w.good
call_keeps (read file (not_accepted n)) s g = g

pub calls_keep : (cs : List Call) (s : Schema) → Good s → Good (after_all s cs)
unfolding after_all
calls_keep [] s g = g
calls_keep (c ∷ cs) s g = calls_keep cs (after s c) (call_keeps c s g)
