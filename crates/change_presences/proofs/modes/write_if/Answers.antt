-- A row that is of neither type stays as it is.
use Rattle.std.proofs.Common.{arith, sym, ap, ◌∙◌, subst, List}
use Rattle.rules.specs.01-Lists.{rising}
use Rattle.rules.specs.04-Schema.{Presence, with_presences}
use Rattle.rules.specs.06-Good.{presence_before}
use Rattle.base.specs.Tables.{presences}
use Rattle.base.specs.Back.{schema_of}
use Rattle.base.specs.Stored.{Shows}
use Rattle.base.proofs.Back.{rows_few}
use Rattle.base.proofs.StoredLaws.{stored_long}
use Rattle.change_presences.proofs.ModesLaws.{row_passed, row_reset, row_aimed}
use Rattle.change_presences.proofs.modes.write_if.Goals as goal

pub is_of_either-requires : goal.is_of_either-requires
is_of_either-requires c = (stored_long c.requires.stored, omega (arith, c.requires.i_bound.0, rows_few presences c.args.base.now))

pub write_modes-requires : goal.write_modes-requires
write_modes-requires c =
    let a = c.args in
    let q = c.requires in
    let it = sym c.is_of_either.ensures ∙ c.if-is_of_either.true in record {
      stored = q.stored;
      i_bound = (q.i_bound.0, row_aimed a.d a.t a.reverse a.modes.usage a.modes.definition a.base.now a.i q.i_bound.0 it q.i_bound.1);
      usage_bound = q.modes_bound;
      base_value = ap (rising presence_before)
          (sym (row_reset a.d a.t a.reverse a.modes.usage a.modes.definition a.base.now a.i q.i_bound.0 it)) ∙ q.base_value;
    }

pub returns-then-is_of_either : goal.returns-then-is_of_either
returns-then-is_of_either c =
    let a = c.args in
    let it = sym c.is_of_either.ensures ∙ c.if-is_of_either.true in
    subst (λ (l : List Presence). Shows c.write_modes.new.base (with_presences (schema_of a.base.now) l))
    (sym (row_reset a.d a.t a.reverse a.modes.usage a.modes.definition a.base.now a.i c.requires.i_bound.0 it)) c.write_modes.ensures

pub returns-else-is_of_either : goal.returns-else-is_of_either
returns-else-is_of_either c =
    let a = c.args in
    row_passed a.d a.t a.reverse a.modes.usage a.modes.definition a.base.now a.i c.requires.i_bound.0
    (sym c.is_of_either.ensures ∙ c.if-is_of_either.false) c.requires.stored
