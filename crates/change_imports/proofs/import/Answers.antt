-- An import: the rule comes to `enter` of one named presence with its missing ancestors, or of two.
use Rattle.std.proofs.Common.{◌∙◌}
use Rattle.base.proofs.TestedLaws.{tested_stops, positive, answer_on}
use Rattle.change_imports.proofs.ImportLaws.{importable, import_left, import_one, import_both, enters_it, enters_reverse, reverse_there, cut_is}
use Rattle.change_imports.proofs.import.Goals as goal

pub returns-in_err-t : goal.returns-in_err-t
returns-in_err-t c = tested_stops c.in_err-t.ensures.told (positive _) (import_left _ _ _ _ _ _) (answer_on _ _ c.from_residual.ensures)

pub filled-first-requires-clause-t_value : goal.filled-first-requires-clause-t_value
filled-first-requires-clause-t_value c =
    let x = c.args in
    let r = importable x.target x.source x.name.now x.new.now x.new_reverse.now c.in_ok-t.ensures.told c.in_ok-t.ensures.so in
    r.there

pub filled-first-requires-clause-value : goal.filled-first-requires-clause-value
filled-first-requires-clause-value c =
    let x = c.args in
    let r = importable x.target x.source x.name.now x.new.now x.new_reverse.now c.in_ok-t.ensures.told c.in_ok-t.ensures.so in
    r.formed

pub missing-above-requires : goal.missing-above-requires
missing-above-requires c =
    let x = c.args in
    let r = importable x.target x.source x.name.now x.new.now x.new_reverse.now c.in_ok-t.ensures.told c.in_ok-t.ensures.so in
    (r.sound, (r.small, r.below))

pub enter_one-requires-clause-enters : goal.enter_one-requires-clause-enters
enter_one-requires-clause-enters c =
    let x = c.args in
    let r = importable x.target x.source x.name.now x.new.now x.new_reverse.now c.in_ok-t.ensures.told c.in_ok-t.ensures.so in
    enters_it r (cut_is c.name_length-n.ensures ∙ c.filled-first.ensures)

pub returns-in_default : goal.returns-in_default
returns-in_default c =
    let x = c.args in
    let r = importable x.target x.source x.name.now x.new.now x.new_reverse.now c.in_ok-t.ensures.told c.in_ok-t.ensures.so in
    import_one r c.in_default.is (cut_is c.name_length-n.ensures ∙ c.filled-first.ensures) c.missing-above.ensures c.enter_one.ensures

pub filled-second-requires-clause-t_value : goal.filled-second-requires-clause-t_value
filled-second-requires-clause-t_value c =
    let x = c.args in
    let r = importable x.target x.source x.name.now x.new.now x.new_reverse.now c.in_ok-t.ensures.told c.in_ok-t.ensures.so in
    reverse_there r c.in-Some.is

pub filled-second-requires-clause-value : goal.filled-second-requires-clause-value
filled-second-requires-clause-value c =
    let x = c.args in
    let r = importable x.target x.source x.name.now x.new.now x.new_reverse.now c.in_ok-t.ensures.told c.in_ok-t.ensures.so in
    r.formed_reverse

pub enter_both-requires-clause-enters : goal.enter_both-requires-clause-enters
enter_both-requires-clause-enters c =
    let x = c.args in
    let r = importable x.target x.source x.name.now x.new.now x.new_reverse.now c.in_ok-t.ensures.told c.in_ok-t.ensures.so in
    enters_it r (cut_is c.name_length-n.ensures ∙ c.filled-first.ensures)

pub enter_both-requires-clause-enters_2 : goal.enter_both-requires-clause-enters_2
enter_both-requires-clause-enters_2 c =
    let x = c.args in
    let r = importable x.target x.source x.name.now x.new.now x.new_reverse.now c.in_ok-t.ensures.told c.in_ok-t.ensures.so in
    enters_reverse r c.in-Some.is (cut_is c.name_length-m.ensures ∙ c.filled-second.ensures)

pub returns : goal.returns
returns c =
    let x = c.args in
    let r = importable x.target x.source x.name.now x.new.now x.new_reverse.now c.in_ok-t.ensures.told c.in_ok-t.ensures.so in
    import_both r c.in-Some.is (cut_is c.name_length-n.ensures ∙ c.filled-first.ensures) (cut_is c.name_length-m.ensures ∙ c.filled-second.ensures)
    c.enter_both.ensures
