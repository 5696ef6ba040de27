-- The view's refusals are the rule's; else the visible part of scan 1 is the set of visible descendants, and its words are their marks.
use Rattle.std.proofs.Common.{[], ap, ◌∙◌, arith, rules}
use Rattle.rules.specs.09-Refusals.{success}
use Rattle.rules.specs.11-Asks.{visible_descendant}
use Rattle.rules.proofs.09-Refusals.{ends}
use Rattle.base.specs.Back.{schema_of}
use Rattle.base.proofs.Kept.{answered_as}
use Rattle.base.proofs.TestedLaws.{answer_on, answered_stops, positive}
use Rattle.ask_scans.proofs.ViewLaws.{viewed_passes}
use Rattle.ask.proofs.CallLaws.{descendant_left, descendants_seen, set_answer}
use Rattle.ask.proofs.descendant_set.Goals as goal

pub returns-in_err-listed : goal.returns-in_err-listed
returns-in_err-listed c =
    let x = c.args in
    answered_stops _ c.in_err-listed.ensures.told (positive _) (descendant_left x.schema.now x.t (schema_of x.base.now))
    (answer_on _ _ c.from_residual.ensures)

pub of_object-set-requires : goal.of_object-set-requires
of_object-set-requires c = let th = c.in_ok-listed.ensures.through in (th.sound, (th.below, (omega arith, th.held)))

pub returns : goal.returns
returns c =
    let x = c.args in
    let v = c.in_ok-listed.ensures in
    answered_as v.through.sound (ends (viewed_passes v [] (descendant_left x.schema.now x.t (schema_of x.base.now))))
    (ap (success _ _) c.count.ensures
    ∙ set_answer _ (visible_descendant x.schema.now x.t (schema_of x.base.now)) (search rules) (search rules)
    (descendants_seen v.through _ c.of_object-set.ensures))
