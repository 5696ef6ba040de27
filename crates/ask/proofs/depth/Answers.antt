-- Where the view refuses, the rule does so likewise; else its answer is that of `kin::depth`.
use Rattle.std.proofs.Common.{ℕ, [], ap}
use Rattle.rules.specs.09-Refusals.{success}
use Rattle.rules.proofs.09-Refusals.{ends}
use Rattle.base.specs.Back.{schema_of}
use Rattle.base.proofs.Kept.{answered_as}
use Rattle.base.proofs.TestedLaws.{answer_on, answered_stops, positive}
use Rattle.ask_scans.proofs.ViewLaws.{viewed_passes}
use Rattle.ask.proofs.CallLaws.{depth_left}
use Rattle.ask.proofs.depth.Goals as goal

pub returns-in_err-of : goal.returns-in_err-of
returns-in_err-of c =
    let x = c.args in
    answered_stops _ c.in_err-of.ensures.told (positive _) (depth_left x.schema.now x.t (schema_of x.base.now)) (answer_on _ _ c.from_residual.ensures)

pub depth-requires : goal.depth-requires
depth-requires c = let th = c.in_ok-of.ensures.through in (th.sound, th.kind)

pub returns : goal.returns
returns c =
    let x = c.args in
    let v = c.in_ok-of.ensures in
    answered_as v.through.sound (ends (viewed_passes v [] (depth_left x.schema.now x.t (schema_of x.base.now))))
    (ap (λ (n : ℕ). success n 0 0) c.depth.ensures)
