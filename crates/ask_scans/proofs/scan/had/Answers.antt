-- An even code has the type for its source, the next one, "all", its ancestors too; what is gathered over the sources is the scan.
use Rattle.std.proofs.Common.{◌≤◌, arith}
use Rattle.base.proofs.Back.{sound_good}
use Rattle.ask_scans.proofs.ScanLaws.{attribute_scans, origin_scans, destination_scans}
use Rattle.ask_scans.proofs.scan.had.Goals as goal

pub returns-in-2 : goal.returns-in-2
returns-in-2 c =
    attribute_scans _ _ (sound_good c.requires.0) _ _ _ c.sources-types.ensures _
    (omega (arith, c.in-2.is)) (omega (arith, c.in-2.is)) c.attributes.ensures

pub returns-in-3 : goal.returns-in-3
returns-in-3 c =
    origin_scans _ _ (sound_good c.requires.0) _ _ _ c.sources-types.ensures _
    (omega (arith, c.in-3.is)) (omega (arith, c.in-3.is)) c.links.ensures

pub returns-in_default : goal.returns-in_default
returns-in_default c =
    let a = c.in_default in
    let least : 8 ≤ c.args.code = omega (arith, c.requires.1.1.0) in
    destination_scans _ _ (sound_good c.requires.0) _ _ _ c.sources-types.ensures _ least c.requires.1.1.1 c.links-in_default.ensures
