-- The type and its ancestors are the sources of both codes with "all".
use Rattle.std.proofs.Common.{true, refl, arith}
use Rattle.base.proofs.Back.{sound_good}
use Rattle.base.specs.Back.{schema_of}
use Rattle.type_set.specs.Set.{has}
use Rattle.type_set.proofs.Set.{has_past}
use Rattle.ask_scans.proofs.ScanLaws.{ancestor_scan, source_all, attribute_scans, origin_scans}
use Rattle.ask_scans.proofs.scan.of_profile.Goals as goal

pub returns : goal.returns
returns c =
    let one = c.only-s.ensures in
    let up = c.ancestors_of-ancestors in
    let s = schema_of c.args.base.now in
    let good = sound_good c.requires.0 in
    let types = source_all _ _ c.requires.1.0 one s true refl (has up.result) _ up.ensures (has_past up.result) c.join-types.ensures in
    record {
      ancestors = ancestor_scan _ _ c.requires.1.0 one s _ _ 3 good c.requires.1.1 refl up.ensures;
      attributes = attribute_scans s _ good _ _ 5 types _ (omega arith) (omega arith) c.attributes-attributes.ensures;
      links = origin_scans s _ good _ _ 7 types _ (omega arith) (omega arith) c.links-links.ensures;
    }
