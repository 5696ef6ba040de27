-- Without "all" the type is alone; with it the set of one type is joined with its ancestors, none of which is past the last type.
use Rattle.base.specs.Back.{schema_of}
use Rattle.type_set.specs.Set.{has}
use Rattle.type_set.proofs.Set.{has_past}
use Rattle.ask_scans.proofs.ScanLaws.{source_alone, source_all}
use Rattle.ask_scans.proofs.scan.sources.Goals as goal

pub returns-then-all : goal.returns-then-all
returns-then-all c =
    source_all _ _ c.requires.1 c.only-s.ensures _ c.args.all c.if-all.true (has c.ancestors_of.result) _ c.ancestors_of.ensures
    (has_past c.ancestors_of.result) c.join.ensures

pub returns-else-all : goal.returns-else-all
returns-else-all c = source_alone _ _ c.requires.1 c.only-s.ensures (schema_of c.args.base.now) c.args.all c.if-all.false
