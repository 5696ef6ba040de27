-- Half the code is the side, on which the ends are gathered; an odd code, "all", adds the descendants of these.
use Rattle.base.proofs.Back.{sound_good}
use Rattle.ask_scans.proofs.ScanLaws.{end_scans, end_all_scans}
use Rattle.ask_scans.proofs.scan.ends.Goals as goal

pub returns-then-code-eq0 : goal.returns-then-code-eq0
returns-then-code-eq0 c = end_scans _ (sound_good c.requires.0) _ _ _ c.requires.1 _ c.objects-objects.ensures c.if-code-eq0.true

pub returns-else-code-eq0 : goal.returns-else-code-eq0
returns-else-code-eq0 c =
    end_all_scans _ (sound_good c.requires.0) _ _ _ c.requires.1 _ c.objects-objects.ensures c.if-code-eq0.false _ c.with_descendants.ensures
