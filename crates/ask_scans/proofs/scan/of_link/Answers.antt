-- Below code 4 it is what `ends` tells; only code 4 is left, the attribute types that are applied to the one type.
use Rattle.std.proofs.Common.{◌≡◌, arith}
use Rattle.base.proofs.Back.{sound_good}
use Rattle.ask_scans.proofs.ScanLaws.{one_among, applied_scan}
use Rattle.ask_scans.proofs.scan.of_link.Goals as goal

pub returns-else-code-lt4 : goal.returns-else-code-lt4
returns-else-code-lt4 c =
    let last : c.args.code ≡ 4 = omega (arith, c.if-code-lt4.false, c.requires.1.1) in
    applied_scan _ (sound_good c.requires.0) _ _ _ last _ _ (one_among _ _ c.requires.1.0 c.only.ensures) c.attributes.ensures
