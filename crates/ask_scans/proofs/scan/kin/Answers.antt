-- The children, descendants, parents and ancestors of a set of one type are those of the type, code by code.
use Rattle.std.proofs.Common.{◌≡◌, Bool, not, ◌&&◌, ap, ap₂, ◌∙◌, arith}
use lib.Dec.{eqb}
use Rattle.base.proofs.Back.{sound_good}
use Rattle.lookup.proofs.Parents.{good_parental}
use Rattle.ask_scans.proofs.ScanLaws.{child_scan, descendant_scan, parent_scan, ancestor_scan}
use Rattle.ask_scans.proofs.scan.kin.Goals as goal

pub children_of-requires : goal.children_of-requires
children_of-requires c = good_parental c.requires.0

pub parents_of-requires : goal.parents_of-requires
parents_of-requires c = good_parental c.requires.0

pub returns-in-0 : goal.returns-in-0
returns-in-0 c =
    child_scan _ _ c.requires.1.0 c.only-s.ensures _ _ _ _ c.in-0.is
    (λ k. c.meet.ensures k ∙ ap₂ ◌&&◌ (c.visible.ensures k) (c.children_of.ensures k))

pub returns-in-1 : goal.returns-in-1
returns-in-1 c =
    descendant_scan _ _ c.requires.1.0 c.only-s.ensures _ _ _ _ (sound_good c.requires.0) c.in-1.is
    (λ k. c.less.ensures k ∙ ap (λ (x : Bool). x && not (eqb k c.args.t)) (c.with_descendants.ensures k))

pub returns-in-2 : goal.returns-in-2
returns-in-2 c =
    parent_scan _ _ c.requires.1.0 c.only-s.ensures _ _ _ _ (sound_good c.requires.0) c.requires.1.1.1 c.in-2.is c.parents_of.ensures

pub returns-in_default : goal.returns-in_default
returns-in_default c =
    let a = c.in_default in
    let last : c.args.code ≡ 3 = omega (arith, c.requires.1.1.0) in
    ancestor_scan _ _ c.requires.1.0 c.only-s.ensures _ _ _ _ (sound_good c.requires.0) c.requires.1.1.1 last c.ancestors_of.ensures
