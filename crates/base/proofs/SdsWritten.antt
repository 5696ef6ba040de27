-- A name over the field of an SDS is that name in the schema. Assumes nothing.
use Prim.Native.Nat.{ℕ, ◌+◌, ◌-◌, ◌≤◌, ◌<◌}
use native.Mathlib.Omega.{arith}
use mathlib.Core.Path.{◌≡◌, sym, ap, ◌∙◌}
use mathlib.Core.List.{List, ◌++◌}
use lib.ListN.{length, take, drop, set, replicate, length-take, length-drop}
use lib.Seq.{drop-drop, length-take-le}
use borrow.Rule.Slice.PartMut.{put_mid}
use Rattle.rules.specs.02-Limits.{limits}
use Rattle.rules.specs.03-Names.{Name}
use Rattle.rules.specs.04-Schema.{Schema, with_sdss}
use Rattle.rules.specs.06-Good.{Good}
use Rattle.rules.specs.07-Picture.{sds_width, sds_row, picture}
use Rattle.rules.proofs.07-Picture.{length_pad}
use Rattle.rows.specs.Table.{written}
use Rattle.rows.proofs.Written.{field_written}
use Rattle.base.specs.Rows.{sds_at}
use Rattle.base.proofs.Tables.{sdss_stand, row_over}

-- the field cleared, and then the name
pub name_written : (b z y n : List ℕ) (at : ℕ) → at + sds_width ≤ length b → length n ≤ sds_width
    → z ≡ replicate (length (take ((at + sds_width) - at) (drop at b))) 0
    → y ≡ written (put_mid at ((at + sds_width) - at) b z) at n → y ≡ written b at (sds_row n)
unfolding written sds_row
name_written b z y n at h l f q =
    let w = sds_width in
    let all : (at + w) - at ≡ w = omega arith in
    let many : length (take w (drop at b)) ≡ w = length-take w (drop at b) ∙ omega (arith, length-drop at b) in
    let z_is : z ≡ replicate w 0 = f ∙ rw (all, many) in
    let m_is : put_mid at ((at + w) - at) b z ≡ take at b ++ (replicate w 0 ++ drop (at + w) b) = rw (all, z_is, drop-drop w at b) in
    q ∙ ap (λ (m : List ℕ). written m at n) m_is
    ∙ field_written (take at b) (drop (at + w) b) n w at (sym (length-take-le at b (omega arith))) l ∙ rw (length_pad w n)

pub sds_written : {s : Schema} → Good s → (d : ℕ) (n : Name) → d < limits.sdss
    → written (picture s) (sds_at d) (sds_row n) ≡ picture (with_sdss s (set s.sdss d n))
sds_written {s} g d n h = let room = g.sds_room in row_over sdss_stand s d n (omega arith) (omega arith)
