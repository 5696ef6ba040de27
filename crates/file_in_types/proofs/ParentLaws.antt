-- One parent more in the row of a type. Assumes nothing.
use Prim.Native.Nat.{ℕ, ◌+◌, ◌≤◌, ◌<◌}
use native.Mathlib.Nat.{zero-add, suc-add}
use native.Mathlib.Omega.{arith}
use mathlib.Core.Path.{◌≡◌, refl, sym, ap, ◌∙◌}
use mathlib.Core.List.{List, [], ◌∷◌, ◌++◌}
use lib.ListN.{length, get_or, take, drop, set, length-set, take-append-drop}
use lib.Seq.{set-append_left, length-take-le, drop-drop}
use Rattle.rules.specs.02-Limits.{limits}
use Rattle.rules.specs.04-Schema.{Schema, kind_of, with_types}
use Rattle.rules.specs.04-Schema.Kind.{unused, object}
use Rattle.rules.specs.07-Picture.{pad, type_row, picture}
use Rattle.rules.specs.Read.{count_offset, parents_offset}
use Rattle.rules.proofs.07-Picture.{wide_type, picture_length}
use Rattle.rows.specs.Rows.{part}
use Rattle.rows.specs.Table.{written}
use Rattle.rows.proofs.Rows.{part_byte}
use Rattle.base.specs.Tables.{types}
use Rattle.base.specs.Rows.{type_at}
use Rattle.base.proofs.Tables.{types_placed, types_stand, row_over}
use Rattle.base.proofs.Back.{row_there}
use Rattle.file_in_types.specs.Steps.{parent_set, parent_in}
use Rattle.file_in_types.proofs.StepLaws.{parent_done}

-- ---- bytes of a row set one by one

set_past : (p q : List ℕ) (m v : ℕ) → set (p ++ q) (length p + m) v ≡ p ++ set q m v
set_past [] q m v = rw (zero-add m)
set_past (x ∷ p) q m v = rw (suc-add (length p) m) (ap (λ (l : List ℕ). x ∷ l) (set_past p q m v))

module _ (b : List ℕ) (at : ℕ) where
  written_there : (l : List ℕ) → part b at (length l) ≡ l → b ≡ written b at l
  unfolding written
  written_there l e =
      sym (ap (λ (r : List ℕ). take at b ++ r)
      (ap (λ (r : List ℕ). r ++ drop (at + length l) b) (sym e)
      ∙ ap (λ (r : List ℕ). part b at (length l) ++ r) (sym (drop-drop (length l) at b)) ∙ take-append-drop (length l) (drop at b))
      ∙ take-append-drop at b)

  set_written : (l : List ℕ) (m v k : ℕ) → at ≤ length b → k ≡ at + m → m < length l → set (written b at l) k v ≡ written b at (set l m v)
  unfolding written
  set_written l m v k h e u =
      let front : k ≡ length (take at b) + m = omega (arith, length-take-le at b h) in
      let rest = drop (at + length l) b in
      rw (front, length-set l m v)
      (set_past (take at b) (l ++ rest) m v ∙ ap (λ (r : List ℕ). take at b ++ r) (set-append_left l rest m v u))

-- the row of an object type with one parent more
row_more : (ps : List ℕ) (a : ℕ) → length ps < 4
    → set (set (type_row (object ps)) (parents_offset + length ps) a) count_offset (length ps + 1) ≡ type_row (object (ps ++ (a ∷ [])))
unfolding type_row pad
row_more [] a h = refl
row_more (p ∷ []) a h = refl
row_more (p ∷ q ∷ []) a h = refl
row_more (p ∷ q ∷ r ∷ []) a h = refl
row_more (p ∷ q ∷ r ∷ x ∷ ps) a h = absurd (omega arith)

row_count : (ps : List ℕ) → get_or (type_row (object ps)) count_offset 0 ≡ length ps
unfolding type_row
row_count ps = refl

parent_written : (b : List ℕ) (at : ℕ) (ps : List ℕ) (a : ℕ) → length ps < 4 → at + types.width ≤ length b
    → part b at types.width ≡ type_row (object ps) → parent_set b at (length ps) a ≡ written b at (type_row (object (ps ++ (a ∷ []))))
parent_written b at ps a h fits e =
    let row = type_row (object ps) in
    let n = length ps in
    let row' = set row (parents_offset + n) a in
    let wide : length row ≡ types.width = wide_type (object ps) in
    ap (λ (l : List ℕ). parent_set l at n a) (written_there b at row (ap (part b at) wide ∙ e))
    ∙ ap (λ (l : List ℕ). set l (at + count_offset) (n + 1))
    (set_written b at row (parents_offset + n) a (at + parents_offset + n) (omega arith) (omega arith) (omega (arith, wide)))
    ∙ set_written b at row' count_offset (n + 1) (at + count_offset) (omega arith) refl (omega (arith, wide, length-set row (parents_offset + n) a))
    ∙ ap (written b at) (row_more ps a h)

-- ---- in a picture

pub parent_more_in : (s : Schema) (t a : ℕ) (ps : List ℕ) → length s.types ≡ limits.types → t < limits.types → kind_of s t ≡ object ps → length ps < 4
    → parent_in (t ∷ a ∷ []) (picture s) ≡ picture (with_types s (set s.types t (object (ps ++ (a ∷ [])))))
parent_more_in s t a ps room h is few =
    let b = picture s in
    let at = type_at t in
    let there : part b at types.width ≡ type_row (object ps)
    = row_there types_placed s (omega (arith, room)) unused t (omega (arith, room)) ∙ ap type_row is in
    let count : length ps ≡ get_or b (at + count_offset) 0
    = sym (sym (part_byte b at types.width count_offset (omega arith)) ∙ ap (λ (l : List ℕ). get_or l count_offset 0) there ∙ row_count ps) in
    sym (parent_done (t ∷ a ∷ []) b t refl h (length ps) count few {area' = parent_set b at (length ps) a} refl)
    ∙ parent_written b at ps a few (omega (arith, picture_length s)) there
    ∙ row_over types_stand s t (object (ps ++ (a ∷ []))) (omega (arith, room)) (omega (arith, room))
