-- What an entry makes of an area, as the code finds it: nothing where its number is past the limit, and else a row. Assumes nothing.
use Prim.Native.Nat.{ℕ, ◌+◌, ◌-◌, ◌≤◌, ◌<◌}
use native.Mathlib.Omega.{arith}
use mathlib.Core.Path.{◌≡◌, sym, ap, ◌∙◌}
use mathlib.Core.List.{List}
use mathlib.Core.Bool.{Bool, cond}
use lib.Dec.{ltb}
use lib.ListN.{length, get_or, take, drop, length-drop}
use lib.Seq.{take_all}
use borrow.Author.Tests.{lt-ltb, le-ltb}
use Rattle.rules.specs.02-Limits.{limits}
use Rattle.rules.specs.Read.{count_offset}
use Rattle.rows.specs.Table.{written}
use Rattle.base.specs.Rows.{sds_at, type_at}
use Rattle.file_in_types.specs.Steps.{bare_row, parent_set, parent_more, sds_in, type_in, parent_in}

-- a number within its limit, and one past it
module _ (k limit : ℕ) (x y : List ℕ) where
  pub within : k < limit → cond (ltb k limit) x y ≡ x
  within h = ap (λ (b : Bool). cond b x y) (lt-ltb k limit h)

  pub past : limit ≤ k → cond (ltb k limit) x y ≡ y
  past h = ap (λ (b : Bool). cond b x y) (le-ltb k limit h)

-- d is the number that the entry e begins with
module _ (e area : List ℕ) (d : ℕ) (is : d ≡ get_or e 0 0) where
  pub sds_past : limits.sdss ≤ d → area ≡ sds_in e area
  unfolding sds_in
  sds_past h = sym (past (get_or e 0 0) limits.sdss (written area (sds_at (get_or e 0 0)) (drop 1 e)) area (omega arith))

  pub sds_done : d < limits.sdss → {area' : List ℕ} → area' ≡ written area (sds_at d) (take (length e - 1) (drop 1 e)) → area' ≡ sds_in e area
  unfolding sds_in
  sds_done h f =
      f ∙ ap (written area (sds_at d)) (take_all (length e - 1) (drop 1 e) (omega (arith, length-drop 1 e)))
      ∙ ap (λ (k : ℕ). written area (sds_at k) (drop 1 e)) is
      ∙ sym (within (get_or e 0 0) limits.sdss (written area (sds_at (get_or e 0 0)) (drop 1 e)) area (omega arith))

  pub type_past : limits.types ≤ d → area ≡ type_in e area
  unfolding type_in
  type_past h = sym (past (get_or e 0 0) limits.types (written area (type_at (get_or e 0 0)) (bare_row e)) area (omega arith))

  pub type_done : d < limits.types → {area' : List ℕ} → area' ≡ written area (type_at d) (bare_row e) → area' ≡ type_in e area
  unfolding type_in
  type_done h f =
      f ∙ ap (λ (k : ℕ). written area (type_at k) (bare_row e)) is
      ∙ sym (within (get_or e 0 0) limits.types (written area (type_at (get_or e 0 0)) (bare_row e)) area (omega arith))

  pub parent_past : limits.types ≤ d → area ≡ parent_in e area
  unfolding parent_in
  parent_past h = sym (past (get_or e 0 0) limits.types (parent_more area (type_at (get_or e 0 0)) (get_or e 1 0)) area (omega arith))

  -- n parents are there
  module _ (h : d < limits.types) (n : ℕ) (there : n ≡ get_or area (type_at d + count_offset) 0) where
    parent_there : parent_in e area ≡ parent_more area (type_at d) (get_or e 1 0)
    unfolding parent_in
    parent_there =
        within (get_or e 0 0) limits.types (parent_more area (type_at (get_or e 0 0)) (get_or e 1 0)) area (omega arith)
        ∙ ap (λ (k : ℕ). parent_more area (type_at k) (get_or e 1 0)) (sym is)

    pub parent_full : 4 ≤ n → area ≡ parent_in e area
    parent_full f =
        let m = get_or area (type_at d + count_offset) 0 in
        sym (parent_there ∙ past m 4 (parent_set area (type_at d) m (get_or e 1 0)) area (omega arith))

    pub parent_done : n < 4 → {area' : List ℕ} → area' ≡ parent_set area (type_at d) n (get_or e 1 0) → area' ≡ parent_in e area
    parent_done f g =
        let m = get_or area (type_at d + count_offset) 0 in
        g ∙ ap (λ (k : ℕ). parent_set area (type_at d) k (get_or e 1 0)) there
        ∙ sym (parent_there ∙ within m 4 (parent_set area (type_at d) m (get_or e 1 0)) area (omega arith))
