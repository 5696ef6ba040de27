-- The bytes of a fresh base. Assumes nothing.
use Prim.Native.Nat.{ℕ, ◌+◌}
use mathlib.Core.Path.{◌≡◌, refl, ap, ◌∙◌}
use mathlib.Core.List.{List}
use lib.ListN.{set, replicate}
use Rattle.rules.specs.01-Lists.{bytes}
use Rattle.rules.specs.04-Schema.{all_modes, fresh}
use Rattle.rules.specs.07-Picture.{pad, sds_row, type_row, presence_row, table, base_length, picture}
use Rattle.rules.specs.Read.{name_offset, usage_offset, definition_offset}
use Rattle.rows.specs.Table.{written}
use Rattle.base.specs.Tables.{sdss, types}
use Rattle.base.specs.Rows.{presence_at}

-- the kind of type 0, its modes and its local name
abbrev with_object : List ℕ → List ℕ
with_object y =
    written (set (set (set y types.start 1) (presence_at 0 + usage_offset) all_modes) (presence_at 0 + definition_offset) all_modes)
    (presence_at 0 + name_offset) (bytes "object")

-- zeros, then the name of SDS 0, and type 0
fresh_bytes : with_object (written (replicate base_length 0) sdss.start (bytes "system")) ≡ picture fresh
unfolding written picture fresh table sds_row type_row presence_row pad
fresh_bytes = refl

pub fresh_done : {n : ℕ} {x y z : List ℕ} → n ≡ base_length → x ≡ replicate n 0 → y ≡ written x sdss.start (bytes "system")
    → z ≡ with_object y → z ≡ picture fresh
fresh_done l f g h =
    h ∙ ap with_object
    (g ∙ ap (λ (m : List ℕ). written m sdss.start (bytes "system")) (f ∙ ap (λ (n : ℕ). replicate n 0) l))
    ∙ fresh_bytes
