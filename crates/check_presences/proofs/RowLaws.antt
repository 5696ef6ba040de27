-- A presence as its row is written. Assumes nothing.
use Prim.Native.Nat.{ℕ, suc, ◌+◌, ◌<◌}
use native.Mathlib.Omega.{arith}
use mathlib.Core.Path.{◌≡◌, refl, sym, ap, ◌∙◌}
use mathlib.Core.Logic.{inl, inr, ⊎_elim}
use mathlib.Core.List.{List, ◌∷◌, ◌++◌, tail-eq_of_cons-eq, append_cancel_right}
use mathlib.Core.Bool.{true, ◌||◌}
use lib.ListN.{length, get_or, take, drop, replicate}
use lib.Seq.{drop-drop, take-add}
use borrow.Author.Tests.{eqb-true}
use Rattle.rules.specs.01-Lists.{same_bytes, all}
use Rattle.rules.specs.02-Limits.{limits}
use Rattle.rules.specs.03-Names.{blank, letter, letter_or_digit, well_formed}
use Rattle.rules.specs.04-Schema.{system_presence, kind_of, is_object}
use Rattle.rules.specs.07-Picture.{pad, presence_row, base_length, presence_width}
use Rattle.rules.proofs.Bools.{or_cases, or_right}
use Rattle.rules.proofs.01-Lists.{same_bytes_is, same_bytes_refl}
use Rattle.rules.proofs.03-Names.{blank_is, formed_long}
use Rattle.rules.proofs.07-Picture.{behind_name}
use Rattle.rules.specs.Read.{strip, name_offset, type_offset, usage_offset, definition_offset}
use Rattle.name_fields.specs.Field.{name_field}
use Rattle.name_fields.proofs.NamedFields.{name_field_of, name_field_formed, name_field_padded, formed_first}
use Rattle.rows.specs.Rows.{part}
use Rattle.rows.proofs.Rows.{part_part}
use Rattle.rows.proofs.Scan.{part_cons}
use Rattle.base.specs.Tables.{presences, row_of, shown}
use Rattle.base.specs.Rows.{presence_at}
use Rattle.base.specs.Back.{schema_of, presence_shown}
use Rattle.base.proofs.Shown.{presence_read}
use Rattle.check_presences.specs.Rows.{NamedFine}

-- what `NamedFine` says of the field, of the name and, where there is none, of the type
module _ (b : List ℕ) (i : ℕ) (e : NamedFine b i) where
  fine_padded : pad limits.name (strip (part b (presence_at i + name_offset) limits.name)) ≡ part b (presence_at i + name_offset) limits.name
  unfolding pad strip
  fine_padded = ⊎_elim (name_field_padded (part b (presence_at i + name_offset) limits.name)) (λ z. rw z.0) e

  pub fine_name : blank (presence_shown b i).name || well_formed (presence_shown b i).name ≡ true
  unfolding strip
  fine_name =
      let f = part b (presence_at i + name_offset) limits.name in
      ⊎_elim (λ n. or_right (blank (strip f)) (well_formed (strip f)) (name_field_formed f n)) (λ z. rw z.0) e

  pub fine_nameless : blank (presence_shown b i).name ≡ true → is_object (kind_of (schema_of b) (get_or b (presence_at i + type_offset) 0)) ≡ true
  fine_nameless none =
      let f = part b (presence_at i + name_offset) limits.name in
      ⊎_elim (λ n. absurd (omega (arith, formed_long (strip f) (name_field_formed f n), eqb-true (length (strip f)) 0 none))) (λ z. z.1) e

module _ (b : List ℕ) (long : length b ≡ base_length) (i : ℕ) (h : i < limits.presences) where
  -- a row is its SDS, its field, and its type and modes
  row_parts : row_of presences b i
      ≡ get_or b (presence_at i) 0 ∷ (part b (presence_at i + name_offset) limits.name ++ behind_name (presence_shown b i))
  row_parts =
      let at = presence_at i in
      let w = limits.name in
      part_cons b at presence_width definition_offset (omega arith) refl
      ∙ ap (λ (l : List ℕ). get_or b at 0 ∷ l) (take-add w 3 (drop (at + name_offset) b)
      ∙ ap (λ (l : List ℕ). part b (at + name_offset) w ++ l) (ap (take 3) (drop-drop w (at + name_offset) b) ∙ last))
    where
      -- the rest of the row from byte f on
      from : (f m : ℕ) → f + m < presence_width → part b (presence_at i + f) (suc m) ≡ get_or b (presence_at i + f) 0 ∷ part b (presence_at i + (f + 1)) m
      from f m l =
          let next : presence_at i + f + 1 ≡ presence_at i + (f + 1) = omega arith in
          part_cons b (presence_at i + f) (suc m) m (omega arith) refl ∙ ap (λ (k : ℕ). get_or b (presence_at i + f) 0 ∷ part b k m) next

      last : part b (presence_at i + name_offset + limits.name) 3 ≡ behind_name (presence_shown b i)
      last =
          let same : presence_at i + name_offset + limits.name ≡ presence_at i + type_offset = omega arith in
          rw same
          (from type_offset 2 (omega arith) ∙ ap (λ (l : List ℕ). get_or b (presence_at i + type_offset) 0 ∷ l)
          (from usage_offset 1 (omega arith) ∙ ap (λ (l : List ℕ). get_or b (presence_at i + usage_offset) 0 ∷ l) (from definition_offset 0 (omega arith))))

  pub named_written : NamedFine b i → presence_row (shown presences b i) ≡ row_of presences b i
  unfolding presence_row
  named_written e = ap presence_row (presence_read b i) ∙ rw (fine_padded b i e) (sym row_parts)

  pub written_named : blank (presence_shown b i).name || well_formed (presence_shown b i).name ≡ true
      → (blank (presence_shown b i).name ≡ true → is_object (kind_of (schema_of b) (get_or b (presence_at i + type_offset) 0)) ≡ true)
      → presence_row (shown presences b i) ≡ row_of presences b i → NamedFine b i
  unfolding presence_row pad
  written_named w object e =
      let f = part b (presence_at i + name_offset) limits.name in
      let last = behind_name (presence_shown b i) in
      let rest : pad limits.name (strip f) ++ last ≡ f ++ last = tail-eq_of_cons-eq (sym (ap presence_row (presence_read b i)) ∙ e ∙ row_parts) in
      let padded : pad limits.name (strip f) ≡ f = append_cancel_right (pad limits.name (strip f)) f last rest in
      ⊎_elim (λ z. inr (sym padded ∙ ap (pad limits.name) (blank_is (strip f) z), object z)) (λ formed. inl (name_field_of f formed padded))
      (or_cases (blank (strip f)) (well_formed (strip f)) w)

-- a row with a name is not blank
pub name_used : (b : List ℕ) (i : ℕ) → well_formed (presence_shown b i).name ≡ true → row_of presences b i ≡ replicate presences.width 0 → ⊥
name_used b i w e =
    let field : part b (presence_at i + name_offset) limits.name ≡ part (replicate presences.width 0) name_offset limits.name
    = sym (part_part b (presence_at i) presences.width name_offset limits.name (omega arith))
    ∙ ap (λ (l : List ℕ). part l name_offset limits.name) e in
    formed_first (part b (presence_at i + name_offset) limits.name) w (ap (λ (l : List ℕ). get_or l 0 0) field)

-- ---- the field of the name that a fresh base has

pub object_field : (f : List ℕ) → f ≡ pad limits.name system_presence.name → same_bytes f (111 ∷ 98 ∷ 106 ∷ 101 ∷ 99 ∷ 116 ∷ replicate 10 0) ≡ true
unfolding pad
object_field f e = rw e (same_bytes_refl (111 ∷ 98 ∷ 106 ∷ 101 ∷ 99 ∷ 116 ∷ replicate 10 0))

pub field_object : (f : List ℕ) → same_bytes f (111 ∷ 98 ∷ 106 ∷ 101 ∷ 99 ∷ 116 ∷ replicate 10 0) ≡ true → f ≡ pad limits.name system_presence.name
unfolding pad
field_object f e = same_bytes_is f (111 ∷ 98 ∷ 106 ∷ 101 ∷ 99 ∷ 116 ∷ replicate 10 0) e

pub object_named : (f : List ℕ) → f ≡ pad limits.name system_presence.name → name_field f ≡ true
unfolding name_field well_formed letter letter_or_digit all same_bytes pad strip
object_named f e = rw e
