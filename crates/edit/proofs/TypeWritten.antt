-- A row over that of a type is that kind in the schema. Assumes nothing.
use Prim.Native.Nat.{ℕ, zero, suc, ◌-◌, ◌≤◌, ◌<◌}
use native.Mathlib.Omega.{arith}
use mathlib.Core.Path.{◌≡◌, refl, sym, ap, ◌∙◌}
use mathlib.Core.Logic.{◌⊎◌, inl, inr, ⊎_elim}
use mathlib.Core.List.Memᴰ
use mathlib.Core.List.{List, [], ◌∷◌, ◌++◌, append-nil}
use lib.ListN.{length, set, length-set}
use Rattle.rules.specs.01-Lists.{◌∈◌}
use Rattle.rules.specs.02-Limits.{limits}
use Rattle.rules.specs.04-Schema.{Schema, Kind, with_types}
use Rattle.rules.specs.04-Schema.Kind.{unused, object, attribute, designation, paired}
use Rattle.rules.specs.07-Picture.{pad, type_width, type_row, picture}
use Rattle.rules.specs.Read.{parents_offset, read_kind}
use Rattle.rules.proofs.07-Picture.{kind_back}
use Rattle.rules.proofs.07-Picture.Fitting.{fits_unused, fits_object, fits_attribute, fits_designation, fits_paired}
use Rattle.rows.specs.Table.{written}
use Rattle.rows.proofs.Written.{field_written}
use Rattle.base.specs.Rows.{type_at}
use Rattle.base.specs.Back.{schema_of}
use Rattle.base.specs.Stored.{Storable, Stored, type_fields, Becomes, TypeWritten}
use Rattle.base.proofs.Tables.{types_stand, row_over}

-- ---- the row

pub type_built : (kind value reverse : ℕ) (ps y : List ℕ) → length ps ≤ 4
    → y ≡ written (kind ∷ value ∷ reverse ∷ length ps ∷ 0 ∷ 0 ∷ 0 ∷ 0 ∷ []) parents_offset ps → y ≡ type_fields kind value reverse ps
type_built kind value reverse ps y l e =
    let room = type_width - parents_offset in
    let front = kind ∷ value ∷ reverse ∷ length ps ∷ [] in
    e ∙ field_written front [] ps room parents_offset refl l ∙ ap (λ (r : List ℕ). front ++ r) (append-nil (pad room ps))

-- ---- the schema

pub set_in : {A : Type 0} (rs : List A) (i : ℕ) (a : A) {y : A} → y ∈ set rs i a → (y ≡ a) ⊎ (y ∈ rs)
set_in [] i a m = inr m
set_in (x ∷ rs) zero a m = ⊎_elim (λ h. inl h) (λ h. inr (Memᴰ.tail h)) (Memᴰ.cases_cons m)
set_in (x ∷ rs) (suc i) a m =
    ⊎_elim (λ h. inr (Memᴰ.head h)) (λ h. ⊎_elim (λ e. inl e) (λ n. inr (Memᴰ.tail n)) (set_in rs i a h)) (Memᴰ.cases_cons m)

kind_set : {s : Schema} → Storable s → (t : ℕ) (k : Kind) → read_kind (type_row k) ≡ k → Storable (with_types s (set s.types t k))
kind_set {s} st t k back = record {
  by_sds = st.by_sds;
  by_type = record {
    room = length-set s.types t k ∙ st.by_type.room;
    back = λ y m. ⊎_elim (λ e. rw e back) (λ n. st.by_type.back y n) (set_in s.types t k m);
  };
  presences = st.presences;
  applications = st.applications;
  ends = st.ends;
}

pub type_written : {b : List ℕ} → Stored b → (t : ℕ) → t < limits.types → {row fields b' : List ℕ} → row ≡ fields → b' ≡ written b (type_at t) row
    → TypeWritten b t fields b'
type_written {b} x t h {row} e f = record {
  shows = λ k is back. record {
    rows = kind_set x.rows t k back;
    shown = f ∙ ap (λ (l : List ℕ). written l (type_at t) row) x.shown ∙ ap (written (picture (schema_of b)) (type_at t)) (e ∙ sym is)
        ∙ row_over types_stand (schema_of b) t k (omega (arith, x.rows.by_type.room)) (omega (arith, x.rows.by_type.room));
  };
}

-- ---- each kind

module _ {b : List ℕ} {t : ℕ} {b' : List ℕ} where
  pub unused_written : TypeWritten b t (type_fields 0 0 0 []) b' → Becomes b t unused b'
  unfolding type_row pad
  unused_written w = w.shows unused refl (kind_back fits_unused)

  pub object_written : (ps : List ℕ) → length ps ≤ 4 → TypeWritten b t (type_fields 1 0 0 ps) b' → Becomes b t (object ps) b'
  unfolding type_row
  object_written ps h w = w.shows (object ps) refl (kind_back (fits_object h))

  pub attribute_written : {v : ℕ} → TypeWritten b t (type_fields 2 v 0 []) b' → Becomes b t (attribute v) b'
  unfolding type_row pad
  attribute_written {v} w = w.shows (attribute v) refl (kind_back fits_attribute)

  pub designation_written : TypeWritten b t (type_fields 3 4 0 []) b' → Becomes b t designation b'
  unfolding type_row pad
  designation_written w = w.shows designation refl (kind_back fits_designation)

  pub paired_written : {c r : ℕ} → c ≤ 3 → TypeWritten b t (type_fields 3 c r []) b' → Becomes b t (paired c r) b'
  unfolding type_row pad
  paired_written {c} {r} h w = w.shows (paired c r) refl (kind_back (fits_paired h))
