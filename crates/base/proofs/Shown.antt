-- What each row of a base shows is what the schema holds at its number, and nothing else is in the schema. Assumes nothing.
use Prim.Native.Nat.{ℕ, ◌+◌, ◌*◌, ◌≤◌, ◌<◌}
use native.Mathlib.Nat.{add-zero}
use native.Mathlib.Omega.{arith}
use mathlib.Core.Path.{◌≡◌, ap, ◌∙◌, subst}
use mathlib.Core.List.{List, []}
use lib.ListN.{length, get_or, take, drop, get_or-eq_default}
use lib.Seq.{drop-drop}
use borrow.Author.Tests.{ne_eqb}
use Rattle.rules.specs.01-Lists.{◌∈◌}
use Rattle.rules.specs.02-Limits.{limits}
use Rattle.rules.specs.04-Schema.{Presence, Application, End, sds_name, kind_of}
use Rattle.rules.specs.04-Schema.Kind.{unused, attribute, designation, paired}
use Rattle.rules.specs.Read.{value_offset, reverse_offset, name_offset, type_offset, usage_offset, definition_offset, to_offset, attribute_offset, link_offset}
use Rattle.rules.specs.Read.{side_offset, object_offset, strip, read_kind, read_presence, read_application, read_side, read_end}
use Rattle.rows.specs.Rows.{part}
use Rattle.rows.proofs.Rows.{part_byte, part_part, length_rows, rows_at, rows_there, rows_in}
use Rattle.base.specs.Tables.{Table, at, row_of, shown, used_rows, first_things, things, sdss, types, presences, applications, ends}
use Rattle.base.specs.Rows.{type_at, presence_at}
use Rattle.base.specs.Back.{presence_count, application_count, end_count, schema_of, sds_shown, kind_shown}
use Rattle.base.specs.Back.{presence_shown, application_shown, end_shown}

-- ---- any table

module _ {A : Type 0} (t : Table A) (b : List ℕ) where
  -- a row that is counted from where its table starts
  from_start : (i : ℕ) → part (drop t.start b) (i * t.width) t.width ≡ row_of t b i
  from_start i = ap (take t.width) (drop-drop (i * t.width) t.start b)

  -- a byte of a row
  row_byte : (i f : ℕ) → f < t.width → get_or (row_of t b i) f 0 ≡ get_or b (at t i + f) 0
  row_byte i f h = part_byte b (at t i) t.width f h

  row_first : (i : ℕ) → 0 < t.width → get_or (row_of t b i) 0 0 ≡ get_or b (at t i) 0
  row_first i h = row_byte i 0 h ∙ ap (λ (n : ℕ). get_or b n 0) (add-zero (at t i))

  pub things_long : (n : ℕ) → length (first_things t n b) ≡ n
  things_long n = length_rows t.width t.read n (drop t.start b)

  pub thing_at : (n i : ℕ) (d : A) → i < n → get_or (first_things t n b) i d ≡ shown t b i
  thing_at n i d h = rows_at t.width t.read n (drop t.start b) i d h ∙ ap t.read (from_start i)

  -- what a row shows, said in some other way
  module _ (show : ℕ → A) (same : (i : ℕ) → shown t b i ≡ show i) where
    thing_is : (i : ℕ) (d : A) → i < used_rows t b → get_or (things t b) i d ≡ show i
    thing_is i d h = thing_at (used_rows t b) i d h ∙ same i

    thing_there : (i : ℕ) → i < used_rows t b → show i ∈ things t b
    thing_there i h =
        subst (λ (x : A). x ∈ things t b) (ap t.read (from_start i) ∙ same i)
        (rows_there t.width t.read (used_rows t b) (drop t.start b) i h)

    thing_in : (x : A) → x ∈ things t b → (i : ℕ) × (i < used_rows t b) × (x ≡ show i)
    thing_in x m =
        let (i, h, e) = rows_in t.width t.read (used_rows t b) (drop t.start b) x m in
        (i, h, e ∙ ap t.read (from_start i) ∙ same i)

module _ (b : List ℕ) where
  -- ---- SDSs and types, by number

  pub sdss_long : length (schema_of b).sdss ≡ limits.sdss
  unfolding schema_of
  sdss_long = things_long sdss b sdss.room

  pub types_long : length (schema_of b).types ≡ limits.types
  unfolding schema_of
  types_long = things_long types b types.room

  pub sds_is : (d : ℕ) → d < limits.sdss → sds_name (schema_of b) d ≡ sds_shown b d
  unfolding schema_of
  sds_is d h = thing_at sdss b sdss.room d [] h

  pub sds_none : (d : ℕ) → limits.sdss ≤ d → sds_name (schema_of b) d ≡ []
  sds_none d h = get_or-eq_default (schema_of b).sdss [] {n = d} (omega (arith, sdss_long))

  pub kind_is : (t : ℕ) → t < limits.types → kind_of (schema_of b) t ≡ kind_shown b t
  unfolding schema_of
  kind_is t h = thing_at types b types.room t unused h

  pub kind_none : (t : ℕ) → limits.types ≤ t → kind_of (schema_of b) t ≡ unused
  kind_none t h = get_or-eq_default (schema_of b).types unused {n = t} (omega (arith, types_long))

  -- ---- the kind that bytes show

  module _ (t : ℕ) where
    -- the bytes of its row
    byte : (f : ℕ) → f < types.width → get_or (row_of types b t) f 0 ≡ get_or b (type_at t + f) 0
    byte = row_byte types b t

    first_byte : get_or (row_of types b t) 0 0 ≡ get_or b (type_at t) 0
    first_byte = row_first types b t (omega arith)

    pub shows_attribute : get_or b (type_at t) 0 ≡ 2 → kind_shown b t ≡ attribute (get_or b (type_at t + value_offset) 0)
    unfolding read_kind
    shows_attribute e = rw (first_byte, e, byte value_offset (omega arith))

    pub shows_designation : get_or b (type_at t) 0 ≡ 3 → get_or b (type_at t + value_offset) 0 ≡ 4 → kind_shown b t ≡ designation
    unfolding read_kind
    shows_designation e f = rw (first_byte, e, byte value_offset (omega arith), f)

    pub shows_paired : get_or b (type_at t) 0 ≡ 3 → (get_or b (type_at t + value_offset) 0 ≡ 4 → ⊥)
        → kind_shown b t ≡ paired (get_or b (type_at t + value_offset) 0) (get_or b (type_at t + reverse_offset) 0)
    unfolding read_kind
    shows_paired e f =
        rw (first_byte, e, byte value_offset (omega arith), byte reverse_offset (omega arith), ne_eqb (get_or b (type_at t + value_offset) 0) 4 f)

    pub shows_unused : (get_or b (type_at t) 0 ≡ 1 → ⊥) → (get_or b (type_at t) 0 ≡ 2 → ⊥) → (get_or b (type_at t) 0 ≡ 3 → ⊥) → kind_shown b t ≡ unused
    unfolding read_kind
    shows_unused e f g = rw (first_byte, ne_eqb (get_or b (type_at t) 0) 1 e, ne_eqb (get_or b (type_at t) 0) 2 f, ne_eqb (get_or b (type_at t) 0) 3 g)

  -- ---- presences, applications and ends, row by row: which bytes are which field, and then as any table

  pub presence_read : (i : ℕ) → shown presences b i ≡ presence_shown b i
  unfolding read_presence
  presence_read i = λ j. record {
    sds = row_first presences b i (omega arith) j;
    name = strip (part_part b (presence_at i) presences.width name_offset limits.name (omega arith) j);
    type = row_byte presences b i type_offset (omega arith) j;
    usage = row_byte presences b i usage_offset (omega arith) j;
    definition = row_byte presences b i definition_offset (omega arith) j;
  }

  pub application_read : (i : ℕ) → shown applications b i ≡ application_shown b i
  unfolding read_application
  application_read i = λ j. record {
    sds = row_first applications b i (omega arith) j;
    to = row_byte applications b i to_offset (omega arith) j;
    attribute = row_byte applications b i attribute_offset (omega arith) j;
  }

  pub end_read : (i : ℕ) → shown ends b i ≡ end_shown b i
  unfolding read_end
  end_read i = λ j. record {
    sds = row_first ends b i (omega arith) j;
    link = row_byte ends b i link_offset (omega arith) j;
    side = read_side (row_byte ends b i side_offset (omega arith) j);
    object = row_byte ends b i object_offset (omega arith) j;
  }

  pub presences_long : length (schema_of b).presences ≡ presence_count b
  unfolding schema_of
  presences_long = things_long presences b (presence_count b)

  pub presence_is : (i : ℕ) (d : Presence) → i < presence_count b → get_or (schema_of b).presences i d ≡ presence_shown b i
  unfolding schema_of
  presence_is = thing_is presences b (presence_shown b) presence_read

  pub presence_there : (i : ℕ) → i < presence_count b → presence_shown b i ∈ (schema_of b).presences
  unfolding schema_of
  presence_there = thing_there presences b (presence_shown b) presence_read

  pub presence_in : (p : Presence) → p ∈ (schema_of b).presences → (i : ℕ) × (i < presence_count b) × (p ≡ presence_shown b i)
  unfolding schema_of
  presence_in = thing_in presences b (presence_shown b) presence_read

  pub applications_long : length (schema_of b).applications ≡ application_count b
  unfolding schema_of
  applications_long = things_long applications b (application_count b)

  pub application_is : (i : ℕ) (d : Application) → i < application_count b → get_or (schema_of b).applications i d ≡ application_shown b i
  unfolding schema_of
  application_is = thing_is applications b (application_shown b) application_read

  pub application_there : (i : ℕ) → i < application_count b → application_shown b i ∈ (schema_of b).applications
  unfolding schema_of
  application_there = thing_there applications b (application_shown b) application_read

  pub application_in : (x : Application) → x ∈ (schema_of b).applications → (i : ℕ) × (i < application_count b) × (x ≡ application_shown b i)
  unfolding schema_of
  application_in = thing_in applications b (application_shown b) application_read

  pub ends_long : length (schema_of b).ends ≡ end_count b
  unfolding schema_of
  ends_long = things_long ends b (end_count b)

  pub end_is : (i : ℕ) (d : End) → i < end_count b → get_or (schema_of b).ends i d ≡ end_shown b i
  unfolding schema_of
  end_is = thing_is ends b (end_shown b) end_read

  pub end_there : (i : ℕ) → i < end_count b → end_shown b i ∈ (schema_of b).ends
  unfolding schema_of
  end_there = thing_there ends b (end_shown b) end_read

  pub end_in : (x : End) → x ∈ (schema_of b).ends → (i : ℕ) × (i < end_count b) × (x ≡ end_shown b i)
  unfolding schema_of
  end_in = thing_in ends b (end_shown b) end_read
