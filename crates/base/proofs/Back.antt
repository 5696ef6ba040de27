-- The picture of a schema that can be stored shows that schema, as does that of a good one, and canonical bytes are the picture of
-- the schema that they show: for one table, and then for the five. Assumes nothing.
use Prim.Native.Nat.{ℕ, ◌+◌, ◌*◌, ◌-◌, ◌≤◌, ◌<◌}
use native.Mathlib.Nat.{add-mul, mul-le-mul_right}
use native.Mathlib.Omega.{arith}
use mathlib.Core.Path.{◌≡◌, refl, sym, ap, ◌∙◌, subst}
use mathlib.Core.List.{List, [], ◌∷◌, ◌++◌}
use lib.ListN.{length, get_or, take, drop, replicate, length-drop, length-take, take-append-drop}
use lib.Seq.{take_at, drop_at, drop-drop, drop-append-le, take_all}
use Rattle.rules.specs.01-Lists.{◌∈◌}
use Rattle.rules.specs.04-Schema.{Schema, Application, End}
use Rattle.rules.specs.04-Schema.Side.{origin}
use Rattle.rules.specs.06-Good.{Good}
use Rattle.rules.specs.07-Picture.{application_width, application_row, base_length, picture, Sound}
use Rattle.rules.specs.Read.{read_application}
use Rattle.rules.proofs.01-Lists.{place_in}
use Rattle.rules.proofs.07-Picture.{length_table, picture_length, sds_back, fitting, kind_back, presence_used, application_used, end_used, zeros_long}
use Rattle.rows.specs.Rows.{part, rows, filled}
use Rattle.rows.proofs.Rows.{part_part, rows_table, table_rows, table_part, table_rest, rows_append, filled_most, filled_table}
use Rattle.rows.proofs.TableLaws.{row_fits}
use Rattle.base.specs.Tables.{Table, Sorted, end, row_of, Used, used_rows, first_things, things, bytes_of, Written, BlankFrom}
use Rattle.base.specs.Tables.{sdss, types, presences, applications, ends}
use Rattle.base.specs.Stored.{Numbered, Ordered, Storable}
use Rattle.base.specs.Back.{schema_of, Canonical}
use Rattle.base.proofs.Tables.{Placed, Sorts, sdss_placed, types_placed, presences_placed, applications_placed, ends_placed}
use Rattle.base.proofs.Tables.{presences_sort, applications_sort, ends_sort}

-- what stands past the last application and end
abbrev pub no_application : Application
no_application = record { sds = 0; to = 0; attribute = 0 }

abbrev pub no_end : End
no_end = record { sds = 0; link = 0; side = origin; object = 0 }

-- the bytes of some rows, and of the others
split_rows : (w : ℕ) {m n : ℕ} → m ≤ n → m * w + (n - m) * w ≡ n * w
split_rows w {m} {n} h = sym (add-mul m (n - m) w) ∙ ap (λ (k : ℕ). k * w) (omega arith)

-- ---- one table of a picture

module _ {A : Type 0} {t : Table A} {of : Schema → List A} (p : Placed t of) (s : Schema) where
  from_start : drop t.start (picture s) ≡ bytes_of t (of s) ++ p.behind s
  from_start = ap (drop t.start) (p.whole s) ∙ drop_at (p.ahead s) (bytes_of t (of s) ++ p.behind s) t.start (sym (p.long s))

  module _ (room : length (of s) ≤ t.room) where
    rows_counted : ((a : A) → a ∈ of s → Used t a) → used_rows t (picture s) ≡ length (of s)
    rows_counted used =
        ap (filled t.width t.room) from_start
        ∙ filled_table t.width t.row p.wide t.room (of s) (p.behind s) room used

    -- a row of it
    pub row_there : (d : A) (k : ℕ) → k < length (of s) → row_of t (picture s) k ≡ t.row (get_or (of s) k d)
    row_there d k h =
        let w = t.width in
        ap (take w) (sym (drop-drop (k * w) t.start (picture s)) ∙ ap (drop (k * w)) from_start)
        ∙ table_part w t.read t.row p.wide t.room (of s) (p.behind s) k d h room

    module _ {n : ℕ} (count : n ≡ length (of s)) where
      -- the room behind its rows
      rest_blank : BlankFrom t n (picture s)
      rest_blank =
          let w = t.width in
          let m = length (of s) in
          let left = (t.room - m) * w in
          rw count
          (ap (take left)
          (sym (drop-drop (m * w) t.start (picture s)) ∙ ap (drop (m * w)) from_start
          ∙ drop-append-le (m * w) (bytes_of t (of s)) (p.behind s)
          (omega (arith, length_table w t.row p.wide t.room (of s), mul-le-mul_right w room))
          ∙ ap (λ (x : List ℕ). x ++ p.behind s) (table_rest w t.read t.row p.wide t.room (of s) room))
          ∙ take_at (replicate left 0) (p.behind s) left (zeros_long left))

      module _ (back : (a : A) → a ∈ of s → t.read (t.row a) ≡ a) where
        things_back : first_things t n (picture s) ≡ of s
        things_back =
            let w = t.width in
            let m = length (of s) in
            let bytes = bytes_of t (of s) in
            ap (rows w t.read n) from_start ∙ ap (λ (j : ℕ). rows w t.read j (bytes ++ p.behind s)) count
            ∙ rows_append w t.read m bytes (p.behind s) (omega (arith, length_table w t.row p.wide t.room (of s), mul-le-mul_right w room))
            ∙ rows_table w t.read t.row p.wide t.room (of s) room back

        rows_written : Written t n (picture s)
        rows_written i h =
            let d = t.read [] in
            let l : i < length (of s) = omega arith in
            let e = row_there d i l in
            ap (λ (r : List ℕ). t.row (t.read r)) e ∙ ap t.row (back (get_or (of s) i d) (place_in d (of s) i l)) ∙ sym e

-- things in their order are read back, and counted
module _ {A : Type 0} {t : Table A} {o : Sorted t} (l : Sorts o) {of : Schema → List A} (p : Placed t of) (s : Schema) (k : Ordered o (of s)) where
  ordered_count : used_rows t (picture s) ≡ length (of s)
  ordered_count = rows_counted p s k.room k.used

  fit_back : (a : A) → a ∈ of s → t.read (t.row a) ≡ a
  fit_back a i = l.back a (k.fit a i)

  ordered_back : things t (picture s) ≡ of s
  ordered_back = things_back p s k.room ordered_count fit_back

  ordered_written : Written t (used_rows t (picture s)) (picture s)
  ordered_written = rows_written p s k.room ordered_count fit_back

  ordered_blank : BlankFrom t (used_rows t (picture s)) (picture s)
  ordered_blank = rest_blank p s k.room ordered_count

module _ {A : Type 0} {t : Table A} {of : Schema → List A} (p : Placed t of) (s : Schema) (k : Numbered t (of s)) where
  few : length (of s) ≤ t.room
  few = omega (arith, k.room)

  numbered_back : first_things t t.room (picture s) ≡ of s
  numbered_back = things_back p s few (sym k.room) k.back

  numbered_written : Written t t.room (picture s)
  numbered_written = rows_written p s few (sym k.room) k.back

-- ---- the picture of a schema that can be stored shows it, and is canonical

module _ {s : Schema} (st : Storable s) where
  pub storable_back : schema_of (picture s) ≡ s
  unfolding schema_of
  storable_back = λ i. record {
    sdss = numbered_back sdss_placed s st.by_sds i;
    types = numbered_back types_placed s st.by_type i;
    presences = ordered_back presences_sort presences_placed s st.presences i;
    applications = ordered_back applications_sort applications_placed s st.applications i;
    ends = ordered_back ends_sort ends_placed s st.ends i;
  }

  pub storable_canonical : Canonical (picture s)
  storable_canonical = record {
    long = picture_length s;
    sds_fields = numbered_written sdss_placed s st.by_sds;
    type_rows = numbered_written types_placed s st.by_type;
    presence_rows = ordered_written presences_sort presences_placed s st.presences;
    end_rows = ordered_written ends_sort ends_placed s st.ends;
    presence_rest = ordered_blank presences_sort presences_placed s st.presences;
    application_rest = ordered_blank applications_sort applications_placed s st.applications;
    end_rest = ordered_blank ends_sort ends_placed s st.ends;
  }

-- ---- canonical bytes are the picture of the schema that they show

-- the bytes of a table
abbrev whole_of : {A : Type 0} → Table A → List ℕ → List ℕ
whole_of t b = part b t.start (t.room * t.width)

-- n rows, each written back as it stands, with zeros behind them
written_whole : {A : Type 0} {t : Table A} {of : Schema → List A} → Placed t of → (b : List ℕ) (n : ℕ) → n ≤ t.room → end t ≤ length b
    → Written t n b → BlankFrom t n b → bytes_of t (first_things t n b) ≡ whole_of t b
written_whole {t = t} p b n few long f z =
    let w = t.width in
    let size = t.room * w in
    let l = whole_of t b in
    let le = mul-le-mul_right w few in
    let ll : length l ≡ size = length-take size (drop t.start b) ∙ omega (arith, length-drop t.start b) in
    let split : drop t.start b ≡ l ++ drop size (drop t.start b) = sym (take-append-drop size (drop t.start b)) in
    let same : first_things t n b ≡ rows w t.read n l
    = ap (rows w t.read n) split ∙ rows_append w t.read n l (drop size (drop t.start b)) (omega arith) in
    let inner : (j v : ℕ) → j + v ≤ size → part l j v ≡ part b (t.start + j) v = part_part b t.start size in
    ap (bytes_of t) same
    ∙ table_rows w t.read t.row p.wide t.room n l few ll
    (λ j u. rw (inner (j * w) w (omega (arith, row_fits w u))) (f j u))
    (tail_zeros l (n * w) ((t.room - n) * w) (omega (arith, split_rows w few)) (inner (n * w) ((t.room - n) * w) (omega (arith, split_rows w few)) ∙ z))
  where
    tail_zeros : (l : List ℕ) (j v : ℕ) → length l ≡ j + v → part l j v ≡ replicate v 0 → drop j l ≡ replicate v 0
    tail_zeros l j v e p = sym (take_all v (drop j l) (omega (arith, length-drop j l))) ∙ p

pub rows_few : {A : Type 0} (t : Table A) (b : List ℕ) → used_rows t b ≤ t.room
rows_few t b = filled_most t.width t.room (drop t.start b)

-- three bytes are an application
application_any : (r : List ℕ) → length r ≡ application_width → application_row (read_application r) ≡ r
unfolding application_row read_application
application_any [] e = absurd (omega arith)
application_any (x ∷ []) e = absurd (omega arith)
application_any (x ∷ y ∷ []) e = absurd (omega arith)
application_any (x ∷ y ∷ z ∷ []) e = refl
application_any (x ∷ y ∷ z ∷ w ∷ r) e = absurd (omega arith)

pub applications_written : (b : List ℕ) → length b ≡ base_length → Written applications (used_rows applications b) b
applications_written b long k h =
    let at = applications.start + k * applications.width in
    application_any (row_of applications b k)
    (length-take applications.width (drop at b) ∙ omega (arith, length-drop at b, rows_few applications b))

-- a part, and what stands behind it
next_part : {A B : Type 0} (t : Table A) (u : Table B) (b r : List ℕ) → end t ≡ u.start → r ≡ drop u.start b → whole_of t b ++ r ≡ drop t.start b
next_part t u b r q h =
    let n = t.room * t.width in
    ap (λ (x : List ℕ). whole_of t b ++ x) (h ∙ ap (λ (k : ℕ). drop k b) (sym q) ∙ sym (drop-drop n t.start b)) ∙ take-append-drop n (drop t.start b)

parts : (b : List ℕ) → length b ≡ base_length
    → whole_of sdss b ++ (whole_of types b ++ (whole_of presences b ++ (whole_of applications b ++ whole_of ends b))) ≡ b
parts b e =
    next_part sdss types b _ refl
    (next_part types presences b _ refl
    (next_part presences applications b _ refl
    (next_part applications ends b _ refl
    (take_all (ends.room * ends.width) (drop ends.start b) (omega (arith, length-drop ends.start b))))))

pub canonical_picture : (b : List ℕ) → Canonical b → picture (schema_of b) ≡ b
unfolding picture schema_of
canonical_picture b c =
    let long = c.long in
    let a = written_whole sdss_placed b sdss.room (omega arith) (omega arith) c.sds_fields refl in
    let t = written_whole types_placed b types.room (omega arith) (omega arith) c.type_rows refl in
    let p = written_whole presences_placed b (used_rows presences b) (rows_few presences b) (omega arith) c.presence_rows c.presence_rest in
    let x = written_whole applications_placed b (used_rows applications b) (rows_few applications b) (omega arith) (applications_written b long)
    c.application_rest in
    let e = written_whole ends_placed b (used_rows ends b) (rows_few ends b) (omega arith) c.end_rows c.end_rest in
    (λ i. a i ++ (t i ++ (p i ++ (x i ++ e i)))) ∙ parts b long

-- ---- a good schema can be stored

pub good_storable : {s : Schema} → Good s → Storable s
good_storable good = record {
  by_sds = record { room = good.sds_room; back = sds_back good };
  by_type = record { room = good.type_room; back = λ k i. kind_back (fitting good k i) };
  presences = record { room = good.presence_room; used = presence_used good; fit = good.presence_named; rise = good.presences_rising };
  applications = record { room = good.application_room; used = application_used good; fit = λ x i. tt; rise = good.applications_rising };
  ends = record { room = good.end_room; used = end_used good; fit = λ e i. tt; rise = good.ends_rising };
}

pub way_back : {s : Schema} → Good s → schema_of (picture s) ≡ s
way_back good = storable_back (good_storable good)

-- ---- so soundness is two questions: are the bytes canonical, and is the schema that they show good

pub sound_canonical : {b : List ℕ} → Sound b → Canonical b
sound_canonical x = rw x.shown (storable_canonical (good_storable x.good))

pub sound_good : {b : List ℕ} → Sound b → Good (schema_of b)
sound_good {b} x = subst (λ (s : Schema). Good s) (sym (ap schema_of x.shown ∙ way_back x.good)) x.good

pub is_sound : (b : List ℕ) → Canonical b → Good (schema_of b) → Sound b
is_sound b c g = record { schema = schema_of b; good = g; shown = sym (canonical_picture b c) }
