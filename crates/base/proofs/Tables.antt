-- What holds of each table: where it stands in a picture, and what its order is of its bytes. A further table is a further value of
-- these records. Assumes nothing.
use Prim.Native.Nat.{ℕ, ◌*◌, ◌≤◌, ◌<◌}
use native.Mathlib.Nat.{mul-le-mul_right}
use native.Mathlib.Omega.{arith}
use mathlib.Core.Path.{◌≡◌, refl, sym, ap, ap₂, ◌∙◌}
use mathlib.Core.List.{List, [], ◌∷◌, ◌++◌, append_assoc, append-nil}
use mathlib.Core.Bool.{Bool, ◌&&◌, ◌||◌}
use lib.Dec.{ltb, eqb}
use lib.ListN.{length, get_or, set, length-append}
use lib.Seq.{take_at}
use Rattle.rules.specs.01-Lists.{bytes_before}
use Rattle.rules.specs.03-Names.{Name, lowered}
use Rattle.rules.specs.04-Schema.{Schema, Presence, with_sdss, with_types, with_presences, with_applications, with_ends}
use Rattle.rules.specs.06-Good.{presence_before, application_before, end_before}
use Rattle.rules.specs.07-Picture.{pad, presence_row, application_row, end_row, type_table, presence_table, application_table, end_table, picture}
use Rattle.rules.specs.02-Limits.{limits}
use Rattle.rules.proofs.Bools.{last_byte}
use Rattle.rules.proofs.03-Names.{spelled_before, pad_before, name_fits}
use Rattle.rules.proofs.07-Picture.{length_pad, length_table, wide_sds, wide_type, wide_presence, wide_application, wide_end, behind_name, presence_back}
use Rattle.rules.proofs.07-Picture.{application_back, end_back}
use Rattle.rows.specs.Order.{ranked, row_before}
use Rattle.rows.specs.Table.{written}
use Rattle.rows.proofs.TableLaws.{row_fits}
use Rattle.rows.proofs.Written.{written_past, written_before, table_set}
use Rattle.base.specs.Tables.{Table, Sorted, at, bytes_of, end, sdss, types, presences, applications, ends, by_name, by_application, by_end}
use Rattle.base.specs.Stored.{Ordered, Storable}

-- ---- where a table stands in a picture

-- its rows hold what `of` says of a schema
pub record Placed {A : Type 0} (t : Table A) (of : Schema → List A) : Type 0 where
  pub wide : (a : A) → length (t.row a) ≡ t.width
  pub ahead : Schema → List ℕ
  pub behind : Schema → List ℕ
  pub long : (s : Schema) → t.start ≡ length (ahead s)
  pub whole : (s : Schema) → picture s ≡ ahead s ++ (bytes_of t (of s) ++ behind s)

-- the table behind one that stands there
abbrev pub next : {A B : Type 0} {t : Table A} {of : Schema → List A} (p : Placed t of) (u : Table B) (of' : Schema → List B) → u.start ≡ end t
    → ((x : B) → length (u.row x) ≡ u.width) → (rest : Schema → List ℕ) → ((s : Schema) → p.behind s ≡ bytes_of u (of' s) ++ rest s) → Placed u of'
next {t = t} {of} p u of' start wide rest more = record {
  wide = wide;
  ahead = λ s. p.ahead s ++ bytes_of t (of s);
  behind = rest;
  long = λ s. omega (arith, start, p.long s, length-append (p.ahead s) (bytes_of t (of s)), length_table t.width t.row p.wide t.room (of s));
  whole = λ s.
      p.whole s ∙ ap (λ (l : List ℕ). p.ahead s ++ (bytes_of t (of s) ++ l)) (more s)
      ∙ sym (append_assoc (p.ahead s) (bytes_of t (of s)) (bytes_of u (of' s) ++ rest s));
}

pub sdss_whole : (s : Schema) → picture s ≡ bytes_of sdss s.sdss ++ (type_table s ++ (presence_table s ++ (application_table s ++ end_table s)))
unfolding picture
sdss_whole s = refl

abbrev pub sdss_placed : Placed sdss (λ s. s.sdss)
sdss_placed = record {
  wide = wide_sds;
  ahead = λ s. [];
  behind = λ s. type_table s ++ (presence_table s ++ (application_table s ++ end_table s));
  long = λ s. refl;
  whole = sdss_whole;
}

abbrev pub types_placed : Placed types (λ s. s.types)
types_placed = next sdss_placed types (λ s. s.types) refl wide_type (λ s. presence_table s ++ (application_table s ++ end_table s)) (λ s. refl)

abbrev pub presences_placed : Placed presences (λ s. s.presences)
presences_placed = next types_placed presences (λ s. s.presences) refl wide_presence (λ s. application_table s ++ end_table s) (λ s. refl)

abbrev pub applications_placed : Placed applications (λ s. s.applications)
applications_placed = next presences_placed applications (λ s. s.applications) refl wide_application (λ s. end_table s) (λ s. refl)

abbrev pub ends_placed : Placed ends (λ s. s.ends)
ends_placed = next applications_placed ends (λ s. s.ends) refl wide_end (λ s. []) (λ s. sym (append-nil (end_table s)))

-- and `put` puts other things there, and moves nothing else
pub record Stands {A : Type 0} (t : Table A) (of : Schema → List A) (put : Schema → List A → Schema) : Type 0 where
  pub placed : Placed t of
  pub other : (s : Schema) (rs : List A) → picture (put s rs) ≡ placed.ahead s ++ (bytes_of t rs ++ placed.behind s)

pub sdss_stand : Stands sdss (λ s. s.sdss) with_sdss
sdss_stand = record { placed = sdss_placed; other = λ s rs. sdss_placed.whole (with_sdss s rs) }

pub types_stand : Stands types (λ s. s.types) with_types
types_stand = record { placed = types_placed; other = λ s rs. types_placed.whole (with_types s rs) }

-- ---- the order of rows

-- the bytes of two rows stand as the things do
pub record Sorts {A : Type 0} {t : Table A} (o : Sorted t) : Type 0 where
  pub wide : (a : A) → length (t.row a) ≡ t.width
  pub name : o.named < t.width
  pub back : (a : A) → o.Fit a → t.read (t.row a) ≡ a
  pub order : (x y : A) → o.Fit x → o.Fit y → row_before o.named (t.row x) (t.row y) ≡ o.before x y
  pub first : (a : A) → get_or (t.row a) 0 0 ≡ o.sds a

-- what a presence is compared by
presence_ranked : (p : Presence) → ranked limits.name (presence_row p)
    ≡ p.sds ∷ (lowered (pad limits.name p.name) ++ (pad limits.name p.name ++ behind_name p))
unfolding presence_row
presence_ranked p =
    let field = pad limits.name p.name in
    let rest = behind_name p in
    ap (λ (n : Name). p.sds ∷ (lowered n ++ (field ++ rest))) (take_at field rest limits.name (length_pad limits.name p.name))

presence_order : (p q : Presence) → by_name.Fit p → by_name.Fit q
    → row_before limits.name (presence_row p) (presence_row q) ≡ presence_before p q
unfolding bytes_before presence_before
presence_order p q f g =
    let w = limits.name in
    ap₂ bytes_before (presence_ranked p) (presence_ranked q)
    ∙ ap (λ (t : Bool). ltb p.sds q.sds || (eqb p.sds q.sds && t))
    (spelled_before (pad w p.name) (pad w q.name) (behind_name p) (behind_name q) (length_pad w p.name ∙ sym (length_pad w q.name))
    ∙ rw (pad_before (name_fits p.name f) (name_fits q.name g), pad_before (name_fits q.name g) (name_fits p.name f), last_byte p.definition q.definition))

pub presences_sort : Sorts by_name
unfolding presence_row
presences_sort = record {
  wide = wide_presence;
  name = omega arith;
  back = presence_back;
  order = presence_order;
  first = λ p. refl;
}

pub applications_sort : Sorts by_application
unfolding bytes_before application_row application_before
applications_sort = record {
  wide = wide_application;
  name = omega arith;
  back = λ x f. application_back x;
  order = λ x y f g. rw (last_byte x.attribute y.attribute);
  first = λ x. refl;
}

pub ends_sort : Sorts by_end
unfolding bytes_before end_row end_before
ends_sort = record {
  wide = wide_end;
  name = omega arith;
  back = λ e f. end_back e;
  order = λ x y f g. rw (last_byte x.object y.object);
  first = λ e. refl;
}

-- ---- a table whose rows rise, in a picture: `kept` and `storable` say that it is one of those of a schema that can be stored

pub record Keeps {A : Type 0} {t : Table A} (o : Sorted t) (of : Schema → List A) (put : Schema → List A → Schema) : Type 0 where
  pub stands : Stands t of put
  pub sorts : Sorts o
  pub kept : {s : Schema} → Storable s → Ordered o (of s)
  pub storable : {s : Schema} → Storable s → {rs : List A} → Ordered o rs → Storable (put s rs)

pub keeps_presences : Keeps by_name (λ s. s.presences) with_presences
keeps_presences = record {
  stands = record { placed = presences_placed; other = λ s rs. presences_placed.whole (with_presences s rs) };
  sorts = presences_sort;
  kept = λ st. st.presences;
  storable = λ st o. record { by_sds = st.by_sds; by_type = st.by_type; presences = o; applications = st.applications; ends = st.ends };
}

pub keeps_applications : Keeps by_application (λ s. s.applications) with_applications
keeps_applications = record {
  stands = record { placed = applications_placed; other = λ s rs. applications_placed.whole (with_applications s rs) };
  sorts = applications_sort;
  kept = λ st. st.applications;
  storable = λ st o. record { by_sds = st.by_sds; by_type = st.by_type; presences = st.presences; applications = o; ends = st.ends };
}

pub keeps_ends : Keeps by_end (λ s. s.ends) with_ends
keeps_ends = record {
  stands = record { placed = ends_placed; other = λ s rs. ends_placed.whole (with_ends s rs) };
  sorts = ends_sort;
  kept = λ st. st.ends;
  storable = λ st o. record { by_sds = st.by_sds; by_type = st.by_type; presences = st.presences; applications = st.applications; ends = o };
}

-- ---- a row written over another

pub row_over : {A : Type 0} {t : Table A} {of : Schema → List A} {put : Schema → List A → Schema} (x : Stands t of put) (s : Schema) (k : ℕ) (a : A)
    → k < length (of s) → length (of s) ≤ t.room → written (picture s) (at t k) (t.row a) ≡ picture (put s (set (of s) k a))
row_over {t = t} {of} x s k a h l =
    let p = x.placed in
    let w = t.width in
    let bytes = bytes_of t (of s) in
    let long = length_table w t.row p.wide t.room (of s) in
    ap (λ (b : List ℕ). written b (at t k) (t.row a)) (p.whole s)
    ∙ written_past (p.ahead s) (bytes ++ p.behind s) (t.row a) (at t k) (k * w) (omega (arith, p.long s))
    ∙ ap (λ (r : List ℕ). p.ahead s ++ r)
    (written_before bytes (p.behind s) (t.row a) (k * w) (omega (arith, p.wide a, row_fits w h, mul-le-mul_right w l))
    ∙ ap (λ (r : List ℕ). r ++ p.behind s) (sym (table_set w t.row p.wide t.room (of s) k a h l)))
    ∙ sym (x.other s (set (of s) k a))
