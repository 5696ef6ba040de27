-- The entries of a schema's SDSs, types and parents, one after another, make of zeros the picture of its SDSs and types. Assumes nothing.
use Prim.Native.Nat.{ℕ, ◌≤◌, ◌<◌}
use native.Mathlib.Omega.{arith}
use mathlib.Core.Path.{◌≡◌, refl, sym, ap, ◌∙◌}
use mathlib.Core.List.{List, [], ◌∷◌, ◌++◌, append_assoc, append-nil, map}
use lib.ListN.{length, get_or, take, set, replicate, length-append, length-set, length-replicate, get_or-replicate, length-map, get_or-map}
use lib.Seq.{set-set, set-get_or, get_or-set_same}
use Rattle.rules.specs.01-Lists.{numbers}
use Rattle.rules.specs.02-Limits.{limits}
use Rattle.rules.specs.03-Names.{Name}
use Rattle.rules.specs.04-Schema.{Schema, Kind, with_sdss, with_types, sds_name, used_sds, kind_of, is_used, parents_in, parents}
use Rattle.rules.specs.04-Schema.Kind.{unused, object, attribute, designation, paired}
use Rattle.rules.specs.05-Descent.{members}
use Rattle.rules.specs.06-Good.{Good}
use Rattle.rules.specs.07-Picture.{pad, sds_row, type_row, table, base_length, picture}
use Rattle.rules.specs.11-File.{sds_entry, type_entry, parent_entry, sds_entries, type_entries, parent_entries}
use Rattle.rules.proofs.11-File.{blank_unused, unused_is}
use Rattle.base.specs.Rows.{sds_at, type_at}
use Rattle.base.proofs.Tables.{sdss_stand, types_stand, row_over}
use Rattle.rows.specs.Table.{written}
use Rattle.file_in_types.specs.Steps.{bare_row, sds_in, type_in, parent_in, all_in}
use Rattle.file_in_types.specs.Loaded.{types_alone}
use Rattle.file_in_types.proofs.StepLaws.{within}
use Rattle.file_in_types.proofs.NumberedLaws.{joined_alone, numbered_in}
use Rattle.file_in_types.proofs.ParentLaws.{parent_more_in}

-- ---- nothing

-- SDSs and types with no name and no kind
abbrev no_sdss : List Name
no_sdss = replicate limits.sdss []

abbrev no_types : List Kind
no_types = replicate limits.types unused

abbrev nothing : Schema
nothing = record { sdss = no_sdss; types = no_types; presences = []; applications = []; ends = [] }

zeros_shown : replicate base_length 0 ≡ picture nothing
unfolding picture table sds_row type_row pad
zeros_shown = refl

-- ---- SDSs

alone : (step : List ℕ → List ℕ → List ℕ) (e area : List ℕ) → all_in step (e ∷ []) area ≡ step e area
unfolding all_in
alone step e area = refl

one_sds : (s : Schema) (k : ℕ) (n : Name) → k < limits.sdss → length s.sdss ≡ limits.sdss
    → sds_in (k ∷ sds_row n) (picture s) ≡ picture (with_sdss s (set s.sdss k n))
unfolding sds_in
one_sds s k n h room =
    within k limits.sdss (written (picture s) (sds_at k) (sds_row n)) (picture s) h
    ∙ row_over sdss_stand s k n (omega (arith, room)) (omega (arith, room))

sdss_made : (s b : Schema) → length s.sdss ≡ limits.sdss → all_in sds_in (sds_entries s) (picture (with_sdss b no_sdss)) ≡ picture (with_sdss b s.sdss)
unfolding sds_entries
sdss_made s b room =
    let long : length no_sdss ≡ limits.sdss = length-replicate {A = Name} limits.sdss [] in
    ap (λ (es : List (List ℕ)). all_in sds_in es (picture (with_sdss b no_sdss))) (joined_alone (sds_entry s) (numbers 0 limits.sdss (used_sds s)))
    ∙ numbered_in sds_in [] (λ rs. picture (with_sdss b rs)) s.sdss no_sdss (used_sds s) (λ d. sds_entry s d ∷ []) (room ∙ sym long)
    (λ d h q rs l e. alone sds_in (sds_entry s d) (picture (with_sdss b rs)) ∙ one_sds (with_sdss b rs) d (sds_name s d) (omega (arith, room)) (l ∙ room))
    (λ d h q. blank_unused s d q ∙ sym (get_or-replicate limits.sdss d [] [] (omega (arith, room))))
    limits.sdss (sym room)

-- ---- types, before they have parents

abbrev bare : Kind → Kind
bare unused = unused
bare (object ps) = object []
bare (attribute v) = attribute v
bare designation = designation
bare (paired c r) = paired c r

bare_is : (t : ℕ) (k : Kind) → bare_row (t ∷ take 3 (type_row k)) ≡ type_row (bare k)
unfolding type_row pad
bare_is t unused = refl
bare_is t (object ps) = refl
bare_is t (attribute v) = refl
bare_is t designation = refl
bare_is t (paired c r) = refl

one_type : (s : Schema) (t : ℕ) (k : Kind) → t < limits.types → length s.types ≡ limits.types
    → type_in (t ∷ take 3 (type_row k)) (picture s) ≡ picture (with_types s (set s.types t (bare k)))
unfolding type_in
one_type s t k h room =
    within t limits.types (written (picture s) (type_at t) (bare_row (t ∷ take 3 (type_row k)))) (picture s) h
    ∙ ap (written (picture s) (type_at t)) (bare_is t k)
    ∙ row_over types_stand s t (bare k) (omega (arith, room)) (omega (arith, room))

bare_at : (s : Schema) (t : ℕ) → get_or (map bare s.types) t unused ≡ bare (kind_of s t)
bare_at s t = get_or-map bare s.types t unused

types_made : (s b : Schema) → length s.types ≡ limits.types
    → all_in type_in (type_entries s) (picture (with_types b no_types)) ≡ picture (with_types b (map bare s.types))
unfolding type_entries members
types_made s b room =
    let long : length no_types ≡ limits.types = length-replicate limits.types unused in
    let room' : length (map bare s.types) ≡ limits.types = length-map s.types bare ∙ room in
    ap (λ (es : List (List ℕ)). all_in type_in es (picture (with_types b no_types)))
    (joined_alone (type_entry s) (numbers 0 limits.types (λ t. is_used (kind_of s t))))
    ∙ numbered_in type_in unused (λ rs. picture (with_types b rs)) (map bare s.types) no_types (λ t. is_used (kind_of s t)) (λ t. type_entry s t ∷ [])
    (room' ∙ sym long)
    (λ t h q rs l e.
    alone type_in (type_entry s t) (picture (with_types b rs)) ∙ one_type (with_types b rs) t (kind_of s t) (omega (arith, room')) (l ∙ room')
    ∙ ap (λ (k : Kind). picture (with_types b (set rs t k))) (sym (bare_at s t)))
    (λ t h q. bare_at s t ∙ ap bare (unused_is (kind_of s t) q) ∙ sym (get_or-replicate limits.types t unused unused (omega (arith, room'))))
    limits.types (sym room')

-- ---- parents: those of a type stand together

module _ (b : Schema) (t : ℕ) (h : t < limits.types) (rs : List Kind) (long : length rs ≡ limits.types) where
  parents_behind : (ps qs : List ℕ) → length (ps ++ qs) ≤ 4
      → all_in parent_in (map (parent_entry t) qs) (picture (with_types b (set rs t (object ps)))) ≡ picture (with_types b (set rs t (object (ps ++ qs))))
  unfolding all_in
  parents_behind ps [] few = ap (λ (l : List ℕ). picture (with_types b (set rs t (object l)))) (sym (append-nil ps))
  parents_behind ps (a ∷ qs) few =
      let ps' = ps ++ (a ∷ []) in
      let next = append_assoc ps (a ∷ []) qs in
      ap (all_in parent_in (map (parent_entry t) qs))
      (parent_more_in (with_types b (set rs t (object ps))) t a ps (length-set rs t (object ps) ∙ long) h
      (get_or-set_same rs t (object ps) unused (omega (arith, long))) (omega (arith, length-append ps (a ∷ qs)))
      ∙ ap (λ (l : List Kind). picture (with_types b l)) (set-set rs t (object ps) (object ps')))
      ∙ parents_behind ps' qs (omega (arith, ap length next))
      ∙ ap (λ (l : List ℕ). picture (with_types b (set rs t (object l)))) next

  kind_kept : (k : Kind) → get_or rs t unused ≡ k → picture (with_types b rs) ≡ picture (with_types b (set rs t k))
  kind_kept k e = sym (ap (λ (l : List Kind). picture (with_types b l)) (ap (set rs t) (sym e) ∙ set-get_or rs t unused))

  kind_made : (k : Kind) → get_or rs t unused ≡ bare k → ((ps : List ℕ) → k ≡ object ps → length ps ≤ 4)
      → all_in parent_in (map (parent_entry t) (parents_in k)) (picture (with_types b rs)) ≡ picture (with_types b (set rs t k))
  unfolding all_in
  kind_made unused e few = kind_kept unused e
  kind_made (object ps) e few = ap (all_in parent_in (map (parent_entry t) ps)) (kind_kept (object []) e) ∙ parents_behind [] ps (few ps refl)
  kind_made (attribute v) e few = kind_kept (attribute v) e
  kind_made designation e few = kind_kept designation e
  kind_made (paired c r) e few = kind_kept (paired c r) e

parents_made : {s : Schema} → Good s → (b : Schema)
    → all_in parent_in (parent_entries s) (picture (with_types b (map bare s.types))) ≡ picture (with_types b s.types)
unfolding parent_entries members parents
parents_made {s} good b =
    let room = good.type_room in
    numbered_in parent_in unused (λ rs. picture (with_types b rs)) s.types (map bare s.types) (λ t. is_used (kind_of s t))
    (λ t. map (parent_entry t) (parents_in (kind_of s t)))
    (sym (length-map s.types bare))
    (λ t h q rs l e. kind_made b t (omega (arith, room)) rs (l ∙ room) (kind_of s t) (e ∙ bare_at s t) (good.parents_few t))
    (λ t h q. let none = unused_is (kind_of s t) q in none ∙ sym (bare_at s t ∙ ap bare none))
    limits.types (sym room)

-- ---- all three

pub types_shown : {s : Schema} → Good s
    → all_in parent_in (parent_entries s) (all_in type_in (type_entries s) (all_in sds_in (sds_entries s) (replicate base_length 0))) ≡ picture (types_alone s)
types_shown {s} good =
    let named = with_sdss nothing s.sdss in
    ap (λ (x : List ℕ). all_in parent_in (parent_entries s) (all_in type_in (type_entries s) x))
    (ap (all_in sds_in (sds_entries s)) zeros_shown ∙ sdss_made s nothing good.sds_room)
    ∙ ap (all_in parent_in (parent_entries s)) (types_made s named good.type_room)
    ∙ parents_made good named
