-- One new type: new attribute, new designation and new object type keep a schema good. Assumes nothing.
use Prim.Native.Nat.{ℕ, ◌+◌, ◌≤◌, ◌<◌}
use native.Mathlib.Omega.{arith}
use mathlib.Core.Path.{◌≡◌, refl, sym, ap, ◌∙◌, subst}
use mathlib.Core.Logic.{◌⊎◌, inl, inr, ⊎_elim}
use mathlib.Core.List.Memᴰ
use mathlib.Core.List.{List, [], ◌∷◌}
use mathlib.Core.Bool.{true, false, not, true≢false}
use lib.Dec.{ltb}
use lib.ListN.{length, get_or, set, length-set, length-map}
use lib.Seq.{get_or-set_same}
use borrow.Author.Tests.{not-true, not-false, ltb-false}
use Rattle.rules.specs.01-Lists.{◌∈◌, any, repeated, rising, put, put_all}
use Rattle.rules.specs.02-Limits.{limits}
use Rattle.rules.specs.03-Names.{Name, blank, names_in}
use Rattle.rules.specs.04-Schema.{Schema, Kind, Presence, new_presence, kind_of, is_used, is_object, present, type_named}
use Rattle.rules.specs.06-Good.{presence_before, Good}
use Rattle.rules.specs.04-Schema.Kind.{unused, object, attribute, designation}
use Rattle.rules.specs.09-Refusals.{unknown_sds, system_sds, malformed, unknown_value_kind, not_1_to_4, no_such_name, no_object, names_taken}
use Rattle.rules.specs.09-Refusals.{free_types, types_full}
use Rattle.rules.specs.09-Refusals.Outcome.{done}
use Rattle.rules.specs.10-Changes.{with_type, new_type, new_attribute, new_attribute_refusals, new_designation, new_designation_refusals}
use Rattle.rules.specs.10-Changes.{parents_named, new_object, new_object_refusals}
use Rattle.rules.specs.13-History.{next}
use Rattle.rules.proofs.Bools.{or_neither, fails}
use Rattle.rules.proofs.01-Lists.{none_at, place_in, map_in, unrepeated}
use Rattle.rules.proofs.03-Names.{formed_named, formed_allowed}
use Rattle.rules.proofs.Edits.{put_each, put_old, put_all_long, put_all_in, set_either}
use Rattle.rules.proofs.05-Descent.{members_in}
use Rattle.rules.proofs.09-Refusals.{verdict_keeps}
use Rattle.rules.proofs.Orders.{number_order, put_all_rises}
use Rattle.rules.proofs.Parts.{parts_of}
use Rattle.history.proofs.Parts.{Full, full, rows_of, placed_at}
use Rattle.history.proofs.Passed.{formed, named_present, one_free, types_room}
use Rattle.history.proofs.Rows.{present_new, RowFits, row_fits, rows_more}
use Rattle.history.proofs.Grown.{ParentsFit, Fits, New, Grown, grown_good}

-- ---- numbers that are free

-- a free number is one, and unused
pub free_number : (s : Schema) (i : ℕ) → i < length (free_types s)
    → (get_or (free_types s) i 0 < 128) × (is_used (kind_of s (get_or (free_types s) i 0)) ≡ false)
unfolding free_types
free_number s i h =
    let (low, e) = members_in (λ t. not (is_used (kind_of s t))) (get_or (free_types s) i 0) (place_in 0 (free_types s) i h) in
    (low, not-true (is_used (kind_of s (get_or (free_types s) i 0))) e)

-- what is unused is nowhere
pub unused_nowhere : {s : Schema} → Good s → (d t : ℕ) → is_used (kind_of s t) ≡ false → present s d t ≡ false
unfolding present
unused_nowhere {s} good d t u = fails (present s d t) (λ e. true≢false (sym (placed_at (parts_of good).presences d t e).used ∙ u))

-- ---- one type

module _ {s : Schema} (good : Good s) (t : ℕ) (k : Kind) (d : ℕ) (n : Name) where
  abbrev row : Presence
  row = new_presence d n t

  abbrev more_types : List Kind
  more_types = set s.types t k

  abbrev more_presences : List Presence
  more_presences = put presence_before row s.presences

  module _ (low : t < 128) (free : is_used (kind_of s t) ≡ false) (fits : Fits s.types more_types s.presences more_presences d t k)
      (named : blank n ≡ false) where
    new : New s.types more_types s.presences more_presences d t
    new = record {
      was = free;
      fits = subst (Fits s.types more_types s.presences more_presences d t)
          (sym (get_or-set_same s.types t k unused (omega (arith, good.type_room)))) fits;
      there = present_new row s.presences;
    }

    grown : Grown s.types more_types s.presences more_presences d
    grown = record {
      room = length-set s.types t k ∙ good.type_room;
      each = λ u. ⊎_elim
          (λ p. inr (subst (New s.types more_types s.presences more_presences d) (sym p.0) new))
          (λ p. inl p.1)
          (set_either s.types t k unused (omega (arith, good.type_room)) u);
      old_rows = λ p i. put_old presence_before row s.presences i;
      rows = λ p i. put_each presence_before i
          (λ q. (q ∈ s.presences)
          ⊎ ((q.sds ≡ d) × New s.types more_types s.presences more_presences d q.type × Full q × (blank q.name ≡ false)))
          (inr (refl, new, full, named))
          inl;
    }

    one_type : length s.presences + 1 ≤ limits.presences → RowFits s.sdss s.presences row → Good (with_type t k d n s)
    one_type room fit = grown_good good more_types more_presences d grown (rows_more (rows_of (parts_of good).presences) row room fit)

-- ---- the calls

-- the lowest unused number, for a kind that fits whatever the number is
lowest : {s : Schema} → Good s → (k : Kind) (d : ℕ) (n : Name)
    → Fits s.types (set s.types (new_type s) k) s.presences
    (put presence_before (new_presence d n (new_type s)) s.presences) d (new_type s) k
    → unknown_sds s d ≡ false → system_sds d ≡ false → malformed n ≡ false → names_taken s d (n ∷ []) ≡ false → types_full s 1 ≡ false
    → Good (with_type (new_type s) k d n s)
lowest {s} good k d n fits c2 c3 c4 c11 c14 =
    let (many, room) = types_room s 1 c14 in
    let (low, free) = free_number s 0 many in
    let well = formed n c4 in
    one_type good (new_type s) k d n low free fits (formed_named n well) room
    (row_fits s d (new_type s) n c2 c3 (formed_allowed n well) (λ _. one_free s d n c11) (unused_nowhere good d (new_type s) free))

pub new_attribute_keeps : (d : ℕ) (n : Name) (v : ℕ) (s : Schema) → Good s → Good (next s (new_attribute d n v s))
unfolding new_attribute unknown_value_kind
new_attribute_keeps d n v s g =
    verdict_keeps (λ o. Good (next s o)) (new_attribute_refusals d n v s)
    (done (new_type s) 0 0 (with_type (new_type s) (attribute v) d n s))
    (λ _ _. g)
    (λ passed.
    lowest g (attribute v) d n (ltb-false 5 v (passed.fails 5)) (passed.fails 2) (passed.fails 3) (passed.fails 4) (passed.fails 11)
    (passed.fails 14))

pub new_designation_keeps : (d : ℕ) (n : Name) (s : Schema) → Good s → Good (next s (new_designation d n s))
unfolding new_designation
new_designation_keeps d n s g =
    verdict_keeps (λ o. Good (next s o)) (new_designation_refusals d n s)
    (done (new_type s) 0 0 (with_type (new_type s) designation d n s))
    (λ _ _. g)
    (λ passed. lowest g designation d n tt (passed.fails 2) (passed.fails 3) (passed.fails 4) (passed.fails 11) (passed.fails 14))

-- the parents that are named: 1 to 4, object types of that SDS, none twice
named_fit : (s : Schema) (d : ℕ) (run : List ℕ) → not_1_to_4 (names_in run) ≡ false → any (no_such_name s d) (names_in run) ≡ false
    → any (no_object s) (parents_named s d run) ≡ false → repeated (parents_named s d run) ≡ false
    → ParentsFit s.types s.presences d (put_all ltb (parents_named s d run) [])
unfolding not_1_to_4 no_object present rising
named_fit s d run c5 c6 c7 c8 = record {
  some = λ e. absurd (let none = ap (λ (l : List ℕ). length l) e in omega (arith, long, many));
  few = omega (arith, long, few);
  rises = put_all_rises number_order (parents_named s d run) [] refl (unrepeated (parents_named s d run) c8) (λ x i j. Memᴰ.not-nil j);
  objects = λ a i. not-false (is_object (kind_of s a)) (none_at (no_object s) c7 (one_of a i));
  there = λ a i.
      let (n, j, e) = map_in (type_named s d) (names_in run) (one_of a i) in
      subst (λ (x : ℕ). present s d x ≡ true) (sym e) (named_present s d n (none_at (no_such_name s d) c6 j));
}
  where
    long : length (put_all ltb (parents_named s d run) []) ≡ length (names_in run)
    long = omega (arith, put_all_long ltb (parents_named s d run) [], length-map (names_in run) (type_named s d))

    many : 1 ≤ length (names_in run)
    many = ltb-false (length (names_in run)) 1 (or_neither (ltb (length (names_in run)) 1) (ltb 4 (length (names_in run))) c5).0

    few : length (names_in run) ≤ 4
    few = ltb-false 4 (length (names_in run)) (or_neither (ltb (length (names_in run)) 1) (ltb 4 (length (names_in run))) c5).1

    one_of : (a : ℕ) → a ∈ put_all ltb (parents_named s d run) [] → a ∈ parents_named s d run
    one_of a i = ⊎_elim (λ m. m) (λ m. absurd (Memᴰ.not-nil m)) (put_all_in ltb (parents_named s d run) [] i)

pub new_object_keeps : (d : ℕ) (n : Name) (run : List ℕ) (s : Schema) → Good s → Good (next s (new_object d n run s))
unfolding new_object
new_object_keeps d n run s g =
    verdict_keeps (λ o. Good (next s o)) (new_object_refusals d n run s)
    (done (new_type s) 0 0 (with_type (new_type s) (object (put_all ltb (parents_named s d run) [])) d n s))
    (λ _ _. g)
    (λ passed.
    lowest g (object (put_all ltb (parents_named s d run) [])) d n (named_fit s d run (passed.fails 5) (passed.fails 6) (passed.fails 7) (passed.fails 8))
    (passed.fails 2) (passed.fails 3) (or_neither (malformed n) (any malformed (names_in run)) (passed.fails 4)).0 (passed.fails 11) (passed.fails 14))
