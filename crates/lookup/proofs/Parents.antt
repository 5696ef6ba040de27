-- What the rows of types say of parents: how many each type has, and which. A sound base is parental. Assumes nothing.
use Prim.Native.Nat.{ℕ, ◌+◌, ◌≤◌, ◌<◌}
use native.Mathlib.Omega.{arith}
use mathlib.Core.Path.{◌≡◌, refl, sym, ap, ◌∙◌}
use mathlib.Core.List.{List}
use mathlib.Core.Bool.{Bool, true, false, cond, false≢true}
use lib.Dec.{eqb, ltb}
use lib.ListN.{length, get_or, take, drop, length-take, length-drop}
use borrow.Author.Tests.{ltb-true, ltb-false}
use Rattle.rules.specs.04-Schema.{Kind, kind_of, is_object, parents, parents_in}
use Rattle.rules.specs.04-Schema.Kind.{unused, object, attribute, designation, paired}
use Rattle.rules.specs.05-Descent.{Parent}
use Rattle.rules.specs.07-Picture.{pad, type_row, Sound, type_width}
use Rattle.rules.proofs.01-Lists.{at_place, place_in}
use Rattle.rules.proofs.07-Picture.{take_pad}
use Rattle.rules.specs.Read.{read_kind, count_offset, parents_offset}
use Rattle.rows.specs.Rows.{part}
use Rattle.rows.proofs.Rows.{part_byte, part_part}
use Rattle.base.specs.Rows.{type_at}
use Rattle.base.specs.Back.{schema_of, kind_shown}
use Rattle.base.proofs.Back.{sound_canonical, sound_good}
use Rattle.base.proofs.Shown.{kind_is, kind_none}
use Rattle.lookup.specs.Parents.{Parental}

-- a sound base is parental
pub good_parental : {b : List ℕ} → Sound b → Parental b
good_parental x =
    let c = sound_canonical x in
    record { long = c.long; type_rows = c.type_rows; parents_objects = (sound_good x).parents_objects }

-- ---- a row as it is read: there is room for four parents

module _ (r : List ℕ) where
  -- the kind that is read, by the four tests of its bytes
  abbrev read_by : Bool → Bool → Bool → Bool → Kind
  read_by one two three four =
      cond one (object (take (get_or r 3 0) (drop 4 r)))
      (cond two (attribute (get_or r 1 0))
      (cond three (cond four designation (paired (get_or r 1 0) (get_or r 2 0)))
      unused))

  read_few : length r ≤ 8 → length (parents_in (read_kind r)) ≤ 4
  unfolding read_kind
  read_few h = go (eqb (get_or r 0 0) 1) (eqb (get_or r 0 0) 2) (eqb (get_or r 0 0) 3) (eqb (get_or r 1 0) 4)
    where
      go : (one two three four : Bool) → length (parents_in (read_by one two three four)) ≤ 4
      go true two three four = omega (arith, length-take (get_or r 3 0) (drop 4 r), length-drop 4 r)
      go false true three four = omega arith
      go false false true true = omega arith
      go false false true false = omega arith
      go false false false four = omega arith

-- ---- a row as it is written

written_count : (k : Kind) → get_or (type_row k) 3 0 ≡ length (parents_in k)
unfolding type_row pad
written_count unused = refl
written_count (object ps) = refl
written_count (attribute v) = refl
written_count designation = refl
written_count (paired c r) = refl

written_parents : (k : Kind) → length (parents_in k) ≤ 4 → take (length (parents_in k)) (drop 4 (type_row k)) ≡ parents_in k
unfolding type_row
written_parents unused h = refl
written_parents (object ps) h = take_pad 4 ps h
written_parents (attribute v) h = refl
written_parents designation h = refl
written_parents (paired c r) h = refl

-- ---- the types of a base

module _ (b : List ℕ) where
  pub object_below : (t : ℕ) → is_object (kind_of (schema_of b) t) ≡ true → t < 128
  object_below t e = go (ltb t 128) refl
    where
      go : (x : Bool) → ltb t 128 ≡ x → t < 128
      go true h = ltb-true t 128 h
      go false h = absurd (false≢true (sym (ap is_object (kind_none b t (ltb-false t 128 h))) ∙ e))

module _ {b : List ℕ} (rows : Parental b) where
  pub parent_below : {t a : ℕ} → Parent (schema_of b) t a → a < 128
  parent_below {t} {a} by = object_below b a (rows.parents_objects t a by)

  module _ (t : ℕ) (h : t < 128) where
    shown : parents (schema_of b) t ≡ parents_in (kind_shown b t)
    unfolding parents
    shown = ap parents_in (kind_is b t h)

    -- the byte of the count
    counted : get_or b (type_at t + count_offset) 0 ≡ length (parents_in (kind_shown b t))
    counted =
        sym (part_byte b (type_at t) 8 3 (omega arith)) ∙ ap (λ (r : List ℕ). get_or r 3 0) (sym (rows.type_rows t h))
        ∙ written_count (kind_shown b t)

    few : length (parents_in (kind_shown b t)) ≤ 4
    few = read_few (part b (type_at t) type_width) (omega (arith, length-take 8 (drop (type_at t) b)))

    pub count_few : get_or b (type_at t + count_offset) 0 ≤ 4
    count_few = omega (arith, counted, few)

    -- the parents stand behind it
    parents_are : parents_in (kind_shown b t) ≡ part b (type_at t + parents_offset) (length (parents_in (kind_shown b t)))
    parents_are =
        let n = length (parents_in (kind_shown b t)) in
        sym (written_parents (kind_shown b t) few) ∙ ap (λ (r : List ℕ). part r 4 n) (rows.type_rows t h)
        ∙ part_part b (type_at t) type_width 4 n (omega (arith, few))

    parent_byte : (i : ℕ) → i < length (parents_in (kind_shown b t)) → get_or (parents_in (kind_shown b t)) i 0 ≡ get_or b (type_at t + parents_offset + i) 0
    parent_byte i l = ap (λ (r : List ℕ). get_or r i 0) parents_are ∙ part_byte b (type_at t + parents_offset) (length (parents_in (kind_shown b t))) i l

    -- the list of the parents, by its length and its places
    pub parents_count : length (parents (schema_of b) t) ≡ get_or b (type_at t + count_offset) 0
    parents_count = ap length shown ∙ sym counted

    pub parents_place : (i : ℕ) → i < get_or b (type_at t + count_offset) 0 → get_or (parents (schema_of b) t) i 0 ≡ get_or b (type_at t + parents_offset + i) 0
    parents_place i l = ap (λ (r : List ℕ). get_or r i 0) shown ∙ parent_byte i (omega (arith, counted))

    -- what stands at a place below the count is a parent, and every parent stands at such a place
    pub parent_at : (i : ℕ) → i < get_or b (type_at t + count_offset) 0 → Parent (schema_of b) t (get_or b (type_at t + parents_offset + i) 0)
    parent_at i l =
        let l' : i < length (parents_in (kind_shown b t)) = omega (arith, counted) in
        record { listed = rw (shown, ← parent_byte i l') (place_in 0 (parents_in (kind_shown b t)) i l') }

    pub parent_place : (a : ℕ) → Parent (schema_of b) t a
        → (i : ℕ) × (i < get_or b (type_at t + count_offset) 0) × (get_or b (type_at t + parents_offset + i) 0 ≡ a)
    parent_place a by =
        let (i, l, e) = at_place 0 (rw shown at by.listed) in
        (i, omega (arith, counted), sym (parent_byte i l) ∙ e)
