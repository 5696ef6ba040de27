-- The tests of a row are what is asked of it, and what is asked of each row is what is asked of the table. Assumes nothing.
use Prim.Native.Nat.{ℕ, zero, suc, ◌+◌, ◌-◌, ◌/◌, ◌%◌, ◌^◌, ◌≤◌, ◌<◌}
use native.Mathlib.Nat.{add-zero}
use native.Mathlib.Omega.{arith}
use mathlib.Core.Path.{◌≡◌, refl, sym, ap, ap₂, ◌∙◌}
use mathlib.Core.List.{List}
use mathlib.Core.Bool.{Bool, true, false, not, ◌&&◌, ◌||◌, true≢false, false≢true}
use lib.Bits.{bit_and}
use lib.Dec.{eqb}
use lib.ListN.{length, get_or}
use borrow.Author.Tests.{eqb-true, eq-eqb}
use Rattle.rules.specs.02-Limits.{limits}
use Rattle.rules.specs.04-Schema.{Kind, kind_of, is_used, is_object, is_attribute, is_link, present}
use Rattle.rules.specs.04-Schema.Kind.{unused, object, attribute, designation, paired}
use Rattle.rules.specs.Parts.{of_presences}
use Rattle.rules.specs.Read.{to_offset, attribute_offset}
use Rattle.rules.proofs.Bools.{and_both, and_of}
use Rattle.rules.proofs.Parts.{present_each, applied_held}
use Rattle.type_set.proofs.Bit.{bit-and, bit_masked}
use Rattle.rows.specs.Rows.{Counted, Halved}
use Rattle.rows.specs.Order.{number}
use Rattle.rows.specs.Decides.{Decides}
use Rattle.rows.proofs.Decides.{decides_iff, decides_test}
use Rattle.rows.proofs.OrderLaws.{number_three}
use Rattle.rows.proofs.Scan.{first_used}
use Rattle.base.specs.Tables.{BlankFrom, at, row_of, applications}
use Rattle.base.specs.Rows.{application_at}
use Rattle.base.specs.Back.{schema_of, application_count, application_shown}
use Rattle.base.proofs.Back.{applications_written, rows_few}
use Rattle.base.proofs.Halved.{confirmed, halved_right}
use Rattle.base.proofs.OrderedLaws.{climb_things, things_climb}
use Rattle.base.proofs.Shown.{application_in, application_there, applications_long}
use Rattle.base.proofs.Tables.{applications_sort}
use Rattle.lookup.proofs.KindBytes.{kind_byte, attribute_byte}
use Rattle.check_held.specs.Fine.{ApplicationsFine, Shown}
use Rattle.check_held.proofs.HeldLaws.{present_shown, held_there, shown_lacks}
use Rattle.check_applications.specs.Applied.{Applied, RowFine, Bounded, BothHeld}

-- ---- an application, test by test: d is its SDS, t what it is applied to, a its attribute type

-- what was read of the application in row i
pub record ApplicationRead (b held : List ℕ) (i d t a : ℕ) : Type 0 where
  pub shown : Shown b held
  pub sds : d ≡ (application_shown b i).sds
  pub to : t ≡ (application_shown b i).to
  pub attribute : a ≡ (application_shown b i).attribute

pub read_at : {b held : List ℕ} {k d t a : ℕ} → Shown b held → d ≡ get_or b k 0 → t ≡ get_or b (k + to_offset) 0 → a ≡ get_or b (k + attribute_offset) 0
    → (i : ℕ) → k ≡ application_at i → ApplicationRead b held i d t a
read_at {b} s d t a i e =
    record {
      shown = s;
      sds = d ∙ ap (λ (k : ℕ). get_or b k 0) e;
      to = t ∙ ap (λ (k : ℕ). get_or b (k + to_offset) 0) e;
      attribute = a ∙ ap (λ (k : ℕ). get_or b (k + attribute_offset) 0) e;
    }

-- a used type is an attribute type, or it may have attributes
other_kinds : (k : Kind) → is_used k ≡ true → not (is_attribute k) ≡ is_object k || is_link k
other_kinds unused u = absurd (false≢true u)
other_kinds (object ps) u = refl
other_kinds (attribute v) u = refl
other_kinds designation u = refl
other_kinds (paired c r) u = refl

-- a type that an SDS holds is used
held_used : {b held : List ℕ} → Shown b held → (d t : ℕ) → present (schema_of b) d t ≡ true → is_used (kind_of (schema_of b) t) ≡ true
held_used {b} s d t p =
    present_each (schema_of b).presences (λ d t. is_used (kind_of (schema_of b) t) ≡ true) s.types.typed d t (present_shown b d t ∙ p)

-- the bit of one SDS in the words of two types
pub both_bit : (held : List ℕ) (d t a : ℕ) → t < limits.types → a < limits.types
    → BothHeld held d t a (eqb (bit_and (bit_and (get_or held t 0) (get_or held a 0) / 2 ^ (d % 32)) 1) 1)
both_bit held d t a ht ha = record {
  is = λ b s h.
      let same : d % 32 ≡ d = omega arith in
      let w = bit_and (get_or held t 0) (get_or held a 0) in
      ap (λ (n : ℕ). eqb (bit_and (w / 2 ^ n) 1) 1) same ∙ bit_masked w d ∙ bit-and (get_or held t 0) (get_or held a 0) d
      ∙ ap₂ ◌&&◌ (s.shows t d ht h) (s.shows a d ha h);
}

module _ {b held : List ℕ} {i d t a : ℕ} (x : ApplicationRead b held i d t a) {r : Bool} (both : BothHeld held d t a r) (small : d < 16) where
  pub applied_outside : r ≡ false → Applied b i → ⊥
  applied_outside n y =
      true≢false (sym (and_of (present (schema_of b) d t) (present (schema_of b) d a) (held_there b x.sds x.to ∙ (applied_held y).0)
      (held_there b x.sds x.attribute ∙ (applied_held y).1)) ∙ sym (both.is b x.shown.holds small) ∙ n)

  module _ (yes : r ≡ true) {k : ℕ} (ek : k ≡ kind_byte b a) where
    both_there : (present (schema_of b) d t ≡ true) × (present (schema_of b) d a ≡ true)
    both_there = and_both (present (schema_of b) d t) (present (schema_of b) d a) (sym (both.is b x.shown.holds small) ∙ yes)

    attribute_kind : eqb k 2 ≡ is_attribute (kind_of (schema_of b) (application_shown b i).attribute)
    attribute_kind =
        attribute_byte b a k (x.shown.holds.places d a both_there.1).1 ek
        ∙ ap (λ (m : ℕ). is_attribute (kind_of (schema_of b) m)) x.attribute

    pub applied_no_attribute : (k ≡ 2 → ⊥) → Applied b i → ⊥
    applied_no_attribute n y = n (eqb-true k 2 (attribute_kind ∙ y.attribute))

    pub applied_decided : k ≡ 2 → {l : ℕ} → l ≡ kind_byte b t → Decides (Applied b i) (not (eqb l 2))
    applied_decided two {l} el =
        decides_iff (λ q. record {
          attribute = sym attribute_kind ∙ eq-eqb k 2 two;
          to = q;
          within = and_of (present (of_presences (schema_of b).presences) (application_shown b i).sds (application_shown b i).to)
              (present (of_presences (schema_of b).presences) (application_shown b i).sds (application_shown b i).attribute)
              (sym (held_there b x.sds x.to) ∙ both_there.0) (sym (held_there b x.sds x.attribute) ∙ both_there.1);
        })
        (λ y. y.to)
        (decides_test (ap not (attribute_byte b t l (x.shown.holds.places d t both_there.0).1 el)
        ∙ other_kinds (kind_of (schema_of b) t) (held_used x.shown d t both_there.0)
        ∙ ap (λ (m : ℕ). is_object (kind_of (schema_of b) m) || is_link (kind_of (schema_of b) m)) x.to))

-- ---- every application

module _ {b held : List ℕ} (s : Shown b held) where
  -- it is in another SDS than SDS 0, which holds no attribute type
  applied_elsewhere : (i : ℕ) → Applied b i → get_or b (application_at i) 0 ≡ 0 → ⊥
  applied_elsewhere i y =
      let x = application_shown b i in
      shown_lacks s is_attribute refl x.sds x.attribute y.attribute (applied_held y).1

  counted_room : at applications (application_count b) ≤ length b
  counted_room = omega (arith, s.long, rows_few applications b)

  module _ {n : ℕ} (found : Halved b applications.start applications.width limits.applications n) where
    -- that each of the n rows is fine, and no row behind them is used, says all
    pub all_fine : ((k : ℕ) → get_or b k 0 < 256) → BlankFrom applications n b → ((i : ℕ) → i < n → RowFine b i) → ApplicationsFine b
    unfolding schema_of
    all_fine small blank fine =
        let c : Counted (application_count b) limits.applications n
        = confirmed applications b n found.fits
        (λ i h. first_used b (application_at i) applications.width (omega arith) (applied_elsewhere i (fine i h).applied)) blank in
        record {
          application_rest = rw (← c.is) blank;
          rows = record {
            room = omega (arith, applications_long b, c.is, c.fits);
            rises = climb_things applications_sort b (application_count b) (applications_written b s.long) (λ i h. tt) refl 65535 small counted_room
                (λ i h. (fine i (omega (arith, c.is))).climbs);
          };
          each = λ x m. let (i, h, e) = application_in b x m in rw e (fine i (omega (arith, c.is))).applied;
        }

    module _ (fine : ApplicationsFine b) where
      each_applied : (i : ℕ) → i < application_count b → Applied b i
      each_applied i h = fine.each (application_shown b i) (application_there b i h)

      fine_counted : Counted (application_count b) limits.applications n
      fine_counted =
          halved_right applications b 0 n (omega arith) found (λ i h e. applied_elsewhere i (each_applied i h) (rw (add-zero (application_at i)) at e))
          fine.application_rest

      fine_places : (i : ℕ) → i < n → let x = application_shown b i in
          ((x.sds < limits.sdss) × (x.to < limits.types)) × ((x.sds < limits.sdss) × (x.attribute < limits.types))
      fine_places i h =
          let x = application_shown b i in
          let y = applied_held (each_applied i (omega (arith, fine_counted.is))) in (
            s.holds.places x.sds x.to (sym (present_shown b x.sds x.to) ∙ y.0),
            s.holds.places x.sds x.attribute (sym (present_shown b x.sds x.attribute) ∙ y.1),
          )

      pub fine_blank : BlankFrom applications n b
      fine_blank = rw fine_counted.is fine.application_rest

      -- it tells no number past the last
      pub fine_sds : (i : ℕ) → i < n → get_or b (application_at i) 0 < limits.sdss
      fine_sds i h = (fine_places i h).0.0

      fine_byte : (i : ℕ) → i < n → (j : ℕ) → j < 3 → get_or b (application_at i + j) 0 < 128
      fine_byte i h zero l = omega (arith, (fine_places i h).0.0, ap (λ (k : ℕ). get_or b k 0) (add-zero (application_at i)))
      fine_byte i h (suc zero) l = (fine_places i h).0.1
      fine_byte i h (suc (suc zero)) l = (fine_places i h).1.1
      fine_byte i h (suc (suc (suc j))) l = absurd (omega arith)

      pub fine_bounded : Bounded b n
      fine_bounded = record {
        last = λ i e. fine_sds i (omega arith);
        low = λ k l m.
            let i = (k - applications.start) / 3 in
            let j = (k - applications.start) % 3 in
            let same : k ≡ application_at i + j = omega arith in
            rw same (fine_byte i (omega arith) j (omega arith));
      }

      first_above : 0 < application_count b → 65535 < number 0 (row_of applications b 0)
      first_above h =
          let other = applied_elsewhere 0 (each_applied 0 h) in
          omega (arith, number_three b (application_at 0) (omega (arith, s.long)))

      pub fine_row : ((k : ℕ) → get_or b k 0 < 256) → (i : ℕ) → i < n → RowFine b i
      unfolding schema_of
      fine_row small i l =
          let h : i < application_count b = omega (arith, fine_counted.is) in
          record {
            climbs = things_climb applications_sort b (application_count b) (applications_written b s.long) (λ i h. tt) refl 65535 small counted_room
                fine.rows.rises first_above i h;
            applied = each_applied i h;
          }
