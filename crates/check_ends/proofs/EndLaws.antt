-- What the pass finds of the ends is what `EndsFine` asks. Assumes nothing.
use Prim.Native.Nat.{ℕ, zero, suc, ◌+◌, ◌-◌, ◌≤◌, ◌<◌}
use native.Mathlib.Omega.{arith}
use mathlib.Core.Path.{◌≡◌, refl, sym, ap, subst, ◌∙◌}
use mathlib.Core.List.{List}
use mathlib.Core.Bool.{Bool, true, false, true≢false}
use lib.ListN.{get_or}
use Rattle.rules.specs.02-Limits.{limits}
use Rattle.rules.specs.04-Schema.{Side, kind_of, is_link, side_code, other_side, has_end}
use Rattle.rules.specs.04-Schema.Kind.{paired}
use Rattle.rules.specs.Read.{read_side}
use Rattle.rules.specs.Parts.{of_ends, EndMirrored}
use Rattle.rules.proofs.Parts.{ended_held}
use Rattle.rows.specs.Rows.{Halved, Counted}
use Rattle.rows.proofs.Scan.{first_used}
use Rattle.base.specs.Tables.{InOrder, by_end, ends, BlankFrom, Written}
use Rattle.base.specs.Rows.{end_at}
use Rattle.base.specs.Back.{schema_of, end_count, end_shown}
use Rattle.base.proofs.Halved.{confirmed, halved_right}
use Rattle.base.proofs.OrderedLaws.{rise_things, things_rise}
use Rattle.base.proofs.Shown.{ends_long, end_in, end_there}
use Rattle.base.proofs.Tables.{ends_sort}
use Rattle.lookup.specs.Found.{Ends}
use Rattle.lookup.proofs.EndRows.{side_written, written_side, has_row, row_has}
use Rattle.check_held.specs.Fine.{Shown, EndsFine}
use Rattle.check_held.proofs.HeldLaws.{shown_lacks}
use Rattle.check_ends.specs.Count.{count}
use Rattle.check_ends.specs.Ends.{sds_byte, link_byte, side_byte, object_byte, row_number, lower, higher, Fits, RowFine}
use Rattle.check_ends.proofs.RowLaws.{numbered, numbers_rise, rise_numbers}
use Rattle.check_ends.proofs.MirrorLaws.{Rows, Mirrored, pair_same, row_mirrored, mirrored_row, as_many, none_left, either_rank, pair_of}

-- what the pass finds of n rows
pub record Found (b : List ℕ) (n : ℕ) : Type 0 where
  pub rest : BlankFrom ends n b
  pub rise : (i : ℕ) → i + 1 < n → row_number b i < row_number b (i + 1)
  pub rows : (i : ℕ) → i < n → RowFine b i
  pub many : count (lower b) n ≡ count (higher b) n

other_code : (x : ℕ) → x ≤ 1 → side_code (other_side (read_side x)) ≡ 1 - x
unfolding read_side
other_code zero h = refl
other_code (suc zero) h = refl
other_code (suc (suc x)) h = absurd (omega arith)

-- whether there is an end, by the ends alone
has_there : (b : List ℕ) (d l : ℕ) (side : Side) (o : ℕ) → has_end (of_ends (schema_of b).ends) d l side o ≡ has_end (schema_of b) d l side o
unfolding has_end
has_there b d l side o = refl

-- ---- the mirror of row i is the end that is asked for

module _ {b : List ℕ} {n : ℕ} (es : Ends b n) {i c r : ℕ} (h : i < n) (k : kind_of (schema_of b) (link_byte b i) ≡ paired c r) where
  abbrev asked : Bool
  asked = has_end (of_ends (schema_of b).ends) (sds_byte b i) r (other_side (read_side (side_byte b i))) (object_byte b i)

  turn : side_code (other_side (read_side (side_byte b i))) ≡ 1 - side_byte b i
  turn = other_code (side_byte b i) (es.sides i h)

  mirrored_has : Mirrored b n i → asked ≡ true
  mirrored_has m =
      let x = m.is in
      has_there b (sds_byte b i) r (other_side (read_side (side_byte b i))) (object_byte b i)
      ∙ row_has es (sds_byte b i) r (other_side (read_side (side_byte b i))) (object_byte b i) (record {
        place = m.place;
        below = x.there;
        sds = x.sds;
        link = pair_same (sym x.pair ∙ k);
        turned = x.side ∙ sym turn;
        object = x.object;
      })

  has_mirrored : asked ≡ true → Mirrored b n i
  has_mirrored e =
      let x = has_row es (sds_byte b i) r (other_side (read_side (side_byte b i))) (object_byte b i)
      (sym (has_there b (sds_byte b i) r (other_side (read_side (side_byte b i))) (object_byte b i)) ∙ e) in
      record {
        place = x.place;
        is = record {
          here = h;
          there = x.below;
          category = c;
          pair = k ∙ ap (paired c) (sym x.link);
          sds = x.sds;
          side = x.turned ∙ turn;
          object = x.object;
        };
      }

module _ {b held : List ℕ} (shown : Shown b held) (bytes : (k : ℕ) → get_or b k 0 < 256) (n : ℕ) (few : n ≤ limits.ends) where
  -- an end is never in SDS 0
  pub elsewhere : (i : ℕ) → Fits b i → sds_byte b i ≡ 0 → ⊥
  elsewhere i f = shown_lacks shown is_link refl (sds_byte b i) (link_byte b i) f.link (ended_held f).0

  rows_are : Ends b n → ((i : ℕ) → i < n → Fits b i) → Rows b n
  rows_are es fits = record {
    reverses = shown.types.reverses;
    numbered = λ i h. numbered b shown.long bytes i (omega arith);
    sides = es.sides;
    links = λ i h. (fits i h).link;
    rise = rise_numbers b shown.long bytes n few es.rise;
  }

  -- ---- what is found is fine

  module _ (f : Found b n) where
    found_ends : Ends b n
    found_ends = record {
      long = shown.long;
      counted = confirmed ends b n few
          (λ i h. first_used b (end_at i) 4 (omega arith) (elsewhere i (f.rows i h).fits)) f.rest;
      rise = numbers_rise b shown.long bytes n few f.rise;
      sides = λ i h. (f.rows i h).side;
    }

    found_rows : Rows b n
    found_rows = rows_are found_ends (λ i h. (f.rows i h).fits)

    behind : (i : ℕ) → i < n → higher b i ≡ true → Mirrored b n i
    behind i h e = row_mirrored found_rows i h e (f.rows i h).mirror

    found_mirrored : (i : ℕ) → i < n → EndMirrored (schema_of b).types (schema_of b).ends (end_shown b i)
    found_mirrored i h c r k = go (higher b i) refl (asked found_ends h k) refl
      where
        go : (x : Bool) → higher b i ≡ x → (y : Bool) → asked found_ends h k ≡ y → asked found_ends h k ≡ true
        go x e true q = q
        go true e false q = mirrored_has found_ends h k (behind i h e)
        go false e false q =
            absurd (none_left found_rows behind f.many i h (either_rank found_rows i k e) (λ m. true≢false (sym (mirrored_has found_ends h k m) ∙ q)))

    pub found_fine : EndsFine b
    unfolding schema_of
    found_fine =
        let es = found_ends in
        let is = es.counted.is in
        let written : Written ends (end_count b) b
        = λ i h. side_written b i (omega (arith, is, shown.long)) (es.sides i (omega (arith, is))) in
        record {
          end_rows = written;
          end_rest = rw (← is) f.rest;
          rows = record {
            room = omega (arith, ends_long b, is);
            rises = rise_things ends_sort b (end_count b) written (λ i h. tt) (rw is at es.rise);
          };
          each = λ x m. let (i, h, e) = end_in b x m in rw e (f.rows i (omega (arith, is))).fits;
          mirrored = λ x m. let (i, h, e) = end_in b x m in rw e (found_mirrored i (omega (arith, is)));
        }

  -- ---- what is fine is found

  module _ (found : Halved b ends.start ends.width limits.ends n) (f : EndsFine b) where
    fits : (i : ℕ) → i < end_count b → Fits b i
    fits i h = f.each (end_shown b i) (end_there b i h)

    fine_counted : Counted (end_count b) limits.ends n
    fine_counted =
        halved_right ends b 0 n (omega arith) found
        (λ i h e. elsewhere i (fits i h) (ap (λ (m : ℕ). get_or b m 0) (omega arith) ∙ e)) f.end_rest

    inside : (i : ℕ) → i < n → i < end_count b
    inside i h = omega (arith, fine_counted.is)

    fine_ends : Ends b n
    unfolding schema_of
    fine_ends = record {
      long = shown.long;
      counted = fine_counted;
      rise = subst (InOrder by_end b) (sym fine_counted.is)
          (things_rise ends_sort b (end_count b) f.end_rows (λ i h. tt) f.rows.rises);
      sides = λ i h. written_side b i (f.end_rows i (inside i h));
    }

    fine_rows : Rows b n
    fine_rows = rows_are fine_ends (λ i h. fits i (inside i h))

    fine_mirrored : (i c r : ℕ) → i < n → kind_of (schema_of b) (link_byte b i) ≡ paired c r → Mirrored b n i
    fine_mirrored i c r h k = has_mirrored fine_ends h k (f.mirrored (end_shown b i) (end_there b i (inside i h)) c r k)

    pub fine_found : Found b n
    fine_found = record {
      rest = rw fine_counted.is f.end_rest;
      rise = λ i h. fine_rows.rise i (i + 1) (omega arith) h;
      rows = λ i h. record {
        side = fine_ends.sides i h;
        fits = fits i (inside i h);
        mirror = mirrored_row fine_rows i h (λ e. fine_mirrored i _ _ h (pair_of fine_rows i 2 h (omega arith) e));
      };
      many = as_many fine_rows fine_mirrored;
    }
