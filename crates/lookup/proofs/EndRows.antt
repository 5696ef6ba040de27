-- The rows of ends: in order and with sides that are sides, they are the ends of the schema, and an end's place is found by its bytes.
-- Assumes nothing.
use Prim.Native.Nat.{ℕ, zero, suc, ◌+◌, ◌≤◌, ◌<◌}
use native.Mathlib.Omega.{arith}
use mathlib.Core.Path.{◌≡◌, refl, sym, ap, ◌∙◌, subst}
use mathlib.Core.List.{List, [], ◌∷◌}
use mathlib.Core.Bool.{Bool, true, false, ◌&&◌}
use lib.Dec.{eqb}
use lib.ListN.{length, get_or}
use borrow.Author.Tests.{eqb-true, eq-eqb}
use Rattle.rules.specs.02-Limits.{limits}
use Rattle.rules.specs.04-Schema.{Side, End, side_code, is_end, has_end}
use Rattle.rules.specs.07-Picture.{end_row, end_width}
use Rattle.rules.specs.Read.{read_side, link_offset, side_offset, object_offset}
use Rattle.rules.proofs.Bools.{and_both, and_of}
use Rattle.rules.proofs.01-Lists.{any_at, any_where}
use Rattle.rows.specs.Rows.{Counted}
use Rattle.rows.proofs.Rows.{part_byte}
use Rattle.base.specs.Tables.{InOrder, by_end, row_of, shown, ends}
use Rattle.base.specs.Rows.{end_at, EndRow}
use Rattle.base.specs.Back.{schema_of, end_count, end_shown}
use Rattle.base.specs.Stored.{Stored}
use Rattle.base.proofs.Tables.{ends_sort}
use Rattle.base.proofs.OrderedLaws.{things_rise}
use Rattle.base.proofs.Shown.{end_in, end_there, end_read}
use Rattle.base.proofs.StoredLaws.{stored_long, stored_canonical}
use Rattle.lookup.specs.Found.{EndFound, EndPlace, Ends}
use Rattle.lookup.proofs.EndLaws.{end_bytes}

-- ---- a row, and the end that it shows

pub side_same : (x : ℕ) → x ≤ 1 → side_code (read_side x) ≡ x
unfolding read_side
side_same zero h = refl
side_same (suc zero) h = refl
side_same (suc (suc x)) h = absurd (omega arith)

side_small : (x : ℕ) → side_code (read_side x) ≤ 1
unfolding read_side
side_small zero = omega arith
side_small (suc x) = omega arith

module _ (b : List ℕ) (i : ℕ) where
  pub side_written : end_at i + end_width ≤ length b → get_or b (end_at i + side_offset) 0 ≤ 1 → end_row (shown ends b i) ≡ row_of ends b i
  unfolding end_row
  side_written h s =
      let at = end_at i in
      let same = side_same (get_or b (at + side_offset) 0) s in
      ap end_row (end_read b i)
      ∙ (λ j. get_or b at 0 ∷ get_or b (at + link_offset) 0 ∷ same j ∷ get_or b (at + object_offset) 0 ∷ []) ∙ sym (end_bytes b i h)

  pub written_side : end_row (shown ends b i) ≡ row_of ends b i → get_or b (end_at i + side_offset) 0 ≤ 1
  unfolding end_row
  written_side e =
      let same : side_code (read_side (get_or b (end_at i + side_offset) 0)) ≡ get_or b (end_at i + side_offset) 0
      = ap (λ (l : List ℕ). get_or l side_offset 0) (sym (ap end_row (end_read b i)) ∙ e) ∙ part_byte b (end_at i) end_width side_offset (omega arith) in
      omega (arith, same, side_small (get_or b (end_at i + side_offset) 0))

-- ---- an end is there exactly where a row has its bytes

module _ {b : List ℕ} {n : ℕ} (ends : Ends b n) (d l : ℕ) (side : Side) (o : ℕ) where
  pub has_row : has_end (schema_of b) d l side o ≡ true → EndRow b n d l (side_code side) o
  unfolding has_end
  has_row h =
      let (x, m, q) = any_where (is_end d l side o) (schema_of b).ends h in
      let (i, k, e) = end_in b x m in
      let below : i < n = omega (arith, ends.counted.is) in
      let (sd, r1) = and_both (eqb x.sds d) (eqb x.link l && (eqb (side_code x.side) (side_code side) && eqb x.object o)) q in
      let (li, r2) = and_both (eqb x.link l) (eqb (side_code x.side) (side_code side) && eqb x.object o) r1 in
      let (si, ob) = and_both (eqb (side_code x.side) (side_code side)) (eqb x.object o) r2 in
      record {
        place = i;
        below = below;
        sds = sym (ap (λ (y : End). y.sds) e) ∙ eqb-true x.sds d sd;
        link = sym (ap (λ (y : End). y.link) e) ∙ eqb-true x.link l li;
        turned = sym (side_same (get_or b (end_at i + side_offset) 0) (ends.sides i below)) ∙ sym (ap (λ (y : End). side_code y.side) e) ∙ eqb-true (side_code
            x.side) (side_code side) si;
        object = sym (ap (λ (y : End). y.object) e) ∙ eqb-true x.object o ob;
      }

  pub row_has : EndRow b n d l (side_code side) o → has_end (schema_of b) d l side o ≡ true
  unfolding has_end
  row_has x =
      let i = x.place in
      let below = x.below in
      let e = end_shown b i in
      any_at (is_end d l side o) (end_there b i (omega (arith, ends.counted.is)))
      (and_of (eqb e.sds d) (eqb e.link l && (eqb (side_code e.side) (side_code side) && eqb e.object o)) (eq-eqb e.sds d x.sds)
      (and_of (eqb e.link l) (eqb (side_code e.side) (side_code side) && eqb e.object o) (eq-eqb e.link l x.link)
      (and_of (eqb (side_code e.side) (side_code side)) (eqb e.object o)
      (eq-eqb (side_code e.side) (side_code side) (side_same (get_or b (end_at i + side_offset) 0) (ends.sides i below) ∙ x.turned))
      (eq-eqb e.object o x.object))))

-- ---- the rows of a stored base

module _ {b : List ℕ} (s : Stored b) {n : ℕ} (c : Counted (end_count b) limits.ends n) where
  pub rows_rise : InOrder by_end b n
  unfolding schema_of
  rows_rise = subst (InOrder by_end b) (sym c.is) (things_rise ends_sort b (end_count b) (stored_canonical s).end_rows (λ i h. tt) s.rows.ends.rise)

  ends_are : Ends b n
  ends_are = record {
    long = stored_long s;
    counted = c;
    rise = rows_rise;
    sides = λ i h. written_side b i ((stored_canonical s).end_rows i (omega (arith, c.is)));
  }

  module _ {d l x o r : ℕ} (small : x < 2) (f : EndFound b n d l x o r) where
    the_side : side_code (read_side x) ≡ x
    the_side = side_same x (omega arith)

    row_is : r < end_count b → is_end d l (read_side x) o (end_shown b r) ≡ true
    row_is h =
        let e = end_shown b r in
        let w = f.found (omega (arith, c.is)) in
        and_of (eqb e.sds d) (eqb e.link l && (eqb (side_code e.side) (side_code (read_side x)) && eqb e.object o)) (eq-eqb e.sds d w.sds)
        (and_of (eqb e.link l) (eqb (side_code e.side) (side_code (read_side x)) && eqb e.object o) (eq-eqb e.link l w.link)
        (and_of (eqb (side_code e.side) (side_code (read_side x))) (eqb e.object o)
        (eq-eqb (side_code e.side) (side_code (read_side x)) (ap (λ (k : ℕ). side_code (read_side k)) w.turned))
        (eq-eqb e.object o w.object)))

    pub end_placed : EndPlace b d l (read_side x) o r
    end_placed = record { found = row_is; none = λ h. go (has_end (schema_of b) d l (read_side x) o) refl h }
      where
        go : (t : Bool) → has_end (schema_of b) d l (read_side x) o ≡ t → end_count b ≤ r → has_end (schema_of b) d l (read_side x) o ≡ false
        go true e h =
            absurd (f.none (omega (arith, c.is))
            (subst (λ (k : ℕ). EndRow b n d l k o) the_side (has_row ends_are d l (read_side x) o e)))
        go false e h = e
