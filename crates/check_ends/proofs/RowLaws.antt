-- Rows of ends by their numbers: a number tells the bytes, and numbers that rise are rows that rise; where mirrors stand, and the balance.
-- Assumes nothing.
use Prim.Native.Nat.{ℕ, suc, ◌+◌, ◌*◌, ◌/◌, ◌%◌, ◌≤◌, ◌<◌}
use native.Mathlib.Numerals.{add-one}
use native.Mathlib.Omega.{arith}
use mathlib.Core.Path.{◌≡◌, refl, sym, ap, ◌∙◌}
use mathlib.Core.List.{List}
use mathlib.Core.Bool.{cond}
use lib.Dec.{eqb}
use lib.IntN.{ℤ, pos, negsuc, ◌+ℤ◌, ◌-ℤ◌}
use lib.Signed.{◌≤ℤ◌}
use lib.ListN.{length, get_or}
use borrow.Author.Tests.{ltb-true, lt-ltb, le-ltb, eq-eqb, ne_eqb}
use Rattle.std.specs.Prelude.{Some}
use Rattle.std.proofs.lemmas.Int.{ints}
use Rattle.rules.specs.02-Limits.{limits}
use Rattle.rules.specs.07-Picture.{base_length}
use Rattle.rules.specs.Read.{value_offset, reverse_offset}
use Rattle.rows.proofs.OrderLaws.{numbers_before, number_four}
use Rattle.rows.proofs.Scan.{rising_far}
use Rattle.base.specs.Tables.{InOrder, by_end, ends, row_of}
use Rattle.base.specs.Rows.{type_at, end_at, EndRow}
use Rattle.lookup.specs.Found.{EndAt, EndFound}
use Rattle.check_ends.specs.Count.{count}
use Rattle.check_ends.specs.Ends.{sds_byte, link_byte, side_byte, object_byte, row_number, RowWith, RowPast}
use Rattle.check_ends.specs.Ends.{rank, lower, higher, balance, rank_of, weight_of}
use Rattle.check_ends.specs.declared.Mirrors.{Mirrors}
use Rattle.check_ends.specs.declared.Mirrors.TheVariants.{Nowhere, Ahead, Behind}
use Rattle.check_ends.proofs.CountLaws.{count_most}

-- ---- numbers

-- four bytes as one number, the first of them highest
abbrev pub four : ℕ → ℕ → ℕ → ℕ → ℕ
four d l side o = ((d * 256 + l) * 256 + side) * 256 + o

-- a number is that of four bytes
whole : (w : ℕ) → four (w / 16777216) (w / 65536 % 256) (w / 256 % 256) (w % 256) ≡ w
whole w = omega arith

-- the bytes of row i are bytes, and its number is theirs
pub record Numbered (b : List ℕ) (i : ℕ) : Type 0 where
  pub is : row_number b i ≡ four (sds_byte b i) (link_byte b i) (side_byte b i) (object_byte b i)
  pub sds : sds_byte b i < 256
  pub link : link_byte b i < 256
  pub side : side_byte b i < 256
  pub object : object_byte b i < 256

module _ (b : List ℕ) (long : length b ≡ base_length) (bytes : (k : ℕ) → get_or b k 0 < 256) where
  pub numbered : (i : ℕ) → i < limits.ends → Numbered b i
  numbered i h = record {
    is = number_four b (end_at i) (omega arith);
    sds = bytes (end_at i);
    link = bytes (end_at i + 1);
    side = bytes (end_at i + 2);
    object = bytes (end_at i + 3);
  }

  -- rows whose numbers rise
  pub numbers_rise : (n : ℕ) → n ≤ limits.ends → ((k : ℕ) → k + 1 < n → row_number b k < row_number b (k + 1)) → InOrder by_end b n
  numbers_rise n few f i h =
      numbers_before b (end_at i) (end_at (suc i)) 4 bytes (omega arith) (omega arith)
      ∙ lt-ltb (row_number b i) (row_number b (suc i)) (rw (add-one i) at (f i (omega arith)))

  pub rise_numbers : (n : ℕ) → n ≤ limits.ends → InOrder by_end b n → (i j : ℕ) → i < j → j < n → row_number b i < row_number b j
  rise_numbers n few f i j h l =
      ltb-true (row_number b i) (row_number b j)
      (sym (numbers_before b (end_at i) (end_at j) 4 bytes (omega arith) (omega arith))
      ∙ rising_far (row_of ends b) n f i j h l)

module _ {b : List ℕ} {i : ℕ} (x : Numbered b i) where
  -- which a row tells
  pub tells : (d l side o : ℕ) → l < 256 → side < 256 → o < 256 → row_number b i ≡ four d l side o
      → (sds_byte b i ≡ d) × (link_byte b i ≡ l) × (side_byte b i ≡ side) × (object_byte b i ≡ o)
  tells d l side o hl hs ho e =
      let is = sym x.is ∙ e in
      let link = x.link in
      let turned = x.side in
      let object = x.object in
      (omega arith, omega arith, omega arith, omega arith)

  -- a row with the bytes of a number has that number, and the other way round
  number_is : {n w : ℕ} → EndAt b n i (w / 16777216) (w / 65536 % 256) (w / 256 % 256) (w % 256) → row_number b i ≡ w
  number_is {n} {w} e = x.is ∙ (λ j. four (e.sds j) (e.link j) (e.turned j) (e.object j)) ∙ whole w

  bytes_are : {n w : ℕ} → i < n → row_number b i ≡ w → EndRow b n (w / 16777216) (w / 65536 % 256) (w / 256 % 256) (w % 256)
  bytes_are {n} {w} h e =
      let is = e ∙ sym (whole w) in
      let (d, l, s, o) = tells (w / 16777216) (w / 65536 % 256) (w / 256 % 256) (w % 256) (omega arith) (omega arith) (omega arith) is in
      record { place = i; below = h; sds = d; link = l; turned = s; object = o }

-- ---- a row that is looked for

module _ {b : List ℕ} {n w : ℕ} where
  pub row_past_at : {r : ℕ} → (r < n) × (row_number b r ≡ w) → RowPast b n w (Some (r + 1))
  row_past_at {r} (h, e) = (omega arith, record { place = r; below = h; is = e })

  module _ {r : ℕ} (x : (i : ℕ) → i < n → Numbered b i) (f : EndFound b n (w / 16777216) (w / 65536 % 256) (w / 256 % 256) (w % 256) r) where
    pub row_past : r < n → RowPast b n w (Some (r + 1))
    row_past h = row_past_at (h, number_is (x r h) (f.found h))

    pub row_none : n ≤ r → RowWith b n w → ⊥
    row_none h y = f.none h (bytes_are (x y.place y.below) y.below y.is)

-- ---- where the mirrors of a link type stand

module _ (b : List ℕ) (l : ℕ) {v : ℕ} (ev : v ≡ get_or b (type_at l + value_offset) 0) where
  pub rank_none : v ≡ 4 → 0 ≡ rank b l
  unfolding rank
  rank_none e = rw (eq-eqb (get_or b (type_at l + value_offset) 0) 4 (sym ev ∙ e))

  module _ (other : v ≡ 4 → ⊥) {r : ℕ} (er : r ≡ get_or b (type_at l + reverse_offset) 0) where
    pub rank_behind : r < l → 2 ≡ rank b l
    unfolding rank
    rank_behind h =
        rw (
          ne_eqb (get_or b (type_at l + value_offset) 0) 4 (λ e. other (ev ∙ e)),
          lt-ltb (get_or b (type_at l + reverse_offset) 0) l (omega arith),
        )

    pub rank_ahead : l ≤ r → 1 ≡ rank b l
    unfolding rank
    rank_ahead h =
        rw (
          ne_eqb (get_or b (type_at l + value_offset) 0) 4 (λ e. other (ev ∙ e)),
          le-ltb (get_or b (type_at l + reverse_offset) 0) l (omega arith),
        )

-- ---- the balance, with one row more

weight_is : (m : Mirrors) {r : ℕ} → rank_of m ≡ r → weight_of m ≡ pos (cond (eqb r 1) 1 0) -ℤ pos (cond (eqb r 2) 1 0)
weight_is Nowhere e = ap (λ (r : ℕ). pos (cond (eqb r 1) 1 0) -ℤ pos (cond (eqb r 2) 1 0)) e
weight_is Ahead e = ap (λ (r : ℕ). pos (cond (eqb r 1) 1 0) -ℤ pos (cond (eqb r 2) 1 0)) e
weight_is (Behind back near) e = ap (λ (r : ℕ). pos (cond (eqb r 1) 1 0) -ℤ pos (cond (eqb r 2) 1 0)) e

pub weight_small : (m : Mirrors) → (negsuc 0 ≤ℤ weight_of m) × (weight_of m ≤ℤ pos 1)
weight_small Nowhere = (omega (arith, ints), omega (arith, ints))
weight_small Ahead = (omega (arith, ints), omega (arith, ints))
weight_small (Behind back near) = (omega (arith, ints), omega (arith, ints))

pub balance_on : (b : List ℕ) (i : ℕ) (m : Mirrors) {x : ℤ} → x ≡ balance b i → rank_of m ≡ rank b (link_byte b i)
    → x +ℤ weight_of m ≡ balance b (i + 1)
unfolding count
balance_on b i m ex er = rw (add-one i) (omega (arith, ints, ex, weight_is m er))

pub balance_none : (b : List ℕ) → pos 0 ≡ balance b 0
unfolding count
balance_none b = refl

pub balance_small : (b : List ℕ) (n : ℕ) {x : ℤ} → n ≤ limits.ends → x ≡ balance b n → (negsuc 511 ≤ℤ x) × (x ≤ℤ pos 512)
balance_small b n few e =
    let low = count_most (lower b) n in
    let high = count_most (higher b) n in
    (omega (arith, ints, e, low, high), omega (arith, ints, e, low, high))

pub balance_same : (b : List ℕ) (n : ℕ) {x : ℤ} → x ≡ balance b n
    → (x ≡ pos 0 → count (lower b) n ≡ count (higher b) n) × (count (lower b) n ≡ count (higher b) n → x ≡ pos 0)
balance_same b n e = (λ s. omega (arith, ints, e, s), λ s. omega (arith, ints, e, s))
