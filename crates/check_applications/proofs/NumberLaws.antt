-- The numbers that rows of applications tell: bytes below 128, by the bits that all of them have. Assumes nothing.
use Prim.Native.Nat.{ℕ, zero, suc, ◌+◌, ◌≤◌, ◌<◌}
use native.Mathlib.Omega.{arith}
use mathlib.Core.Path.{◌≡◌}
use mathlib.Core.List.{List}
use lib.Bits.{bit_or, and_le_l, and_le_r, or_lt, or_add_and}
use lib.ListN.{length, get_or}
use borrow.Author.Count.{below_more}
use Rattle.rules.specs.02-Limits.{limits}
use Rattle.rules.specs.07-Picture.{base_length}
use Rattle.rows.specs.Rows.{part}
use Rattle.rows.specs.Order.{number, number_passed}
use Rattle.rows.proofs.OrderLaws.{number_three}
use Rattle.base.specs.Tables.{applications}
use Rattle.base.specs.Rows.{application_at}
use Rattle.check_applications.specs.Applied.{Low, Bounded}

-- the bits of the bytes from `from` on, up to k
pub record LowPassed (b : List ℕ) (from k bits : ℕ) : Type 0 where
  pub low : bits < 128 → Low b from k
  pub few : Low b from k → bits < 128

module _ {b : List ℕ} {from k bits : ℕ} (p : LowPassed b from k bits) where
  pub low_more : from ≤ k → LowPassed b from (k + 1) (bit_or bits (get_or b k 0))
  low_more h =
      let x = get_or b k 0 in record {
        low = λ l j f m. below_more (λ j. from ≤ j → get_or b j 0 < 128) k
            (λ j m f. p.low (omega (arith, l, or_add_and bits x, and_le_r bits x)) j f m)
            (λ f. omega (arith, l, or_add_and bits x, and_le_l bits x)) j m f;
        few = λ f. or_lt 7 bits x (p.few (λ j l m. f j l (omega arith))) (f k h (omega arith));
      }

-- ---- the number of a row

module _ (b : List ℕ) (at : ℕ) (room : at + 3 ≤ length b) where
  pub row_small : ((k : ℕ) → get_or b k 0 < 256) → number 0 (part b at 3) < 16777216
  row_small small = omega (arith, number_three b at room, small at, small (at + 1), small (at + 2))

  -- where its number has 20 bits, its SDS has 4
  pub row_sds : number 0 (part b at 3) < 1048576 → get_or b at 0 < limits.sdss
  row_sds h = omega (arith, number_three b at room)

-- the last of n rows has no SDS past the last, nor a type: its number has 20 bits
pub last_number : {b : List ℕ} → length b ≡ base_length → (i n : ℕ) → i ≡ n → n ≤ limits.applications → Bounded b n
    → number_passed 65535 b applications.start applications.width i < 1048576
unfolding number_passed
last_number long zero n e fits x = omega arith
last_number {b} long (suc i) n e fits x =
    omega (
      arith,
      number_three b (application_at i) (omega arith),
      x.last i (omega arith),
      x.low (application_at i + 1) (omega arith) (omega arith),
      x.low (application_at i + 2) (omega arith) (omega arith),
    )
