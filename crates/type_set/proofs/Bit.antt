-- Laws of one bit of a word: what `|`, `&`, `!`, `<<` and `>>` do to it, which bit is the lowest, and that a word is known by its bits.
-- Assumes nothing.
use Prim.Native.Nat.{ℕ, zero, suc, ◌-◌, ◌*◌, ◌/◌, ◌%◌, ◌^◌, ◌<◌}
use native.Mathlib.Nat.{zero-div, div-one, one-mul, mod-lt, pow-suc}
use native.Mathlib.Numerals.{add-one, one-add}
use native.Mathlib.Omega.{arith}
use mathlib.Core.Path.{◌≡◌, refl, sym, ap, ◌∙◌}
use mathlib.Core.Bool.{Bool, true, false, not, ◌&&◌, ◌||◌}
use lib.Arith.{lt-one}
use lib.Bits.{bit_and, bit_or, and_mask, and_mod, and_shr, or_mod, or_shr, shifted_even, shifted_half}
use lib.Count.{count_trailing_zeros, under}
use lib.Dec.{eqb, lit<, eqb-suc-suc, eqb-suc-zero, eqb-zero-suc}
use lib.Pow.{shl_exact, shr_lt, shr-shr}
use Rattle.rules.specs.11-Asks.{one_if}
use Rattle.type_set.specs.Set.{bit}

pub bit_zero : (n : ℕ) → bit 0 n ≡ false
unfolding bit
bit_zero n = rw (zero-div (2 ^ n))

-- the lowest bit, and the rest
bit_low : (w : ℕ) → bit w 0 ≡ eqb (w % 2) 1
unfolding bit
bit_low w = rw (div-one w)

bit_step : (w n : ℕ) → bit w (suc n) ≡ bit (w / 2) n
unfolding bit
bit_step w n = ap (λ (x : ℕ). eqb (x % 2) 1) (ap (λ (x : ℕ). w / 2 ^ x) (sym (one-add n)) ∙ sym (shr-shr w 1 n))

-- what holds of 0 and of 1 holds of a digit
by_digit : (P : ℕ → Type 0) → P 0 → P 1 → (x : ℕ) → P (x % 2)
by_digit P none one x = go (x % 2) (mod-lt x (lit< tt))
  where
    go : (d : ℕ) → d < 2 → P d
    go zero h = none
    go (suc zero) h = one
    go (suc (suc d)) h = absurd (omega arith)

-- an operation f that goes digit by digit, and does to one digit what g does to its test
module _ (f : ℕ → ℕ → ℕ) (g : Bool → Bool → Bool) where
  -- f and g agree on two digits
  abbrev Alike : ℕ → ℕ → Type 0
  Alike x y = eqb (f x y) 1 ≡ g (eqb x 1) (eqb y 1)

  bit_both : ((a b k : ℕ) → f a b / 2 ^ k ≡ f (a / 2 ^ k) (b / 2 ^ k)) → ((a b k : ℕ) → f a b % 2 ^ k ≡ f (a % 2 ^ k) (b % 2 ^ k))
      → Alike 0 0 → Alike 0 1 → Alike 1 0 → Alike 1 1 → (a b n : ℕ) → bit (f a b) n ≡ g (bit a n) (bit b n)
  unfolding bit
  bit_both shift rest none right left both a b n =
      let x = a / 2 ^ n in
      let y = b / 2 ^ n in
      ap (λ (z : ℕ). eqb (z % 2) 1) (shift a b n) ∙ ap (λ (z : ℕ). eqb z 1) (rest x y 1)
      ∙ by_digit (λ d. Alike d (y % 2)) (by_digit (Alike 0) none right y) (by_digit (Alike 1) left both y) x

pub bit-or : (a b n : ℕ) → bit (bit_or a b) n ≡ bit a n || bit b n
bit-or = bit_both bit_or ◌||◌ or_shr or_mod refl refl refl refl

pub bit-and : (a b n : ℕ) → bit (bit_and a b) n ≡ bit a n && bit b n
bit-and = bit_both bit_and ◌&&◌ and_shr and_mod refl refl refl refl

-- a word's complement
bit_not : (k w n : ℕ) → w < 2 ^ k → n < k → bit (2 ^ k - 1 - w) n ≡ not (bit w n)
bit_not zero w n h l = absurd (omega arith)
bit_not (suc k) w zero h l =
    let digit : (2 ^ suc k - 1 - w) % 2 ≡ 1 - w % 2 = omega (arith, pow-suc 2 k) in
    bit_low (2 ^ suc k - 1 - w) ∙ rw (digit, bit_low w) (by_digit (λ d. eqb (1 - d) 1 ≡ not (eqb d 1)) refl refl w)
bit_not (suc k) w (suc n) h l =
    let half : (2 ^ suc k - 1 - w) / 2 ≡ 2 ^ k - 1 - w / 2 = omega (arith, pow-suc 2 k) in
    bit_step (2 ^ suc k - 1 - w) n ∙ rw (half, bit_step w n) (bit_not k (w / 2) n (omega (arith, pow-suc 2 k)) (omega arith))

pub bit_without : (a b n : ℕ) → b < 2 ^ 64 → n < 64 → bit (bit_and a (2 ^ 64 - 1 - b)) n ≡ bit a n && not (bit b n)
bit_without a b n h l = bit-and a (2 ^ 64 - 1 - b) n ∙ ap (λ (x : Bool). bit a n && x) (bit_not 64 b n h l)

-- a mark alone
bit_pow : (n k : ℕ) → bit (2 ^ n) k ≡ eqb k n
unfolding bit
bit_pow zero zero = refl
bit_pow zero (suc k) = bit_step 1 k ∙ bit_zero k ∙ sym (eqb-suc-zero k)
bit_pow (suc n) zero =
    bit_low (2 ^ suc n) ∙ ap (λ (x : ℕ). eqb x 1) (ap (λ (x : ℕ). x % 2) (sym (one-mul (2 ^ suc n))) ∙ shifted_even 1 n) ∙ sym (eqb-zero-suc n)
bit_pow (suc n) (suc k) =
    bit_step (2 ^ suc n) k
    ∙ ap (λ (x : ℕ). bit x k) (ap (λ (x : ℕ). x / 2) (sym (one-mul (2 ^ suc n))) ∙ shifted_half 1 n ∙ one-mul (2 ^ n))
    ∙ bit_pow n k ∙ sym (eqb-suc-suc k n)

-- what the code's shifts and masks are: a mark of a word of some width, a bit set, and a bit read
pub bit_mark : (width n k : ℕ) → n < width → bit (1 * 2 ^ n % 2 ^ width) k ≡ eqb k n
bit_mark width n k h =
    let one : 1 * 2 ^ n % 2 ^ width ≡ 2 ^ n = shl_exact 1 n width (lit< tt) (omega arith) ∙ one-mul (2 ^ n) in
    ap (λ (x : ℕ). bit x k) one ∙ bit_pow n k

pub bit_set : (width w n k : ℕ) → n < width → bit (bit_or w (1 * 2 ^ n % 2 ^ width)) k ≡ bit w k || eqb k n
bit_set width w n k h = bit-or w (1 * 2 ^ n % 2 ^ width) k ∙ ap (λ (x : Bool). bit w k || x) (bit_mark width n k h)

pub bit_masked : (w n : ℕ) → eqb (bit_and (w / 2 ^ n) 1) 1 ≡ bit w n
unfolding bit
bit_masked w n = ap (λ (x : ℕ). eqb x 1) (and_mask (w / 2 ^ n) 1)

-- as many zeros as stand below the lowest mark are its number
module _ (w : ℕ) where
  even_low : w % 2 ≡ 0 → bit w 0 ≡ false
  even_low e = bit_low w ∙ rw e

  odd_low : (d : ℕ) → w % 2 ≡ suc d → bit w 0 ≡ true
  odd_low d e = let one : w % 2 ≡ 1 = omega arith in bit_low w ∙ rw one

pub trailing_first : (k w i : ℕ) → i < count_trailing_zeros k w → bit w i ≡ false
unfolding count_trailing_zeros
trailing_first zero w i h = absurd (omega arith)
trailing_first (suc k) w i h = go (w % 2) refl i h (trailing_first k (w / 2))
  where
    go : (d : ℕ) → w % 2 ≡ d → (i : ℕ) → i < under d (count_trailing_zeros k (w / 2)) → ((i : ℕ) → i < count_trailing_zeros k (w / 2) → bit (w / 2) i ≡ false)
        → bit w i ≡ false
    go zero e zero h rest = even_low w e
    go zero e (suc i) h rest = bit_step w i ∙ rest i (omega arith)
    go (suc d) e i h rest = absurd (omega arith)

pub trailing_marked : (k w : ℕ) → count_trailing_zeros k w < k → bit w (count_trailing_zeros k w) ≡ true
unfolding count_trailing_zeros
trailing_marked zero w h = absurd (omega arith)
trailing_marked (suc k) w h = go (w % 2) refl h (trailing_marked k (w / 2))
  where
    go : (d : ℕ) → w % 2 ≡ d → under d (count_trailing_zeros k (w / 2)) < suc k
        → (count_trailing_zeros k (w / 2) < k → bit (w / 2) (count_trailing_zeros k (w / 2)) ≡ true) → bit w (under d (count_trailing_zeros k (w / 2))) ≡ true
    go zero e h rest = bit_step w (count_trailing_zeros k (w / 2)) ∙ rest (omega arith)
    go (suc d) e h rest = odd_low w d e

-- a digit is known by its test
digit : (x : ℕ) → one_if (eqb (x % 2) 1) ≡ x % 2
digit = by_digit (λ d. one_if (eqb d 1) ≡ d) refl refl

-- a word is known by its bits
pub word_same : (n w v : ℕ) → w < 2 ^ n → v < 2 ^ n → ((i : ℕ) → i < n → bit w i ≡ bit v i) → w ≡ v
word_same zero w v hw hv e = lt-one hw ∙ sym (lt-one hv)
word_same (suc n) w v hw hv e =
    let half = word_same n (w / 2) (v / 2) (shr_lt n 1 (rw (add-one n) hw)) (shr_lt n 1 (rw (add-one n) hv))
    (λ i hi. sym (bit_step w i) ∙ e (suc i) (omega arith) ∙ bit_step v i) in
    let odd = sym (digit w) ∙ ap one_if (sym (bit_low w) ∙ e 0 (omega arith) ∙ bit_low v) ∙ digit v in
    omega arith
