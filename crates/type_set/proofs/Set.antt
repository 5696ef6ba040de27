-- Laws of sets of marks: what each method does to `has`, the lowest mark, that the marks determine the words, and the count. Assumes
-- nothing.
use Prim.Native.Nat.{ℕ, zero, suc, ◌+◌, ◌-◌, ◌*◌, ◌/◌, ◌%◌, ◌^◌, ◌≤◌, ◌<◌}
use native.Mathlib.Omega.{arith}
use mathlib.Core.Path.{◌≡◌, refl, sym, ap, ap₂, ◌∙◌}
use mathlib.Core.List.{[], ◌∷◌}
use mathlib.Core.Bool.{Bool, true, false, not, ◌&&◌, ◌||◌, and-true, or_comm}
use lib.Bits.{bit_and, bit_or}
use Rattle.std.specs.Int.Bits.{or_zero_r}
use lib.Count.{ones, count_trailing_zeros}
use lib.Dec.{eqb, ltb}
use lib.ListN.{length, get_or, get_or-eq_default}
use borrow.Author.Tests.{eqb-false, eqb-true, eq-eqb, ltb-false, ltb-true, ne_eqb}
use Rattle.rules.specs.05-Descent.{members}
use Rattle.rules.specs.11-Asks.{one_if, marks}
use Rattle.rules.proofs.11-Asks.{marks_bit, marks_fit}
use Rattle.type_set.specs.declared.TypeSet.{TypeSet}
use Rattle.type_set.specs.Set.{bit, words, has, IsLowest}
use Rattle.type_set.proofs.Bit.{bit_zero, bit-or, bit-and, bit_without, bit_mark, trailing_first, trailing_marked, word_same}
use Rattle.type_set.proofs.Members.{ones_members}

-- ---- where a mark stands

module _ (s : TypeSet) (k : ℕ) where
  pub has_low : k < 64 → has s k ≡ bit s.low k
  unfolding has words
  has_low h =
      let word : k / 64 ≡ 0 = omega arith in
      let place : k % 64 ≡ k = omega arith in
      rw (word, place)

  pub has_high : 64 ≤ k → k < 128 → has s k ≡ bit s.high (k - 64)
  unfolding has words
  has_high l u =
      let word : k / 64 ≡ 1 = omega arith in
      let place : k % 64 ≡ k - 64 = omega arith in
      rw (word, place)

  -- there is no mark past the last type
  pub has_past : 128 ≤ k → has s k ≡ false
  unfolding has words
  has_past h = ap (λ (w : ℕ). bit w (k % 64)) (get_or-eq_default (words s) 0 {n = k / 64} (omega arith)) ∙ bit_zero (k % 64)

-- a fact of `has` is shown in each word by itself, and past both
by_word : (P : Type 0) (k : ℕ) → (k < 64 → P) → (64 ≤ k → k < 128 → P) → (128 ≤ k → P) → P
by_word P k low high past = go (ltb k 64) (ltb k 128) refl refl
  where
    go : (a b : Bool) → ltb k 64 ≡ a → ltb k 128 ≡ b → P
    go true b e f = low (ltb-true k 64 e)
    go false true e f = high (ltb-false k 64 e) (ltb-true k 128 f)
    go false false e f = past (ltb-false k 128 f)

-- ---- what each method does to `has`

pub has_empty : (k : ℕ) → has (record { low = 0; high = 0 }) k ≡ false
unfolding has words
has_empty k = ap (λ (w : ℕ). bit w (k % 64)) (none (k / 64)) ∙ bit_zero (k % 64)
  where
    none : (d : ℕ) → get_or {A = ℕ} (0 ∷ 0 ∷ []) d 0 ≡ 0
    none zero = refl
    none (suc zero) = refl
    none (suc (suc d)) = refl

-- an operation f on both words, that does to a bit what g does to its mark
has_both : (f : ℕ → ℕ → ℕ) (g : Bool → Bool → Bool) → f 0 0 ≡ 0 → ((a b n : ℕ) → bit (f a b) n ≡ g (bit a n) (bit b n)) → (s t : TypeSet) (k : ℕ)
    → has (record { low = f s.low t.low; high = f s.high t.high }) k ≡ g (has s k) (has t k)
unfolding has words
has_both f g none bits s t k = ap (λ (w : ℕ). bit w (k % 64)) (go (k / 64)) ∙ bits (get_or (words s) (k / 64) 0) (get_or (words t) (k / 64) 0) (k % 64)
  where
    go : (d : ℕ) → get_or (f s.low t.low ∷ f s.high t.high ∷ []) d 0 ≡ f (get_or (s.low ∷ s.high ∷ []) d 0) (get_or (t.low ∷ t.high ∷ []) d 0)
    go zero = refl
    go (suc zero) = refl
    go (suc (suc d)) = sym none

pub has_join : (s t : TypeSet) (k : ℕ) → has (record { low = bit_or s.low t.low; high = bit_or s.high t.high }) k ≡ has s k || has t k
has_join = has_both bit_or ◌||◌ refl bit-or

pub has_meet : (s t : TypeSet) (k : ℕ) → has (record { low = bit_and s.low t.low; high = bit_and s.high t.high }) k ≡ has s k && has t k
has_meet = has_both bit_and ◌&&◌ refl bit-and

pub has_without : (s t : TypeSet) → t.low < 2 ^ 64 → t.high < 2 ^ 64 → (k : ℕ)
    → has (record { low = bit_and s.low (2 ^ 64 - 1 - t.low); high = bit_and s.high (2 ^ 64 - 1 - t.high) }) k ≡ has s k && not (has t k)
has_without s t l h k =
    let r : TypeSet = record { low = bit_and s.low (2 ^ 64 - 1 - t.low); high = bit_and s.high (2 ^ 64 - 1 - t.high) } in
    by_word _ k
    (λ u. has_low r k u ∙ bit_without s.low t.low k l u ∙ sym (ap₂ taken (has_low s k u) (has_low t k u)))
    (λ v u. has_high r k v u ∙ bit_without s.high t.high (k - 64) h (omega arith) ∙ sym (ap₂ taken (has_high s k v u) (has_high t k v u)))
    (λ v. has_past r k v ∙ sym (ap (λ (x : Bool). taken x (has t k)) (has_past s k v)))
  where
    taken : Bool → Bool → Bool
    taken x y = x && not y

-- a type alone, in each word
pub has_only_low : (n : ℕ) → n < 64 → (k : ℕ) → has (record { low = 1 * 2 ^ n % 2 ^ 64; high = 0 }) k ≡ eqb k n
has_only_low n hn k =
    let r : TypeSet = record { low = 1 * 2 ^ n % 2 ^ 64; high = 0 } in
    by_word _ k
    (λ u. has_low r k u ∙ bit_mark 64 n k hn)
    (λ l u. has_high r k l u ∙ bit_zero (k - 64) ∙ sym (ne_eqb k n (λ e. omega arith)))
    (λ l. has_past r k l ∙ sym (ne_eqb k n (λ e. omega arith)))

eqb_sub : (k n : ℕ) → 64 ≤ k → 64 ≤ n → eqb (k - 64) (n - 64) ≡ eqb k n
eqb_sub k n hk hn = go (eqb k n) refl
  where
    go : (b : Bool) → eqb k n ≡ b → eqb (k - 64) (n - 64) ≡ b
    go true e = eq-eqb (k - 64) (n - 64) (ap (λ (x : ℕ). x - 64) (eqb-true k n e))
    go false e = ne_eqb (k - 64) (n - 64) (λ d. eqb-false k n e (omega arith))

pub has_only_high : (n : ℕ) → 64 ≤ n → n < 128 → (k : ℕ) → has (record { low = 0; high = 1 * 2 ^ (n - 64) % 2 ^ 64 }) k ≡ eqb k n
has_only_high n ln hn k =
    let r : TypeSet = record { low = 0; high = 1 * 2 ^ (n - 64) % 2 ^ 64 } in
    by_word _ k
    (λ u. has_low r k u ∙ bit_zero k ∙ sym (ne_eqb k n (λ e. omega arith)))
    (λ l u. has_high r k l u ∙ bit_mark 64 (n - 64) (k - 64) (omega arith) ∙ eqb_sub k n l ln)
    (λ l. has_past r k l ∙ sym (ne_eqb k n (λ e. omega arith)))

-- a type more, in its word: the other word stays
pub has_add_low : (s : TypeSet) (n : ℕ) → n < 64 → (k : ℕ)
    → has (record { low = bit_or s.low (1 * 2 ^ n % 2 ^ 64); high = s.high }) k ≡ eqb k n || has s k
has_add_low s n h k =
    let one : TypeSet = record { low = 1 * 2 ^ n % 2 ^ 64; high = 0 } in
    ap (λ (w : ℕ). has (record { low = bit_or s.low one.low; high = w }) k) (sym (or_zero_r s.high)) ∙ has_join s one k
    ∙ or_comm (has s k) (has one k) ∙ ap (λ (b : Bool). b || has s k) (has_only_low n h k)

pub has_add_high : (s : TypeSet) (n : ℕ) → 64 ≤ n → n < 128 → (k : ℕ)
    → has (record { low = s.low; high = bit_or s.high (1 * 2 ^ (n - 64) % 2 ^ 64) }) k ≡ eqb k n || has s k
has_add_high s n l h k =
    let one : TypeSet = record { low = 0; high = 1 * 2 ^ (n - 64) % 2 ^ 64 } in
    ap (λ (w : ℕ). has (record { low = w; high = bit_or s.high one.high }) k) (sym (or_zero_r s.low)) ∙ has_join s one k
    ∙ or_comm (has s k) (has one k) ∙ ap (λ (b : Bool). b || has s k) (has_only_high n l h k)

-- one word without the mark of n, which is bit m of it
less_word : (w m k : ℕ) → m < 64 → k < 64 → bit (bit_and w (2 ^ 64 - 1 - 1 * 2 ^ m % 2 ^ 64)) k ≡ bit w k && not (eqb k m)
less_word w m k h l = bit_without w (1 * 2 ^ m % 2 ^ 64) k (omega arith) l ∙ ap (λ (x : Bool). bit w k && not x) (bit_mark 64 m k h)

-- a mark that is not the one taken out
stays : (k n : ℕ) → (k ≡ n → ⊥) → (b : Bool) → b ≡ b && not (eqb k n)
stays k n h b = rw (ne_eqb k n h) (sym (and-true b))

-- a type less, in its word: the other word stays
pub has_less_low : (s : TypeSet) (n : ℕ) → n < 64 → (k : ℕ)
    → has (record { low = bit_and s.low (2 ^ 64 - 1 - 1 * 2 ^ n % 2 ^ 64); high = s.high }) k ≡ has s k && not (eqb k n)
has_less_low s n hn k =
    let r : TypeSet = record { low = bit_and s.low (2 ^ 64 - 1 - 1 * 2 ^ n % 2 ^ 64); high = s.high } in
    by_word _ k
    (λ u. has_low r k u ∙ less_word s.low n k hn u ∙ ap (λ (b : Bool). b && not (eqb k n)) (sym (has_low s k u)))
    (λ l u. has_high r k l u ∙ sym (has_high s k l u) ∙ stays k n (λ e. omega arith) (has s k))
    (λ l. has_past r k l ∙ sym (has_past s k l) ∙ stays k n (λ e. omega arith) (has s k))

pub has_less_high : (s : TypeSet) (n : ℕ) → 64 ≤ n → n < 128 → (k : ℕ)
    → has (record { low = s.low; high = bit_and s.high (2 ^ 64 - 1 - 1 * 2 ^ (n - 64) % 2 ^ 64) }) k ≡ has s k && not (eqb k n)
has_less_high s n ln hn k =
    let r : TypeSet = record { low = s.low; high = bit_and s.high (2 ^ 64 - 1 - 1 * 2 ^ (n - 64) % 2 ^ 64) } in
    by_word _ k
    (λ u. has_low r k u ∙ sym (has_low s k u) ∙ stays k n (λ e. omega arith) (has s k))
    (λ l u.
    has_high r k l u ∙ less_word s.high (n - 64) (k - 64) (omega arith) (omega arith)
    ∙ ap₂ (λ (a b : Bool). a && not b) (sym (has_high s k l u)) (eqb_sub k n l ln))
    (λ l. has_past r k l ∙ sym (has_past s k l) ∙ stays k n (λ e. omega arith) (has s k))

-- ---- the lowest mark

module _ (s : TypeSet) where
  -- a word that is not 0 has a mark
  word_marked : (w : ℕ) → w < 2 ^ 64 → (w ≡ 0 → ⊥) → count_trailing_zeros 64 w < 64
  word_marked w h some = go (ltb (count_trailing_zeros 64 w) 64) refl
    where
      go : (b : Bool) → ltb (count_trailing_zeros 64 w) 64 ≡ b → count_trailing_zeros 64 w < 64
      go true e = ltb-true (count_trailing_zeros 64 w) 64 e
      go false e =
          let past = ltb-false (count_trailing_zeros 64 w) 64 e in
          absurd (some (word_same 64 w 0 h (omega arith) (λ i u. trailing_first 64 w i (omega arith) ∙ sym (bit_zero i))))

  -- a word that is 0 has none
  low_none : s.low ≡ 0 → (k : ℕ) → k < 64 → has s k ≡ false
  low_none none k u = has_low s k u ∙ ap (λ (w : ℕ). bit w k) none ∙ bit_zero k

  pub lowest_low : s.low < 2 ^ 64 → (s.low ≡ 0 → ⊥) → IsLowest (has s) (count_trailing_zeros 64 s.low)
  lowest_low h some =
      let u = word_marked s.low h some in
      record {
        below = omega arith;
        passes = has_low s (count_trailing_zeros 64 s.low) u ∙ trailing_marked 64 s.low u;
        first = λ k l. has_low s k (omega arith) ∙ trailing_first 64 s.low k l;
      }

  pub lowest_high : s.high < 2 ^ 64 → s.low ≡ 0 → (s.high ≡ 0 → ⊥) → IsLowest (has s) (count_trailing_zeros 64 s.high + 64)
  lowest_high h none some =
      let u = word_marked s.high h some in
      record {
        below = omega arith;
        passes =
            has_high s (count_trailing_zeros 64 s.high + 64) (omega arith) (omega arith) ∙ ap (bit s.high) (omega arith)
            ∙ trailing_marked 64 s.high u;
        first = λ k l. by_word _ k
            (low_none none k)
            (λ v u. has_high s k v u ∙ trailing_first 64 s.high (k - 64) (omega arith))
            (has_past s k);
      }

  -- no type is in a set whose words are 0
  pub lowest_none : s.low ≡ 0 → s.high ≡ 0 → (k : ℕ) → has s k ≡ false
  lowest_none low high k = by_word _ k
      (low_none low k)
      (λ v u. has_high s k v u ∙ ap (λ (w : ℕ). bit w (k - 64)) high ∙ bit_zero (k - 64))
      (has_past s k)

-- ---- the marks determine the words

marked : (p : ℕ → Bool) (start many i : ℕ) → i < many → bit (marks start many p) i ≡ p (start + i)
unfolding bit
marked p start many i h = ap (λ (x : ℕ). eqb x 1) (marks_bit p start many i h) ∙ test (p (start + i))
  where
    test : (b : Bool) → eqb (one_if b) 1 ≡ b
    test true = refl
    test false = refl

pub words_are : (s : TypeSet) (p : ℕ → Bool) → s.low < 2 ^ 64 → s.high < 2 ^ 64 → ((k : ℕ) → k < 128 → has s k ≡ p k)
    → (s.low ≡ marks 0 64 p) × (s.high ≡ marks 64 64 p)
words_are s p l h e = (
  word_same 64 s.low (marks 0 64 p) l (marks_fit p 0 64)
      (λ i u. sym (has_low s i u) ∙ e i (omega arith) ∙ ap p (omega arith) ∙ sym (marked p 0 64 i u)),
  word_same 64 s.high (marks 64 64 p) h (marks_fit p 64 64)
      (λ i u.
      ap (bit s.high) (omega arith) ∙ sym (has_high s (64 + i) (omega arith) (omega arith)) ∙ e (64 + i) (omega arith) ∙ sym (marked p 64 64 i u)),
)

-- the ones of both words are as many as the members
pub count_members : (s : TypeSet) → s.low < 2 ^ 64 → s.high < 2 ^ 64 → ones s.low + ones s.high ≡ length (members (has s))
count_members s l h =
    let (low, high) = words_are s (has s) l h (λ k u. refl) in
    ap₂ ◌+◌ (ap ones low) (ap ones high) ∙ ones_members (has s)
