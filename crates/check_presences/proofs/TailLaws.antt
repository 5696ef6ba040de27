-- Four bytes in one number: what is gathered of many such numbers, byte by byte. Assumes nothing.
use Prim.Native.Nat.{ℕ, ◌+◌, ◌*◌, ◌^◌, ◌≤◌, ◌<◌}
use native.Mathlib.Omega.{arith}
use mathlib.Core.Path.{◌≡◌, refl, sym, ap, ap₂, ◌∙◌}
use lib.Dec.{eqb, ltb}
use lib.Bits.{bit_and, bit_or, and_le_l, and_le_r, or_add_and, or_lt, and_block, or_block, and_mask}
use borrow.Author.Count.{below_none, below_more}
use borrow.Author.Tests.{eqb-true, eq-eqb, ltb-true, lt-ltb}
use Rattle.names.proofs.Laws.{agree}

-- ---- four bytes, the lowest first

abbrev pub word : ℕ → ℕ → ℕ → ℕ → ℕ
word a b c d = ((d * 256 + c) * 256 + b) * 256 + a

-- an operation on bits works on each byte apart
module _ (op : ℕ → ℕ → ℕ) (block : (k a b r s : ℕ) → r < 2 ^ k → s < 2 ^ k → op (a * 2 ^ k + r) (b * 2 ^ k + s) ≡ op a b * 2 ^ k + op r s) where
  apart : (a b c d p q r s : ℕ) → a < 256 → b < 256 → c < 256 → p < 256 → q < 256 → r < 256
      → op (word a b c d) (word p q r s) ≡ word (op a p) (op b q) (op c r) (op d s)
  apart a b c d p q r s ha hb hc hp hq hr =
      block 8 ((d * 256 + c) * 256 + b) ((s * 256 + r) * 256 + q) a p ha hp
      ∙ ap (λ (k : ℕ). k * 256 + op a p)
      (block 8 (d * 256 + c) (s * 256 + r) b q hb hq ∙ ap (λ (k : ℕ). k * 256 + op b q) (block 8 d s c r hc hr))

-- ---- the bytes of one column, gathered

-- x is what is set in any of f 0 to f (i - 1)
pub record Column (f : ℕ → ℕ) (i x : ℕ) : Type 0 where
  pub small : x < 256
  pub most : (j : ℕ) → j < i → f j ≤ x
  pub within : (k : ℕ) → ((j : ℕ) → j < i → f j < 2 ^ k) → x < 2 ^ k

pub column_first : (f : ℕ → ℕ) {x : ℕ} → f 0 ≡ x → x < 256 → Column f 1 x
column_first f {x} e h = record {
  small = h;
  most = below_more (λ j. f j ≤ x) 0 (below_none _) (omega (arith, e));
  within = λ k g. rw (← e) (g 0 (omega arith));
}

column_more : {f : ℕ → ℕ} {i x : ℕ} → Column f i x → f i < 256 → Column f (i + 1) (bit_or x (f i))
column_more {f} {i} {x} c h =
    let sum = or_add_and x (f i) in record {
      small = or_lt 8 x (f i) c.small h;
      most = below_more (λ j. f j ≤ bit_or x (f i)) i (λ j l. omega (arith, c.most j l, sum, and_le_r x (f i))) (omega (arith, sum, and_le_l x (f i)));
      within = λ k g. or_lt k x (f i) (c.within k (λ j l. g j (omega arith))) (g i (omega arith));
    }

-- and of four columns
pub record Columns (f g h k : ℕ → ℕ) (i any : ℕ) : Type 0 where
  pub a : ℕ
  pub b : ℕ
  pub c : ℕ
  pub d : ℕ
  pub is : any ≡ word a b c d
  pub first : Column f i a
  pub second : Column g i b
  pub third : Column h i c
  pub fourth : Column k i d

module _ {f g h k : ℕ → ℕ} {i any : ℕ} (x : Columns f g h k i any) where
  pub columns_more : {m : ℕ} → f i < 256 → g i < 256 → h i < 256 → k i < 256 → m ≡ word (f i) (g i) (h i) (k i) → Columns f g h k (i + 1) (bit_or any m)
  columns_more hf hg hh hk e = record {
    a = bit_or x.a (f i);
    b = bit_or x.b (g i);
    c = bit_or x.c (h i);
    d = bit_or x.d (k i);
    is = ap₂ bit_or x.is e
        ∙ apart bit_or or_block x.a x.b x.c x.d (f i) (g i) (h i) (k i) x.first.small x.second.small x.third.small hf hg hh;
    first = column_more x.first hf;
    second = column_more x.second hg;
    third = column_more x.third hh;
    fourth = column_more x.fourth hk;
  }

-- ---- the highest bit of the first two, and all bits of the others

-- the bits that are looked at, and what they are where all is fine
abbrev pub looked_at : ℕ
looked_at = word 128 128 255 255

abbrev pub five_modes : ℕ
five_modes = word 0 0 31 31

-- all 256 bytes, by computation
high_bit : (x : ℕ) → x < 256 → eqb (bit_and x 128) 0 ≡ ltb x 128
high_bit x h = agree (λ (x : ℕ). eqb (bit_and x 128) 0) (λ (x : ℕ). ltb x 128) refl x h

whole : (x : ℕ) → x < 256 → bit_and x 255 ≡ x
whole x h = omega (arith, and_mask x 8)

none_else : (a b c d : ℕ) → a < 256 → b < 256 → c < 256 → d < 256 → word a b c d ≡ five_modes → (b ≡ 0) × ((c ≡ 31) × (d ≡ 31))
none_else a b c d ha hb hc hd e = (omega arith, (omega arith, omega arith))

module _ {f g h k : ℕ → ℕ} {i any : ℕ} (x : Columns f g h k i any) where
  masked : bit_and any looked_at ≡ word (bit_and x.a 128) (bit_and x.b 128) x.c x.d
  masked =
      ap (λ (n : ℕ). bit_and n looked_at) x.is
      ∙ apart bit_and and_block x.a x.b x.c x.d 128 128 255 255 x.first.small x.second.small x.third.small
      (omega arith) (omega arith) (omega arith)
      ∙ ap₂ (λ (p q : ℕ). word (bit_and x.a 128) (bit_and x.b 128) p q) (whole x.c x.third.small) (whole x.d x.fourth.small)

  pub columns_told : bit_and any looked_at ≡ five_modes → (j : ℕ) → j < i → (g j < 128) × ((h j ≤ 31) × (k j ≤ 31))
  columns_told e j l =
      let (zero, (third, fourth)) = none_else (bit_and x.a 128) (bit_and x.b 128) x.c x.d (omega (arith, and_le_r x.a 128))
      (omega (arith, and_le_r x.b 128)) x.third.small x.fourth.small (sym masked ∙ e) in
      let second = ltb-true x.b 128 (sym (high_bit x.b x.second.small) ∙ eq-eqb (bit_and x.b 128) 0 zero) in
      (omega (arith, x.second.most j l), (omega (arith, x.third.most j l), omega (arith, x.fourth.most j l)))

  pub columns_tell : 0 < i → h 0 ≡ 31 → k 0 ≡ 31 → ((j : ℕ) → j < i → f j < 128) → ((j : ℕ) → j < i → g j < 128) → ((j : ℕ) → j < i → h j ≤ 31)
      → ((j : ℕ) → j < i → k j ≤ 31) → bit_and any looked_at ≡ five_modes
  columns_tell some eh ek hf hg hh hk =
      let third : x.c ≡ 31 = omega (arith, x.third.most 0 some, x.third.within 5 (λ j l. omega (arith, hh j l))) in
      let fourth : x.d ≡ 31 = omega (arith, x.fourth.most 0 some, x.fourth.within 5 (λ j l. omega (arith, hk j l))) in
      masked ∙ ap₂ (λ (p q : ℕ). word p q x.c x.d) (low x.a (x.first.within 7 hf)) (low x.b (x.second.within 7 hg))
      ∙ ap₂ (λ (p q : ℕ). word 0 0 p q) third fourth
    where
      low : (n : ℕ) → n < 128 → bit_and n 128 ≡ 0
      low n l = eqb-true (bit_and n 128) 0 (high_bit n (omega arith) ∙ lt-ltb n 128 l)
