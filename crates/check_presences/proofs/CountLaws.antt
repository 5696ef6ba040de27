-- Laws of how many bits words have: one bit more, and one word more. Assumes nothing.
use Prim.Native.Nat.{ℕ, zero, suc, ◌+◌, ◌*◌, ◌/◌, ◌%◌, ◌^◌, ◌<◌, max}
use native.Mathlib.Nat.{max-eq_right, mod-lt}
use native.Mathlib.Omega.{arith}
use mathlib.Core.Path.{◌≡◌, refl, sym, ap, ◌∙◌}
use mathlib.Core.List.{List, [], ◌∷◌, ◌++◌}
use mathlib.Core.Bool.{cond}
use lib.Bits.{bit_or, or_zero_r, or_step, or_block}
use lib.Count.{ones, ones_step, ones_cat}
use lib.Dec.{eqb, lit<}
use lib.ListN.{length, get_or, take, set, replicate}
use lib.Pow.{pow_pos, split, shl_exact}
use lib.Seq.{take-add}
use Rattle.type_set.specs.Set.{bit}
use Rattle.rows.specs.Rows.{part}
use Rattle.rows.proofs.Scan.{part_cons}
use Rattle.check_held.specs.Held.{marked}
use Rattle.check_presences.specs.Gathered.{bits_in}

-- words of 0 have none
pub bits_none : (n : ℕ) → bits_in (replicate {A = ℕ} n 0) ≡ 0
unfolding bits_in ones
bits_none zero = refl
bits_none (suc n) = omega (arith, bits_none n)

-- ---- one bit more

-- the lowest bit of a word set
ones_low : (w : ℕ) → ones (bit_or w 1) ≡ ones w + cond (eqb (w % 2) 1) 0 1
unfolding ones
ones_low w =
    let top : max (w % 2) 1 ≡ 1 = max-eq_right (omega arith) in
    let odd : bit_or w 1 ≡ w / 2 * 2 ^ 1 + 1 = or_step w 1 ∙ rw (or_zero_r (w / 2), top) in
    ap ones odd ∙ ones_cat 1 (w / 2) 1 (lit< tt) ∙ go (w % 2) (mod-lt w (lit< tt)) (ones_step w)
  where
    go : (d : ℕ) → d < 2 → ones w ≡ d + ones (w / 2) → ones (w / 2) + 1 ≡ ones w + cond (eqb d 1) 0 1
    go zero h e = omega arith
    go (suc zero) h e = omega arith
    go (suc (suc d)) h e = absurd (omega arith)

-- any bit, which is the lowest of what is left without those below it
ones_marked : (w d : ℕ) → d < 16 → ones (bit_or w (1 * 2 ^ d % 2 ^ 16)) ≡ ones w + cond (bit w d) 0 1
unfolding bit
ones_marked w d h =
    let high = w / 2 ^ d in
    let low = w % 2 ^ d in
    let small = mod-lt w (pow_pos d) in
    let mark : 1 * 2 ^ d % 2 ^ 16 ≡ 1 * 2 ^ d + 0 = shl_exact 1 d 16 (lit< tt) (omega arith) ∙ omega arith in
    let more : bit_or w (1 * 2 ^ d % 2 ^ 16) ≡ bit_or high 1 * 2 ^ d + low
    = rw mark (ap (λ (x : ℕ). bit_or x (1 * 2 ^ d + 0)) (sym (split w d)) ∙ or_block d high 1 low 0 small (pow_pos d) ∙ rw (or_zero_r low)) in
    let whole : ones w ≡ ones high + ones low = ap ones (sym (split w d)) ∙ ones_cat d high low small in
    ap ones more ∙ ones_cat d (bit_or high 1) low small ∙ omega (arith, ones_low high)

-- one word of many replaced
bits_set : (l : List ℕ) (t w : ℕ) → t < length l → bits_in (set l t w) + ones (get_or l t 0) ≡ bits_in l + ones w
unfolding bits_in
bits_set [] t w h = absurd (omega arith)
bits_set (x ∷ l) zero w h = omega arith
bits_set (x ∷ l) (suc t) w h = omega (arith, bits_set l t w (omega arith))

-- a bit more, or one that was there
pub bits_marked : (held : List ℕ) (t d : ℕ) → t < length held → d < 16
    → bits_in (marked held t d) ≡ bits_in held + cond (bit (get_or held t 0) d) 0 1
bits_marked held t d h k =
    let w = get_or held t 0 in
    omega (arith, bits_set held t (bit_or w (1 * 2 ^ d % 2 ^ 16)) h, ones_marked w d k)

-- ---- one word more

bits_append : (l m : List ℕ) → bits_in (l ++ m) ≡ bits_in l + bits_in m
unfolding bits_in
bits_append [] m = omega arith
bits_append (w ∷ l) m = omega (arith, bits_append l m)

pub bits_more : (l : List ℕ) (k : ℕ) → k < length l → bits_in (take (k + 1) l) ≡ bits_in (take k l) + ones (get_or l k 0)
unfolding bits_in
bits_more l k h =
    ap bits_in (take-add k 1 l) ∙ bits_append (take k l) (part l k 1) ∙ rw (part_cons l k 1 0 (omega arith) refl) (omega arith)
