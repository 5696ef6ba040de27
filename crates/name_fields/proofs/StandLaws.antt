-- Which bytes can stand in a field, one by one and behind each other. Assumes nothing.
use Rattle.std.proofs.Common.{◌≡◌, ℕ, zero, suc, ◌+◌, ◌-◌, ◌%◌, ◌<◌, ◌≤◌, Bool, true, false, cond, not, ◌&&◌, ◌||◌, eqb, ltb, List, [], ◌∷◌}
use Rattle.std.proofs.Common.{min, length, get_or, take, drop, set, sym, refl, ap, ◌∙◌, ap₂, arith, drop-cons, ltb-false, ltb-true, ne_eqb, eqb-true}
use mathlib.Core.Bool.{and-true, and-false, and_assoc, false≢true}
use lib.Dec.{eqb-zero-suc, eqb-suc-zero}
use lib.Bits.{bit_or, bit_xor}
use borrow.Author.Tests.{lt-leb}
use Rattle.rules.specs.01-Lists.{same_bytes, all}
use Rattle.rules.specs.03-Names.{letter, letter_or_digit}
use Rattle.rules.proofs.Bools.{and_both, eqb_turned}
use Rattle.names.proofs.Laws.{agree}
use Rattle.name_fields.specs.Field.{blank_field, field_byte, may_stand, orderly, standing}
use Rattle.name_fields.proofs.FieldLaws.{or_zero, zero_no_word, word_filled}

-- ---- one byte

-- how far a byte is from the letters and the digits, zero and the underscore
abbrev distance : ℕ → ℕ
distance c = min (min ((bit_or c 32 + 159) % 256 - 25) ((c + 208) % 256 - 9)) (min c (bit_xor c 95))

-- all 256 bytes, by computation
near : (c : ℕ) → c < 256 → eqb (distance c) 0 ≡ field_byte c
unfolding letter_or_digit letter
near c h = agree (λ (c : ℕ). eqb (distance c) 0) field_byte refl c h

pub strange : (c : ℕ) {a d x y r : ℕ} → c < 256 → a ≡ (bit_or c 32 + 159) % 256 - 25 → d ≡ (c + 208) % 256 - 9
    → x ≡ min a d → y ≡ min c (bit_xor c 95) → r ≡ min x y → eqb r 0 ≡ field_byte c
strange c h ea ed ex ey er = ap (λ (k : ℕ). eqb k 0) (er ∙ ap₂ min (ex ∙ ap₂ min ea ed) ey) ∙ near c h

-- none of them is 128 or more
pub past_words : (c : ℕ) → 128 ≤ c → letter_or_digit c ≡ false
unfolding letter_or_digit letter
past_words c h =
    simp (lt-leb c 90 (omega arith), lt-leb c 122 (omega arith), lt-leb c 57 (omega arith), ne_eqb c 95 (λ e. omega arith), and-false)

pub byte_low : (c : ℕ) → field_byte c ≡ true → c < 128
byte_low c e = go (ltb c 128) refl
  where
    go : (t : Bool) → ltb c 128 ≡ t → c < 128
    go true f = ltb-true c 128 f
    go false f =
        let far = ltb-false c 128 f in
        absurd (false≢true (sym (rw (past_words c far, ne_eqb c 0 (λ z. omega arith))) ∙ e))

-- ---- one behind the other

-- two bytes of which the one is 0 where c can stand, and the other where it may stand behind `last`
pub both_fine : (last c s z : ℕ) → eqb s 0 ≡ field_byte c → z ≡ cond (eqb last 0) c 0 → eqb (bit_or s z) 0 ≡ may_stand last c
both_fine last c s z es ez = or_zero s z ∙ ap₂ ◌&&◌ es (ap (λ (k : ℕ). eqb k 0) ez ∙ go (eqb last 0))
  where
    go : (t : Bool) → eqb (cond t c 0) 0 ≡ (not t || eqb c 0)
    go true = refl
    go false = refl

module _ (b : List ℕ) (at i : ℕ) where
  -- what is left to look at
  abbrev pub left : Bool
  left = standing (get_or b (at + i) 0) (take (16 - i) (drop (at + i + 1) b))

stand_more : (b : List ℕ) (at i : ℕ) (t : Bool) → at + 17 ≤ length b → i < 16
    → (t && left b at i) ≡ ((t && may_stand (get_or b (at + i) 0) (get_or b (at + i + 1) 0)) && left b at (i + 1))
unfolding standing
stand_more b at i t h k =
    let fine = may_stand (get_or b (at + i) 0) (get_or b (at + i + 1) 0) in
    let rest : ℕ = 16 - (i + 1) in
    let more : 16 - i ≡ suc rest = omega arith in
    let on : suc (at + i + 1) ≡ at + (i + 1) + 1 = omega arith in
    let same : at + i + 1 ≡ at + (i + 1) = omega arith in
    ap (λ (u : Bool). t && u) (rw (more, drop-cons b (at + i + 1) 0 (omega arith), on))
    ∙ sym (and_assoc t fine (standing (get_or b (at + i + 1) 0) (take rest (drop (at + (i + 1) + 1) b))))
    ∙ ap (λ (k : ℕ). (t && fine) && standing (get_or b k 0) (take rest (drop (at + (i + 1) + 1) b))) same

pub stand_end : (b : List ℕ) (at i : ℕ) (t : Bool) → 16 ≤ i → (t && left b at i) ≡ t
unfolding standing
stand_end b at i t h =
    let none : 16 - i ≡ 0 = omega arith in
    rw (none) (and-true t)

-- a fault is added to one of the faults
fault_set : (l : List ℕ) (i x : ℕ) → i < length l → blank_field (set l i (bit_or (get_or l i 0) x)) ≡ (blank_field l && eqb x 0)
unfolding blank_field same_bytes
fault_set [] i x h = absurd (omega arith)
fault_set (y ∷ l) zero x h = rw (eqb_turned 0 (bit_or y x), or_zero y x, eqb_turned 0 y) (go (eqb y 0) (eqb x 0) (blank_field l))
  where
    go : (t u v : Bool) → ((t && u) && v) ≡ ((t && v) && u)
    go true true v = sym (and-true v)
    go true false v = sym (and-false v)
    go false u v = refl
fault_set (y ∷ l) (suc i) x h = ap (λ (t : Bool). eqb 0 y && t) (fault_set l i x (omega arith)) ∙ sym (and_assoc (eqb 0 y) (blank_field l) (eqb x 0))

pub gather_more : (b l : List ℕ) (at i x : ℕ) → at + 17 ≤ length b → length l ≡ 16 → i < 16
    → eqb x 0 ≡ may_stand (get_or b (at + i) 0) (get_or b (at + i + 1) 0)
    → (blank_field l && left b at i) ≡ (blank_field (set l i (bit_or (get_or l i 0) x)) && left b at (i + 1))
gather_more b l at i x h long k e =
    stand_more b at i (blank_field l) h k
    ∙ ap (λ (t : Bool). t && left b at (i + 1)) (ap (λ (t : Bool). blank_field l && t) (sym e) ∙ sym (fault_set l i x (omega arith)))

-- ---- what stands so is a name that need not begin with a letter, or none

stand_zero : (l : List ℕ) → standing 0 l ≡ blank_field l
unfolding standing blank_field same_bytes
stand_zero [] = refl
stand_zero (zero ∷ l) = rw (zero_no_word) (stand_zero l)
stand_zero (suc x ∷ l) = rw (eqb-suc-zero x, eqb-zero-suc x, and-false (letter_or_digit (suc x) || false))

stand_filled : (last : ℕ) (l : List ℕ) → (last ≡ 0 → ⊥) → standing last l ≡ orderly l
unfolding standing orderly blank_field same_bytes
stand_filled last [] n = refl
stand_filled last (c ∷ l) n = go (letter_or_digit c) refl (eqb c 0) refl (stand_filled c l)
  where
    go : (w : Bool) → letter_or_digit c ≡ w → (z : Bool) → eqb c 0 ≡ z → ((c ≡ 0 → ⊥) → standing c l ≡ orderly l)
        → (may_stand last c && standing c l) ≡ cond (letter_or_digit c) (orderly l) (eqb 0 c && blank_field l)
    go true e z f ih = rw (e, ne_eqb last 0 n) (ih (word_filled c e))
    go false e true f ih = rw (e, eqb-true c 0 f, ne_eqb last 0 n) (stand_zero l)
    go false e false f ih = rw (e, f, eqb_turned 0 c, f)

-- a blank field is in order
blank_orderly : (l : List ℕ) → blank_field l ≡ true → orderly l ≡ true
unfolding orderly blank_field same_bytes
blank_orderly [] e = refl
blank_orderly (zero ∷ l) e = rw (zero_no_word) e
blank_orderly (suc x ∷ l) e = absurd (false≢true (sym (rw (eqb-zero-suc x)) ∙ e))

module _ (l : List ℕ) where
  pub standing_orderly : (d : ℕ) → standing d l ≡ true → orderly l ≡ true
  standing_orderly zero e = blank_orderly l (sym (stand_zero l) ∙ e)
  standing_orderly (suc d) e = sym (stand_filled (suc d) l (λ z. omega arith)) ∙ e

  pub orderly_standing : (d : ℕ) → (d ≡ 0 → ⊥) → orderly l ≡ true → standing d l ≡ true
  orderly_standing d n e = stand_filled d l n ∙ e

-- its first byte is one that a field can hold, and where that is zero the field is blank
pub orderly_first : (c : ℕ) (l : List ℕ) → orderly (c ∷ l) ≡ true → field_byte c ≡ true
unfolding orderly blank_field same_bytes
orderly_first c l e = go (letter_or_digit c) refl
  where
    go : (w : Bool) → letter_or_digit c ≡ w → field_byte c ≡ true
    go true f = rw f
    go false f = rw (f, eqb_turned c 0) (and_both (eqb 0 c) (blank_field l) (rw f at e)).0

pub orderly_blank : (c : ℕ) (l : List ℕ) → c ≡ 0 → orderly (c ∷ l) ≡ true → blank_field (c ∷ l) ≡ true
unfolding orderly
orderly_blank c l z e = rw (ap letter_or_digit z ∙ zero_no_word) at e

-- so is each other
blank_bytes : (l : List ℕ) → blank_field l ≡ true → all field_byte l ≡ true
unfolding blank_field same_bytes all
blank_bytes [] e = refl
blank_bytes (zero ∷ l) e = rw (zero_no_word) (blank_bytes l e)
blank_bytes (suc x ∷ l) e = absurd (false≢true (sym (rw (eqb-zero-suc x)) ∙ e))

pub orderly_bytes : (l : List ℕ) → orderly l ≡ true → all field_byte l ≡ true
unfolding orderly all
orderly_bytes [] e = refl
orderly_bytes (c ∷ l) e = go (letter_or_digit c) refl (orderly_bytes l)
  where
    go : (w : Bool) → letter_or_digit c ≡ w → (orderly l ≡ true → all field_byte l ≡ true) → all field_byte (c ∷ l) ≡ true
    go true f ih = rw f (ih (rw f at e))
    go false f ih = blank_bytes (c ∷ l) (rw f at e)
