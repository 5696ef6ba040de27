-- Laws of bytes that are zero, many at a time: no bit is set in them. Assumes nothing.
use Rattle.std.proofs.Common.{◌≡◌, ℕ, zero, suc, ◌+◌, ◌-◌, ◌*◌, ◌<◌, ◌≤◌, Bool, true, false, ◌&&◌, eqb, List, [], ◌∷◌, ◌++◌, length, get_or}
use Rattle.std.proofs.Common.{take, drop, replicate, sym, refl, ap, ◌∙◌, add-one, arith, drop-drop, take-add}
use Rattle.std.proofs.Common.{eq-eqb}
use Rattle.std.proofs.Common.{take-append-drop, take-take, ltb, ltb-true, ltb-false, eqb-true}
use Rattle.std.specs.Int.{w64, from_le_bytes, to_le_bytes}
use Rattle.std.proofs.lemmas.Nat.{le_bytes_8}
use lib.ListN.{get_or-eq_default}
use Rattle.rules.proofs.01-Lists.{same_bytes_is, same_bytes_refl}
use mathlib.Core.Bool.{and_assoc}
use lib.Bits.{bit_or}
use Rattle.rules.specs.01-Lists.{same_bytes}
use Rattle.name_fields.specs.Field.{blank_field}
use Rattle.name_fields.proofs.FieldLaws.{or_zero}
use Rattle.rows.specs.Rows.{part, blank_eights, NoBit}
use Rattle.rows.specs.Decides.{Decides}
use Rattle.rows.proofs.Rows.{part_byte}
use Rattle.rows.proofs.Scan.{length_part, zeros_blank}

-- ---- bits

and_swap : (s t u v : Bool) → ((s && t) && (u && v)) ≡ ((s && u) && (t && v))
and_swap true t true v = refl
and_swap true true false v = refl
and_swap true false false v = refl
and_swap false t u v = refl

no_bit_both : {t u : Bool} {x y : ℕ} → NoBit t x → NoBit u y → NoBit (t && u) (bit_or x y)
no_bit_both {t} {u} {x} {y} p q = record { is = or_zero x y ∙ ap (λ (v : Bool). v && eqb y 0) p.is ∙ ap (λ (v : Bool). t && v) q.is }

-- what is known of x and y together, and of v and w
no_bit_crossed : {t u : Bool} (x y v w : ℕ) → NoBit t (bit_or x y) → NoBit u (bit_or v w) → NoBit (t && u) (bit_or (bit_or x v) (bit_or y w))
no_bit_crossed x y v w p q = record { is = crossed ∙ (no_bit_both p q).is }
  where
    crossed : eqb (bit_or (bit_or x v) (bit_or y w)) 0 ≡ eqb (bit_or (bit_or x y) (bit_or v w)) 0
    crossed =
        rw (or_zero (bit_or x v) (bit_or y w), or_zero x v, or_zero y w, or_zero (bit_or x y) (bit_or v w), or_zero x y, or_zero v w)
        (and_swap (eqb x 0) (eqb v 0) (eqb y 0) (eqb w 0))

-- ---- parts

blank_append : (l m : List ℕ) → blank_field (l ++ m) ≡ (blank_field l && blank_field m)
unfolding blank_field same_bytes
blank_append [] m = refl
blank_append (c ∷ l) m = ap (λ (t : Bool). eqb 0 c && t) (blank_append l m) ∙ sym (and_assoc (eqb 0 c) (blank_field l) (blank_field m))

module _ (b : List ℕ) where
  -- a part, and what stands behind it
  blank_split : (at n m : ℕ) → blank_field (part b at (n + m)) ≡ (blank_field (part b at n) && blank_field (part b (at + n) m))
  blank_split at n m =
      ap blank_field (take-add n m (drop at b) ∙ ap (λ (l : List ℕ). take n (drop at b) ++ take m l) (drop-drop n at b))
      ∙ blank_append (part b at n) (part b (at + n) m)

  -- ---- eight bytes

  pub eight_blank : (at : ℕ) {r : ℕ} → ((i : ℕ) → get_or b i 0 < 256) → at + 8 ≤ length b → r ≡ from_le_bytes w64 (part b at 8)
      → NoBit (blank_field (part b at 8)) r
  unfolding blank_field
  eight_blank at {r} s h e = record { is = go (eqb r 0) refl (same_bytes (replicate 8 0) l) refl ∙ rw long refl }
    where
      l : List ℕ
      l = part b at 8

      long : length l ≡ 8
      long = length_part b at 8 h

      back : to_le_bytes w64 r ≡ l
      back = le_bytes_8 l r long (λ i. small_at i (ltb i 8) refl) e
        where
          small_at : (i : ℕ) (t : Bool) → ltb i 8 ≡ t → get_or l i 0 < 256
          small_at i true q = rw (part_byte b at 8 i (ltb-true i 8 q)) (s (at + i))
          small_at i false q = rw (get_or-eq_default l 0 {n = i} (omega (arith, ltb-false i 8 q, long))) (omega arith)

      go : (t : Bool) → eqb r 0 ≡ t → (u : Bool) → same_bytes (replicate 8 0) l ≡ u → t ≡ u
      go true p true q = refl
      go true p false q =
          let zeros : l ≡ replicate 8 0 = sym back ∙ ap (to_le_bytes w64) (eqb-true r 0 p) in
          sym (sym q ∙ rw zeros (same_bytes_refl (replicate 8 0)))
      go false p true q =
          let none : r ≡ 0 = e ∙ ap (from_le_bytes w64) (sym (same_bytes_is (replicate 8 0) l q)) in
          sym p ∙ eq-eqb r 0 none
      go false p false q = refl

  -- ---- eight bytes in every sixteen

  module _ (at : ℕ) where
    pub eights_none : NoBit (blank_eights b at 0) 0
    unfolding blank_eights
    eights_none = record { is = refl }

    pub eights_more : (n : ℕ) {x y : ℕ} → NoBit (blank_eights b at n) x → NoBit (blank_field (part b (at + n * 16) 8)) y
        → NoBit (blank_eights b at (n + 1)) (bit_or x y)
    unfolding blank_eights
    eights_more n p q = rw (add-one n) (no_bit_both p q)

    -- these and those between them are all
    eights_all : (n : ℕ) → (blank_eights b at n && blank_eights b (at + 8) n) ≡ blank_field (part b at (n * 16))
    unfolding blank_eights blank_field same_bytes
    eights_all zero = refl
    eights_all (suc n) =
        let next : ℕ = at + n * 16 in
        let between : at + 8 + n * 16 ≡ next + 8 = omega arith in
        let more : n * 16 + 16 ≡ suc n * 16 = omega arith in
        and_swap (blank_eights b at n) (blank_field (part b next 8)) (blank_eights b (at + 8) n) (blank_field (part b (at + 8 + n * 16) 8))
        ∙ ap (λ (t : Bool). t && (blank_field (part b next 8) && blank_field (part b (at + 8 + n * 16) 8))) (eights_all n)
        ∙ ap (λ (k : ℕ). blank_field (part b at (n * 16)) && (blank_field (part b next 8) && blank_field (part b k 8))) between
        ∙ ap (λ (t : Bool). blank_field (part b at (n * 16)) && t) (sym (blank_split next 8 8))
        ∙ sym (blank_split at (n * 16) 16)
        ∙ ap (λ (k : ℕ). blank_field (part b at k)) more

-- ---- 128 bytes at a time: what is passed and what is left

pub passed_none : (l : List ℕ) → NoBit (blank_field (take (0 * 128) l)) 0
unfolding blank_field same_bytes
passed_none l = record { is = refl }

pub passed_more : (l : List ℕ) (k even odd : ℕ) (block : List ℕ) {x y : ℕ} → block ≡ part l (k * 128) 128
    → NoBit (blank_field (take (k * 128) l)) (bit_or even odd) → NoBit (blank_eights block 0 8) x → NoBit (blank_eights block 8 8) y
    → NoBit (blank_field (take ((k + 1) * 128) l)) (bit_or (bit_or even x) (bit_or odd y))
passed_more l k even odd block {x} {y} is p q r =
    let long : (k + 1) * 128 ≡ k * 128 + 128 = omega arith in
    let whole : part block 0 128 ≡ part l (k * 128) 128 = ap (take 128) is ∙ take-take 128 128 (drop (k * 128) l) (omega arith) in
    let here : blank_field (part l (k * 128) 128) ≡ (blank_eights block 0 8 && blank_eights block 8 8)
    = sym (eights_all block 0 8 ∙ ap blank_field whole) in
    let both : blank_field (take ((k + 1) * 128) l) ≡ (blank_field (take (k * 128) l) && (blank_eights block 0 8 && blank_eights block 8 8))
    = ap (λ (n : ℕ). blank_field (take n l)) long ∙ ap blank_field (take-add (k * 128) 128 l)
    ∙ blank_append (take (k * 128) l) (part l (k * 128) 128) ∙ ap (λ (t : Bool). blank_field (take (k * 128) l) && t) here in
    rw both (no_bit_crossed even odd x y p (no_bit_both q r))

-- no bit was met, and what is left is zero
pub passed_tells : (l : List ℕ) (n bits : ℕ) → NoBit (blank_field (take n l)) bits → blank_field l ≡ (eqb bits 0 && blank_field (drop n l))
passed_tells l n bits p =
    ap blank_field (sym (take-append-drop n l)) ∙ blank_append (take n l) (drop n l) ∙ ap (λ (t : Bool). t && blank_field (drop n l)) (sym p.is)

pub zeros_told : (b : List ℕ) (from to n bits : ℕ) (r : Bool) → (from ≤ to) × (to ≤ length b)
    → NoBit (blank_field (take n (part b from (to - from)))) bits → r ≡ (eqb bits 0 && blank_field (drop n (part b from (to - from))))
    → Decides (part b from (to - from) ≡ replicate (to - from) 0) r
zeros_told b from to n bits r h p e = zeros_blank b from to r h.0 h.1 (e ∙ sym (passed_tells (part b from (to - from)) n bits p))
