-- What the first half of a field tells of it, where the field holds letters, digits and underscores, and zeros behind them. Assumes nothing.
use Prim.Native.Nat.{ℕ, ◌+◌, ◌*◌, ◌≤◌, ◌<◌}
use native.Mathlib.Omega.{arith}
use mathlib.Core.Path.{◌≡◌, refl, sym, ap, ◌∙◌}
use mathlib.Core.List.{List, ◌∷◌}
use mathlib.Core.Bool.{Bool, true, false, not, ◌&&◌, and-true}
use lib.Dec.{eqb, ltb}
use lib.ListN.{length, get_or, take, drop, replicate, length-map, length-replicate, get_or-replicate}
use lib.Seq.{take-take}
use borrow.Author.Tests.{ltb-true, ltb-false, eqb-true, eq-eqb}
use Rattle.rules.specs.02-Limits.{limits}
use Rattle.rules.specs.03-Names.{letter, letter_or_digit}
use Rattle.rules.specs.07-Picture.{base_length}
use Rattle.rules.specs.Read.{name_offset, type_offset}
use Rattle.rules.proofs.Bools.{fails}
use Rattle.rules.proofs.01-Lists.{same_bytes_is}
use Rattle.names.proofs.Laws.{agree}
use Rattle.name_fields.specs.Field.{name_field, blank_field, field_byte}
use Rattle.name_fields.proofs.FieldLaws.{named}
use Rattle.name_fields.proofs.StandLaws.{orderly_first, orderly_blank, orderly_bytes}
use Rattle.rows.specs.Rows.{part}
use Rattle.rows.specs.Order.{fold, folded, number, Small, LowName}
use Rattle.rows.proofs.FoldLaws.{low_name}
use Rattle.rows.proofs.OrderLaws.{number_less, number_least, half_small, small_rest}
use Rattle.rows.proofs.Scan.{part_cons, length_part}
use Rattle.base.specs.Rows.{presence_at}
use Rattle.check_presences.specs.Rows.{tag}
use Rattle.check_presences.specs.Fields.{FieldFine, first_half}
use Rattle.check_presences.proofs.OrderLaws.{equal}

-- of the bytes that a field can hold letters alone are folded to 66 or more, and zero alone to 1: all 256, by computation
module _ (c : ℕ) (h : c < 256) (f : field_byte c ≡ true) where
  letter_folded : ltb (fold c) 66 ≡ not (letter c)
  unfolding fold letter_or_digit letter
  letter_folded = rw f at (agree (λ (c : ℕ). field_byte c && ltb (fold c) 66) (λ (c : ℕ). field_byte c && not (letter c)) refl c h)

  zero_folded : eqb (fold c) 1 ≡ eqb c 0
  unfolding fold letter_or_digit letter
  zero_folded = rw f at (agree (λ (c : ℕ). field_byte c && eqb (fold c) 1) (λ (c : ℕ). field_byte c && eqb c 0) refl c h)

pub same_small : (n x : ℕ) → x < 256 → Small (replicate n x)
same_small n x h i k = rw (get_or-replicate {A = ℕ} n i x 0 (omega (arith, k, length-replicate {A = ℕ} n x))) h

-- its bytes can be read less their case
pub field_low : (b : List ℕ) (i : ℕ) → length b ≡ base_length → i < limits.presences → FieldFine b i → LowName b (presence_at i)
field_low b i long h fine = low_name b (presence_at i) (omega arith) (orderly_bytes (part b (presence_at i + name_offset) limits.name) fine)

module _ (b : List ℕ) (long : length b ≡ base_length) (bytes : (k : ℕ) → get_or b k 0 < 256) (i : ℕ) (h : i < limits.presences) (fine : FieldFine b i) where
  abbrev at : ℕ
  at = presence_at i + name_offset

  abbrev field : List ℕ
  field = part b at limits.name

  abbrev first : ℕ
  first = get_or b at 0

  abbrev rest : List ℕ
  rest = folded (part b (at + 1) 7)

  field_cons : field ≡ first ∷ part b (at + 1) 15
  field_cons = part_cons b at 16 15 (omega arith) refl

  field_first : field_byte first ≡ true
  field_first = orderly_first first (part b (at + 1) 15) (rw field_cons at fine)

  half_is : first_half b i ≡ number (fold first) rest
  unfolding number
  half_is =
      let same : 0 * 256 + fold first ≡ fold first = omega arith in
      ap (λ (l : List ℕ). number 0 (folded l)) (part_cons b at 8 7 (omega arith) refl) ∙ ap (λ (x : ℕ). number x rest) same

  rest_long : length rest ≡ 7
  rest_long = length-map (part b (at + 1) 7) fold ∙ length_part b (at + 1) 7 (omega arith)

  rest_small : Small rest
  rest_small = small_rest (fold first) rest (rw (part_cons b at 8 7 (omega arith) refl) at (half_small b at bytes (omega arith)))

  -- ---- a name

  name_tested : name_field field ≡ letter first
  name_tested =
      named field (length_part b at 16 (omega arith))
      ∙ rw fine (and-true (letter (get_or field 0 0)))
      ∙ ap (λ (l : List ℕ). letter (get_or l 0 0)) field_cons

  tested : ltb (fold first) 66 ≡ not (name_field field)
  tested = letter_folded first (bytes at) field_first ∙ ap not (sym name_tested)

  pub letter_named : 0x4200000000000000 ≤ first_half b i → name_field field ≡ true
  unfolding number
  letter_named l = go (name_field field) refl
    where
      go : (t : Bool) → name_field field ≡ t → t ≡ true
      go true e = refl
      go false e =
          let less = number_less rest (replicate 7 0) (fold first) 66 rest_long rest_small (same_small 7 0 (omega arith)) (ltb-true (fold first) 66 (tested ∙ ap not e)) in
          absurd (omega (arith, half_is))

  pub named_letter : name_field field ≡ true → 0x4200000000000000 ≤ first_half b i
  unfolding number
  named_letter e =
      let least = number_least rest 66 (fold first) (ltb-false (fold first) 66 (tested ∙ ap not e)) in
      omega (arith, half_is, ap (λ (n : ℕ). number 66 (replicate n 0)) rest_long)

  -- ---- none

  blank_zeros : blank_field field ≡ true → replicate 16 0 ≡ field
  unfolding blank_field
  blank_zeros e = same_bytes_is (replicate 16 0) field (rw (length_part b at 16 (omega arith)) at e)

  pub zeros_half : field ≡ replicate 16 0 → first_half b i ≡ 0x0101010101010101
  unfolding number fold
  zeros_half z = ap (λ (l : List ℕ). number 0 (folded l)) (sym (take-take 8 16 (drop at b) (omega arith)) ∙ ap (take 8) z)

  half_blank : first_half b i ≡ 0x0101010101010101 → blank_field field ≡ true
  unfolding number
  half_blank e =
      let one : fold first ≡ 1
      = equal (fold first) 1
      (λ l. omega (arith, half_is, number_less rest (replicate 7 1) (fold first) 1 rest_long rest_small (same_small 7 1 (omega arith)) l))
      (λ l. omega (arith, half_is, number_less (replicate 7 1) rest 1 (fold first) (sym rest_long) (same_small 7 1 (omega arith)) rest_small l)) in
      let zero : first ≡ 0 = eqb-true first 0 (sym (zero_folded first (bytes at) field_first) ∙ eq-eqb (fold first) 1 one) in
      rw field_cons (orderly_blank first (part b (at + 1) 15) zero (rw field_cons at fine))

  pub half_zeros : first_half b i ≡ 0x0101010101010101 → field ≡ replicate 16 0
  half_zeros e = sym (blank_zeros (half_blank e))

  -- ---- what tells nameless rows apart

  pub blank_tag : first_half b i ≡ 0x0101010101010101 → tag b i ≡ get_or b (presence_at i + type_offset) 0
  blank_tag e = rw (half_blank e)

  pub named_tag : (first_half b i ≡ 0x0101010101010101 → ⊥) → tag b i ≡ 0
  named_tag n = rw (fails (blank_field field) (λ e. n (zeros_half (sym (blank_zeros e)))))
