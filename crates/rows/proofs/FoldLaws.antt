-- Eight bytes of a number folded at once: none carries into the next, so that each is by itself. Of names the folded bytes stand as the
-- lowered ones do. Assumes nothing.
use Rattle.std.proofs.Common.{◌≡◌, ℕ, zero, suc, ◌+◌, ◌*◌, ◌%◌, ◌^◌, ◌<◌, ◌≤◌, Bool, true, false, not, ◌&&◌, ◌||◌, eqb, ltb, leb}
use Rattle.std.proofs.Common.{List, [], ◌∷◌, ◌++◌, length, get_or, take, replicate, sym, refl, ap, ◌∙◌, subst, true≢false, arith}
use Rattle.std.proofs.Common.{take_all, ltb-false, ltb-true, lt-ltb, eq-eqb, ne_eqb, eqb-true, leb-true}
use mathlib.Core.List.{map-append}
use mathlib.Core.Bool.{and_assoc}
use lib.Bits.{bit_and, and_block, and_mask}
use Rattle.rules.specs.01-Lists.{same_bytes, bytes_before, all}
use Rattle.rules.specs.03-Names.{Name, blank, letter, letter_or_digit, well_formed, lower, lowered, same_name}
use Rattle.rules.specs.07-Picture.{pad}
use Rattle.rules.proofs.Bools.{or_left, and_both, and_of, same_test}
use Rattle.rules.proofs.03-Names.{same_is, apart, pad_apart, name_fits, name_letters}
use Rattle.names.proofs.Laws.{every, every_at}
use Rattle.name_fields.specs.Field.{field_byte}
use Rattle.name_fields.proofs.StandLaws.{past_words, byte_low}
use Rattle.rows.specs.Rows.{part}
use Rattle.rows.specs.Order.{fold, folded, number, Low, LowName, Folded, NameBytes}
use Rattle.rows.proofs.Rows.{part_byte, part_part}
use Rattle.rows.proofs.Scan.{length_part}
use Rattle.rows.proofs.OrderLaws.{number_same, part_append, half_long, half_small}

-- ---- all bytes of a number

-- as many bytes that are all c, behind x
abbrev all_bytes : ℕ → ℕ → List ℕ → ℕ
all_bytes x c l = number x (replicate (length l) c)

low_rest : (c : ℕ) (l : List ℕ) → Low (c ∷ l) → Low l
low_rest c l s i h = s (suc i) (omega arith)

fold_low : (c : ℕ) → c < 128 → fold c ≡ bit_and (c + 1) 95
unfolding fold
fold_low c h =
    let same : bit_and c 127 ≡ c = and_mask c 7 ∙ omega arith in
    ap (λ (k : ℕ). bit_and (k + 1) 95) same

-- one byte more
fold_block : (x c one mask : ℕ) → c < 128 → bit_and (x * 256 + c + (one * 256 + 1)) (mask * 256 + 95) ≡ bit_and (x + one) mask * 256 + fold c
fold_block x c one mask h =
    let sum : x * 256 + c + (one * 256 + 1) ≡ (x + one) * 256 + (c + 1) = omega arith in
    ap (λ (t : ℕ). bit_and t (mask * 256 + 95)) sum
    ∙ and_block 8 (x + one) mask (c + 1) 95 (omega arith) (omega arith)
    ∙ ap (λ (t : ℕ). bit_and (x + one) mask * 256 + t) (sym (fold_low c h))

fold_number : (l : List ℕ) (x one mask : ℕ) → Low l
    → bit_and (number x l + all_bytes one 1 l) (all_bytes mask 95 l) ≡ number (bit_and (x + one) mask) (folded l)
unfolding number
fold_number [] x one mask s = refl
fold_number (c ∷ l) x one mask s =
    fold_number l (x * 256 + c) (one * 256 + 1) (mask * 256 + 95) (low_rest c l s)
    ∙ ap (λ (z : ℕ). number z (folded l)) (fold_block x c one mask (s 0 (omega arith)))

-- eight bytes below 128, and one more in each, are no more than eight bytes
sum_fits : (l : List ℕ) (x one y : ℕ) → Low l → x + one < y → number x l + all_bytes one 1 l < number y (replicate (length l) 0)
unfolding number
sum_fits [] x one y s h = h
sum_fits (c ∷ l) x one y s h =
    let low = s 0 (omega arith) in
    sum_fits l (x * 256 + c) (one * 256 + 1) (y * 256 + 0) (low_rest c l s) (omega arith)

pub folded_word : (w r : ℕ) → r ≡ (w + 0x0101010101010101) % 2 ^ 64 → Folded w (bit_and r 0x5f5f5f5f5f5f5f5f)
unfolding number
folded_word w r is = record {
  bytes = λ l e s h.
      let fits : w + 0x0101010101010101 < 2 ^ 64 = rw h (rw e at (sum_fits l 0 0 1 s (omega arith))) in
      let sum : r ≡ number 0 l + 0x0101010101010101 = is ∙ omega arith in
      ap (λ (t : ℕ). bit_and t 0x5f5f5f5f5f5f5f5f) sum ∙ rw e at (fold_number l 0 0 0 s);
}

-- ---- the bytes of names

abbrev in_step : ℕ → Bool
in_step c = not (letter_or_digit c) || (eqb (fold c + 31) (lower c) && leb 48 (lower c))

-- all 256 bytes, by computation
every_in_step : every in_step 256 ≡ true
unfolding fold lower letter_or_digit letter
every_in_step = refl

low_bytes : (l : List ℕ) → all field_byte l ≡ true → Low l
unfolding all
low_bytes [] e i h = absurd (omega arith)
low_bytes (c ∷ l) e zero h = byte_low c (and_both (field_byte c) (all field_byte l) e).0
low_bytes (c ∷ l) e (suc i) h = low_bytes l (and_both (field_byte c) (all field_byte l) e).1 i (omega arith)

-- and so are some of them
pub low_part : (f : List ℕ) (at n : ℕ) → all field_byte f ≡ true → at + n ≤ length f → Low (part f at n)
low_part f at n e h i k =
    let below : i < n = omega (arith, k, length_part f at n h) in
    rw (part_byte f at n i below) (low_bytes f e (at + i) (omega arith))

-- both halves of a name behind the byte at `at`
pub low_name : (b : List ℕ) (at : ℕ) → at + 17 ≤ length b → all field_byte (part b (at + 1) 16) ≡ true → LowName b at
low_name b at h e =
    let long = length_part b (at + 1) 16 (omega arith) in
    let far : at + 1 + 8 ≡ at + 9 = omega arith in
    let near : at + 1 + 0 ≡ at + 1 = omega arith in record {
      first = subst (λ (k : ℕ). Low (part b k 8)) near (subst Low (part_part b (at + 1) 16 0 8 (omega arith)) (low_part (part b (at + 1) 16) 0 8 e (omega arith)));
      second = subst (λ (k : ℕ). Low (part b k 8)) far (subst Low (part_part b (at + 1) 16 8 8 (omega arith)) (low_part (part b (at + 1) 16) 8 8 e (omega arith)));
    }

-- zero, or some way below its lower case
data Folds (c : ℕ) : Type 0 where
  end : fold c ≡ 1 → lower c ≡ 0 → Folds c
  word : fold c + 31 ≡ lower c → 48 ≤ lower c → Folds c

folds : (c : ℕ) → field_byte c ≡ true → Folds c
unfolding fold lower
folds c e = go (ltb c 256) refl (letter_or_digit c) refl
  where
    go : (s : Bool) → ltb c 256 ≡ s → (t : Bool) → letter_or_digit c ≡ t → Folds c
    go s p false q = let zero : c ≡ 0 = eqb-true c 0 (rw q at e) in end (rw zero refl) (rw zero refl)
    go false p true q = absurd (true≢false (sym q ∙ past_words c (omega (arith, ltb-false c 256 p))))
    go true p true q =
        let (f, l) = and_both (eqb (fold c + 31) (lower c)) (leb 48 (lower c)) (rw q at (every_at in_step 256 every_in_step c (ltb-true c 256 p))) in
        word (eqb-true (fold c + 31) (lower c) f) (leb-true 48 (lower c) l)

module _ {c d : ℕ} (x : Folds c) (y : Folds d) where
  less : ltb (fold c) (fold d) ≡ ltb (lower c) (lower d)
  less = same_test (ltb (fold c) (fold d)) (ltb (lower c) (lower d)) (λ e. lt-ltb (lower c) (lower d) (there x y (ltb-true (fold c) (fold d) e)))
      (λ e. lt-ltb (fold c) (fold d) (back x y (ltb-true (lower c) (lower d) e)))
    where
      there : Folds c → Folds d → fold c < fold d → lower c < lower d
      there (end f l) (end g m) h = absurd (omega arith)
      there (end f l) (word g m) h = omega arith
      there (word f l) (end g m) h = absurd (omega arith)
      there (word f l) (word g m) h = omega arith

      back : Folds c → Folds d → lower c < lower d → fold c < fold d
      back (end f l) (end g m) h = absurd (omega arith)
      back (end f l) (word g m) h = omega arith
      back (word f l) (end g m) h = absurd (omega arith)
      back (word f l) (word g m) h = omega arith

  alike : eqb (fold c) (fold d) ≡ eqb (lower c) (lower d)
  alike = same_test (eqb (fold c) (fold d)) (eqb (lower c) (lower d)) (λ e. eq-eqb (lower c) (lower d) (there x y (eqb-true (fold c) (fold d) e)))
      (λ e. eq-eqb (fold c) (fold d) (back x y (eqb-true (lower c) (lower d) e)))
    where
      there : Folds c → Folds d → fold c ≡ fold d → lower c ≡ lower d
      there (end f l) (end g m) h = omega arith
      there (end f l) (word g m) h = absurd (omega arith)
      there (word f l) (end g m) h = absurd (omega arith)
      there (word f l) (word g m) h = omega arith

      back : Folds c → Folds d → lower c ≡ lower d → fold c ≡ fold d
      back (end f l) (end g m) h = omega arith
      back (end f l) (word g m) h = absurd (omega arith)
      back (word f l) (end g m) h = absurd (omega arith)
      back (word f l) (word g m) h = omega arith

pub folded_before : (p q : List ℕ) → all field_byte p ≡ true → all field_byte q ≡ true → bytes_before (folded p) (folded q) ≡ bytes_before (lowered p) (lowered q)
unfolding all bytes_before lowered
folded_before [] [] a b = refl
folded_before [] (d ∷ q) a b = refl
folded_before (c ∷ p) [] a b = refl
folded_before (c ∷ p) (d ∷ q) a b =
    let (x, u) = and_both (field_byte c) (all field_byte p) a in
    let (y, v) = and_both (field_byte d) (all field_byte q) b in
    rw (less (folds c x) (folds d y), alike (folds c x) (folds d y), folded_before p q u v)

folded_same : (p q : List ℕ) → all field_byte p ≡ true → all field_byte q ≡ true → same_bytes (folded p) (folded q) ≡ same_bytes (lowered p) (lowered q)
unfolding all same_bytes lowered
folded_same [] [] a b = refl
folded_same [] (d ∷ q) a b = refl
folded_same (c ∷ p) [] a b = refl
folded_same (c ∷ p) (d ∷ q) a b =
    let (x, u) = and_both (field_byte c) (all field_byte p) a in
    let (y, v) = and_both (field_byte d) (all field_byte q) b in
    rw (alike (folds c x) (folds d y), folded_same p q u v)

-- ---- a name in two halves

same_append : (a b u v : List ℕ) → length a ≡ length b → same_bytes (a ++ u) (b ++ v) ≡ (same_bytes a b && same_bytes u v)
unfolding same_bytes
same_append [] [] u v e = refl
same_append [] (y ∷ b) u v e = absurd (omega arith)
same_append (x ∷ a) [] u v e = absurd (omega arith)
same_append (x ∷ a) (y ∷ b) u v e = rw (same_append a b u v (omega arith)) (sym (and_assoc (eqb x y) (same_bytes a b) (same_bytes u v)))

module _ {a b : List ℕ} (x : NameBytes a) (y : NameBytes b) (s : (i : ℕ) → get_or a i 0 < 256) (t : (i : ℕ) → get_or b i 0 < 256) where
  -- the numbers of eight bytes of each are the same
  abbrev alike_at : ℕ → Bool
  alike_at at = eqb (number 0 (folded (part a at 8))) (number 0 (folded (part b at 8)))

  half_same : (at : ℕ) → at + 8 ≤ 16 → same_bytes (folded (part a at 8)) (folded (part b at 8)) ≡ alike_at at
  half_same at h =
      let in-a : at + 8 ≤ length a = omega (arith, x.long) in
      let in_b : at + 8 ≤ length b = omega (arith, y.long) in
      number_same (folded (part a at 8)) (folded (part b at 8)) (half_long a at s in-a ∙ sym (half_long b at t in_b)) (half_small a at s in-a)
      (half_small b at t in_b)

  halves_same : same_name a b ≡ (alike_at 0 && alike_at 8)
  halves_same =
      same_is a b
      ∙ sym (folded_same a b x.each y.each)
      ∙ (λ i. same_bytes (halves a x.long i) (halves b y.long i))
      ∙ same_append (folded (part a 0 8)) (folded (part b 0 8)) (folded (part a 8 8)) (folded (part b 8 8))
      (half_long a 0 s (omega (arith, x.long)) ∙ sym (half_long b 0 t (omega (arith, y.long))))
      ∙ (λ i. half_same 0 (omega arith) i && half_same 8 (omega arith) i)
    where
      halves : (f : List ℕ) → length f ≡ 16 → folded f ≡ folded (part f 0 8) ++ folded (part f 8 8)
      halves f l =
          ap folded (sym (take_all 16 f (omega arith)) ∙ part_append f 0 8 8 (omega arith)) ∙ map-append fold (part f 0 8) (part f 8 8)

  pub first_half_other : (number 0 (folded (part a 0 8)) ≡ number 0 (folded (part b 0 8)) → ⊥) → same_name a b ≡ false
  first_half_other n = halves_same ∙ rw (ne_eqb (number 0 (folded (part a 0 8))) (number 0 (folded (part b 0 8))) n)

  pub first_half_same : number 0 (folded (part a 0 8)) ≡ number 0 (folded (part b 0 8)) → same_name a b ≡ alike_at 8
  first_half_same e = halves_same ∙ rw (eq-eqb (number 0 (folded (part a 0 8))) (number 0 (folded (part b 0 8))) e)

-- ---- names in fields

zeros_pass : (w j : ℕ) → all field_byte (take w (replicate j 0)) ≡ true
unfolding all letter_or_digit letter
zeros_pass zero j = refl
zeros_pass (suc w) zero = refl
zeros_pass (suc w) (suc j) = zeros_pass w j

padded_pass : (n : Name) (w j : ℕ) → all letter_or_digit n ≡ true → all field_byte (take w (n ++ replicate j 0)) ≡ true
unfolding all
padded_pass [] w j e = zeros_pass w j
padded_pass (c ∷ n) zero j e = refl
padded_pass (c ∷ n) (suc w) j e =
    let (x, rest) = and_both (letter_or_digit c) (all letter_or_digit n) e in
    and_of (field_byte c) (all field_byte (take w (n ++ replicate j 0))) (or_left (letter_or_digit c) (eqb c 0) x) (padded_pass n w j rest)

pub pad_pass : (n : Name) → all letter_or_digit n ≡ true → all field_byte (pad 16 n) ≡ true
unfolding pad
pad_pass n e = padded_pass n 16 16 e

-- folded, one field is before another where the names are apart
pub pad_folded : (n m : Name) → blank n || well_formed n ≡ true → blank m || well_formed m ≡ true
    → bytes_before (folded (pad 16 n)) (folded (pad 16 m)) ≡ apart n m
pad_folded n m f g =
    folded_before (pad 16 n) (pad 16 m) (pad_pass n (name_letters n f)) (pad_pass m (name_letters m g)) ∙ pad_apart (name_fits n f) (name_fits m g)
