-- Laws of a field: which bytes are a name and zeros behind it, byte by byte. Assumes nothing.
use Rattle.std.proofs.Common.{◌≡◌, ℕ, zero, suc, ◌+◌, ◌<◌, ◌≤◌, Bool, true, false, cond, ◌&&◌, ◌||◌, eqb, leb, List, [], ◌∷◌, ◌++◌, length, get_or}
use Rattle.std.proofs.Common.{take, drop, replicate, sym, refl, ap, ◌∙◌, add-one, arith, drop_of_length-le, drop-cons, eq-eqb, ne_eqb, eqb-true}
use Rattle.std.proofs.Common.{le-leb}
use Rattle.std.proofs.Common.{Option, ◌≢◌, unwrap_or}
use Rattle.std.specs.Option.{MatchOption}
use Rattle.std.specs.List.{AllWithin, HoldsAt}
use Rattle.std.proofs.lemmas.Iterator.{index_from_first}
use mathlib.Core.Bool.{and-true, and-false, and_assoc, false≢true}
use lib.Dec.{eqb-zero-suc}
use lib.Bits.{bit_or, and_le_l, and_le_r, or_add_and}
use borrow.Author.Tests.{eqb-false}
use Rattle.rules.specs.01-Lists.{same_bytes, all}
use Rattle.rules.specs.03-Names.{letter, letter_or_digit, well_formed}
use Rattle.rules.specs.07-Picture.{pad}
use Rattle.rules.specs.Read.{strip}
use Rattle.rules.proofs.Bools.{eqb_turned}
use Rattle.name_fields.specs.Field.{name_field, blank_field, orderly, may_follow, following, Stripped}

-- ---- a byte that is no letter, digit or underscore ends the name

pub word_filled : (c : ℕ) → letter_or_digit c ≡ true → c ≡ 0 → ⊥
unfolding letter_or_digit letter
word_filled c e z = false≢true (rw z at e)

word_no_space : (c : ℕ) → letter_or_digit c ≡ true → c ≡ 32 → ⊥
unfolding letter_or_digit letter
word_no_space c e z = false≢true (rw z at e)

pub zero_no_word : letter_or_digit 0 ≡ false
unfolding letter_or_digit letter
zero_no_word = refl

zero_no_letter : letter 0 ≡ false
unfolding letter
zero_no_letter = refl

pub letter_word : (c : ℕ) → letter c ≡ true → letter_or_digit c ≡ true
unfolding letter_or_digit
letter_word c e = rw e

-- ---- a name in its field is well formed

take_zeros : (n m : ℕ) → n ≤ m → take n (replicate {A = ℕ} m 0) ≡ replicate n 0
take_zeros zero m h = refl
take_zeros (suc n) zero h = absurd (omega arith)
take_zeros (suc n) (suc m) h = ap (λ (l : List ℕ). 0 ∷ l) (take_zeros n m (omega arith))

strip_short : (l : List ℕ) → length (strip l) ≤ length l
unfolding strip
strip_short [] = omega arith
strip_short (zero ∷ l) = omega arith
strip_short (suc x ∷ l) = omega (arith, strip_short l)

stripped_orderly : (m : ℕ) (l : List ℕ) → length l ≤ m
    → (all letter_or_digit (strip l) && same_bytes (take (length l) (strip l ++ replicate m 0)) l) ≡ orderly l
unfolding strip all same_bytes orderly blank_field
stripped_orderly m [] h = refl
stripped_orderly m (zero ∷ l) h = rw (zero_no_word, take_zeros (suc (length l)) m h)
stripped_orderly m (suc x ∷ l) h = go (letter_or_digit (suc x)) refl (stripped_orderly m l (omega arith))
  where
    go : (t : Bool) → letter_or_digit (suc x) ≡ t
        → (all letter_or_digit (strip l) && same_bytes (take (length l) (strip l ++ replicate m 0)) l) ≡ orderly l
        → (all letter_or_digit (suc x ∷ strip l) && same_bytes (suc x ∷ take (length l) (strip l ++ replicate m 0)) (suc x ∷ l)) ≡ orderly (suc x ∷ l)
    go true e ih = rw (e, eq-eqb (suc x) (suc x) refl) ih
    go false e ih = rw (e, eqb-zero-suc x)

-- the first byte is a letter, and the bytes are in order
pub named : (l : List ℕ) → length l ≡ 16 → name_field l ≡ (letter (get_or l 0 0) && orderly l)
unfolding name_field well_formed pad strip
named [] h = absurd (omega arith)
named (zero ∷ l) h = rw zero_no_letter
named (suc x ∷ l) h =
    let s : List ℕ = suc x ∷ strip l in
    let low : leb 1 (length s) ≡ true = le-leb 1 (length s) (omega arith) in
    let high : leb (length s) 16 ≡ true = le-leb (length s) 16 (omega (arith, strip_short l)) in
    let padded : List ℕ = take 16 (s ++ replicate 16 0) in
    let rest : (all letter_or_digit s && same_bytes padded (suc x ∷ l)) ≡ orderly (suc x ∷ l)
    = ap (λ (n : ℕ). all letter_or_digit s && same_bytes (take n (s ++ replicate 16 0)) (suc x ∷ l)) (sym h)
    ∙ stripped_orderly 16 (suc x ∷ l) (omega arith) in
    rw (low, high)
    (and_assoc (letter (suc x)) (all letter_or_digit s) (same_bytes padded (suc x ∷ l)) ∙ ap (λ (t : Bool). letter (suc x) && t) rest)

-- ---- each byte behind the one before it

-- behind a zero
follow_zero : (c : ℕ) → may_follow 0 c ≡ eqb 0 c
unfolding may_follow
follow_zero c = go (letter_or_digit c) (eqb c 0) refl
  where
    go : (w z : Bool) → eqb c 0 ≡ z → ((w && false) || (z && true)) ≡ eqb 0 c
    go true true e = sym (eq-eqb 0 c (sym (eqb-true c 0 e)))
    go false true e = sym (eq-eqb 0 c (sym (eqb-true c 0 e)))
    go true false e = sym (ne_eqb 0 c (λ z. eqb-false c 0 e (sym z)))
    go false false e = sym (ne_eqb 0 c (λ z. eqb-false c 0 e (sym z)))

-- behind a byte of a name
follow_word : (last c : ℕ) → letter_or_digit last ≡ true → may_follow last c ≡ (letter_or_digit c || eqb c 0)
unfolding may_follow
follow_word last c e =
    rw (ne_eqb last 0 (word_filled last e), ne_eqb last 32 (word_no_space last e), and-true (letter_or_digit c), and-true (eqb c 0))

-- as the first
follow_none : (c : ℕ) → may_follow 32 c ≡ letter c
unfolding may_follow
follow_none c = go (letter c) refl
  where
    go : (t : Bool) → letter c ≡ t → ((letter_or_digit c && t) || (eqb c 0 && false)) ≡ t
    go true e = rw (letter_word c e)
    go false e = simp (and-false)

pub following_zero : (l : List ℕ) → following 0 l ≡ blank_field l
unfolding following blank_field same_bytes
following_zero [] = refl
following_zero (c ∷ l) = go (eqb 0 c) refl (following_zero l)
  where
    go : (t : Bool) → eqb 0 c ≡ t → following 0 l ≡ blank_field l → (may_follow 0 c && following c l) ≡ (eqb 0 c && blank_field l)
    go true e ih = rw (follow_zero c, e, ← eqb-true 0 c e) ih
    go false e ih = rw (follow_zero c, e)

following_word : (last : ℕ) (l : List ℕ) → letter_or_digit last ≡ true → following last l ≡ orderly l
unfolding following orderly blank_field same_bytes
following_word last [] e = refl
following_word last (c ∷ l) e = go (letter_or_digit c) refl (eqb c 0) refl (following_word c l)
  where
    go : (w : Bool) → letter_or_digit c ≡ w → (z : Bool) → eqb c 0 ≡ z → (letter_or_digit c ≡ true → following c l ≡ orderly l)
        → (may_follow last c && following c l) ≡ cond (letter_or_digit c) (orderly l) (eqb 0 c && blank_field l)
    go true f z g ih = rw (follow_word last c e, f) (ih f)
    go false f true g ih = rw (follow_word last c e, f, eqb-true c 0 g) (following_zero l)
    go false f false g ih = rw (follow_word last c e, f, g, ne_eqb 0 c (λ z. eqb-false c 0 g (sym z)))

pub following_named : (l : List ℕ) → length l ≡ 16 → following 32 l ≡ name_field l
unfolding following orderly
following_named [] h = absurd (omega arith)
following_named (c ∷ l) h = go (letter c) refl ∙ sym (named (c ∷ l) h)
  where
    go : (t : Bool) → letter c ≡ t → (may_follow 32 c && following c l) ≡ (letter c && orderly (c ∷ l))
    go true e = rw (follow_none c, e, letter_word c e) (following_word c l (letter_word c e))
    go false e = rw (follow_none c, e)

-- what is passed and what is left
module _ (l : List ℕ) (i last : ℕ) (t : Bool) where
  pub follow_more : i < length l → (t && following last (drop i l)) ≡ ((t && may_follow last (get_or l i 0)) && following (get_or l i 0) (drop (i + 1) l))
  unfolding following
  follow_more h =
      rw (add-one, drop-cons l i 0 h) (sym (and_assoc t (may_follow last (get_or l i 0)) (following (get_or l i 0) (drop (suc i) l))))

  pub follow_end : length l ≤ i → (t && following last (drop i l)) ≡ t
  unfolding following
  follow_end h = rw (drop_of_length-le l h) (and-true t)

-- ---- a blank field

-- no bit is set in either
or_none : (a b : ℕ) → eqb (bit_or a b) 0 ≡ (eqb a 0 && eqb 0 b)
or_none a b = go (eqb a 0) (eqb 0 b) refl refl
  where
    go : (t u : Bool) → eqb a 0 ≡ t → eqb 0 b ≡ u → eqb (bit_or a b) 0 ≡ (t && u)
    go true true e f = rw (eqb-true a 0 e, ← eqb-true 0 b f)
    go true false e f = ne_eqb (bit_or a b) 0 (λ z. eqb-false 0 b f (omega (arith, or_add_and a b, and_le_l a b)))
    go false u e f = ne_eqb (bit_or a b) 0 (λ z. eqb-false a 0 e (omega (arith, or_add_and a b, and_le_r a b)))

pub or_zero : (a b : ℕ) → eqb (bit_or a b) 0 ≡ (eqb a 0 && eqb b 0)
or_zero a b = or_none a b ∙ ap (λ (t : Bool). eqb a 0 && t) (eqb_turned 0 b)

-- what is passed and what is left
module _ (l : List ℕ) (i bits : ℕ) where
  pub blank_more : i < length l → (eqb bits 0 && blank_field (drop i l)) ≡ (eqb (bit_or bits (get_or l i 0)) 0 && blank_field (drop (i + 1) l))
  unfolding blank_field same_bytes
  blank_more h =
      rw (add-one, drop-cons l i 0 h, or_none bits (get_or l i 0)) (sym (and_assoc (eqb bits 0) (eqb 0 (get_or l i 0)) (blank_field (drop (suc i) l))))

  pub blank_end : length l ≤ i → (eqb bits 0 && blank_field (drop i l)) ≡ eqb bits 0
  unfolding blank_field same_bytes
  blank_end h = rw (drop_of_length-le l h) (and-true (eqb bits 0))

-- ---- how long the name is

strip_take : (l : List ℕ) → take (length (strip l)) l ≡ strip l
unfolding strip
strip_take [] = refl
strip_take (zero ∷ l) = refl
strip_take (suc x ∷ l) = ap (λ (r : List ℕ). suc x ∷ r) (strip_take l)

-- a place before which no byte is zero, and at which one is or the field ends, is as far as the name goes
pub strip_first : (l : List ℕ) (r : Option ℕ)
    → MatchOption r (AllWithin (λ c. c ≢ 0) l 0 (length l)) (λ i. (i < length l) × HoldsAt (λ c. c ≡ 0) l i × AllWithin (λ c. c ≢ 0) l 0 i)
    → length (strip l) ≡ unwrap_or r (length l)
unfolding strip
strip_first = index_from_first (λ l. length (strip l)) (λ c. c ≡ 0) (λ c. c ≢ 0) none hit miss
  where
    none : length (strip []) ≡ 0
    none = refl

    hit : (c : ℕ) (l : List ℕ) → c ≡ 0 → length (strip (c ∷ l)) ≡ 0
    hit c l z = rw z

    miss : (c : ℕ) (l : List ℕ) → c ≢ 0 → length (strip (c ∷ l)) ≡ length (strip l) + 1
    miss zero l n = absurd (n refl)
    miss (suc x) l n = omega arith

pub stripped : (l : List ℕ) (i : ℕ) → i ≡ length (strip l) → Stripped l i
stripped l i long = record { fits = omega (arith, strip_short l); name = rw long (strip_take l); long = long }
