-- Bytes in numbers: the order of the numbers is that of the bytes. Assumes nothing.
use Rattle.std.proofs.Common.{◌≡◌, ℕ, zero, suc, ◌+◌, ◌*◌, ◌<◌, ◌≤◌, Bool, true, false, ◌&&◌, ◌||◌, eqb, ltb, List, [], ◌∷◌}
use Rattle.std.proofs.Common.{◌++◌, map, length, get_or, replicate, sym, refl, ap, ◌∙◌, ap₂, append-nil, add-zero, zero-add, add-one}
use Rattle.std.proofs.Common.{arith, ltb-false, ltb-true, le-ltb, lt-ltb, eq-eqb, ne_eqb, eqb-true}
use Rattle.std.specs.Int.{w64, from_be_bytes}
use mathlib.Core.List.{map-append}
use mathlib.Core.Bool.{and-false, or-false}
use lib.Bits.{bit_and, and_le_r}
use lib.ListN.{length-map}
use Rattle.rules.specs.01-Lists.{same_bytes, bytes_before}
use Rattle.rules.proofs.Bools.{same_test}
use Rattle.rules.proofs.01-Lists.{same_bytes_is, same_bytes_refl, before_connected}
use Rattle.rows.specs.declared.order.Key.{Key}
use Rattle.rows.specs.Rows.{part, row_at, Rising}
use Rattle.rows.specs.Order.{fold, folded, front, number, number_passed, Climbs, Small, Low, Folded, numbers_of, Keyed}
use Rattle.rows.proofs.Rows.{part_byte}
use Rattle.rows.proofs.Scan.{part_cons, length_part}
use Rattle.rows.proofs.TableLaws.{row_fits}

pub small_rest : (c : ℕ) (l : List ℕ) → Small (c ∷ l) → Small l
small_rest c l s i h = s (suc i) (omega arith)

-- a lesser number before as many bytes is a lesser number
pub number_less : (a b : List ℕ) (x y : ℕ) → length a ≡ length b → Small a → Small b → x < y → number x a < number y b
unfolding number
number_less [] [] x y e s t h = h
number_less [] (d ∷ b) x y e s t h = absurd (omega arith)
number_less (c ∷ a) [] x y e s t h = absurd (omega arith)
number_less (c ∷ a) (d ∷ b) x y e s t h =
    let small : c < 256 = s 0 (omega arith) in
    number_less a b (x * 256 + c) (y * 256 + d) (omega arith) (small_rest c a s) (small_rest d b t) (omega arith)

-- and a number is the least before zeros
pub number_least : (l : List ℕ) (x y : ℕ) → x ≤ y → number x (replicate (length l) 0) ≤ number y l
unfolding number
number_least [] x y h = h
number_least (c ∷ l) x y h = number_least l (x * 256 + 0) (y * 256 + c) (omega arith)

-- bytes that are compared first, and others behind them
number_before : (a b u v : List ℕ) (x : ℕ) → length a ≡ length b → Small a → Small b
    → bytes_before (a ++ u) (b ++ v) ≡ (ltb (number x a) (number x b) || (eqb (number x a) (number x b) && bytes_before u v))
unfolding number bytes_before
number_before [] [] u v x e s t = rw (le-ltb x x (omega arith), eq-eqb x x refl)
number_before [] (d ∷ b) u v x e s t = absurd (omega arith)
number_before (c ∷ a) [] u v x e s t = absurd (omega arith)
number_before (c ∷ a) (d ∷ b) u v x e s t =
    go (ltb c d) refl (ltb d c) refl (λ y. number_before a b u v y (omega arith) (small_rest c a s) (small_rest d b t))
  where
    go : (p : Bool) → ltb c d ≡ p → (q : Bool) → ltb d c ≡ q
        → ((y : ℕ) → bytes_before (a ++ u) (b ++ v) ≡ (ltb (number y a) (number y b) || (eqb (number y a) (number y b) && bytes_before u v)))
        → (ltb c d || (eqb c d && bytes_before (a ++ u) (b ++ v)))
        ≡ (ltb (number (x * 256 + c) a) (number (x * 256 + d) b) || (eqb (number (x * 256 + c) a) (number (x * 256 + d) b) && bytes_before u v))
    go true f q g ih =
        let less = ltb-true c d f in
        let here = number_less a b (x * 256 + c) (x * 256 + d) (omega arith) (small_rest c a s) (small_rest d b t) (omega arith) in
        rw (f, lt-ltb (number (x * 256 + c) a) (number (x * 256 + d) b) here)
    go false f true g ih =
        let more = ltb-true d c g in
        let here = number_less b a (x * 256 + d) (x * 256 + c) (omega arith) (small_rest d b t) (small_rest c a s) (omega arith) in
        rw (
          f,
          ne_eqb c d (λ k. omega arith),
          le-ltb (number (x * 256 + c) a) (number (x * 256 + d) b) (omega arith),
          ne_eqb (number (x * 256 + c) a) (number (x * 256 + d) b) (λ k. omega arith),
        )
    go false f false g ih =
        let same : c ≡ d = omega (arith, ltb-false c d f, ltb-false d c g) in
        rw (f, eq-eqb c d same, ← same) (ih (x * 256 + c))

-- as many bytes compare as their numbers do
number_order : (a b : List ℕ) → length a ≡ length b → Small a → Small b → bytes_before a b ≡ ltb (number 0 a) (number 0 b)
unfolding bytes_before
number_order a b e s t =
    sym (ap₂ bytes_before (append-nil a) (append-nil b))
    ∙ number_before a b [] [] 0 e s t
    ∙ ap (λ (z : Bool). ltb (number 0 a) (number 0 b) || z) (and-false (eqb (number 0 a) (number 0 b)))
    ∙ or-false (ltb (number 0 a) (number 0 b))

-- and are the same where their numbers are
pub number_same : (a b : List ℕ) → length a ≡ length b → Small a → Small b → same_bytes a b ≡ eqb (number 0 a) (number 0 b)
number_same a b e s t =
    same_test (same_bytes a b) (eqb (number 0 a) (number 0 b))
    (λ h. eq-eqb (number 0 a) (number 0 b) (ap (number 0) (same_bytes_is a b h)))
    (λ h.
    let same = eqb-true (number 0 a) (number 0 b) h in
    let one : a ≡ b = before_connected a b (number_order a b e s t ∙ le-ltb (number 0 a) (number 0 b) (omega arith))
    (number_order b a (sym e) t s ∙ le-ltb (number 0 b) (number 0 a) (omega arith)) in
    rw one (same_bytes_refl b))

-- ---- runs of numbers, number by number

module _ (x y : ℕ) where
  pub before_apart : (u v : List ℕ) → (x ≡ y → ⊥) → bytes_before (x ∷ u) (y ∷ v) ≡ ltb x y
  unfolding bytes_before
  before_apart u v n = rw (ne_eqb x y n) (or-false (ltb x y))

  pub before_alike : (u v : List ℕ) → x ≡ y → bytes_before (x ∷ u) (y ∷ v) ≡ bytes_before u v
  unfolding bytes_before
  before_alike u v e = rw (le-ltb x y (omega arith), eq-eqb x y e)

  pub before_last : bytes_before (x ∷ []) (y ∷ []) ≡ ltb x y
  unfolding bytes_before
  before_last = rw (and-false (eqb x y)) (or-false (ltb x y))

-- ---- the bytes of a row

pub part_append : (b : List ℕ) (at n m : ℕ) → at + n ≤ length b → part b at (n + m) ≡ part b at n ++ part b (at + n) m
part_append b at zero m h = rw (zero-add m, add-zero at)
part_append b at (suc n) m h =
    let more : suc n + m ≡ suc (n + m) = omega arith in
    let next : at + 1 + n ≡ at + suc n = omega arith in
    part_cons b at (suc n + m) (n + m) (omega arith) more
    ∙ ap (λ (l : List ℕ). get_or b at 0 ∷ l) (part_append b (at + 1) n m (omega arith) ∙ rw next)
    ∙ ap (λ (l : List ℕ). l ++ part b (at + suc n) m) (sym (part_cons b at (suc n) n (omega arith) refl))

small_part : (b : List ℕ) (at n : ℕ) → ((k : ℕ) → get_or b k 0 < 256) → at + n ≤ length b → Small (part b at n)
small_part b at n s h i l =
    let long = length_part b at n h in
    rw (part_byte b at n i (omega arith)) (s (at + i))

-- rows as numbers
pub numbers_before : (b : List ℕ) (a c w : ℕ) → ((i : ℕ) → get_or b i 0 < 256) → a + w ≤ length b → c + w ≤ length b
    → bytes_before (part b a w) (part b c w) ≡ ltb (number 0 (part b a w)) (number 0 (part b c w))
numbers_before b a c w s h l =
    number_order (part b a w) (part b c w) (length_part b a w h ∙ sym (length_part b c w l)) (small_part b a w s h) (small_part b c w s l)

-- ---- n rows rise exactly where their numbers do

pub passed_first : (x : ℕ) (b : List ℕ) (start w : ℕ) → x ≡ number_passed x b start w 0
unfolding number_passed
passed_first x b start w = refl

pub passed_next : (x : ℕ) (b : List ℕ) (start w i : ℕ) → number 0 (row_at b start w i) ≡ number_passed x b start w (i + 1)
unfolding number_passed
passed_next x b start w i = rw (add-one i)

module _ (x : ℕ) (b : List ℕ) (start w n : ℕ) (small : (i : ℕ) → get_or b i 0 < 256) (room : start + n * w ≤ length b) where
  rows_before : (i : ℕ) → suc i < n → bytes_before (row_at b start w i) (row_at b start w (suc i))
      ≡ ltb (number 0 (row_at b start w i)) (number 0 (row_at b start w (suc i)))
  rows_before i h =
      let this : i < n = omega arith in
      numbers_before b (start + i * w) (start + suc i * w) w small (omega (arith, row_fits w this)) (omega (arith, row_fits w h))

  pub climbs_rising : ((i : ℕ) → i < n → Climbs x b start w i) → Rising (row_at b start w) n
  unfolding number_passed
  climbs_rising climbs i h =
      rows_before i h ∙ lt-ltb (number 0 (row_at b start w i)) (number 0 (row_at b start w (suc i))) (climbs (suc i) h)

  pub rising_climbs : Rising (row_at b start w) n → (0 < n → x < number 0 (row_at b start w 0)) → (i : ℕ) → i < n → Climbs x b start w i
  unfolding number_passed
  rising_climbs rise first zero h = first h
  rising_climbs rise first (suc i) h =
      ltb-true (number 0 (row_at b start w i)) (number 0 (row_at b start w (suc i))) (sym (rows_before i h) ∙ rise i h)

-- ---- the bytes of a presence that are compared, the name less its case

get_or_mapped : (f : ℕ → ℕ) (l : List ℕ) (i : ℕ) → i < length l → get_or (map f l) i 0 ≡ f (get_or l i 0)
get_or_mapped f [] i h = absurd (omega arith)
get_or_mapped f (x ∷ l) zero h = refl
get_or_mapped f (x ∷ l) (suc i) h = get_or_mapped f l i (omega arith)

fold_small : (c : ℕ) → fold c < 256
unfolding fold
fold_small c = omega (arith, and_le_r (bit_and c 127 + 1) 95)

-- a half of the name
module _ (b : List ℕ) (at : ℕ) (small : (i : ℕ) → get_or b i 0 < 256) (fits : at + 8 ≤ length b) where
  abbrev half : List ℕ
  half = folded (part b at 8)

  pub half_long : length half ≡ 8
  half_long = length-map (part b at 8) fold ∙ length_part b at 8 fits

  pub half_small : Small half
  half_small i h =
      rw (get_or_mapped fold (part b at 8) i (omega (arith, h, length-map (part b at 8) fold))) (fold_small (get_or (part b at 8) i 0))

  pub half_folded : {w r : ℕ} → Low (part b at 8) → w ≡ number 0 (part b at 8) → Folded w r → r ≡ number 0 half
  half_folded low e l = l.bytes (part b at 8) (length_part b at 8 fits) low e

front_halves : (b : List ℕ) (at : ℕ) → at + 17 ≤ length b → front b at ≡ get_or b at 0 ∷ (folded (part b (at + 1) 8) ++ folded (part b (at + 9) 8))
front_halves b at h =
    let far : at + 1 + 8 ≡ at + 9 = omega arith in
    let halves : part b (at + 1) 16 ≡ part b (at + 1) 8 ++ part b (at + 9) 8 = rw (← far) (part_append b (at + 1) 8 8 (omega arith)) in
    ap (λ (l : List ℕ). get_or b at 0 ∷ folded l) halves
    ∙ ap (λ (l : List ℕ). get_or b at 0 ∷ l) (map-append fold (part b (at + 1) 8) (part b (at + 9) 8))

pub keyed_before : (b : List ℕ) (a c : ℕ) (k m : Key) → ((i : ℕ) → get_or b i 0 < 256) → a + 17 ≤ length b → c + 17 ≤ length b
    → Keyed b a k → Keyed b c m → bytes_before (front b a) (front b c) ≡ bytes_before (numbers_of k) (numbers_of m)
unfolding bytes_before
keyed_before b a c k m s h l x y =
    let p = half b (a + 1) s (omega arith) in
    let q = half b (c + 1) s (omega arith) in
    let u = half b (a + 9) s (omega arith) in
    let v = half b (c + 9) s (omega arith) in
    ap₂ bytes_before (front_halves b a h) (front_halves b c l)
    ∙ rw (x.sds, x.first, x.second, y.sds, y.first, y.second)
    (ap (λ (t : Bool). ltb (get_or b a 0) (get_or b c 0) || (eqb (get_or b a 0) (get_or b c 0) && t))
    (number_before p q u v 0 (half_long b (a + 1) s (omega arith) ∙ sym (half_long b (c + 1) s (omega arith)))
    (half_small b (a + 1) s (omega arith)) (half_small b (c + 1) s (omega arith))
    ∙ ap (λ (t : Bool). ltb (number 0 p) (number 0 q) || (eqb (number 0 p) (number 0 q) && t))
    (number_order u v (half_long b (a + 9) s (omega arith) ∙ sym (half_long b (c + 9) s (omega arith)))
    (half_small b (a + 9) s (omega arith)) (half_small b (c + 9) s (omega arith))
    ∙ sym (before_last (number 0 u) (number 0 v)))))

-- ---- the number of a row of 3 or 4 bytes

three : (x y z : ℕ) → number 0 (x ∷ y ∷ z ∷ []) ≡ (x * 256 + y) * 256 + z
unfolding number
three x y z = omega arith

four : (x y z u : ℕ) → number 0 (x ∷ y ∷ z ∷ u ∷ []) ≡ ((x * 256 + y) * 256 + z) * 256 + u
unfolding number
four x y z u = omega arith

module _ (b : List ℕ) (at : ℕ) where
  pub number_three : at + 3 ≤ length b → number 0 (part b at 3) ≡ (get_or b at 0 * 256 + get_or b (at + 1) 0) * 256 + get_or b (at + 2) 0
  number_three h =
      let two : at + 1 + 1 ≡ at + 2 = omega arith in
      rw (part_cons b at 3 2 (omega arith) refl, part_cons b (at + 1) 2 1 (omega arith) refl, two, part_cons b (at + 2) 1 0 (omega arith) refl)
      (three (get_or b at 0) (get_or b (at + 1) 0) (get_or b (at + 2) 0))

  pub number_four : at + 4 ≤ length b
      → number 0 (part b at 4) ≡ ((get_or b at 0 * 256 + get_or b (at + 1) 0) * 256 + get_or b (at + 2) 0) * 256 + get_or b (at + 3) 0
  number_four h =
      let two : at + 1 + 1 ≡ at + 2 = omega arith in
      let three : at + 2 + 1 ≡ at + 3 = omega arith in
      rw (
        part_cons b at 4 3 (omega arith) refl,
        part_cons b (at + 1) 3 2 (omega arith) refl,
        two,
        part_cons b (at + 2) 2 1 (omega arith) refl,
        three,
        part_cons b (at + 3) 1 0 (omega arith) refl,
      ) (four (get_or b at 0) (get_or b (at + 1) 0) (get_or b (at + 2) 0) (get_or b (at + 3) 0))

-- ---- the number of eight bytes

eight_bytes : (l : List ℕ) → length l ≡ 8 → from_be_bytes w64 l ≡ number 0 l
unfolding number
eight_bytes [] e = absurd (omega arith)
eight_bytes (a ∷ []) e = absurd (omega arith)
eight_bytes (a ∷ b ∷ []) e = absurd (omega arith)
eight_bytes (a ∷ b ∷ c ∷ []) e = absurd (omega arith)
eight_bytes (a ∷ b ∷ c ∷ d ∷ []) e = absurd (omega arith)
eight_bytes (a ∷ b ∷ c ∷ d ∷ f ∷ []) e = absurd (omega arith)
eight_bytes (a ∷ b ∷ c ∷ d ∷ f ∷ g ∷ []) e = absurd (omega arith)
eight_bytes (a ∷ b ∷ c ∷ d ∷ f ∷ g ∷ h ∷ []) e = absurd (omega arith)
eight_bytes (a ∷ b ∷ c ∷ d ∷ f ∷ g ∷ h ∷ i ∷ []) e = omega arith
eight_bytes (a ∷ b ∷ c ∷ d ∷ f ∷ g ∷ h ∷ i ∷ j ∷ l) e = absurd (omega arith)

pub number_eight : (b : List ℕ) (at : ℕ) → at + 8 ≤ length b → from_be_bytes w64 (part b at 8) ≡ number 0 (part b at 8)
number_eight b at h = eight_bytes (part b at 8) (length_part b at 8 h)
