-- Sections of entries, whatever they tell: how long they are, that their bytes tell the entries, what makes entries rise, and how entries
-- that begin with a number tell what stands behind it. Assumes nothing.
use Prim.Native.Nat.{ℕ, zero, suc, ◌+◌, ◌*◌, ◌≤◌, ◌<◌, ◌/◌, ◌%◌}
use native.Mathlib.Nat.{suc-mul, zero-mul}
use native.Mathlib.Omega.{arith}
use mathlib.Core.Path.{◌≡◌, refl, sym, ap, subst, ◌∙◌}
use mathlib.Core.Logic.{⊎_elim}
use mathlib.Core.List.Memᴰ
use mathlib.Core.List.{List, [], ◌∷◌, ◌++◌, map, append_assoc, append-nil}
use mathlib.Core.Bool.{Bool, true, false, ◌&&◌, ◌||◌}
use lib.Dec.{leb, ltb, eqb}
use lib.ListN.{length, get_or, take, drop, replicate, length-append}
use borrow.Author.Tests.{leb-true, ltb-true, eqb-true}
use Rattle.rules.specs.01-Lists.{◌∈◌, bytes_before, all, rising, numbers, joined}
use Rattle.rules.specs.02-Limits.{limits}
use Rattle.rules.specs.03-Names.{Name, letter, letter_or_digit}
use Rattle.rules.specs.07-Picture.{pad}
use Rattle.rules.specs.11-File.{section, Section, Sections}
use Rattle.rules.proofs.Bools.{and_both, or_cases}
use Rattle.rules.proofs.01-Lists.{map_in, numbers_of, before_by_less, before_by_same}
use Rattle.rules.proofs.Edits.{map_of, tail_rising}
use Rattle.rules.proofs.Orders.{number_order, bytes_order, rising_all, rising_joined, rising_mapped}
use Rattle.rules.proofs.07-Picture.{append_both}

-- ---- lists one behind another

module _ {A : Type 0} where
  joined_in : (ls : List (List A)) {x : A} → x ∈ joined ls → (l : List A) × (l ∈ ls) × (x ∈ l)
  unfolding joined
  joined_in [] i = absurd (Memᴰ.not-nil i)
  joined_in (l ∷ ls) i =
      ⊎_elim (λ j. (l, Memᴰ.head refl, j)) (λ j. let (m, k, h) = joined_in ls j in (m, Memᴰ.tail k, h)) (Memᴰ.append_cases l i)

  joined_of : {l : List A} {ls : List (List A)} {x : A} → l ∈ ls → x ∈ l → x ∈ joined ls
  unfolding joined
  joined_of {x = x} (Memᴰ.head {xs = ls} h) i = Memᴰ.append_left (joined ls) (subst (λ (k : List A). x ∈ k) h i)
  joined_of (Memᴰ.tail {x = l} j) i = Memᴰ.append_right l (joined_of j i)

  pub joined_append : (ks ls : List (List A)) → joined (ks ++ ls) ≡ joined ks ++ joined ls
  unfolding joined
  joined_append [] ls = refl
  joined_append (k ∷ ks) ls = rw (joined_append ks ls) (sym (append_assoc k (joined ks) (joined ls)))

  -- lists of u elements at least and v at most
  pub joined_long : (u v : ℕ) (ls : List (List A)) → ((l : List A) → l ∈ ls → (u ≤ length l) × (length l ≤ v))
      → (length ls * u ≤ length (joined ls)) × (length (joined ls) ≤ length ls * v)
  unfolding joined
  joined_long u v [] h = (omega (arith, zero-mul u), omega (arith, zero-mul v))
  joined_long u v (l ∷ ls) h =
      let (low, high) = joined_long u v ls (λ k i. h k (Memᴰ.tail i)) in
      let (a, b) = h l (Memᴰ.head refl) in (
        omega (arith, length-append l (joined ls), suc-mul (length ls) u),
        omega (arith, length-append l (joined ls), suc-mul (length ls) v),
      )

-- ---- a section: its length, and its entries by its bytes

-- every entry has w bytes
abbrev pub Wide : ℕ → List (List ℕ) → Type 0
Wide w es = (e : List ℕ) → e ∈ es → length e ≡ w

pub wide_mapped : {A : Type 0} (w : ℕ) (f : A → List ℕ) (l : List A) → ((x : A) → length (f x) ≡ w) → Wide w (map f l)
wide_mapped w f l h e i = let (x, j, q) = map_in f l i in ap length q ∙ h x

pub joined_wide : (w : ℕ) (es : List (List ℕ)) → Wide w es → length (joined es) ≡ length es * w
joined_wide w es h =
    let (low, high) = joined_long w w es (λ e i. (omega (arith, h e i), omega (arith, h e i))) in
    omega arith

pub section_long : (w : ℕ) (es : List (List ℕ)) → Wide w es → length (section es) ≡ 2 + length es * w
unfolding section
section_long w es h = omega (arith, joined_wide w es h)

entries_split : (w : ℕ) (es fs : List (List ℕ)) (rest rest' : List ℕ) → Wide w es → Wide w fs → length es ≡ length fs
    → joined es ++ rest ≡ joined fs ++ rest' → (es ≡ fs) × (rest ≡ rest')
unfolding joined
entries_split w [] [] rest rest' h k l e = (refl, e)
entries_split w [] (f ∷ fs) rest rest' h k l e = absurd (omega arith)
entries_split w (e ∷ es) [] rest rest' h k l q = absurd (omega arith)
entries_split w (e ∷ es) (f ∷ fs) rest rest' h k l q =
    let (first, more) = append_both e f (joined es ++ rest) (joined fs ++ rest') (h e (Memᴰ.head refl) ∙ sym (k f (Memᴰ.head refl)))
    (sym (append_assoc e (joined es) rest) ∙ q ∙ append_assoc f (joined fs) rest') in
    let (others, last) = entries_split w es fs rest rest' (λ g i. h g (Memᴰ.tail i)) (λ g i. k g (Memᴰ.tail i)) (omega arith) more in
    ((λ i. first i ∷ others i), last)

-- the count says how many entries there are, and so where the section ends
pub section_split : (w : ℕ) (es fs : List (List ℕ)) (rest rest' : List ℕ) → Wide w es → Wide w fs
    → section es ++ rest ≡ section fs ++ rest' → (es ≡ fs) × (rest ≡ rest')
unfolding section
section_split w es fs rest rest' h k e =
    let low : length es % 256 ≡ length fs % 256 = ap (λ (l : List ℕ). get_or l 0 0) e in
    let high : length es / 256 ≡ length fs / 256 = ap (λ (l : List ℕ). get_or l 1 0) e in
    entries_split w es fs rest rest' h k (omega arith) (ap (drop 2) e)

-- sections one behind another
pub sections_more : {w : ℕ} {a : List ℕ} (ws b : List ℕ) → Section w a → Sections ws b → Sections (w ∷ ws) (a ++ b)
unfolding Sections
sections_more {a = a} ws b first second = record { front = a; back = b; is = refl; first = first; second = second }

pub sections_last : {w : ℕ} {a : List ℕ} → Section w a → Sections (w ∷ []) a
unfolding Sections
sections_last {a = a} first = record { front = a; back = []; is = sym (append-nil a); first = first; second = refl }

-- ---- bytes

abbrev pub Bytes : List ℕ → Type 0
Bytes l = (i : ℕ) → get_or l i 0 < 256

pub bytes_none : Bytes []
bytes_none i = omega arith

pub bytes_more : (x : ℕ) (l : List ℕ) → x < 256 → Bytes l → Bytes (x ∷ l)
bytes_more x l h k zero = h
bytes_more x l h k (suc i) = k i

pub bytes_append : (l m : List ℕ) → Bytes l → Bytes m → Bytes (l ++ m)
bytes_append [] m h k = k
bytes_append (x ∷ l) m h k = bytes_more x (l ++ m) (h 0) (bytes_append l m (λ i. h (suc i)) k)

pub bytes_take : (n : ℕ) (l : List ℕ) → Bytes l → Bytes (take n l)
bytes_take zero l h = bytes_none
bytes_take (suc n) [] h = bytes_none
bytes_take (suc n) (x ∷ l) h = bytes_more x (take n l) (h 0) (bytes_take n l (λ i. h (suc i)))

letter_small : (c : ℕ) → letter_or_digit c ≡ true → c < 256
unfolding letter_or_digit letter
letter_small c e =
    ⊎_elim
    (λ h. ⊎_elim (within 65 90 (omega arith)) (within 97 122 (omega arith)) (or_cases (leb 65 c && leb c 90) (leb 97 c && leb c 122) h))
    (λ h. ⊎_elim (within 48 57 (omega arith)) (λ q. omega (arith, eqb-true c 95 q)) (or_cases (leb 48 c && leb c 57) (eqb c 95) h))
    (or_cases (letter c) ((leb 48 c && leb c 57) || eqb c 95) e)
  where
    within : (a b : ℕ) → b < 256 → leb a c && leb c b ≡ true → c < 256
    within a b small h = omega (arith, leb-true c b (and_both (leb a c) (leb c b) h).1)

letters_small : (n : Name) → all letter_or_digit n ≡ true → Bytes n
unfolding all
letters_small [] e = bytes_none
letters_small (c ∷ n) e =
    let (first, rest) = and_both (letter_or_digit c) (all letter_or_digit n) e in
    bytes_more c n (letter_small c first) (letters_small n rest)

zeros_small : (w : ℕ) → Bytes (replicate w 0)
zeros_small zero = bytes_none
zeros_small (suc w) = bytes_more 0 (replicate w 0) (omega arith) (zeros_small w)

-- a name in its field
pub field_small : (n : Name) → all letter_or_digit n ≡ true → Bytes (pad limits.name n)
unfolding pad
field_small n e = bytes_take 16 (n ++ replicate 16 0) (bytes_append n (replicate 16 0) (letters_small n e) (zeros_small 16))

pub three_small : (x y z : ℕ) → x < 256 → y < 256 → z < 256 → Bytes (x ∷ y ∷ z ∷ [])
three_small x y z a b c = bytes_more x (y ∷ z ∷ []) a (bytes_more y (z ∷ []) b (bytes_more z [] c bytes_none))

-- a section of so few entries, all of one width and all bytes, that rise
pub formed : (w : ℕ) (es : List (List ℕ)) → length es ≤ 512 → Wide w es → ((e : List ℕ) → e ∈ es → Bytes e) → rising bytes_before es ≡ true
    → Section w (section es)
formed w es few wide small rise = record {
  entries = es;
  few = omega arith;
  each = λ e i. record { wide = wide e i; bytes = small e i };
  rise = rise;
  is = refl;
}

pub small_mapped : {A : Type 0} (f : A → List ℕ) (l : List A) → ((x : A) → x ∈ l → Bytes (f x)) → (e : List ℕ) → e ∈ map f l → Bytes e
small_mapped f l h e i = let (x, j, q) = map_in f l i in rw q (h x j)

-- ---- entries that begin with a number

-- numbers that rise, each with something behind it
pub numbered_rise : (f : ℕ → List ℕ) (l : List ℕ) → rising ltb l ≡ true → rising bytes_before (map (λ k. k ∷ f k) l) ≡ true
numbered_rise f l = rising_mapped ltb bytes_before (λ k. k ∷ f k) l (λ x y i j h. before_by_less x (f x) y (f y) (ltb-true x y h))

-- entries that begin with two numbers: with each k of a list, and behind it with each n that g has for k
module _ (f : ℕ → ℕ → List ℕ) (g : ℕ → List ℕ) where
  abbrev pub pairs : List ℕ → List (List ℕ)
  pairs l = joined (map (λ k. map (f k) (g k)) l)

  pub pairs_in : (l : List ℕ) {e : List ℕ} → e ∈ pairs l → (k : ℕ) × (n : ℕ) × (k ∈ l) × (n ∈ g k) × (e ≡ f k n)
  pairs_in l {e} i =
      let (m, j, there) = joined_in (map (λ k. map (f k) (g k)) l) i in
      let (k, at, q) = map_in (λ k. map (f k) (g k)) l j in
      let (n, of, r) = map_in (f k) (g k) (subst (λ (z : List (List ℕ)). e ∈ z) q there) in
      (k, n, at, of, r)

  pub pairs_of : {l : List ℕ} {k n : ℕ} → k ∈ l → n ∈ g k → f k n ∈ pairs l
  pairs_of {k = k} i j = joined_of (map_of (λ k. map (f k) (g k)) i) (map_of (f k) j)

  pub pairs_rise : (l : List ℕ) → rising ltb l ≡ true → ((k : ℕ) → k ∈ l → rising ltb (g k) ≡ true)
      → ((k n : ℕ) → k ∈ l → n ∈ g k → (rest : List ℕ) × (f k n ≡ k ∷ n ∷ rest)) → rising bytes_before (pairs l) ≡ true
  unfolding joined rising
  pairs_rise [] r each led = refl
  pairs_rise (k ∷ l) r each led =
      rising_joined bytes_order (map (f k) (g k)) (pairs l)
      (rising_mapped ltb bytes_before (f k) (g k) (λ m n i j h.
      let (u, e) = led k m (Memᴰ.head refl) i in
      let (v, d) = led k n (Memᴰ.head refl) j in
      rw (e, d) (before_by_same k (m ∷ u) k (n ∷ v) refl (before_by_less m u n v (ltb-true m n h)))) (each k (Memᴰ.head refl)))
      (pairs_rise l (tail_rising ltb k l r) (λ n i. each n (Memᴰ.tail i)) (λ m n i. led m n (Memᴰ.tail i)))
      (λ x y i j.
      let (m, of, e) = map_in (f k) (g k) i in
      let (o, n, there, of', d) = pairs_in l j in
      let (u, p) = led k m (Memᴰ.head refl) of in
      let (v, q) = led o n (Memᴰ.tail there) of' in
      rw (e ∙ p, d ∙ q) (before_by_less k (m ∷ u) o (n ∷ v) (ltb-true k o (rising_all number_order k l r o there))))

-- what stands behind the numbers that pass is told by the entries, where it is the same behind those that do not
module _ (m : ℕ) where
  numbered_told : (p q : ℕ → Bool) (f g : ℕ → List ℕ) → map (λ k. k ∷ f k) (numbers 0 m p) ≡ map (λ k. k ∷ g k) (numbers 0 m q)
      → (k : ℕ) → k < m → p k ≡ true → f k ≡ g k
  numbered_told p q f g e k h t =
      let i = map_of (λ k. k ∷ f k) (numbers_of p 0 m k (omega arith) (omega arith) t) in
      let (n, j, same) = map_in (λ k. k ∷ g k) (numbers 0 m q) (subst (λ (l : List (List ℕ)). k ∷ f k ∈ l) e i) in
      let first : k ≡ n = ap (λ (l : List ℕ). get_or l 0 0) same in
      ap (drop 1) same ∙ ap g (sym first)

  pub numbered_same : (p q : ℕ → Bool) (f g : ℕ → List ℕ) → ((k : ℕ) → p k ≡ false → q k ≡ false → f k ≡ g k)
      → map (λ k. k ∷ f k) (numbers 0 m p) ≡ map (λ k. k ∷ g k) (numbers 0 m q) → (k : ℕ) → k < m → f k ≡ g k
  numbered_same p q f g neither e k h = go (p k) refl (q k) refl
    where
      go : (a : Bool) → p k ≡ a → (b : Bool) → q k ≡ b → f k ≡ g k
      go true s b t = numbered_told p q f g e k h s
      go false s true t = sym (numbered_told q p g f (sym e) k h t)
      go false s false t = neither k s t

-- rows that have a way back tell a list
pub rows_told : {A : Type 0} (row : A → List ℕ) (read : List ℕ → A) → ((a : A) → read (row a) ≡ a) → (l m : List A) → map row l ≡ map row m → l ≡ m
rows_told {A} row read back l m e = sym (again l) ∙ ap (map read) e ∙ again m
  where
    again : (l : List A) → map read (map row l) ≡ l
    again [] = refl
    again (a ∷ l) = λ i. back a i ∷ again l i
