-- What a well-formed name is known by, when two names are the same, in which order they stand, and how fields of bytes tell both.
-- Sameness is not equality: no law takes the one for the other. Assumes nothing.
use Prim.Native.Nat.{ℕ, zero, suc, ◌+◌, ◌≤◌, ◌<◌}
use native.Mathlib.Omega.{arith}
use mathlib.Core.Path.{◌≡◌, refl, sym, ap, ◌∙◌}
use mathlib.Core.Logic.{◌⊎◌, inl, inr, ⊎_elim}
use mathlib.Core.List.Memᴰ
use mathlib.Core.List.{List, [], ◌∷◌, ◌++◌, map-append}
use mathlib.Core.Bool.{Bool, true, false, cond, not, ◌&&◌, ◌||◌, true≢false, false≢true}
use lib.Dec.{leb, ltb, eqb}
use lib.ListN.{length, get_or, take, replicate, length-map, get_or-map}
use borrow.Author.Tests.{leb-true, lt-ltb, le-ltb, ne_eqb, eqb-true}
use Rattle.rules.specs.01-Lists.{◌∈◌, same_bytes, bytes_before, any, all, first}
use Rattle.rules.specs.03-Names.{Name, letter, letter_or_digit, well_formed, blank, lower, lowered, same_name, name_before}
use Rattle.rules.specs.04-Schema.{Schema, nowhere, bears, type_named}
use Rattle.rules.specs.07-Picture.{pad}
use Rattle.rules.specs.09-Refusals.{sds_name_taken, borne_by_another}
use Rattle.rules.proofs.Bools.{or_cases, or_left, or_right, or_neither, and_both, and_of, and_rest, fails, same_test}
use Rattle.rules.proofs.01-Lists.{all_at, map_in, same_bytes_is, same_bytes_refl, before_irreflexive, before_transitive, before_connected}
use Rattle.rules.proofs.01-Lists.{before_ahead, before_behind, before_asymmetric}

-- ---- lower case

-- a capital grows by 32, every other byte stays
lower_way : (c : ℕ) → ((c < 91) × (lower c ≡ c + 32)) ⊎ (lower c ≡ c)
unfolding lower
lower_way c = go (leb 65 c && leb c 90) refl
  where
    go : (t : Bool) → (leb 65 c && leb c 90) ≡ t → ((c < 91) × (cond t (c + 32) c ≡ c + 32)) ⊎ (cond t (c + 32) c ≡ c)
    go true e = inl (omega (arith, leb-true c 90 (and_both (leb 65 c) (leb c 90) e).1), refl)
    go false e = inr refl

pub length_lowered : (n : Name) → length (lowered n) ≡ length n
unfolding lowered
length_lowered n = length-map n lower

pub lowered_byte : (n : Name) (i : ℕ) → get_or (lowered n) i 0 ≡ lower (get_or n i 0)
unfolding lowered lower
lowered_byte n i = get_or-map lower n i 0

lowered_take : (w : ℕ) (n : Name) → lowered (take w n) ≡ take w (lowered n)
unfolding lowered
lowered_take zero n = refl
lowered_take (suc w) [] = refl
lowered_take (suc w) (c ∷ n) = ap (λ (l : Name). lower c ∷ l) (lowered_take w n)

lowered_zeros : (w : ℕ) → lowered (replicate w 0) ≡ replicate w 0
unfolding lowered lower
lowered_zeros zero = refl
lowered_zeros (suc w) = ap (λ (l : Name). 0 ∷ l) (lowered_zeros w)

lowered_append : (n m : Name) → lowered (n ++ m) ≡ lowered n ++ lowered m
unfolding lowered
lowered_append n m = map-append lower n m

lowered_pad : (w : ℕ) (n : Name) → lowered (pad w n) ≡ pad w (lowered n)
unfolding pad
lowered_pad w n =
    lowered_take w (n ++ replicate w 0)
    ∙ ap (take w) (lowered_append n (replicate w 0) ∙ ap (λ (z : Name). lowered n ++ z) (lowered_zeros w))

-- ---- when two names are the same

pub same_is : (n m : Name) → same_name n m ≡ same_bytes (lowered n) (lowered m)
unfolding same_name
same_is n m = refl

same_lowered : (n m : Name) → same_name n m ≡ true → lowered n ≡ lowered m
same_lowered n m e = same_bytes_is (lowered n) (lowered m) (sym (same_is n m) ∙ e)

lowered_same : (n m : Name) → lowered n ≡ lowered m → same_name n m ≡ true
lowered_same n m e = same_is n m ∙ rw e (same_bytes_refl (lowered m))

pub same_name_refl : (n : Name) → same_name n n ≡ true
same_name_refl n = lowered_same n n refl

-- no name tells them apart
pub same_alike : (n m : Name) → same_name n m ≡ true → (o : Name) → same_name n o ≡ same_name m o
unfolding same_name
same_alike n m e o = ap (λ (l : Name). same_bytes l (lowered o)) (same_lowered n m e)

pub same_long : (n m : Name) → same_name n m ≡ true → length n ≡ length m
same_long n m e = sym (length_lowered n) ∙ ap length (same_lowered n m e) ∙ length_lowered m

-- of same names both are blank, or neither
pub same_blank : (n m : Name) → same_name n m ≡ true → blank n ≡ blank m
same_blank n m e = ap (λ (k : ℕ). eqb k 0) (same_long n m e)

-- names of two lengths are not the same
pub unlike_long : (n m : Name) → (length n ≡ length m → ⊥) → same_name n m ≡ false
unlike_long n m other = fails (same_name n m) (λ e. other (same_long n m e))

pub same_turned : (n m : Name) → same_name n m ≡ same_name m n
same_turned n m = same_test (same_name n m) (same_name m n) (turned n m) (turned m n)
  where
    turned : (n m : Name) → same_name n m ≡ true → same_name m n ≡ true
    turned n m e = sym (same_alike n m e n) ∙ same_name_refl n

pub same_transitive : (n m o : Name) → same_name n m ≡ true → same_name m o ≡ true → same_name n o ≡ true
same_transitive n m o e f = same_alike n m e o ∙ f

-- what is asked of a name is asked of each that is the same
module _ (n m : Name) (e : same_name n m ≡ true) where
  pub same_asked : (o : Name) → same_name o n ≡ same_name o m
  same_asked o = same_turned o n ∙ same_alike n m e o ∙ same_turned m o

  pub same_bears : (s : Schema) (d : ℕ) → bears s d n ≡ bears s d m
  unfolding bears
  same_bears s d = λ i. any (λ p. eqb p.sds d && same_asked p.name i) s.presences

  pub same_type : (s : Schema) (d : ℕ) → type_named s d n ≡ type_named s d m
  unfolding type_named
  same_type s d = λ i. (first (λ p. eqb p.sds d && same_asked p.name i) nowhere s.presences).type

  pub same_taken : (s : Schema) → sds_name_taken s n ≡ sds_name_taken s m
  unfolding sds_name_taken
  same_taken s = λ i. any (λ k. not (blank k) && same_asked k i) s.sdss

  pub same_borne : (s : Schema) (d t : ℕ) → borne_by_another s d t n ≡ borne_by_another s d t m
  unfolding borne_by_another
  same_borne s d t = λ i. same_bears s d i && not (eqb (same_type s d i) t)

-- a blank name has no byte
pub blank_is : (n : Name) → blank n ≡ true → n ≡ []
blank_is [] e = refl
blank_is (c ∷ n) e = absurd (omega (arith, eqb-true (suc (length n)) 0 e))

-- ---- a well-formed name

module _ (n : Name) (e : well_formed n ≡ true) where
  pub formed_long : (1 ≤ length n) × (length n ≤ 16)
  unfolding well_formed
  formed_long =
      let (a, rest) = and_both (leb 1 (length n)) (leb (length n) 16 && (letter (get_or n 0 0) && all letter_or_digit n)) e in
      let (b, more) = and_both (leb (length n) 16) (letter (get_or n 0 0) && all letter_or_digit n) rest in
      (leb-true 1 (length n) a, leb-true (length n) 16 b)

  -- it is not blank, and a presence may have it
  pub formed_named : blank n ≡ false
  formed_named = ne_eqb (length n) 0 (λ z. omega (arith, formed_long.0))

  pub formed_allowed : blank n || well_formed n ≡ true
  formed_allowed = or_right (blank n) (well_formed n) e

  pub formed_letters : all letter_or_digit n ≡ true
  unfolding well_formed
  formed_letters =
      let (a, rest) = and_both (leb 1 (length n)) (leb (length n) 16 && (letter (get_or n 0 0) && all letter_or_digit n)) e in
      let (b, more) = and_both (leb (length n) 16) (letter (get_or n 0 0) && all letter_or_digit n) rest in
      (and_both (letter (get_or n 0 0)) (all letter_or_digit n) more).1

  -- no byte of it is 0
  pub formed_no_zero : 0 ∈ n → ⊥
  unfolding letter_or_digit letter
  formed_no_zero i = false≢true (all_at letter_or_digit formed_letters i)

-- ---- the order of names

-- n before m, in its two ways: by the lowered names, or by the spelling of one name
data Way (n m : Name) : Type 0 where
  lower_first : bytes_before (lowered n) (lowered m) ≡ true → Way n m
  spelled : lowered n ≡ lowered m → bytes_before n m ≡ true → Way n m

name_way : (n m : Name) → name_before n m ≡ true → Way n m
unfolding name_before
name_way n m e =
    ⊎_elim lower_first (λ h. let (q, r) = and_both (same_name n m) (bytes_before n m) h in spelled (same_lowered n m q) r)
    (or_cases (bytes_before (lowered n) (lowered m)) (same_name n m && bytes_before n m) e)

way_name : {n m : Name} → Way n m → name_before n m ≡ true
unfolding name_before
way_name {n} {m} (lower_first h) = or_left (bytes_before (lowered n) (lowered m)) (same_name n m && bytes_before n m) h
way_name {n} {m} (spelled e h) =
    or_right (bytes_before (lowered n) (lowered m)) (same_name n m && bytes_before n m)
    (and_of (same_name n m) (bytes_before n m) (lowered_same n m e) h)

pub name_irreflexive : (n : Name) → name_before n n ≡ false
name_irreflexive n = fails (name_before n n) (λ e. go (name_way n n e))
  where
    go : Way n n → ⊥
    go (lower_first h) = true≢false (sym h ∙ before_irreflexive (lowered n))
    go (spelled e h) = true≢false (sym h ∙ before_irreflexive n)

pub name_transitive : (n m o : Name) → name_before n m ≡ true → name_before m o ≡ true → name_before n o ≡ true
name_transitive n m o p q = way_name (go (name_way n m p) (name_way m o q))
  where
    go : Way n m → Way m o → Way n o
    go (lower_first h) (lower_first k) = lower_first (before_transitive (lowered n) (lowered m) (lowered o) h k)
    go (lower_first h) (spelled e k) = lower_first (rw (← e) h)
    go (spelled e h) (lower_first k) = lower_first (rw e k)
    go (spelled e h) (spelled f k) = spelled (e ∙ f) (before_transitive n m o h k)

-- names of which neither is before the other are one, as they are spelled
pub name_connected : (n m : Name) → name_before n m ≡ false → name_before m n ≡ false → n ≡ m
unfolding name_before
name_connected n m p q =
    let (a, b) = or_neither (bytes_before (lowered n) (lowered m)) (same_name n m && bytes_before n m) p in
    let (c, d) = or_neither (bytes_before (lowered m) (lowered n)) (same_name m n && bytes_before m n) q in
    let e = before_connected (lowered n) (lowered m) a c in
    before_connected n m (and_rest (same_name n m) (bytes_before n m) (lowered_same n m e) b)
    (and_rest (same_name m n) (bytes_before m n) (lowered_same m n (sym e)) d)

-- same names are neighbours: what stands between them is the same too
pub same_between : (n m o : Name) → same_name n o ≡ true → name_before n m ≡ true → name_before m o ≡ true → same_name n m ≡ true
same_between n m o s p q = lowered_same n m (go (name_way n m p) (name_way m o q))
  where
    ends : lowered n ≡ lowered o
    ends = same_lowered n o s

    go : Way n m → Way m o → lowered n ≡ lowered m
    go (spelled e h) w = e
    go (lower_first h) (lower_first k) =
        absurd (true≢false (sym (rw (← ends) at (before_transitive (lowered n) (lowered m) (lowered o) h k)) ∙ before_irreflexive (lowered n)))
    go (lower_first h) (spelled e k) = ends ∙ sym e

-- in order, and not the same: what a base asks of two names of an SDS
abbrev pub apart : Name → Name → Bool
apart n m = name_before n m && not (same_name n m)

-- the lowered names alone tell it
pub apart_lowered : (n m : Name) → apart n m ≡ bytes_before (lowered n) (lowered m)
apart_lowered n m = same_test (apart n m) (bytes_before (lowered n) (lowered m)) there back
  where
    there : apart n m ≡ true → bytes_before (lowered n) (lowered m) ≡ true
    there e = let (p, other) = and_both (name_before n m) (not (same_name n m)) e in go (name_way n m p) other
      where
        go : Way n m → not (same_name n m) ≡ true → bytes_before (lowered n) (lowered m) ≡ true
        go (lower_first h) other = h
        go (spelled l h) other = absurd (true≢false (sym other ∙ ap not (lowered_same n m l)))

    back : bytes_before (lowered n) (lowered m) ≡ true → apart n m ≡ true
    back h =
        let other : same_name n m ≡ false
        = fails (same_name n m) (λ e. true≢false (sym (rw (same_lowered n m e) at h) ∙ before_irreflexive (lowered m))) in
        and_of (name_before n m) (not (same_name n m)) (way_name (lower_first h)) (ap not other)

-- lowered, then as they are spelled, then what stands behind them: names of one length in their order
pub spelled_before : (n m u v : List ℕ) → length n ≡ length m
    → bytes_before (lowered n ++ (n ++ u)) (lowered m ++ (m ++ v)) ≡ (name_before n m || (not (name_before m n) && bytes_before u v))
spelled_before n m u v long = go (name_before n m) refl (name_before m n) refl
  where
    decided : (n m u v : List ℕ) → length n ≡ length m → Way n m → bytes_before (lowered n ++ (n ++ u)) (lowered m ++ (m ++ v)) ≡ true
    decided n m u v l (lower_first h) = before_ahead (lowered n) (lowered m) (n ++ u) (m ++ v) (length_lowered n ∙ l ∙ sym (length_lowered m)) h
    decided n m u v l (spelled e h) = rw e (before_behind (lowered m) (n ++ u) (m ++ v) ∙ before_ahead n m u v l h)

    go : (s : Bool) → name_before n m ≡ s → (t : Bool) → name_before m n ≡ t
        → bytes_before (lowered n ++ (n ++ u)) (lowered m ++ (m ++ v)) ≡ (s || (not t && bytes_before u v))
    go true p t q = decided n m u v long (name_way n m p)
    go false p true q =
        before_asymmetric (lowered m ++ (m ++ v)) (lowered n ++ (n ++ u)) (decided m n v u (sym long) (name_way m n q))
    go false p false q = rw (name_connected n m p q) (before_behind (lowered m) (m ++ u) (m ++ v) ∙ before_behind m u v)

-- ---- names in fields

-- in fields padded with zeros well-formed names stand in their order
padded_before : (n m : Name) (w j : ℕ) → length n ≤ w → length m ≤ w → w ≤ j → (0 ∈ n → ⊥) → (0 ∈ m → ⊥)
    → bytes_before (take w (n ++ replicate j 0)) (take w (m ++ replicate j 0)) ≡ bytes_before n m
unfolding bytes_before
padded_before [] [] w j h k l p q = before_irreflexive (take w (replicate j 0))
padded_before [] (zero ∷ m) w j h k l p q = absurd (q (Memᴰ.head refl))
padded_before [] (suc y ∷ m) zero j h k l p q = absurd (omega arith)
padded_before [] (suc y ∷ m) (suc w) zero h k l p q = absurd (omega arith)
padded_before [] (suc y ∷ m) (suc w) (suc j) h k l p q = rw (lt-ltb 0 (suc y) (omega arith))
padded_before (zero ∷ n) m w j h k l p q = absurd (p (Memᴰ.head refl))
padded_before (suc x ∷ n) [] zero j h k l p q = absurd (omega arith)
padded_before (suc x ∷ n) [] (suc w) zero h k l p q = absurd (omega arith)
padded_before (suc x ∷ n) [] (suc w) (suc j) h k l p q = rw (le-ltb (suc x) 0 (omega arith), ne_eqb (suc x) 0 (λ e. omega arith))
padded_before (suc x ∷ n) (zero ∷ m) w j h k l p q = absurd (q (Memᴰ.head refl))
padded_before (suc x ∷ n) (suc y ∷ m) zero j h k l p q = absurd (omega arith)
padded_before (suc x ∷ n) (suc y ∷ m) (suc w) j h k l p q =
    ap (λ (t : Bool). ltb (suc x) (suc y) || (eqb (suc x) (suc y) && t))
    (padded_before n m w j (omega arith) (omega arith) (omega arith) (λ i. p (Memᴰ.tail i)) (λ i. q (Memᴰ.tail i)))

-- a name that a field holds whole, well formed or blank
pub record Fits (n : Name) : Type 0 where
  pub short : length n ≤ 16
  pub no_zero : 0 ∈ n → ⊥

pub formed_fits : (n : Name) → well_formed n ≡ true → Fits n
formed_fits n e = record { short = (formed_long n e).1; no_zero = formed_no_zero n e }

pub blank_fits : Fits []
blank_fits = record { short = omega arith; no_zero = λ i. Memᴰ.not-nil i }

-- the name of a presence, which is blank where that is nameless
module _ (n : Name) (e : blank n || well_formed n ≡ true) where
  pub name_fits : Fits n
  name_fits = ⊎_elim (λ b. rw (blank_is n b) blank_fits) (formed_fits n) (or_cases (blank n) (well_formed n) e)

  pub name_letters : all letter_or_digit n ≡ true
  unfolding all
  name_letters = ⊎_elim (λ b. rw (blank_is n b) refl) (formed_letters n) (or_cases (blank n) (well_formed n) e)

-- so it is in lower case
lowered_fits : {n : Name} → Fits n → Fits (lowered n)
unfolding lowered lower
lowered_fits {n} f = record {
  short = omega (arith, f.short, length_lowered n);
  no_zero = λ i. let (c, there, e) = map_in lower n i in f.no_zero (none c there e);
}
  where
    none : (c : ℕ) → c ∈ n → 0 ≡ lower c → 0 ∈ n
    none c there e = let zero : c ≡ 0 = ⊎_elim (λ w. omega (arith, w.1)) (λ w. omega (arith, w)) (lower_way c) in rw zero at there

fits_before : {n m : Name} → Fits n → Fits m → bytes_before (pad 16 n) (pad 16 m) ≡ bytes_before n m
unfolding pad
fits_before {n} {m} f g = padded_before n m 16 16 f.short g.short (omega arith) f.no_zero g.no_zero

-- in lower case fields stand as the names do
lowered_before : {n m : Name} → Fits n → Fits m → bytes_before (lowered (pad 16 n)) (lowered (pad 16 m)) ≡ bytes_before (lowered n) (lowered m)
lowered_before {n} {m} f g = rw (lowered_pad 16 n, lowered_pad 16 m) (fits_before (lowered_fits f) (lowered_fits g))

-- fields in which names stand are the same where the names are
pub pad_same : {n m : Name} → Fits n → Fits m → same_name (pad 16 n) (pad 16 m) ≡ same_name n m
pad_same {n} {m} f g =
    same_test (same_name (pad 16 n) (pad 16 m)) (same_name n m)
    (λ e.
    let one = same_lowered (pad 16 n) (pad 16 m) e in
    lowered_same n m (before_connected (lowered n) (lowered m)
    (sym (lowered_before f g) ∙ rw one (before_irreflexive (lowered (pad 16 m))))
    (sym (lowered_before g f) ∙ rw one (before_irreflexive (lowered (pad 16 m))))))
    (λ e. lowered_same (pad 16 n) (pad 16 m) (lowered_pad 16 n ∙ ap (pad 16) (same_lowered n m e) ∙ sym (lowered_pad 16 m)))

pub pad_before : {n m : Name} → Fits n → Fits m → name_before (pad 16 n) (pad 16 m) ≡ name_before n m
unfolding name_before
pad_before f g = rw (lowered_before f g, pad_same f g, fits_before f g)

-- the tie of the bytes, and of the keys made of them, to the order: in lower case one field is before another where the names are apart
pub pad_apart : {n m : Name} → Fits n → Fits m → bytes_before (lowered (pad 16 n)) (lowered (pad 16 m)) ≡ apart n m
pad_apart {n} {m} f g = lowered_before f g ∙ sym (apart_lowered n m)
