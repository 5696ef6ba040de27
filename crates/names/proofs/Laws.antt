-- Laws of the definitions, over plain lists and numbers: each proof of a function applies them. Assumes nothing.
use Rattle.std.proofs.Common.{◌≡◌, ◌≢◌, ℕ, zero, suc, ◌<◌, ◌≤◌, Bool, true, false, ◌&&◌, ◌||◌, eqb, List, [], ◌∷◌, map, length, get_or, take, drop, zip}
use Rattle.std.proofs.Common.{Option, Some, None, Bor, not, unwrap_or}
use Rattle.std.proofs.Common.{refl, sym, ap, ◌∙◌, eqb-true, ne_eqb, le-leb, arith}
use mathlib.Core.Bool.{beq}
use lib.Dec.{eqb-suc-zero}
use lib.Pointwise.{pointwise}
use borrow.Author.Count.{below_more}
use Rattle.std.specs.Char.{to_ascii_lowercase, is_ascii_alphabetic, is_ascii_alphanumeric}
use Rattle.std.specs.Bool.{then_some}
use Rattle.std.specs.List.{list_all, list_any}
use Rattle.std.proofs.lemmas.Bool.Decides.{nat_tests}
use Rattle.rules.specs.01-Lists.{same_bytes, any, all}
use Rattle.rules.specs.02-Limits.{limits}
use Rattle.rules.specs.03-Names.{Name, letter, letter_or_digit, well_formed, lower, lowered, same_name, parted, names_in}
use Rattle.rules.specs.14-Run.{joined}
use Rattle.rules.proofs.01-Lists.{same_bytes_is, same_bytes_refl}
use Rattle.rules.proofs.Bools.{and_both}
use Rattle.rules.proofs.Bools as bools
use Rattle.names.specs.Run.{left_in}

-- ---- tests of bytes, by computation

-- the test passes at each number below n
abbrev pub every : (ℕ → Bool) → ℕ → Bool
every p zero = true
every p (suc n) = p n && every p n

pub every_at : (p : ℕ → Bool) (n : ℕ) → every p n ≡ true → (k : ℕ) → k < n → p k ≡ true
every_at p zero e k h = absurd (omega arith)
every_at p (suc n) e k h =
    let (here, below) = and_both (p n) (every p n) e in
    below_more (λ x. p x ≡ true) n (every_at p n below) here k (omega arith)

same_test : (a b : Bool) → beq a b ≡ true → a ≡ b
same_test true true e = refl
same_test true false e = cc
same_test false true e = e
same_test false false e = refl

-- two tests that agree at each of the 256 bytes
pub agree : (f g : ℕ → Bool) → every (λ c. beq (f c) (g c)) 256 ≡ true → (c : ℕ) → c < 256 → f c ≡ g c
agree f g e c h = same_test (f c) (g c) (every_at (λ x. beq (f x) (g x)) 256 e c h)

-- ---- the library's words for what the rules say

module _ {A : Type 0} (p : A → Bool) where
  pub all_is : (l : List A) → list_all p l ≡ all p l
  unfolding all
  all_is [] = refl
  all_is (x ∷ l) = ap (λ t. p x && t) (all_is l)

  pub any_is : (l : List A) → list_any p l ≡ any p l
  unfolding any
  any_is [] = refl
  any_is (x ∷ l) = ap (λ t. p x || t) (any_is l)

-- `==` of slices
pub equal_is : (a b : List ℕ) → pointwise eqb a b ≡ same_bytes a b
unfolding same_bytes
equal_is [] [] = refl
equal_is [] (y ∷ b) = refl
equal_is (x ∷ a) [] = refl
equal_is (x ∷ a) (y ∷ b) = ap (λ t. eqb x y && t) (equal_is a b)

pub lower_is : (c : ℕ) → to_ascii_lowercase c ≡ lower c
unfolding lower
lower_is c = grind (arith, nat_tests)

-- names of one length are the same where their bytes are, place by place, in lower case
abbrev pub alike : ℕ × ℕ → Bool
alike p = eqb (lower p.0) (lower p.1)

pub zipped_is : (a b : Name) → length a ≡ length b → list_all alike (zip a b) ≡ same_name a b
unfolding same_name same_bytes lowered
zipped_is [] [] e = refl
zipped_is [] (y ∷ b) e = absurd (omega arith)
zipped_is (x ∷ a) [] e = absurd (omega arith)
zipped_is (x ∷ a) (y ∷ b) e = ap (λ t. eqb (lower x) (lower y) && t) (zipped_is a b (omega arith))

-- ---- which names are well formed

pub letter_is : (c : ℕ) → is_ascii_alphabetic c ≡ letter c
unfolding letter
letter_is c = grind (arith, nat_tests)

pub letter_or_digit_is : (c : ℕ) → is_ascii_alphanumeric c || eqb c 95 ≡ letter_or_digit c
unfolding letter_or_digit letter
letter_or_digit_is c = grind (arith, nat_tests)

module _ (n : Name) where
  pub formed_out : ((1 ≤ length n) × (length n ≤ limits.name) → ⊥) → well_formed n ≡ false
  unfolding well_formed
  formed_out h = grind (arith, nat_tests)

  pub formed_is : 1 ≤ length n → length n ≤ limits.name → well_formed n ≡ letter (get_or n 0 0) && all letter_or_digit n
  unfolding well_formed
  formed_is low high = simp (le-leb 1 (length n) low, le-leb (length n) limits.name high)

-- ---- a run of names

-- the first name ends at the first space
pub parted_at : (l : List ℕ) (i : ℕ) → i < length l → get_or l i 0 ≡ 32 → ((k : ℕ) → k < i → get_or l k 0 ≢ 32)
    → parted l ≡ take i l ∷ parted (drop (suc i) l)
unfolding parted
parted_at [] i h s n = absurd (omega arith)
parted_at (c ∷ cs) zero h s n = rw s
parted_at (c ∷ cs) (suc i) h s n =
    rw (ne_eqb c 32 (n 0 (omega arith)), parted_at cs i (omega arith) s (λ k b. n (suc k) (omega arith)))

pub parted_whole : (l : List ℕ) → ((k : ℕ) → k < length l → get_or l k 0 ≢ 32) → parted l ≡ l ∷ []
unfolding parted
parted_whole [] n = refl
parted_whole (c ∷ cs) n = rw (ne_eqb c 32 (n 0 (omega arith)), parted_whole cs (λ k b. n (suc k) (omega arith)))

-- there is one at least
pub parted_some : (l : List ℕ) → (n : Name) × (ns : List Name) × (parted l ≡ n ∷ ns)
unfolding parted
parted_some [] = ([], [], refl)
parted_some (c ∷ cs) = go (eqb c 32) refl (parted_some cs)
  where
    go : (t : Bool) → eqb c 32 ≡ t → (n : Name) × (ns : List Name) × (parted cs ≡ n ∷ ns)
        → (n : Name) × (ns : List Name) × (parted (c ∷ cs) ≡ n ∷ ns)
    go true e (n, ns, q) = ([], parted cs, rw e)
    go false e (n, ns, q) = (c ∷ n, ns, rw (e, q))

joined_onto : (c : ℕ) (n : Name) (ns : List Name) → joined ((c ∷ n) ∷ ns) ≡ c ∷ joined (n ∷ ns)
unfolding joined
joined_onto c n [] = refl
joined_onto c n (m ∷ ns) = refl

joined_parted : (l : List ℕ) → joined (parted l) ≡ l
unfolding parted joined
joined_parted [] = refl
joined_parted (c ∷ cs) = go (eqb c 32) refl (parted_some cs) (joined_parted cs)
  where
    go : (t : Bool) → eqb c 32 ≡ t → (n : Name) × (ns : List Name) × (parted cs ≡ n ∷ ns)
        → joined (parted cs) ≡ cs → joined (parted (c ∷ cs)) ≡ c ∷ cs
    go true e (n, ns, q) ih =
        rw (e, q) (ap (λ (r : List ℕ). 32 ∷ r) (ap joined (sym q) ∙ ih) ∙ ap (λ (x : ℕ). x ∷ cs) (sym (eqb-true c 32 e)))
    go false e (n, ns, q) ih = rw (e, q) (joined_onto c n ns ∙ ap (λ (r : List ℕ). c ∷ r) (ap joined (sym q) ∙ ih))

-- at the start of a run all of its names are left
pub begun : (run : Bor (List ℕ)) → left_in (then_some (not (eqb (length run.now) 0)) run) ≡ names_in run.now
unfolding left_in names_in
begun run = go run.now refl
  where
    go : (l : List ℕ) → run.now ≡ l → left_in (then_some (not (eqb (length l) 0)) run) ≡ names_in l
    go [] e = refl
    go (c ∷ cs) e = rw (eqb-suc-zero (length cs)) (ap parted e)

-- the names that are left, put together again, are what is left of the run
pub rest_is : (rest : Option (Bor (List ℕ))) (none : Bor (List ℕ)) → none.now ≡ [] → (unwrap_or rest none).now ≡ joined (left_in rest)
unfolding left_in joined
rest_is None none e = e
rest_is (Some run) none e = sym (joined_parted run.now)
