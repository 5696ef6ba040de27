-- A walk over the numbers of a list of SDSs: what it has found, as far as it has come. Assumes nothing.
use Prim.Native.Nat.{ℕ, ◌+◌, ◌≤◌, ◌<◌}
use native.Mathlib.Numerals.{add-one}
use mathlib.Core.Path.{◌≡◌, refl, sym, ap, ◌∙◌}
use mathlib.Core.List.{List, [], ◌∷◌}
use mathlib.Core.Bool.{Bool, true, false, ◌||◌, or-false}
use lib.Dec.{eqb}
use lib.ListN.{length, get_or, drop, drop_of_length-le}
use lib.Seq.{drop-cons}
use Rattle.std.specs.List.{list_any}
use Rattle.rules.specs.01-Lists.{any, among, repeated}
use Rattle.rules.proofs.Bools.{or_crossed, eqb_turned}
use Rattle.rules.proofs.01-Lists.{any_nowhere}

-- what is left behind one place more
drop_next : (l : List ℕ) (i : ℕ) → i < length l → drop i l ≡ get_or l i 0 ∷ drop (i + 1) l
drop_next l i h = drop-cons l i 0 h ∙ ap (λ (j : ℕ). get_or l i 0 ∷ drop j l) (sym (add-one i))

-- what the library says of a list, in the rules' word
pub any_is : {A : Type 0} (p q : A → Bool) → ((x : A) → p x ≡ q x) → (l : List A) → list_any p l ≡ any q l
unfolding any
any_is p q same [] = refl
any_is p q same (x ∷ l) = rw (same x, any_is p q same l)

-- ---- a number twice: met before, or twice in what is left

-- m is what the places before i hold
pub record Met (w : List ℕ) (i : ℕ) (m : ℕ → Bool) : Type 0 where
  pub is : repeated w ≡ any m (drop i w) || repeated (drop i w)

either : (a b c : Bool) → a || (b || c) ≡ (b || a) || c
either true true c = refl
either true false c = refl
either false b c = ap (λ (x : Bool). x || c) (sym (or-false b))

any_added : (m n : ℕ → Bool) (x : ℕ) → ((k : ℕ) → n k ≡ eqb k x || m k) → (l : List ℕ) → any n l ≡ among l x || any m l
unfolding any
any_added m n x h [] = refl
any_added m n x h (y ∷ l) = rw (h y, eqb_turned y x, any_added m n x h l) (or_crossed (eqb x y) (m y) (among l x) (any m l))

any_no : (m : ℕ → Bool) → ((k : ℕ) → m k ≡ false) → (l : List ℕ) → any m l ≡ false
any_no m none l = any_nowhere m l (λ i h. none (get_or l i 0))

module _ {w : List ℕ} where
  pub met_none : (m : ℕ → Bool) → ((k : ℕ) → m k ≡ false) → Met w 0 m
  met_none m none = record { is = ap (λ (b : Bool). b || repeated w) (sym (any_no m none w)) }

  module _ {i : ℕ} {m : ℕ → Bool} (met : Met w i m) where
    pub met_twice : i < length w → m (get_or w i 0) ≡ true → repeated w ≡ true
    unfolding any
    met_twice h e = met.is ∙ rw (drop_next w i h, e)

    pub met_more : (n : ℕ → Bool) → i < length w → m (get_or w i 0) ≡ false → ((k : ℕ) → n k ≡ eqb k (get_or w i 0) || m k) → Met w (i + 1) n
    unfolding any repeated
    met_more n h e add =
        let l = drop (i + 1) w in
        let x = get_or w i 0 in
        record { is = met.is ∙ rw (drop_next w i h, e, any_added m n x add l) (either (any m l) (among l x) (repeated l)) }

    pub met_all : length w ≤ i → repeated w ≡ false
    unfolding any repeated
    met_all h = met.is ∙ rw (drop_of_length-le w h)

-- ---- the numbers, gathered

-- p holds of the numbers before place i, and of no other
pub record Gathered (w : List ℕ) (i : ℕ) (p : ℕ → Bool) : Type 0 where
  pub is : (k : ℕ) → among w k ≡ p k || among (drop i w) k

module _ {w : List ℕ} where
  pub gathered_none : (p : ℕ → Bool) → ((k : ℕ) → p k ≡ false) → Gathered w 0 p
  gathered_none p none = record { is = λ k. ap (λ (b : Bool). b || among w k) (sym (none k)) }

  module _ {i : ℕ} {p : ℕ → Bool} (g : Gathered w i p) where
    pub gathered_more : (q : ℕ → Bool) → i < length w → ((k : ℕ) → q k ≡ eqb k (get_or w i 0) || p k) → Gathered w (i + 1) q
    unfolding any
    gathered_more q h add =
        record { is = λ k. g.is k ∙ rw (drop_next w i h, add k) (either (p k) (eqb k (get_or w i 0)) (among (drop (i + 1) w) k)) }

    pub gathered_all : length w ≤ i → (k : ℕ) → p k ≡ among w k
    unfolding any
    gathered_all h k = sym (g.is k ∙ rw (drop_of_length-le w h) (or-false (p k)))
