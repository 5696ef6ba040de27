-- A verdict, condition by condition: one that fails is passed over, one that holds refuses, and what is left of the list decides.
-- Assumes nothing.
use Prim.Native.Nat.{ℕ, ◌≤◌, ◌<◌}
use native.Mathlib.Omega.{arith}
use mathlib.Core.Path.{◌≡◌, refl, ◌∙◌, subst}
use mathlib.Core.Logic.{⊎_elim}
use mathlib.Core.List.{List, [], ◌∷◌}
use mathlib.Core.List.Memᴰ
use mathlib.Core.Bool.{Bool, true, false, cond, ◌||◌}
use lib.Dec.{ltb, eqb}
use lib.ListN.{length, get_or}
use borrow.Author.Tests.{ltb-true, ltb-false, lt-ltb, eqb-true}
use Rattle.rules.specs.01-Lists.{◌∈◌, all}
use Rattle.rules.specs.04-Schema.{Schema, Side, has_end}
use Rattle.rules.specs.04-Schema.Side.{origin, destination}
use Rattle.rules.specs.05-Descent.{members}
use Rattle.rules.specs.09-Refusals.{Outcome, Refusal, Refusals, ◌when◌, ◌held_by◌, verdict, end_of}
use Rattle.rules.specs.09-Refusals.Outcome.{refused, done}
use Rattle.rules.proofs.Bools.{and_both, or_cases, or_left, or_right}
use Rattle.rules.proofs.01-Lists.{all_at, place_in, numbers_first, numbers_none, numbers_lowest}
use Rattle.rules.proofs.05-Descent.{members_in}

-- the condition of the first row with number n; there is none where it fails
abbrev pub condition : ℕ → Refusals → Bool
condition n [] = false
condition n (r ∷ rs) = cond (eqb r.no n) r.holds (condition n rs)

-- every condition fails, and each is asked for by its number
pub record Passed (rs : Refusals) : Type 0 where
  pub fails : (n : ℕ) → condition n rs ≡ false

pub passed_none : Passed []
passed_none = record { fails = λ n. refl }

pub passed_more : {r : Refusal} {rs : Refusals} → r.holds ≡ false → Passed rs → Passed (r ∷ rs)
passed_more {r} {rs} e p = record { fails = λ n. go n (eqb r.no n) }
  where
    go : (n : ℕ) (same : Bool) → cond same r.holds (condition n rs) ≡ false
    go n true = e
    go n false = p.fails n

module _ {Made : Type 0} where
  -- the conditions that are left decide
  pub record Left (o : Outcome Made) (rs : Refusals) (effect : Outcome Made) : Type 0 where
    pub is : o ≡ verdict rs effect

  module _ {o effect : Outcome Made} {r : Refusal} {rs : Refusals} where
    pub passes : Left o (r ∷ rs) effect → r.holds ≡ false → Left o rs effect
    unfolding verdict
    passes p q = record { is = p.is ∙ rw q }

    pub stops : Left o (r ∷ rs) effect → r.holds ≡ true → o ≡ refused r.no r.value
    unfolding verdict
    stops p q = p.is ∙ rw q

  pub ends : {o effect : Outcome Made} → Left o [] effect → o ≡ effect
  unfolding verdict
  ends p = p.is

  -- two conditions of one number
  pub verdict_either : (n : ℕ) (x y : Bool) (rs : Refusals) (effect : Outcome Made)
      → verdict ((n when x || y) ∷ rs) effect ≡ verdict ((n when x) ∷ (n when y) ∷ rs) effect
  unfolding verdict
  verdict_either n true y rs effect = refl
  verdict_either n false y rs effect = refl

  -- what holds of each refusal, and of the effect where all conditions fail, holds of the verdict
  pub verdict_keeps : (P : Outcome Made → Type 0) (rs : Refusals) (effect : Outcome Made) → ((r : Refusal) → r ∈ rs → P (refused r.no r.value))
      → (Passed rs → P effect) → P (verdict rs effect)
  unfolding verdict
  verdict_keeps P [] effect f g = g passed_none
  verdict_keeps P (r ∷ rs) effect f g = go r.holds refl (verdict_keeps P rs effect (λ q i. f q (Memᴰ.tail i)))
    where
      go : (t : Bool) → r.holds ≡ t → ((Passed rs → P effect) → P (verdict rs effect)) → P (cond t (refused r.no r.value) (verdict rs effect))
      go true q k = f r (Memᴰ.head refl)
      go false q k = k (λ w. g (passed_more q w))

  -- where a call is done no condition held, and it made what its effect makes
  pub verdict_done : (P : Made → Type 0) (rs : Refusals) (a b c : ℕ) (made : Made) {a' b' c' : ℕ} {made' : Made}
      → verdict rs (done a b c made) ≡ done a' b' c' made' → (Passed rs → P made) → P made'
  verdict_done P rs a b c made {a'} {b'} {c'} {made'} e f =
      verdict_keeps (λ o. o ≡ done a' b' c' made' → P made') rs (done a b c made)
      (λ r _ e. absurd (let z : ◌≡◌ {A = ℕ} 0 1 = cc in omega arith))
      (λ passed e. let same : made ≡ made' = cc in subst P same (f passed))
      e

-- ---- what refusals tell

-- what is so of the number and of the value where it refuses
abbrev pub Refusing : {Made : Type 0} → (ℕ → ℕ → Type 0) → Outcome Made → Type 0
Refusing P (refused n value) = P n value
Refusing P (done one two three made) = Unit {0}

-- none tells a value
abbrev pub untold : Refusals → Bool
untold rs = all (λ r. eqb r.value 0) rs

pub untold_at : (rs : Refusals) → untold rs ≡ true → {r : Refusal} → r ∈ rs → r.value ≡ 0
untold_at rs e {r} i = eqb-true r.value 0 (all_at (λ r. eqb r.value 0) e i)

-- ---- held by the types that pass

module _ (n : ℕ) (p : ℕ → Bool) where
  pub held : {r : ℕ} → r < 128 → p r ≡ true → ((k : ℕ) → k < r → p k ≡ false)
      → ((n held_by members p).holds ≡ true) × ((n held_by members p).value ≡ r)
  unfolding members
  held {r} h e none = first_of (members p) (numbers_first p 0 128 r (omega arith) (omega arith) (λ k _ w. none k w) e)
    where
      first_of : (l : List ℕ) {rest : List ℕ} → l ≡ r ∷ rest → (ltb 0 (length l) ≡ true) × (get_or l 0 0 ≡ r)
      first_of l {rest} is = rw is (lt-ltb 0 (length (r ∷ rest)) (omega arith), refl)

  pub unheld : ((k : ℕ) → k < 128 → p k ≡ false) → (n held_by members p).holds ≡ false
  unfolding members
  unheld none = rw (numbers_none p 0 128 (λ k _ w. none k (omega arith))) refl

  -- conversely: the type that is told passes and no lower one does; where none is told, none passes
  pub told_passes : (n held_by members p).holds ≡ true → p (n held_by members p).value ≡ true
  told_passes e = (members_in p _ (place_in 0 (members p) 0 (ltb-true 0 (length (members p)) e))).1

  pub told_lowest : (n held_by members p).holds ≡ true → (k : ℕ) → k < (n held_by members p).value → p k ≡ false
  unfolding members
  told_lowest e k u = numbers_lowest p 0 128 k (omega arith) (omega (arith, u, first_is (members p) (ltb-true 0 (length (members p)) e)))
    where
      first_is : (l : List ℕ) → 0 < length l → get_or l 0 0 ≡ get_or l 0 128
      first_is [] h = absurd (omega arith)
      first_is (x ∷ l) h = refl

  pub none_passes : (n held_by members p).holds ≡ false → (k : ℕ) → k < 128 → p k ≡ false
  unfolding members
  none_passes e k u = numbers_lowest p 0 128 k (omega arith) (omega (arith, u, none_is (members p) (ltb-false 0 (length (members p)) e)))
    where
      none_is : (l : List ℕ) → length l ≤ 0 → get_or l 0 128 ≡ 128
      none_is [] h = refl
      none_is (x ∷ l) h = absurd (omega arith)

-- ---- an end, on whichever side

module _ (s : Schema) (d l : ℕ) where
  pub on_side : (side : Side) (o : ℕ) → has_end s d l side o ≡ true → end_of s d l o ≡ true
  unfolding end_of
  on_side origin o e = or_left (has_end s d l origin o) (has_end s d l destination o) e
  on_side destination o e = or_right (has_end s d l origin o) (has_end s d l destination o) e

  pub of_side : (o : ℕ) → end_of s d l o ≡ true → (side : Side) × (has_end s d l side o ≡ true)
  unfolding end_of
  of_side o e = ⊎_elim (λ f. (origin, f)) (λ f. (destination, f)) (or_cases (has_end s d l origin o) (has_end s d l destination o) e)

-- ---- the numbers of refusals

-- every number is beyond k
abbrev pub numbers_beyond : ℕ → Refusals → Bool
numbers_beyond k rs = all (λ r. ltb k r.no) rs

module _ {Made : Type 0} (k : ℕ) where
  -- where it refuses, its number is beyond k
  abbrev pub Beyond : Outcome Made → Type 0
  Beyond (refused n value) = k < n
  Beyond (done one two three made) = Unit {0}

  pub verdict_beyond : (rs : Refusals) (effect : Outcome Made) → numbers_beyond k rs ≡ true → Beyond effect → Beyond (verdict rs effect)
  unfolding verdict all
  verdict_beyond [] effect h p = p
  verdict_beyond (r ∷ rs) effect h p =
      let (first, rest) = and_both (ltb k r.no) (numbers_beyond k rs) h in
      go r.holds (ltb-true k r.no first) (verdict_beyond rs effect rest p)
    where
      go : (t : Bool) → k < r.no → Beyond (verdict rs effect) → Beyond (cond t (refused r.no r.value) (verdict rs effect))
      go true l q = l
      go false l q = q
