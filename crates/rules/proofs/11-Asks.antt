-- The stretch of a local name. The words of the set of descendants: bit n mod 64 of word n div 64 is the mark of type n. And the list of descendants is whole.
-- Assumes nothing.
use Prim.Native.Nat.{ℕ, zero, suc, ◌+◌, ◌*◌, ◌/◌, ◌%◌, ◌^◌, ◌≤◌, ◌<◌, max}
use native.Mathlib.Nat.{div-one, add-zero, zero-add, div-eq_of_lt, pow-suc}
use native.Mathlib.Numerals.{one-add}
use native.Mathlib.Omega.{arith}
use mathlib.Core.Path.{◌≡◌, refl, sym, ap, ◌∙◌, subst}
use mathlib.Core.List.{List, [], ◌∷◌}
use mathlib.Core.Bool.{Bool, true, false, not, cond, ◌&&◌, ◌||◌, true≢false, false≢true}
use lib.Arith.{digits_mod, digits_div}
use lib.Bits.{bit_or, or_step}
use lib.Dec.{ltb, eqb}
use lib.ListN.{length, get_or, take, drop}
use lib.Pow.{pow_mono, shr-shr}
use borrow.Author.Tests.{ltb-true, ltb-false, eqb-true}
use Rattle.rules.specs.Read.{name_offset}
use Rattle.rules.specs.02-Limits.{limits}
use Rattle.rules.specs.01-Lists.{any, all, first, place, numbers}
use Rattle.rules.specs.03-Names.{Name}
use Rattle.rules.specs.04-Schema.{Schema, Modes, Presence, all_modes, has_mode, system_presence, nowhere, holds_type, present, local_name}
use Rattle.rules.specs.05-Descent.{descends, members}
use Rattle.rules.specs.06-Good.{Good}
use Rattle.rules.specs.07-Picture.{sds_row, type_row, picture, name_start, sds_width, type_width, presence_width, base_length}
use Rattle.rules.specs.08-Working.{visible, shown}
use Rattle.rules.specs.09-Refusals.{Outcome, answer_of, not_present}
use Rattle.rules.specs.11-Asks.{name, name_refusals, one_if, marks, visible_descendant, object_scan_list}
use Rattle.rules.specs.13-History.{WholeList}
use Rattle.rules.proofs.05-Descent.{members_rising, descends_sound, descends_full}
use Rattle.rules.proofs.01-Lists.{all_at, place_in, numbers_of}
use Rattle.rules.proofs.03-Names.{name_fits}
use Rattle.rules.proofs.07-Picture.{length_table, wide_sds, wide_type, name_stretch}
use Rattle.rules.proofs.08-Working.{shown_in, shown_of}
use Rattle.rules.proofs.09-Refusals.{verdict_keeps, untold_at}

-- ---- the stretch that a name call tells of holds the local name

pub place_is : {A : Type 0} (p : A → Bool) (e : A) (l : List A) (r : ℕ) → r < length l → ((i : ℕ) → i < r → p (get_or l i e) ≡ false) → p (get_or l r e) ≡ true
    → place p l ≡ r
unfolding place
place_is p e [] r h others here = absurd (omega arith)
place_is p e (x ∷ l) zero h others here = rw here
place_is p e (x ∷ l) (suc r) h others here = rw (others 0 (omega arith)) (ap suc (place_is p e l r (omega arith) (λ i k. others (suc i) (omega arith)) here))

pub first_at : {A : Type 0} (p : A → Bool) (d e : A) (l : List A) → any p l ≡ true → (place p l < length l) × (first p d l ≡ get_or l (place p l) e)
unfolding any first place
first_at p d e [] h = absurd (false≢true h)
first_at p d e (x ∷ l) h = go (p x) refl (first_at p d e l)
  where
    go : (b : Bool) → p x ≡ b → (any p l ≡ true → (place p l < length l) × (first p d l ≡ get_or l (place p l) e))
        → (cond b 0 (suc (place p l)) < suc (length l)) × (cond b x (first p d l) ≡ get_or (x ∷ l) (cond b 0 (suc (place p l))) e)
    go true q ih = (omega arith, refl)
    go false q ih = let (u, f) = ih (rw q at h) in (omega arith, f)

pub name_shown : {s : Schema} → Good s → (d t : ℕ) → present s d t ≡ true
    → take (length (local_name s d t)) (drop (name_start s (place (holds_type d t) s.presences)) (picture s)) ≡ local_name s d t
unfolding present local_name
name_shown {s} good d t e =
    let (u, f) = first_at (holds_type d t) nowhere system_presence s.presences e in
    let k = place (holds_type d t) s.presences in
    subst (λ (n : Name). take (length n) (drop (name_start s k) (picture s)) ≡ n) (sym (ap (λ (p : Presence). p.name) f)) (name_stretch good k u)

-- the local name, and where it starts, by the place of its presence
pub local_at : (s : Schema) (d t : ℕ) → present s d t ≡ true
    → (place (holds_type d t) s.presences < length s.presences)
    × (local_name s d t ≡ (get_or s.presences (place (holds_type d t) s.presences) system_presence).name)
unfolding present local_name
local_at s d t e =
    let (u, f) = first_at (holds_type d t) nowhere system_presence s.presences e in
    (u, ap (λ (p : Presence). p.name) f)

pub name_start_is : (s : Schema) (k : ℕ) → name_start s k ≡ limits.sdss * sds_width + limits.types * type_width + k * presence_width + name_offset
unfolding name_start
name_start_is s k = omega (
  arith,
  length_table sds_width sds_row wide_sds limits.sdss s.sdss,
  length_table type_width type_row wide_type
      limits.types s.types,
)

-- the stretch lies within the base
pub name_within : {s : Schema} → Good s → (d t : ℕ) → (answer_of (name d t s)).one + (answer_of (name d t s)).two ≤ base_length
unfolding name not_present all
name_within {s} good d t =
    verdict_keeps (λ (o : Outcome (List ℕ)). (answer_of o).one + (answer_of o).two ≤ base_length) (name_refusals d t s) _
    (λ r i. omega (arith, untold_at (name_refusals d t s) refl i))
    (λ w. let (u, f) = local_at s d t (shown (present s d t) (w.fails 6)) in
    let p = get_or s.presences (place (holds_type d t) s.presences) system_presence in
    let long : length p.name ≤ 16 = (name_fits p.name (good.presence_named p (place_in system_presence s.presences _ u))).short in
    omega (arith, good.presence_room, name_start_is s (place (holds_type d t) s.presences), ap length f))
  where
    shown : (b : Bool) → not b ≡ false → b ≡ true
    shown true e = refl
    shown false e = absurd (true≢false e)

-- ---- words

one_if_small : (b : Bool) → one_if b < 2
one_if_small true = omega arith
one_if_small false = omega arith

module _ (p : ℕ → Bool) where
  -- the word fits its bits
  pub marks_fit : (start many : ℕ) → marks start many p < 2 ^ many
  unfolding marks
  marks_fit start zero = omega arith
  marks_fit start (suc many) = omega (arith, marks_fit (suc start) many, one_if_small (p start), pow-suc 2 many)

  -- a bit of the word is the mark of its type
  pub marks_bit : (start many i : ℕ) → i < many → marks start many p / 2 ^ i % 2 ≡ one_if (p (start + i))
  unfolding marks
  marks_bit start zero i h = absurd (omega arith)
  marks_bit start (suc many) zero h =
      rw (div-one (marks (suc start) many p * 2 + one_if (p start)), add-zero start) (digits_mod (marks (suc start) many p) (one_if_small (p start)))
  marks_bit start (suc many) (suc i) h =
      let w = marks (suc start) many p * 2 + one_if (p start) in
      let half : w / 2 ≡ marks (suc start) many p = digits_div (marks (suc start) many p) (one_if_small (p start)) in
      let step : w / 2 ^ suc i ≡ w / 2 / 2 ^ i = ap (λ (x : ℕ). w / 2 ^ x) (sym (one-add i)) ∙ sym (shr-shr w 1 i) in
      let along : suc start + i ≡ start + suc i = omega arith in
      ap (λ (x : ℕ). x % 2) (step ∙ ap (λ (x : ℕ). x / 2 ^ i) half) ∙ marks_bit (suc start) many i (omega arith)
      ∙ ap (λ (x : ℕ). one_if (p x)) along

-- the marks of either of two sets
pub marks_or : (p q : ℕ → Bool) (start many : ℕ) → marks start many (λ k. p k || q k) ≡ bit_or (marks start many p) (marks start many q)
unfolding marks
marks_or p q start zero = refl
marks_or p q start (suc many) =
    rw (marks_or p q (suc start) many, or_step (next p) (next q), half p, half q, low p, low q)
    (ap (λ (x : ℕ). bit_or (rest p) (rest q) * 2 + x) (one_if_or (p start) (q start)))
  where
    rest : (ℕ → Bool) → ℕ
    rest p = marks (suc start) many p

    next : (ℕ → Bool) → ℕ
    next p = rest p * 2 + one_if (p start)

    half : (p : ℕ → Bool) → next p / 2 ≡ rest p
    half p = digits_div (rest p) (one_if_small (p start))

    low : (p : ℕ → Bool) → next p % 2 ≡ one_if (p start)
    low p = digits_mod (rest p) (one_if_small (p start))

    one_if_or : (a b : Bool) → one_if (a || b) ≡ max (one_if a) (one_if b)
    one_if_or true true = refl
    one_if_or true false = refl
    one_if_or false true = refl
    one_if_or false false = refl

-- a mode of a word of five
pub marks_mode : (p : ℕ → Bool) (m : ℕ) → has_mode (marks 0 5 p) m ≡ ltb m 5 && p m
unfolding has_mode
marks_mode p m = go (ltb m 5) refl
  where
    one : (b : Bool) → eqb (one_if b) 1 ≡ b
    one true = refl
    one false = refl

    go : (b : Bool) → ltb m 5 ≡ b → eqb (marks 0 5 p / 2 ^ m % 2) 1 ≡ b && p m
    go true e = ap (λ (x : ℕ). eqb x 1) (marks_bit p 0 5 m (ltb-true m 5 e)) ∙ one (p (0 + m)) ∙ ap p (zero-add m)
    go false e =
        let far : 2 ^ 5 ≤ 2 ^ m = pow_mono (ltb-false m 5 e) in
        let low : marks 0 5 p < 2 ^ m = omega (arith, marks_fit p 0 5) in
        ap (λ (x : ℕ). eqb (x % 2) 1) (div-eq_of_lt low)

-- a set of modes is the word of its modes
pub modes_marked : (u : Modes) → u ≤ all_modes → marks 0 5 (has_mode u) ≡ u
unfolding marks has_mode all numbers
modes_marked u h =
    eqb-true _ u
    (all_at (λ u. eqb (marks 0 5 (has_mode u)) u) {l = numbers 0 32 (λ _. true)} refl (numbers_of (λ _. true) 0 32 u (omega arith) (omega arith) refl))

-- ---- the list of descendants

-- the count of the set is the length of the list
pub set_counts_list : (w : List ℕ) (t : ℕ) (s : Schema) → members (visible_descendant w t s) ≡ object_scan_list w t 1 s
unfolding visible_descendant object_scan_list shown
set_counts_list w t s = refl

-- the list of descendants holds every visible descendant once, and nothing else
pub whole_list : {s : Schema} → Good s → (w : List ℕ) (t : ℕ) → WholeList s w t
unfolding object_scan_list shown
whole_list {s} good w t = record {
  exact = λ k. (
    (λ i. let (e, g) = shown_in good w (λ k. descends s k t) k i in (e, descends_sound good k t g)),
    (λ h. shown_of good w (λ k. descends s k t) k h.0 (descends_full good k t h.1)),
  );
  once = members_rising (λ k. visible s w k && descends s k t);
}
