-- The loops over the bytes of an entry: what is left decides. Assumes nothing.
use Prim.Native.Nat.{ℕ, zero, suc, ◌+◌, ◌-◌, ◌/◌, ◌%◌, ◌≤◌, ◌<◌}
use native.Mathlib.Numerals.{add-one}
use native.Mathlib.Omega.{arith}
use mathlib.Core.Path.{◌≡◌, refl, sym, ap, ◌∙◌}
use mathlib.Core.List.{List, [], ◌∷◌}
use mathlib.Core.Logic.{◌⊎◌, ⊎_elim}
use mathlib.Core.Bool.{true, false, ◌&&◌}
use lib.Dec.{eqb}
use Rattle.std.specs.List.{list_all}
use lib.ListN.{length, get_or, take, drop, length-drop, drop_of_length-le}
use lib.Seq.{drop-cons, drop-drop}
use borrow.Author.Tests.{lt-ltb, le-ltb, eq-eqb, ne_eqb}
use borrow.Author.Rules.{part_to_end}
use Rattle.file_form.specs.Walk.{full, above, within, top_byte, top}

-- ---- every byte is 255

pub full_all : (l : List ℕ) → full l ≡ list_all (λ b. eqb b 255) l
unfolding full
full_all [] = refl
full_all (x ∷ l) = ap (λ t. eqb x 255 && t) (full_all l)

-- ---- above the entry before

-- behind the first j bytes of both stand ps and es, which decide
pub record AboveFrom (p e : List ℕ) (j : ℕ) (ps es : List ℕ) : Type 0 where
  pub behind : ps ≡ drop j p
  pub size : j + length es ≡ length e
  pub decides : above p e ≡ j + above ps es

module _ {p e : List ℕ} {j : ℕ} where
  pub above_end : (ps es : List ℕ) → AboveFrom p e j ps es → (length es ≡ 0) ⊎ (length ps ≡ 0) → length e ≡ above p e
  unfolding above
  above_end [] es s t = sym (s.decides ∙ s.size)
  above_end (y ∷ ps) [] s t = sym (s.decides ∙ s.size)
  above_end (y ∷ ps) (x ∷ es) s t = absurd (⊎_elim (λ none. omega arith) (λ none. omega arith) t)

  module _ {x y : ℕ} {ps es : List ℕ} (s : AboveFrom p e j (y ∷ ps) (x ∷ es)) where
    pub above_more : y < x → length e ≡ above p e
    unfolding above
    above_more t = sym (s.decides ∙ rw (lt-ltb y x t) (omega (arith, s.size)))

    pub above_less : x < y → j ≡ above p e
    unfolding above
    above_less t = sym (s.decides ∙ rw (le-ltb y x (omega arith), lt-ltb x y t) (omega arith))

    rest : take (length p - (j + 1)) (drop (j + 1) p) ≡ ps
    rest = part_to_end p (j + 1) ∙ sym (drop-drop 1 j p) ∙ ap (drop 1) (sym s.behind)

    -- the same byte: something above must be left behind it
    module _ (more : x ≤ y) (less : y ≤ x) where
      pub above_full : full (take (length p - (j + 1)) (drop (j + 1) p)) ≡ true → j ≡ above p e
      unfolding above
      above_full f =
          let all : full ps ≡ true = rw rest at f in
          sym (s.decides ∙ rw (le-ltb y x more, le-ltb x y less, all) (omega arith))

      pub above_go : full (take (length p - (j + 1)) (drop (j + 1) p)) ≡ false → AboveFrom p e (j + 1) ps es
      unfolding above
      above_go f =
          let part : full ps ≡ false = rw rest at f in
          record {
            behind = sym (sym (drop-drop 1 j p) ∙ ap (drop 1) (sym s.behind));
            size = omega (arith, s.size);
            decides = s.decides ∙ rw (le-ltb y x more, le-ltb x y less, part) (omega arith);
          }

-- ---- with enough left above

pub top_byte_far : (k m : ℕ) → 2 < k → 255 ≡ top_byte k m
unfolding top_byte
top_byte_far k m h = sym (rw (lt-ltb 2 k h))

pub top_byte_two : (k m : ℕ) → k ≡ 2 → 255 - m / 256 ≡ top_byte k m
unfolding top_byte
top_byte_two k m h = sym (rw (le-ltb 2 k (omega arith), eq-eqb k 2 h))

pub top_byte_last : (k m : ℕ) → k ≤ 2 → (k ≡ 2 → ⊥) → 255 - m % 256 ≡ top_byte k m
unfolding top_byte
top_byte_last k m h n = sym (rw (le-ltb 2 k h, ne_eqb k 2 n))

pub record WithinFrom (w m : ℕ) (e : List ℕ) (j : ℕ) : Type 0 where
  pub short : length e ≤ w
  pub inside : j ≤ length e
  pub decides : within (top w m) e ≡ j + within (top (w - j) m) (drop j e)

module _ {w m : ℕ} {e : List ℕ} {j : ℕ} (s : WithinFrom w m e j) where
  pub within_end : length e ≤ j → length e ≡ within (top w m) e
  unfolding within top
  within_end h = sym (s.decides ∙ rw (drop_of_length-le e h) (none (w - j)))
    where
      none : (k : ℕ) → j + within (top k m) [] ≡ length e
      none zero = omega (arith, s.inside)
      none (suc k) = omega (arith, s.inside)

  module _ (h : j < length e) where
    step : w - j ≡ suc (w - (j + 1))
    step = omega (arith, s.short)

    pub within_less : get_or e j 0 < top_byte (w - j) m → length e ≡ within (top w m) e
    unfolding within top
    within_less t =
        let less : get_or e j 0 < top_byte (suc (w - (j + 1))) m = rw step at t in
        sym (s.decides
        ∙ rw (step, drop-cons e j 0 h, lt-ltb (get_or e j 0) (top_byte (suc (w - (j + 1))) m) less) (omega (arith, length-drop (suc j) e)))

    pub within_more : top_byte (w - j) m < get_or e j 0 → j ≡ within (top w m) e
    unfolding within top
    within_more t =
        let more : top_byte (suc (w - (j + 1))) m < get_or e j 0 = rw step at t in
        sym (s.decides
        ∙ rw (
          step,
          drop-cons e j 0 h,
          le-ltb (get_or e j 0) (top_byte (suc (w - (j + 1))) m) (omega arith),
          lt-ltb (top_byte (suc (w - (j + 1))) m) (get_or e j 0) more,
        ) (omega arith))

    pub within_go : get_or e j 0 ≡ top_byte (w - j) m → WithinFrom w m e (j + 1)
    unfolding within top
    within_go t =
        let same : get_or e j 0 ≡ top_byte (suc (w - (j + 1))) m = rw step at t in
        let next : drop (j + 1) e ≡ drop (suc j) e = rw add-one in
        record {
          short = s.short;
          inside = omega arith;
          decides = s.decides
              ∙ rw (
                step,
                next,
                drop-cons e j 0 h,
                le-ltb (get_or e j 0) (top_byte (suc (w - (j + 1))) m) (omega arith),
                le-ltb (top_byte (suc (w - (j + 1))) m) (get_or e j 0) (omega arith),
              ) (omega arith);
        }
