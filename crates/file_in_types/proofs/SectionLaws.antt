-- A section put into an area: the loop, and what has come of it where the section is that of a list of entries. Assumes nothing.
use Prim.Native.Nat.{ℕ, ◌+◌, ◌<◌}
use native.Mathlib.Omega.{arith}
use mathlib.Core.Path.{◌≡◌, refl, sym, ap, ◌∙◌}
use mathlib.Core.List.{List, [], ◌∷◌, ◌++◌}
use mathlib.Core.List.Memᴰ
use lib.ListN.{length, length-append}
use Rattle.std.specs.Prelude.{Some}
use Rattle.rules.specs.01-Lists.{joined}
use Rattle.rules.specs.07-Picture.{base_length}
use Rattle.rules.proofs.07-Picture.{append_both}
use Rattle.rules.proofs.Sections.{Wide}
use Rattle.file_sections.specs.Section.{EntriesAt}
use Rattle.file_sections.proofs.SectionLaws.{are_entries, behind_entries}
use Rattle.file_in_types.specs.Steps.{Step, all_in}
use Rattle.file_in_types.specs.Loaded.{SectionIn}

module _ (step : Step) (w : ℕ) (area₀ : List ℕ) where
  -- of the entries es, those that are left are the bytes l
  pub record Left (es : List (List ℕ)) (l area : List ℕ) : Type 0 where
    pub some : List (List ℕ)
    pub wide : Wide w some
    pub are : l ≡ joined some
    pub same : all_in step es area₀ ≡ all_in step some area

  -- of any entries that are these bytes, those that are left are the bytes l
  pub record Going (bytes l area : List ℕ) : Type 0 where
    pub long : length area ≡ base_length
    pub rest : (es : List (List ℕ)) → Wide w es → bytes ≡ joined es → Left es l area

  next_left : (es some : List (List ℕ)) (l e l' area : List ℕ) → 0 < w → length e ≡ w → l ≡ e ++ l' → Wide w some → l ≡ joined some
      → all_in step es area₀ ≡ all_in step some area → Left es l' (step e area)
  unfolding joined all_in
  next_left es [] l e l' area pos long is wide are same = absurd (omega (arith, length-append e l', ap length (sym is ∙ are)))
  next_left es (f ∷ some) l e l' area pos long is wide are same =
      let (first, others) = append_both e f l' (joined some) (long ∙ sym (wide f (Memᴰ.head refl))) (sym is ∙ are) in
      record {
        some = some;
        wide = λ x i. wide x (Memᴰ.tail i);
        are = others;
        same = same ∙ ap (λ x. all_in step some (step x area)) (sym first);
      }

  pub going_next : {bytes l e l' area area' : List ℕ} → 0 < w → Going bytes l area → l ≡ e ++ l' → length e ≡ w → area' ≡ step e area
      → length area' ≡ base_length → Going bytes l' area'
  going_next {bytes} {l} {e} {l'} {area} pos g is wide stepped long = record {
    long = long;
    rest = λ es each are.
        let left = g.rest es each are in
        rw stepped (next_left es left.some l e l' area pos wide is left.wide left.are left.same);
  }

  none_left : (some : List (List ℕ)) (l area : List ℕ) → length l < w → Wide w some → l ≡ joined some → all_in step some area ≡ area
  unfolding joined all_in
  none_left [] l area short wide are = refl
  none_left (e ∷ some) l area short wide are =
      absurd (omega (arith, length-append e (joined some), ap length are, wide e (Memᴰ.head refl)))

  pub going_done : {file bytes l area : List ℕ} {at limit : ℕ} → EntriesAt file at w limit (Some bytes) → Going bytes l area → length l < w
      → SectionIn w step limit file at area₀ area (at + 2 + length bytes)
  going_done {l = l} {area = area} told g short = record {
    long = g.long;
    is = λ es rest few wide there.
        let left = g.rest es wide (are_entries told es rest few wide there) in
        (sym (left.same ∙ none_left left.some l area short left.wide left.are), behind_entries told es rest few wide there);
  }
