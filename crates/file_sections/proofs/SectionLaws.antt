-- A section in a file, of entries of one width: where its entries stand, what stands behind it, and its count. Assumes nothing.
use Prim.Native.Nat.{ℕ, ◌+◌, ◌*◌, ◌-◌, ◌/◌, ◌%◌, ◌≤◌, ◌<◌}
use native.Mathlib.Nat.{mul-le-mul_right}
use native.Mathlib.Omega.{arith}
use mathlib.Core.Path.{◌≡◌, refl, sym, ap, ◌∙◌}
use mathlib.Core.List.{List, ◌++◌}
use mathlib.Core.Bool.{Bool, true, false}
use Rattle.std.specs.Prelude.{Some, None}
use Rattle.std.specs.Bool.{then_some}
use lib.ListN.{length, get_or, take, drop, length-append, length-take, length-drop}
use lib.Seq.{take_at, drop_at, drop-drop, get_or-drop}
use Rattle.rules.specs.01-Lists.{joined}
use Rattle.rules.specs.11-File.{section}
use Rattle.rules.proofs.Sections.{Wide, joined_wide, section_long}
use Rattle.file_sections.specs.Section.{EntriesAt, SectionAt}

module _ (file : List ℕ) (at : ℕ) (es : List (List ℕ)) (rest : List ℕ) (there : drop at file ≡ section es ++ rest) where
  -- the two bytes of the count
  count_low : get_or file at 0 ≡ length es % 256
  unfolding section
  count_low = let e : at + 0 ≡ at = omega arith in sym (ap (λ (k : ℕ). get_or file k 0) e) ∙ sym (get_or-drop at file 0 0) ∙ ap (λ (l : List ℕ). get_or l 0 0) there

  count_high : get_or file (at + 1) 0 ≡ length es / 256
  unfolding section
  count_high = sym (get_or-drop at file 1 0) ∙ ap (λ (l : List ℕ). get_or l 1 0) there

  -- what stands behind them
  pub entries_there : drop (at + 2) file ≡ joined es ++ rest
  unfolding section
  entries_there = sym (drop-drop 2 at file) ∙ ap (drop 2) there

  module _ (w : ℕ) (wide : Wide w es) where
    -- what stands behind the section
    pub section_behind : drop (at + 2 + length es * w) file ≡ rest
    section_behind =
        sym (drop-drop (length es * w) (at + 2) file) ∙ ap (drop (length es * w)) entries_there ∙ drop_at (joined es) rest (length es * w) (joined_wide w es wide)

    -- it is there whole
    section_fits : at + 2 + length es * w ≤ length file
    section_fits = omega (arith, sym (length-drop at file) ∙ ap length there ∙ length-append (section es) rest, section_long w es wide)

-- ---- the contract

module _ (file : List ℕ) (at w : ℕ) where
  none_there : ((es : List (List ℕ)) (rest : List ℕ) → length es < 65536 → Wide w es → drop at file ≡ section es ++ rest → ⊥)
      → SectionAt file at w None
  none_there none = record {
    fits = tt;
    is = λ es rest few wide there. absurd (none es rest few wide there);
  }

  -- no room for a count
  pub no_count : length file < at + 2 → SectionAt file at w None
  no_count h = none_there (λ es rest few wide there. omega (arith, section_fits file at es rest there w wide))

  module _ (n : ℕ) (is : n ≡ get_or file at 0 + 256 * get_or file (at + 1) 0) where
    count_is : (es : List (List ℕ)) (rest : List ℕ) → length es < 65536 → Wide w es → drop at file ≡ section es ++ rest → n ≡ length es
    count_is es rest few wide there = omega (arith, is, count_low file at es rest there, count_high file at es rest there)

    -- no room for the entries
    no_entries : length file < at + 2 + n * w → SectionAt file at w None
    no_entries h =
        none_there (λ es rest few wide there.
        omega (arith, section_fits file at es rest there w wide, ap (λ (k : ℕ). k * w) (count_is es rest few wide there)))

    all_there : n < 65536 → at + 2 + n * w ≤ length file → SectionAt file at w (Some n)
    all_there small fits = record {
      fits = (small, fits);
      is = λ es rest few wide there. ap Some (count_is es rest few wide there);
    }

    -- told where there is room for them
    pub told : n < 65536 → (room : Bool) → (room ≡ true → at + 2 + n * w ≤ length file) → (room ≡ false → length file < at + 2 + n * w)
        → SectionAt file at w (then_some room n)
    told small true is-room no-room = all_there small (is-room refl)
    told small false is-room no-room = no_entries (no-room refl)

-- ---- the entries, where they are not too many

module _ (file : List ℕ) (at w most : ℕ) (small : most < 65536) (n : ℕ) (counted : SectionAt file at w (Some n)) where
  all_counted : (es : List (List ℕ)) (rest : List ℕ) → length es ≤ most → Wide w es → drop at file ≡ section es ++ rest → n ≡ length es
  all_counted es rest few wide there = let e = counted.is es rest (omega arith) wide there in cc

  pub entries_some : n ≤ most → EntriesAt file at w most (Some (take (at + 2 + n * w - (at + 2)) (drop (at + 2) file)))
  entries_some h =
      let size : at + 2 + n * w - (at + 2) ≡ n * w = omega arith in
      let fits = counted.fits.1 in
      let long : length (take (n * w) (drop (at + 2) file)) ≡ n * w
      = omega (arith, length-take (n * w) (drop (at + 2) file), length-drop (at + 2) file) in
      rw size (record {
        fits = (omega (arith, long), omega (arith, long, mul-le-mul_right w h));
        is = λ es rest few wide there.
            let wide_all : length (joined es) ≡ n * w = joined_wide w es wide ∙ ap (λ (k : ℕ). k * w) (sym (all_counted es rest few wide there)) in
            ap Some (ap (take (n * w)) (entries_there file at es rest there) ∙ take_at (joined es) rest (n * w) wide_all);
      })

-- what is told of a section that is there: its entries, and what stands behind it
module _ {file : List ℕ} {at w most : ℕ} {bytes : List ℕ} (told : EntriesAt file at w most (Some bytes)) (es : List (List ℕ)) (rest : List ℕ)
    (few : length es ≤ most) (wide : Wide w es) (there : drop at file ≡ section es ++ rest) where
  pub are_entries : bytes ≡ joined es
  are_entries = let e = told.is es rest few wide there in cc

  pub behind_entries : drop (at + 2 + length bytes) file ≡ rest
  behind_entries =
      let size : length bytes ≡ length es * w = ap length are_entries ∙ joined_wide w es wide in
      ap (λ (k : ℕ). drop (at + 2 + k) file) size ∙ section_behind file at es rest there w wide
