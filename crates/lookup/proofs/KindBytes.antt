-- The bytes of a type's row, and the kind that they show: each says the other. Assumes nothing.
use Prim.Native.Nat.{ℕ, ◌+◌, ◌≤◌, ◌<◌}
use native.Mathlib.Omega.{arith}
use mathlib.Core.Path.{◌≡◌, refl, sym, ap, ◌∙◌, subst}
use mathlib.Core.List.{List, [], ◌∷◌}
use mathlib.Core.Bool.{Bool, true, false, not, true≢false}
use lib.Dec.{ltb, eqb}
use lib.ListN.{length, get_or, take, drop, length-take, length-drop}
use lib.Seq.{drop-drop, get_or-drop}
use borrow.Author.Tests.{ltb-true, ltb-false, eqb-true, eqb-false, ne_eqb}
use Rattle.rules.specs.04-Schema.{Kind, kind_of, is_used, is_object, is_attribute, is_link, kind_code}
use Rattle.rules.specs.04-Schema.Kind.{unused, object, attribute, designation, paired}
use Rattle.rules.specs.07-Picture.{Sound, pad, type_row, base_length, type_width}
use Rattle.rules.specs.Read.{read_kind, count_offset, parents_offset, reverse_offset, value_offset}
use Rattle.rows.specs.Rows.{part}
use Rattle.rows.proofs.Rows.{part_byte}
use Rattle.base.specs.Rows.{type_at}
use Rattle.base.specs.Back.{schema_of, kind_shown}
use Rattle.base.proofs.Back.{sound_canonical}
use Rattle.base.proofs.Shown.{kind_is, kind_none, shows_attribute, shows_designation, shows_paired, shows_unused}

abbrev pub kind_byte : List ℕ → ℕ → ℕ
kind_byte b t = get_or b (type_at t) 0

-- an attribute type's value kind, or a link type's category
abbrev pub value_byte : List ℕ → ℕ → ℕ
value_byte b t = get_or b (type_at t + value_offset) 0

abbrev pub reverse_byte : List ℕ → ℕ → ℕ
reverse_byte b t = get_or b (type_at t + reverse_offset) 0

abbrev pub count_byte : List ℕ → ℕ → ℕ
count_byte b t = get_or b (type_at t + count_offset) 0

-- the parent in place i of 4
abbrev pub parent_byte : List ℕ → ℕ → ℕ → ℕ
parent_byte b t i = get_or b (type_at t + parents_offset + i) 0

abbrev pub parent_places : List ℕ → ℕ → List ℕ
parent_places b t = part b (type_at t + parents_offset) 4

-- as many of them as the row counts
abbrev pub listed_parents : List ℕ → ℕ → List ℕ
listed_parents b t = take (count_byte b t) (parent_places b t)

-- a kind, and the bytes that show it
data Seen (b : List ℕ) (t : ℕ) : Kind → Type 0 where
  seen_unused : Seen b t unused
  seen_object : t < 128 → kind_byte b t ≡ 1 → Seen b t (object (listed_parents b t))
  seen_attribute : t < 128 → kind_byte b t ≡ 2 → Seen b t (attribute (value_byte b t))
  seen_designation : t < 128 → kind_byte b t ≡ 3 → value_byte b t ≡ 4 → Seen b t designation
  seen_paired : t < 128 → kind_byte b t ≡ 3 → (value_byte b t ≡ 4 → ⊥) → Seen b t (paired (value_byte b t) (reverse_byte b t))

last_four : (l : List ℕ) → drop 4 (take 8 l) ≡ take 4 (drop 4 l)
last_four [] = refl
last_four (x ∷ []) = refl
last_four (x ∷ y ∷ []) = refl
last_four (x ∷ y ∷ z ∷ []) = refl
last_four (x ∷ y ∷ z ∷ w ∷ l) = refl

four_and_four : (l : List ℕ) → 4 ≤ length l → take 8 l ≡ get_or l 0 0 ∷ get_or l 1 0 ∷ get_or l 2 0 ∷ get_or l 3 0 ∷ take 4 (drop 4 l)
four_and_four [] h = absurd (omega arith)
four_and_four (x ∷ []) h = absurd (omega arith)
four_and_four (x ∷ y ∷ []) h = absurd (omega arith)
four_and_four (x ∷ y ∷ z ∷ []) h = absurd (omega arith)
four_and_four (x ∷ y ∷ z ∷ w ∷ l) h = refl

module _ (b : List ℕ) (t : ℕ) where
  pub object_shown : kind_byte b t ≡ 1 → kind_shown b t ≡ object (listed_parents b t)
  unfolding read_kind
  object_shown e =
      let first : get_or (part b (type_at t) type_width) 0 0 ≡ 1 = part_byte b (type_at t) 8 0 (omega arith) ∙ ap (λ (n : ℕ). get_or b n 0) (omega arith) ∙ e in
      let places : drop 4 (part b (type_at t) type_width) ≡ parent_places b t = last_four (drop (type_at t) b) ∙ ap (take 4) (drop-drop 4 (type_at t) b) in
      rw (first, part_byte b (type_at t) 8 3 (omega arith), places)

  shown_seen : t < 128 → Seen b t (kind_shown b t)
  shown_seen h = go (eqb (kind_byte b t) 1) refl (eqb (kind_byte b t) 2) refl (eqb (kind_byte b t) 3) refl (eqb (value_byte b t) 4) refl
    where
      go : (o : Bool) → eqb (kind_byte b t) 1 ≡ o → (a : Bool) → eqb (kind_byte b t) 2 ≡ a → (l : Bool) → eqb (kind_byte b t) 3 ≡ l
          → (d : Bool) → eqb (value_byte b t) 4 ≡ d → Seen b t (kind_shown b t)
      go true o a _ l _ d _ = let e = eqb-true (kind_byte b t) 1 o in rw (object_shown e) (seen_object h e)
      go false o true a l _ d _ = let e = eqb-true (kind_byte b t) 2 a in rw (shows_attribute b t e) (seen_attribute h e)
      go false o false a true l true d =
          let e = eqb-true (kind_byte b t) 3 l in
          let f = eqb-true (value_byte b t) 4 d in
          rw (shows_designation b t e f) (seen_designation h e f)
      go false o false a true l false d =
          let e = eqb-true (kind_byte b t) 3 l in
          let f = eqb-false (value_byte b t) 4 d in
          rw (shows_paired b t e f) (seen_paired h e f)
      go false o false a false l d _ =
          rw (shows_unused b t (eqb-false (kind_byte b t) 1 o) (eqb-false (kind_byte b t) 2 a) (eqb-false (kind_byte b t) 3 l)) seen_unused

  -- whatever the number, the kind comes from the bytes
  seen : Seen b t (kind_of (schema_of b) t)
  seen = go (ltb t 128) refl
    where
      go : (s : Bool) → ltb t 128 ≡ s → Seen b t (kind_of (schema_of b) t)
      go true e = let h = ltb-true t 128 e in rw (kind_is b t h) (shown_seen h)
      go false e = rw (kind_none b t (ltb-false t 128 e)) seen_unused

  pub object_bytes : (ps : List ℕ) → kind_of (schema_of b) t ≡ object ps
      → (t < 128) × (kind_byte b t ≡ 1) × (ps ≡ listed_parents b t)
  object_bytes ps e = go (subst (Seen b t) e seen)
    where
      go : {l : List ℕ} → Seen b t (object l) → (t < 128) × (kind_byte b t ≡ 1) × (l ≡ listed_parents b t)
      go (seen_object h k) = (h, k, refl)

  pub attribute_bytes : (v : ℕ) → kind_of (schema_of b) t ≡ attribute v → (t < 128) × (kind_byte b t ≡ 2) × (value_byte b t ≡ v)
  attribute_bytes v e = go (subst (Seen b t) e seen)
    where
      go : {n : ℕ} → Seen b t (attribute n) → (t < 128) × (kind_byte b t ≡ 2) × (value_byte b t ≡ n)
      go (seen_attribute h k) = (h, k, refl)

  pub paired_bytes : (c r : ℕ) → kind_of (schema_of b) t ≡ paired c r
      → (t < 128) × (kind_byte b t ≡ 3) × (value_byte b t ≡ 4 → ⊥) × (value_byte b t ≡ c) × (reverse_byte b t ≡ r)
  paired_bytes c r e = go (subst (Seen b t) e seen)
    where
      go : {v n : ℕ} → Seen b t (paired v n) → (t < 128) × (kind_byte b t ≡ 3) × (value_byte b t ≡ 4 → ⊥) × (value_byte b t ≡ v) × (reverse_byte b t ≡ n)
      go (seen_paired h k v) = (h, k, v, refl, refl)

  pub place_byte : (i : ℕ) → i < 4 → get_or (parent_places b t) i 0 ≡ parent_byte b t i
  place_byte i h = part_byte b (type_at t + parents_offset) 4 i h

  module _ (long : length b ≡ base_length) (h : t < 128) where
    pub places_long : length (parent_places b t) ≡ 4
    places_long = length-take 4 (drop (type_at t + parents_offset) b) ∙ omega (arith, length-drop (type_at t + parents_offset) b)

    pub row_bytes : part b (type_at t) type_width ≡ kind_byte b t ∷ value_byte b t ∷ reverse_byte b t ∷ count_byte b t ∷ parent_places b t
    row_bytes =
        let byte : (f : ℕ) → get_or (drop (type_at t) b) f 0 ≡ get_or b (type_at t + f) 0 = λ f. get_or-drop (type_at t) b f 0 in
        let first : get_or (drop (type_at t) b) 0 0 ≡ kind_byte b t = byte 0 ∙ ap (λ (n : ℕ). get_or b n 0) (omega arith) in
        four_and_four (drop (type_at t) b) (omega (arith, length-drop (type_at t) b))
        ∙ (λ i. first i ∷ byte 1 i ∷ byte 2 i ∷ byte 3 i ∷ take 4 (drop-drop 4 (type_at t) b i))

-- ---- the code tells the kind

pub used_code : (k : Kind) → not (eqb (kind_code k) 0) ≡ is_used k
used_code unused = refl
used_code (object ps) = refl
used_code (attribute v) = refl
used_code designation = refl
used_code (paired c r) = refl

-- ---- and the byte tells the code, of each kind that is one: other bytes show none

module _ (b : List ℕ) (t code : ℕ) (some : 0 < code) where
  not_unused : false ≡ eqb 0 code
  not_unused = sym (ne_eqb 0 code (λ e. omega arith))

  pub code_past : 128 ≤ t → false ≡ eqb (kind_code (kind_of (schema_of b) t)) code
  code_past h = not_unused ∙ ap (λ (k : Kind). eqb (kind_code k) code) (sym (kind_none b t h))

  pub code_byte : code < 4 → (x : ℕ) → t < 128 → x ≡ kind_byte b t → eqb x code ≡ eqb (kind_code (kind_of (schema_of b) t)) code
  code_byte last x h e =
      ap (λ (n : ℕ). eqb n code) e
      ∙ go (eqb (kind_byte b t) 1) refl (eqb (kind_byte b t) 2) refl (eqb (kind_byte b t) 3) refl (eqb (value_byte b t) 4) refl
      ∙ ap (λ (k : Kind). eqb (kind_code k) code) (sym (kind_is b t h))
    where
      same : (k : Kind) → kind_shown b t ≡ k → kind_byte b t ≡ kind_code k → eqb (kind_byte b t) code ≡ eqb (kind_code (kind_shown b t)) code
      same k s f = ap (λ (n : ℕ). eqb n code) (f ∙ ap kind_code (sym s))

      go : (o : Bool) → eqb (kind_byte b t) 1 ≡ o → (a : Bool) → eqb (kind_byte b t) 2 ≡ a → (l : Bool) → eqb (kind_byte b t) 3 ≡ l
          → (d : Bool) → eqb (value_byte b t) 4 ≡ d → eqb (kind_byte b t) code ≡ eqb (kind_code (kind_shown b t)) code
      go true o a _ l _ d _ = let f = eqb-true (kind_byte b t) 1 o in same (object (listed_parents b t)) (object_shown b t f) f
      go false o true a l _ d _ = let f = eqb-true (kind_byte b t) 2 a in same (attribute (value_byte b t)) (shows_attribute b t f) f
      go false o false a true l true d =
          let f = eqb-true (kind_byte b t) 3 l in
          same designation (shows_designation b t f (eqb-true (value_byte b t) 4 d)) f
      go false o false a true l false d =
          let f = eqb-true (kind_byte b t) 3 l in
          same (paired (value_byte b t) (reverse_byte b t)) (shows_paired b t f (eqb-false (value_byte b t) 4 d)) f
      go false o false a false l d _ =
          let one = eqb-false (kind_byte b t) 1 o in
          let two = eqb-false (kind_byte b t) 2 a in
          let three = eqb-false (kind_byte b t) 3 l in
          ne_eqb (kind_byte b t) code (λ s. omega arith) ∙ not_unused
          ∙ ap (λ (k : Kind). eqb (kind_code k) code) (sym (shows_unused b t one two three))

module _ (b : List ℕ) (t x : ℕ) (h : t < 128) (e : x ≡ kind_byte b t) where
  pub object_byte : eqb x 1 ≡ is_object (kind_of (schema_of b) t)
  object_byte = code_byte b t 1 (omega arith) (omega arith) x h e

  pub attribute_byte : eqb x 2 ≡ is_attribute (kind_of (schema_of b) t)
  attribute_byte = code_byte b t 2 (omega arith) (omega arith) x h e

  pub link_byte : eqb x 3 ≡ is_link (kind_of (schema_of b) t)
  link_byte = code_byte b t 3 (omega arith) (omega arith) x h e

-- a row that is as it would be written begins with the code
written_code : (k : Kind) → get_or (type_row k) 0 0 ≡ kind_code k
unfolding type_row pad
written_code unused = refl
written_code (object ps) = refl
written_code (attribute v) = refl
written_code designation = refl
written_code (paired c r) = refl

pub row_code : (b : List ℕ) (t : ℕ) → t < 128 → type_row (kind_shown b t) ≡ part b (type_at t) type_width
    → kind_byte b t ≡ kind_code (kind_of (schema_of b) t)
row_code b t h e =
    ap (λ (n : ℕ). get_or b n 0) (omega arith) ∙ sym (part_byte b (type_at t) 8 0 (omega arith))
    ∙ ap (λ (r : List ℕ). get_or r 0 0) (sym e) ∙ written_code (kind_shown b t) ∙ ap kind_code (sym (kind_is b t h))

pub sound_code : {b : List ℕ} → Sound b → (t : ℕ) → t < 128 → kind_byte b t ≡ kind_code (kind_of (schema_of b) t)
sound_code {b} s t h = row_code b t h ((sound_canonical s).type_rows t h)

pub used_byte : {b : List ℕ} → Sound b → (t x : ℕ) → t < 128 → x ≡ get_or b (type_at t) 0 → not (eqb x 0) ≡ is_used (kind_of (schema_of b) t)
used_byte {b} s t x h e = ap (λ (n : ℕ). not (eqb n 0)) (e ∙ sound_code s t h) ∙ used_code (kind_of (schema_of b) t)

-- the bytes of a link type that has a reverse
module _ (b : List ℕ) (t : ℕ) (h : t < 128) where
  pub link_paired : is_link (kind_of (schema_of b) t) ≡ true → (get_or b (type_at t + value_offset) 0 ≡ 4 → ⊥) → kind_of (schema_of b) t ≡ paired (get_or b
      (type_at t + value_offset) 0) (get_or b (type_at t + reverse_offset) 0)
  link_paired e n =
      kind_is b t h ∙ shows_paired b t (eqb-true (get_or b (type_at t) 0) 3 (link_byte b t (get_or b (type_at t) 0) h refl ∙ e)) n

-- a link type is below 128
pub link_below : (b : List ℕ) (t : ℕ) → is_link (kind_of (schema_of b) t) ≡ true → t < 128
link_below b t e = go (ltb t 128) refl
  where
    go : (x : Bool) → ltb t 128 ≡ x → t < 128
    go true q = ltb-true t 128 q
    go false q = absurd (true≢false (sym e ∙ ap is_link (kind_none b t (ltb-false t 128 q))))

-- a row that has a reverse is that of a link type of a pair
written_reverse : (k : Kind) → (get_or (type_row k) reverse_offset 0 ≡ 0 → ⊥) → (c : ℕ) × (r : ℕ) × (k ≡ paired c r)
unfolding type_row pad
written_reverse unused n = absurd (n refl)
written_reverse (object ps) n = absurd (n refl)
written_reverse (attribute v) n = absurd (n refl)
written_reverse designation n = absurd (n refl)
written_reverse (paired c r) n = (c, r, refl)

pub reverse_paired : (b : List ℕ) (t : ℕ) → t < 128 → type_row (kind_shown b t) ≡ part b (type_at t) type_width → (reverse_byte b t ≡ 0 → ⊥)
    → (c : ℕ) × (kind_of (schema_of b) t ≡ paired c (reverse_byte b t))
reverse_paired b t h row some =
    let byte : get_or (type_row (kind_shown b t)) reverse_offset 0 ≡ reverse_byte b t
    = ap (λ (l : List ℕ). get_or l reverse_offset 0) row ∙ part_byte b (type_at t) 8 reverse_offset (omega arith) in
    let (c, r, e) = written_reverse (kind_shown b t) (λ z. some (sym byte ∙ z)) in
    let is : kind_of (schema_of b) t ≡ paired c r = kind_is b t h ∙ e in
    (c, is ∙ ap (paired c) (sym (paired_bytes b t c r is).4))
