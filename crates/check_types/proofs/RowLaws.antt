-- A row is as its kind would be written exactly where the bytes behind the kind are as the kind asks. Assumes nothing.
use Prim.Native.Nat.{ℕ, zero, suc, ◌≤◌, ◌<◌}
use native.Mathlib.Omega.{arith}
use mathlib.Core.Path.{◌≡◌, refl, sym, ap, ◌∙◌}
use mathlib.Core.List.{List, [], ◌∷◌, ◌++◌}
use mathlib.Core.Bool.{Bool, true, false}
use lib.Dec.{ltb, eqb}
use lib.ListN.{length, get_or, take, drop, replicate, length-take, get_or-eq_default}
use lib.Seq.{ext_get_or, get_or-take}
use borrow.Author.Tests.{ltb-true, ltb-false, eqb-true, eqb-false}
use Rattle.rules.specs.04-Schema.{Kind}
use Rattle.rules.specs.04-Schema.Kind.{unused, object}
use Rattle.rules.specs.07-Picture.{pad, type_row, base_length, type_width}
use Rattle.rules.proofs.07-Picture.{length_pad}
use Rattle.rows.specs.Rows.{part}
use Rattle.base.specs.Rows.{type_at}
use Rattle.base.specs.Back.{kind_shown}
use Rattle.base.proofs.Shown.{shows_attribute, shows_designation, shows_paired, shows_unused}
use Rattle.lookup.proofs.KindBytes.{kind_byte, value_byte, reverse_byte, count_byte, parent_places, listed_parents}
use Rattle.lookup.proofs.KindBytes.{object_shown, place_byte, places_long, row_bytes}
use Rattle.check_types.specs.OneType.{sdss_of, NoParentsFrom, FewParents, PlainRow, LinkFine, TypeFine}

-- ---- a field with zeros behind what it holds

zeros_byte : (m i : ℕ) → get_or (replicate {A = ℕ} m 0) i 0 ≡ 0
zeros_byte zero i = refl
zeros_byte (suc m) zero = refl
zeros_byte (suc m) (suc i) = zeros_byte m i

zeros_behind : (l : List ℕ) (m i : ℕ) → get_or (l ++ replicate m 0) i 0 ≡ get_or l i 0
zeros_behind [] m i = zeros_byte m i
zeros_behind (x ∷ l) m zero = refl
zeros_behind (x ∷ l) m (suc i) = zeros_behind l m i

pad_byte : (w : ℕ) (l : List ℕ) (i : ℕ) → i < w → get_or (pad w l) i 0 ≡ get_or l i 0
unfolding pad
pad_byte w l i h = get_or-take w (l ++ replicate w 0) i 0 h ∙ zeros_behind l w i

-- a field that is zero from place n on holds its first n bytes
pad_front : (w n : ℕ) (q : List ℕ) → length q ≡ w → ((i : ℕ) → i < w → n ≤ i → get_or q i 0 ≡ 0) → pad w (take n q) ≡ q
pad_front w n q e z = ext_get_or 0 (pad w (take n q)) q (length_pad w (take n q) ∙ sym e) (λ i h. same i (omega (arith, length_pad w (take n q))))
  where
    same : (i : ℕ) → i < w → get_or (pad w (take n q)) i 0 ≡ get_or q i 0
    same i h = pad_byte w (take n q) i h ∙ go (ltb i n) refl
      where
        go : (s : Bool) → ltb i n ≡ s → get_or (take n q) i 0 ≡ get_or q i 0
        go true p = get_or-take n q i 0 (ltb-true i n p)
        go false p =
            let past : n ≤ i = ltb-false i n p in
            get_or-eq_default (take n q) 0 {n = i} (omega (arith, length-take n q)) ∙ sym (z i h past)

-- ---- a row is as its kind would be written

-- a row with no parents
abbrev bare : ℕ → ℕ → ℕ → List ℕ
bare k v r = k ∷ v ∷ r ∷ 0 ∷ 0 ∷ 0 ∷ 0 ∷ 0 ∷ []

module _ (b : List ℕ) (t : ℕ) (long : length b ≡ base_length) (h : t < 128) where
  places_from : (n : ℕ) → NoParentsFrom b t n → pad 4 (take n (parent_places b t)) ≡ parent_places b t
  places_from n z = pad_front 4 n (parent_places b t) (places_long b t long h) (λ i q u. place_byte b t i q ∙ z i q u)

  from_places : (ps : List ℕ) → pad 4 ps ≡ parent_places b t → NoParentsFrom b t (length ps)
  from_places ps e i u l =
      sym (place_byte b t i u) ∙ ap (λ (x : List ℕ). get_or x i 0) (sym e) ∙ pad_byte 4 ps i u ∙ get_or-eq_default ps 0 {n = i} l

  bare_row : (k v r : ℕ) → kind_byte b t ≡ k → value_byte b t ≡ v → reverse_byte b t ≡ r → FewParents b t 0 → bare k v r ≡ part b (type_at t) type_width
  unfolding pad
  bare_row k v r ek ev er f =
      let n : count_byte b t ≡ 0 = omega (arith, f.count) in
      let p : pad 4 [] ≡ parent_places b t = places_from 0 (rw n at f.places) in
      rw (row_bytes b t long h) (λ i. sym ek i ∷ sym ev i ∷ sym er i ∷ sym n i ∷ p i)

  pub row_bare : (k v r : ℕ) → bare k v r ≡ part b (type_at t) type_width → (kind_byte b t ≡ k) × (value_byte b t ≡ v) × (reverse_byte b t ≡ r) × FewParents b t 0
  unfolding pad
  row_bare k v r e =
      let e' = e ∙ row_bytes b t long h in
      let byte : (f : ℕ) → get_or (kind_byte b t ∷ value_byte b t ∷ reverse_byte b t ∷ count_byte b t ∷ parent_places b t) f 0 ≡ get_or (bare k v r) f 0
      = λ f. sym (ap (λ (x : List ℕ). get_or x f 0) e') in
      (byte 0, byte 1, byte 2, record { count = omega (arith, byte 3); places = rw (byte 3) (from_places [] (ap (drop 4) e')) })

  pub zero_row : kind_byte b t ≡ 0 → value_byte b t ≡ 0 → reverse_byte b t ≡ 0 → FewParents b t 0
      → part b (type_at t) type_width ≡ replicate type_width 0
  zero_row k v r n = sym (bare_row 0 0 0 k v r n)

  pub zero_kind : part b (type_at t) type_width ≡ replicate type_width 0 → kind_byte b t ≡ 0
  zero_kind z = ap (λ (r : List ℕ). get_or r 0 0) (sym (row_bytes b t long h) ∙ z)

  pub zero_count : part b (type_at t) type_width ≡ replicate type_width 0 → count_byte b t ≡ 0
  zero_count z = ap (λ (r : List ℕ). get_or r 3 0) (sym (row_bytes b t long h) ∙ z)

  pub zero_reverse : part b (type_at t) type_width ≡ replicate type_width 0 → reverse_byte b t ≡ 0
  zero_reverse z = ap (λ (r : List ℕ). get_or r 2 0) (sym (row_bytes b t long h) ∙ z)

  shown_unused : kind_byte b t ≡ 0 → kind_shown b t ≡ unused
  shown_unused e = shows_unused b t (λ o. omega arith) (λ o. omega arith) (λ o. omega arith)

  pub listed_long : count_byte b t ≤ 4 → length (listed_parents b t) ≡ count_byte b t
  listed_long few = length-take (count_byte b t) (parent_places b t) ∙ omega (arith, places_long b t long h)

  object_row : kind_byte b t ≡ 1 → PlainRow b t 0 4 → type_row (object (listed_parents b t)) ≡ part b (type_at t) type_width
  unfolding type_row
  object_row e u =
      let v : value_byte b t ≡ 0 = omega (arith, u.value) in
      let n = listed_long u.parents.count in
      let p : pad 4 (listed_parents b t) ≡ parent_places b t = places_from (count_byte b t) u.parents.places in
      rw (row_bytes b t long h) (λ i. sym e i ∷ sym v i ∷ sym u.reverse i ∷ n i ∷ p i)

  link_row : {held : List ℕ} {sdss : ℕ} → kind_byte b t ≡ 3 → LinkFine b held t sdss → type_row (kind_shown b t) ≡ part b (type_at t) type_width
  unfolding type_row pad
  link_row e u = go (eqb (value_byte b t) 4) refl
    where
      go : (d : Bool) → eqb (value_byte b t) 4 ≡ d → type_row (kind_shown b t) ≡ part b (type_at t) type_width
      go true d =
          let v = eqb-true (value_byte b t) 4 d in
          ap type_row (shows_designation b t e v) ∙ bare_row 3 4 0 e v (u.designation v) u.parents
      go false d =
          ap type_row (shows_paired b t e (eqb-false (value_byte b t) 4 d))
          ∙ bare_row 3 (value_byte b t) (reverse_byte b t) e refl refl u.parents

  -- a type that is fine has its row as it would be written
  pub fine_row : {held : List ℕ} → TypeFine b held t → type_row (kind_shown b t) ≡ part b (type_at t) type_width
  unfolding type_row pad
  fine_row {held} f = go (kind_byte b t) refl f.known
    where
      free : kind_byte b t ≡ 0 → (w : Bool) → eqb (sdss_of held t) 0 ≡ w → part b (type_at t) type_width ≡ replicate type_width 0
      free e true w = f.unheld (eqb-true (sdss_of held t) 0 w)
      free e false w = absurd (f.used (eqb-false (sdss_of held t) 0 w) e)

      go : (k : ℕ) → kind_byte b t ≡ k → k ≤ 3 → type_row (kind_shown b t) ≡ part b (type_at t) type_width
      go zero e l = ap type_row (shown_unused e) ∙ sym (free e (eqb (sdss_of held t) 0) refl)
      go (suc zero) e l = ap type_row (object_shown b t e) ∙ object_row e (f.object e).row
      go (suc (suc zero)) e l =
          let u = f.attribute e in
          ap type_row (shows_attribute b t e) ∙ bare_row 2 (value_byte b t) 0 e refl u.reverse u.parents
      go (suc (suc (suc zero))) e l = link_row e (f.link e)
      go (suc (suc (suc (suc k)))) e l = absurd (omega arith)

  -- and what a row says of a type that is as it would be written
  module _ (w : type_row (kind_shown b t) ≡ part b (type_at t) type_width) where
    row_of : {k : Kind} → kind_shown b t ≡ k → type_row k ≡ part b (type_at t) type_width
    row_of e = sym (ap type_row e) ∙ w

    pub row_unused : kind_byte b t ≡ 0 → part b (type_at t) type_width ≡ replicate type_width 0
    unfolding type_row pad
    row_unused e = sym (row_of (shown_unused e))

    pub row_object : kind_byte b t ≡ 1 → PlainRow b t 0 4
    unfolding type_row
    row_object e =
        let ps = listed_parents b t in
        let e' = row_of (object_shown b t e) ∙ row_bytes b t long h in
        let byte : (f : ℕ) → get_or (kind_byte b t ∷ value_byte b t ∷ reverse_byte b t ∷ count_byte b t ∷ parent_places b t) f 0
        ≡ get_or (1 ∷ 0 ∷ 0 ∷ length ps ∷ pad 4 ps) f 0
        = λ f. sym (ap (λ (x : List ℕ). get_or x f 0) e') in
        let few : length ps ≤ 4 = omega (arith, length-take (count_byte b t) (parent_places b t), places_long b t long h) in
        record {
          value = omega (arith, byte 1);
          reverse = byte 2;
          parents = record { count = omega (arith, byte 3); places = rw (byte 3) (from_places ps (ap (drop 4) e')) };
        }

    pub row_attribute : kind_byte b t ≡ 2 → value_byte b t ≤ 5 → PlainRow b t 5 0
    unfolding type_row pad
    row_attribute e v =
        let (_, _, r, n) = row_bare 2 (value_byte b t) 0 (row_of (shows_attribute b t e)) in
        record { value = v; reverse = r; parents = n }

    pub row_designation : kind_byte b t ≡ 3 → value_byte b t ≡ 4 → (reverse_byte b t ≡ 0) × FewParents b t 0
    unfolding type_row pad
    row_designation e v = let (_, _, r, n) = row_bare 3 4 0 (row_of (shows_designation b t e v)) in (r, n)

    pub row_paired : kind_byte b t ≡ 3 → (value_byte b t ≡ 4 → ⊥) → FewParents b t 0
    unfolding type_row pad
    row_paired e v = let (_, _, _, n) = row_bare 3 (value_byte b t) (reverse_byte b t) (row_of (shows_paired b t e v)) in n
