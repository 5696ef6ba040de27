-- What the bytes and the words say of one type, of all types together, is what `TypesFine` says. Assumes nothing.
use Prim.Native.Nat.{ℕ, zero, suc, ◌≤◌, ◌<◌}
use native.Mathlib.Omega.{arith}
use mathlib.Core.Path.{◌≡◌, refl, sym, ap, ◌∙◌, subst}
use mathlib.Core.List.Memᴰ
use mathlib.Core.List.{List, [], ◌∷◌}
use mathlib.Core.Bool.{Bool, true, false, false≢true}
use lib.Dec.{ltb, eqb}
use lib.ListN.{length, get_or, take}
use lib.Seq.{get_or-take}
use borrow.Author.Tests.{ltb-true, ltb-false, lt-ltb, eqb-true, eqb-false}
use Rattle.std.specs.Prelude.{None}
use Rattle.std.proofs.lemmas.Option.{none-some}
use Rattle.rules.specs.01-Lists.{◌∈◌, rising}
use Rattle.rules.specs.02-Limits.{limits}
use Rattle.rules.specs.04-Schema.{Kind, kind_of, kind_code, is_used, is_object, parents_in, parents, present}
use Rattle.rules.specs.04-Schema.Kind.{unused, object, attribute, designation, paired}
use Rattle.rules.specs.05-Descent.{Parent}
use Rattle.rules.specs.07-Picture.{base_length}
use Rattle.rules.specs.Parts.{of_types, of_presences, Kinds, Parents, Reverses, ClosedUnder}
use Rattle.rules.proofs.Bools.{and_both, and_of, same_test}
use Rattle.rules.proofs.01-Lists.{at_place, place_in}
use Rattle.rules.proofs.Parts.{presence_there, present_each, parent_in, parent_of}
use Rattle.type_set.specs.Set.{bit}
use Rattle.type_set.proofs.Bit.{bit_zero, word_same}
use Rattle.base.specs.Tables.{Written, types}
use Rattle.base.specs.Back.{schema_of}
use Rattle.base.proofs.Shown.{types_long, kind_is, kind_none, shows_attribute, shows_paired}
use Rattle.lookup.specs.Parents.{Falling}
use Rattle.lookup.proofs.KindBytes.{kind_byte, value_byte, reverse_byte, count_byte, parent_byte, parent_places, listed_parents}
use Rattle.lookup.proofs.KindBytes.{object_shown, place_byte, row_code, object_bytes, attribute_bytes, paired_bytes}
use Rattle.check_held.specs.Held.{Holds, Within}
use Rattle.check_held.specs.Fine.{TypesFine}
use Rattle.check_held.proofs.HeldLaws.{present_shown, shows_any}
use Rattle.check_held.proofs.WordLaws.{some_bit}
use Rattle.check_types.specs.OneType.{sdss_of, ParentsBelow, ObjectFine, Mutual, LinkFine, TypeFine, RootFine}
use Rattle.check_types.specs.declared.Numbering.TheVariants.{Below}
use Rattle.check_types.specs.OneType.{TypesTold}
use Rattle.check_types.proofs.RowLaws.{listed_long, zero_kind, zero_reverse, fine_row}
use Rattle.check_types.proofs.RowLaws.{row_unused, row_object, row_attribute, row_designation, row_paired}

-- ---- numbers that rise one by one

next_rising : (l : List ℕ) → rising ltb l ≡ true → (i : ℕ) → suc i < length l → get_or l i 0 < get_or l (suc i) 0
unfolding rising
next_rising [] e i h = absurd (omega arith)
next_rising (x ∷ []) e i h = absurd (omega arith)
next_rising (x ∷ y ∷ l) e zero h = ltb-true x y (and_both (ltb x y) (rising ltb (y ∷ l)) e).0
next_rising (x ∷ y ∷ l) e (suc i) h = next_rising (y ∷ l) (and_both (ltb x y) (rising ltb (y ∷ l)) e).1 i (omega arith)

rising_next : (l : List ℕ) → ((i : ℕ) → suc i < length l → get_or l i 0 < get_or l (suc i) 0) → rising ltb l ≡ true
unfolding rising
rising_next [] f = refl
rising_next (x ∷ []) f = refl
rising_next (x ∷ y ∷ l) f =
    and_of (ltb x y) (rising ltb (y ∷ l)) (lt-ltb x y (f 0 (omega arith))) (rising_next (y ∷ l) (λ i h. f (suc i) (omega arith)))

-- ---- kinds

-- a kind with a parent is an object type's
parent_listed : {a : ℕ} (k : Kind) → a ∈ parents_in k → (ps : List ℕ) × (k ≡ object ps) × (a ∈ ps)
parent_listed unused i = absurd (Memᴰ.not-nil i)
parent_listed (object ps) i = (ps, refl, i)
parent_listed (attribute v) i = absurd (Memᴰ.not-nil i)
parent_listed designation i = absurd (Memᴰ.not-nil i)
parent_listed (paired c r) i = absurd (Memᴰ.not-nil i)

object_in : (k : Kind) → is_object k ≡ true → (ps : List ℕ) × (k ≡ object ps)
object_in unused e = absurd (false≢true e)
object_in (object ps) e = (ps, refl)
object_in (attribute v) e = absurd (false≢true e)
object_in designation e = absurd (false≢true e)
object_in (paired c r) e = absurd (false≢true e)

code_last : (k : Kind) → kind_code k ≤ 3
code_last unused = omega arith
code_last (object ps) = omega arith
code_last (attribute v) = omega arith
code_last designation = omega arith
code_last (paired c r) = omega arith

used_below : (b : List ℕ) (t : ℕ) → is_used (kind_of (schema_of b) t) ≡ true → t < 128
used_below b t u = go (ltb t 128) refl
  where
    go : (x : Bool) → ltb t 128 ≡ x → t < 128
    go true q = ltb-true t 128 q
    go false q = absurd (false≢true (sym (ap is_used (kind_none b t (ltb-false t 128 q))) ∙ u))

paired_is : (b : List ℕ) (t r : ℕ) → t < 128 → kind_byte b t ≡ 3 → (value_byte b t ≡ 4 → ⊥) → reverse_byte b t ≡ r
    → kind_of (schema_of b) t ≡ paired (value_byte b t) r
paired_is b t r h k v e = kind_is b t h ∙ shows_paired b t k v ∙ ap (paired (value_byte b t)) e

object_is : (b : List ℕ) (t : ℕ) → t < 128 → kind_byte b t ≡ 1 → kind_of (schema_of b) t ≡ object (listed_parents b t)
object_is b t h e = kind_is b t h ∙ object_shown b t e

-- ---- rows that are as they would be written

module _ (b : List ℕ) (long : length b ≡ base_length) (rows : Written types limits.types b) where
  code : (t : ℕ) → t < 128 → kind_byte b t ≡ kind_code (kind_of (schema_of b) t)
  code t h = row_code b t h (rows t h)

  byte_used : (t : ℕ) → t < 128 → (kind_byte b t ≡ 0 → ⊥) → is_used (kind_of (schema_of b) t) ≡ true
  byte_used t h n = ap (ltb 0) (sym (code t h)) ∙ lt-ltb 0 (kind_byte b t) (omega arith)

  used_byte : (t : ℕ) → t < 128 → is_used (kind_of (schema_of b) t) ≡ true → kind_byte b t ≡ 0 → ⊥
  used_byte t h u z = let s = ltb-true 0 (kind_code (kind_of (schema_of b) t)) u in omega (arith, code t h)

  few : (t : ℕ) → t < 128 → kind_byte b t ≡ 1 → count_byte b t ≤ 4
  few t h k = (row_object b t long h (rows t h) k).parents.count

  count_listed : (t : ℕ) → t < 128 → kind_byte b t ≡ 1 → length (listed_parents b t) ≡ count_byte b t
  count_listed t h e = listed_long b t long h (few t h e)

  listed_byte : (t : ℕ) → t < 128 → kind_byte b t ≡ 1 → (i : ℕ) → i < count_byte b t → get_or (listed_parents b t) i 0 ≡ parent_byte b t i
  listed_byte t h e i u = get_or-take (count_byte b t) (parent_places b t) i 0 u ∙ place_byte b t i (omega (arith, few t h e))

  -- a parent stands in some place, and what stands there is a parent
  parent_place : (t a : ℕ) → Parent (schema_of b) t a
      → (t < 128) × (kind_byte b t ≡ 1) × ((i : ℕ) × (i < count_byte b t) × (parent_byte b t i ≡ a))
  unfolding parents
  parent_place t a p =
      let (ps, e, m) = parent_listed (kind_of (schema_of b) t) p.listed in
      let (h, k, q) = object_bytes b t ps e in
      let (i, u, g) = at_place 0 (subst (λ (l : List ℕ). a ∈ l) q m) in
      let u' : i < count_byte b t = omega (arith, count_listed t h k) in
      (h, k, (i, u', sym (listed_byte t h k i u') ∙ g))

  place_parent : (t : ℕ) → t < 128 → kind_byte b t ≡ 1 → (i : ℕ) → i < count_byte b t → Parent (schema_of b) t (parent_byte b t i)
  unfolding parents
  place_parent t h k i u =
      let m : get_or (listed_parents b t) i 0 ∈ listed_parents b t = place_in 0 (listed_parents b t) i (omega (arith, count_listed t h k)) in
      record { listed = rw (object_is b t h k) (rw (listed_byte t h k i u) at m) }

  -- rows whose parents are numbered below them
  pub rows_fall : ((t : ℕ) → t < 128 → ParentsBelow b t (count_byte b t) t) → Falling (schema_of b)
  rows_fall below t a by =
      let (h, k, (i, u, g)) = parent_place t a by in
      rw g at (below t h i u)

-- ---- words, and what the presences say

module _ {b held : List ℕ} (holds : Holds b held) where
  abbrev in_presences : ℕ → ℕ → Bool
  in_presences d t = present (of_presences (schema_of b).presences) d t

  shown : (d t : ℕ) → d < 16 → bit (sdss_of held t) d ≡ in_presences d t
  shown d t h = shows_any holds t d h ∙ sym (present_shown b d t)

  has_bit : (d t : ℕ) → in_presences d t ≡ true → (d < 16) × (t < 128) × (bit (sdss_of held t) d ≡ true)
  has_bit d t e =
      let (l, h) = holds.places d t (sym (present_shown b d t) ∙ e) in
      (l, h, shown d t l ∙ e)

  -- a word is not 0 where some SDS holds its type
  not_zero : (d t : ℕ) → in_presences d t ≡ true → sdss_of held t ≡ 0 → ⊥
  not_zero d t e z =
      let (_, _, q) = has_bit d t e in
      false≢true (sym (bit_zero d) ∙ ap (λ (w : ℕ). bit w d) (sym z) ∙ q)

  some_sds : (t : ℕ) → t < 128 → (sdss_of held t ≡ 0 → ⊥) → (d : ℕ) × (in_presences d t ≡ true)
  some_sds t h n =
      let (d, l, q) = some_bit (sdss_of held t) (holds.words t h) n in
      (d, sym (shown d t l) ∙ q)

  -- ---- each type is fine: all types are

  module _ (long : length b ≡ base_length) (root : RootFine b held) (f : (t : ℕ) → t < 128 → TypeFine b held t) where
    rows : Written types limits.types b
    rows t h = fine_row b t long h (f t h)

    all_kinds : Kinds (schema_of b).types
    all_kinds = record {
      room = types_long b;
      few = λ t ps e. let (h, k, q) = object_bytes b t ps e in omega (arith, few b long rows t h k, count_listed b long rows t h k, ap length q);
      value_kinds = λ t v e. let (h, k, q) = attribute_bytes b t v e in omega (arith, ((f t h).attribute k).value);
      categories = λ t c r e. let (h, k, n, q, _) = paired_bytes b t c r e in omega (arith, ((f t h).link k).category);
    }

    all_parents : Parents (schema_of b).types
    all_parents = record {
      rises = λ t ps q.
          let (h, k, p) = object_bytes b t ps q in
          rw p (rising_next (listed_parents b t) (λ i u.
          let u' : suc i < count_byte b t = omega (arith, count_listed b long rows t h k) in
          let r = ((f t h).object k).rising i u' in
          omega (arith, listed_byte b long rows t h k i (omega arith), listed_byte b long rows t h k (suc i) u')));
      objects = λ t a p.
          let (h, k, (i, u, g)) = parent_place b long rows t a (parent_of t a p) in
          let fine = (f t h).object k in
          rw (← g) (ap is_object (object_is b (parent_byte b t i) (fine.small i u) (fine.each i u).object));
      root =
          let n : count_byte b 0 ≡ 0 = omega (arith, root.row.parents.count) in
          object_is b 0 (omega arith) root.object ∙ ap (λ (m : ℕ). object (take m (parent_places b 0))) n;
      only_root = λ t q.
          let (h, k, p) = object_bytes b t [] q in
          ((f t h).object k).only_root (sym (count_listed b long rows t h k) ∙ sym (ap length p));
    }

    -- only a link type that is no designation has a reverse
    only_links : (r : ℕ) → r < 128 → (reverse_byte b r ≡ 0 → ⊥) → (kind_byte b r ≡ 3) × (value_byte b r ≡ 4 → ⊥)
    only_links r h n =
        let k = go (kind_byte b r) refl (f r h).known in
        (k, λ v. n (((f r h).link k).designation v))
      where
        unheld : kind_byte b r ≡ 0 → (w : Bool) → eqb (sdss_of held r) 0 ≡ w → ⊥
        unheld e true w = n (zero_reverse b r long h ((f r h).unheld (eqb-true (sdss_of held r) 0 w)))
        unheld e false w = (f r h).used (eqb-false (sdss_of held r) 0 w) e

        go : (k : ℕ) → kind_byte b r ≡ k → k ≤ 3 → kind_byte b r ≡ 3
        go zero e l = absurd (unheld e (eqb (sdss_of held r) 0) refl)
        go (suc zero) e l = absurd (n ((f r h).object e).row.reverse)
        go (suc (suc zero)) e l = absurd (n ((f r h).attribute e).reverse)
        go (suc (suc (suc zero))) e l = e
        go (suc (suc (suc (suc k)))) e l = absurd (omega arith)

    answers : (t : ℕ) → kind_byte b t ≡ 3 → Mutual b held t (sdss_of held t)
        → (kind_byte b (reverse_byte b t) ≡ 3) × (value_byte b (reverse_byte b t) ≡ 4 → ⊥)
    answers t k m =
        only_links (reverse_byte b t) m.small
        (λ z.
        let first : t ≡ 0 = sym m.in_turn ∙ z in
        omega (arith, root.object, sym (ap (kind_byte b) first) ∙ k))

    all_reverses : Reverses (schema_of b).types
    all_reverses = record {
      different = λ t c r e q.
          let (h, k, v, _, n) = paired_bytes b t c r e in
          (((f t h).link k).paired v).different (n ∙ q);
      in_turn = λ t c r e.
          let (h, k, v, _, n) = paired_bytes b t c r e in
          let m = ((f t h).link k).paired v in
          let (link, other) = answers t k m in
          let back = paired_is b (reverse_byte b t) t m.small link other m.in_turn in
          (value_byte b (reverse_byte b t), subst (λ (x : ℕ). kind_of (schema_of b) x ≡ paired (value_byte b (reverse_byte b t)) t) n back);
      not_both = λ t r e g.
          let (h, k, v, c, n) = paired_bytes b t 3 r e in
          let (_, _, _, d, _) = paired_bytes b r 3 t g in
          (((f t h).link k).paired v).not_both_implicit c (ap (value_byte b) n ∙ d);
    }

    -- an SDS that holds t holds what t names
    holds_with : (d t a : ℕ) → in_presences d t ≡ true → Within (sdss_of held t) (sdss_of held a) → in_presences d a ≡ true
    holds_with d t a e w = let (l, _, q) = has_bit d t e in sym (shown d a l) ∙ w d l q

    all_closed : (d t : ℕ) → in_presences d t ≡ true → ClosedUnder (schema_of b).types (in_presences d) t
    all_closed d t e = record {
      parents = λ a by.
          let (h, k, (i, u, g)) = parent_place b long rows t a (parent_of t a by) in
          ap (in_presences d) (sym g) ∙ holds_with d t (parent_byte b t i) e (((f t h).object k).each i u).with_child;
      reverse = λ c r q.
          let (h, k, v, _, n) = paired_bytes b t c r q in
          ap (in_presences d) (sym n) ∙ holds_with d t (reverse_byte b t) e (λ x l q. ap (λ (w : ℕ). bit w x) (((f t h).link k).paired v).same ∙ q);
    }

    pub types_all : TypesFine b
    types_all = record {
      type_rows = rows;
      kinds = all_kinds;
      parents = all_parents;
      reverses = all_reverses;
      typed = λ p m.
          let e = presence_there m in
          let (_, h, _) = has_bit p.sds p.type e in
          byte_used b long rows p.type h ((f p.type h).used (not_zero p.sds p.type e));
      closed = λ p m. all_closed p.sds p.type (presence_there m);
      somewhere = λ t u.
          let h = used_below b t u in
          some_sds t h (λ z. used_byte b long rows t h u (zero_kind b t long h ((f t h).unheld z)));
    }

  -- ---- all types are fine: each type is

  module _ (long : length b ≡ base_length) (x : TypesFine b) where
    used_held : (t : ℕ) → t < 128 → (kind_byte b t ≡ 0 → ⊥) → sdss_of held t ≡ 0 → ⊥
    used_held t h n =
        let (d, e) = x.somewhere t (byte_used b long x.type_rows t h n) in
        not_zero d t e

    held_used : (t : ℕ) → t < 128 → (sdss_of held t ≡ 0 → ⊥) → kind_byte b t ≡ 0 → ⊥
    held_used t h n z =
        let (d, e) = some_sds t h n in
        used_byte b long x.type_rows t h
        (present_each (schema_of b).presences (λ d t. is_used (kind_of (schema_of b) t) ≡ true) x.typed d t e) z

    closed_at : (d t : ℕ) → d < 16 → bit (sdss_of held t) d ≡ true → ClosedUnder (schema_of b).types (in_presences d) t
    closed_at d t l q =
        present_each (schema_of b).presences (λ d t. ClosedUnder (schema_of b).types (in_presences d) t) x.closed d t (sym (shown d t l) ∙ q)

    each_object : (t : ℕ) → t < 128 → kind_byte b t ≡ 1 → ObjectFine b held t (sdss_of held t)
    each_object t h k = record {
      row = row_object b t long h (x.type_rows t h) k;
      only_root = λ n. x.parents.only_root t (object_is b t h k ∙ ap (λ (m : ℕ). object (take m (parent_places b t))) n);
      rising = λ i u.
          let r = next_rising (listed_parents b t) (x.parents.rises t (listed_parents b t) (object_is b t h k)) i
          (omega (arith, count_listed b long x.type_rows t h k)) in
          omega (arith, listed_byte b long x.type_rows t h k i (omega arith), listed_byte b long x.type_rows t h k (suc i) u);
      small = λ i u. let (small, _, _) = parent i u in small;
      each = λ i u.
          let a = parent_byte b t i in
          let (_, kind, by) = parent i u in
          record { object = kind; with_child = λ d l q. shown d a l ∙ (closed_at d t l q).parents a by };
    }
      where
        parent : (i : ℕ) → i < count_byte b t
            → (parent_byte b t i < 128) × (kind_byte b (parent_byte b t i) ≡ 1) × Parent (of_types (schema_of b).types) t (parent_byte b t i)
        parent i u =
            let a = parent_byte b t i in
            let by = parent_in t a (place_parent b long x.type_rows t h k i u) in
            let (ps, e) = object_in (kind_of (schema_of b) a) (x.parents.objects t a by) in
            let (small, kind, _) = object_bytes b a ps e in
            (small, kind, by)

    -- a pair is in the same SDSs
    same_sdss : (t r c c' : ℕ) → t < 128 → r < 128 → kind_of (schema_of b) t ≡ paired c r → kind_of (schema_of b) r ≡ paired c' t
        → sdss_of held r ≡ sdss_of held t
    same_sdss t r c c' h u e g =
        word_same 16 (sdss_of held r) (sdss_of held t) (holds.words r u) (holds.words t h)
        (λ d l.
        same_test (bit (sdss_of held r) d) (bit (sdss_of held t) d)
        (λ q. shown d t l ∙ (closed_at d r l q).reverse c' t g)
        (λ q. shown d r l ∙ (closed_at d t l q).reverse c r e))

    each_pair : (t : ℕ) → t < 128 → kind_byte b t ≡ 3 → (value_byte b t ≡ 4 → ⊥) → Mutual b held t (sdss_of held t)
    each_pair t h k v =
        let r = reverse_byte b t in
        let e : kind_of (schema_of b) t ≡ paired (value_byte b t) r = paired_is b t r h k v refl in
        let (c', g) = x.reverses.in_turn t (value_byte b t) r e in
        let (small, link, other, _, back) = paired_bytes b r c' t g in
        record {
          different = x.reverses.different t (value_byte b t) r e;
          small = small;
          same = same_sdss t r (value_byte b t) c' h small e g;
          in_turn = back;
          not_both_implicit = λ c d.
              x.reverses.not_both t r (e ∙ ap (λ (n : ℕ). paired n r) c) (paired_is b r t small link other back ∙ ap (λ (n : ℕ). paired n t) d);
        }

    each_link : (t : ℕ) → t < 128 → kind_byte b t ≡ 3 → LinkFine b held t (sdss_of held t)
    each_link t h k = go (eqb (value_byte b t) 4) refl
      where
        go : (s : Bool) → eqb (value_byte b t) 4 ≡ s → LinkFine b held t (sdss_of held t)
        go true s =
            let v = eqb-true (value_byte b t) 4 s in
            let (r, n) = row_designation b t long h (x.type_rows t h) k v in
            record { parents = n; category = omega arith; designation = λ _. r; paired = λ o. absurd (o v) }
        go false s =
            let v = eqb-false (value_byte b t) 4 s in
            let c = x.kinds.categories t (value_byte b t) (reverse_byte b t) (paired_is b t (reverse_byte b t) h k v refl) in
            record {
              parents = row_paired b t long h (x.type_rows t h) k v;
              category = omega arith;
              designation = λ four. absurd (v four);
              paired = each_pair t h k;
            }

    pub types_each : (t : ℕ) → t < 128 → TypeFine b held t
    types_each t h = record {
      unheld = λ z. row_unused b t long h (x.type_rows t h) (unused_byte z (eqb (kind_byte b t) 0) refl);
      used = held_used t h;
      known = omega (arith, code b long x.type_rows t h, code_last (kind_of (schema_of b) t));
      object = each_object t h;
      attribute = λ k.
          row_attribute b t long h (x.type_rows t h) k (x.kinds.value_kinds t (value_byte b t) (kind_is b t h ∙ shows_attribute b t k));
      link = each_link t h;
    }
      where
        unused_byte : sdss_of held t ≡ 0 → (s : Bool) → eqb (kind_byte b t) 0 ≡ s → kind_byte b t ≡ 0
        unused_byte z true s = eqb-true (kind_byte b t) 0 s
        unused_byte z false s = absurd (used_held t h (eqb-false (kind_byte b t) 0 s) z)

    pub types_root : RootFine b held
    types_root =
        let (h, k, q) = object_bytes b 0 [] x.parents.root in
        let row = row_object b 0 long h (x.type_rows 0 h) k in
        let n : count_byte b 0 ≡ 0 = sym (count_listed b long x.type_rows 0 h k) ∙ sym (ap length q) in
        record {
          somewhere = used_held 0 h (λ z. omega arith);
          object = k;
          row = record {
            value = row.value;
            reverse = row.reverse;
            parents = record { count = omega arith; places = row.parents.places };
          };
        }

pub not_fine : {b : List ℕ} → (TypesFine b → ⊥) → TypesTold b None
not_fine f = record { fine = λ o e. absurd (none-some o e); not = λ _. f; falling = λ e. absurd (none-some Below e) }
