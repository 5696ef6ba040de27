-- Mirrors: of rows that are fine, those of higher link types have theirs, which are all rows of lower ones exactly where there are as many
-- of both. Assumes nothing.
use Prim.Native.Nat.{ℕ, ◌+◌, ◌*◌, ◌-◌, ◌≤◌, ◌<◌}
use native.Mathlib.Omega.{arith}
use mathlib.Core.Path.{◌≡◌, refl, sym, ap, ◌∙◌}
use mathlib.Core.List.{List}
use mathlib.Core.Bool.{Bool, true, false}
use lib.Dec.{eqb}
use borrow.Author.Tests.{eqb-true, eqb-false, eq-eqb, ne_eqb}
use Rattle.rules.specs.04-Schema.{kind_of, is_link}
use Rattle.rules.specs.04-Schema.Kind.{paired}
use Rattle.rules.specs.Parts.{Reverses}
use Rattle.base.specs.Back.{schema_of}
use Rattle.lookup.proofs.KindBytes.{value_byte, reverse_byte, link_below, link_paired, paired_bytes}
use Rattle.check_ends.specs.Count.{count}
use Rattle.check_ends.specs.Ends.{sds_byte, link_byte, side_byte, object_byte, row_number, mirror_number}
use Rattle.check_ends.specs.Ends.{rank, turned, lower, higher, RowWith}
use Rattle.check_ends.proofs.CountLaws.{Partner, count_le, count_lt}
use Rattle.check_ends.proofs.RowLaws.{four, Numbered, tells, rank_none, rank_behind, rank_ahead}

-- ---- the rank of a link type

module _ (b : List ℕ) (l : ℕ) where
  -- a link type of either rank is one of a pair
  some_rank : {m : ℕ} → 0 < m → rank b l ≡ m → value_byte b l ≡ 4 → ⊥
  some_rank h e v = omega (arith, rank_none b l refl v)

  pub behind_is : rank b l ≡ 2 → reverse_byte b l < l
  behind_is e =
      let less : l ≤ reverse_byte b l → ⊥ = λ h. omega (arith, rank_ahead b l refl (some_rank (omega arith) e) refl h) in
      omega arith

  ahead_is : rank b l ≡ 1 → l ≤ reverse_byte b l
  ahead_is e =
      let more : reverse_byte b l < l → ⊥ = λ h. omega (arith, rank_behind b l refl (some_rank (omega arith) e) refl h) in
      omega arith

  module _ {c r : ℕ} (k : kind_of (schema_of b) l ≡ paired c r) where
    pair_behind : r < l → rank b l ≡ 2
    pair_behind h = let (_, _, v, _, e) = paired_bytes b l c r k in sym (rank_behind b l refl v (sym e) h)

    pair_ahead : l ≤ r → rank b l ≡ 1
    pair_ahead h = let (_, _, v, _, e) = paired_bytes b l c r k in sym (rank_ahead b l refl v (sym e) h)

  -- what the number of a mirror begins with
  module _ (d side : ℕ) where
    pub turned_behind : rank b l ≡ 2 → turned b d l side ≡ (d * 256 + reverse_byte b l) * 256 + (1 - side)
    unfolding turned
    turned_behind e = rw (eq-eqb (rank b l) 2 e)

    pub turned_own : (rank b l ≡ 2 → ⊥) → turned b d l side ≡ (d * 256 + l) * 256 + side
    unfolding turned
    turned_own n = rw (ne_eqb (rank b l) 2 n)

-- ---- a row and its mirror

-- rows of link types, in order, with sides that are sides
pub record Rows (b : List ℕ) (n : ℕ) : Type 0 where
  pub reverses : Reverses (schema_of b).types
  pub numbered : (i : ℕ) → i < n → Numbered b i
  pub sides : (i : ℕ) → i < n → side_byte b i ≤ 1
  pub links : (i : ℕ) → i < n → is_link (kind_of (schema_of b) (link_byte b i)) ≡ true
  pub rise : (i j : ℕ) → i < j → j < n → row_number b i < row_number b j

-- row j of n is the mirror of row i
pub record Mirror (b : List ℕ) (n i j : ℕ) : Type 0 where
  pub here : i < n
  pub there : j < n
  pub category : ℕ
  pub pair : kind_of (schema_of b) (link_byte b i) ≡ paired category (link_byte b j)
  pub sds : sds_byte b j ≡ sds_byte b i
  pub side : side_byte b j ≡ 1 - side_byte b i
  pub object : object_byte b j ≡ object_byte b i

pub record Mirrored (b : List ℕ) (n i : ℕ) : Type 0 where
  pub place : ℕ
  pub is : Mirror b n i place

pub pair_same : {c e r q : ℕ} → paired c r ≡ paired e q → r ≡ q
pair_same p = cc

module _ {b : List ℕ} {n : ℕ} (rows : Rows b n) where
  back : {i j : ℕ} → Mirror b n i j → Mirror b n j i
  back {i} {j} m =
      let (c, k) = rows.reverses.in_turn (link_byte b i) m.category (link_byte b j) m.pair in
      record {
        here = m.there;
        there = m.here;
        category = c;
        pair = k;
        sds = sym m.sds;
        side = omega (arith, m.side, rows.sides i m.here);
        object = sym m.object;
      }

  -- a row whose number is no higher stands no further
  no_further : (i k : ℕ) → i < n → row_number b i ≤ row_number b k → i ≤ k
  no_further i k h e = let further : k < i → ⊥ = λ l. omega (arith, rows.rise k i l h) in omega arith

  alone : (i k j : ℕ) → Mirror b n i j → Mirror b n k j → i ≡ k
  alone i k j x y =
      let u = back x in
      let v = back y in
      let link : link_byte b i ≡ link_byte b k = pair_same (sym u.pair ∙ v.pair) in
      let sds = u.sds ∙ sym v.sds in
      let side = u.side ∙ sym v.side in
      let object = u.object ∙ sym v.object in
      let same = (rows.numbered i x.here).is ∙ (λ t. four (sds t) (link t) (side t) (object t)) ∙ sym (rows.numbered k y.here).is in
      omega (arith, no_further i k x.here (omega (arith, same)), no_further k i y.here (omega (arith, same)))

  -- the mirror of a row of a higher link type is of a lower one, and the other way round
  module _ {i j : ℕ} (m : Mirror b n i j) where
    reversed : reverse_byte b (link_byte b i) ≡ link_byte b j
    reversed = (paired_bytes b (link_byte b i) m.category (link_byte b j) m.pair).4

    turns_lower : higher b i ≡ true → lower b j ≡ true
    turns_lower e =
        let less = behind_is b (link_byte b i) (eqb-true (rank b (link_byte b i)) 2 e) in
        eq-eqb (rank b (link_byte b j)) 1 (pair_ahead b (link_byte b j) (back m).pair (omega (arith, reversed)))

    turns_higher : lower b i ≡ true → higher b j ≡ true
    turns_higher e =
        let less = ahead_is b (link_byte b i) (eqb-true (rank b (link_byte b i)) 1 e) in
        let other = rows.reverses.different (link_byte b i) m.category (link_byte b j) m.pair in
        eq-eqb (rank b (link_byte b j)) 2 (pair_behind b (link_byte b j) (back m).pair (omega (arith, reversed)))

  pub pair_of : (i m : ℕ) → i < n → 0 < m → eqb (rank b (link_byte b i)) m ≡ true
      → kind_of (schema_of b) (link_byte b i) ≡ paired (value_byte b (link_byte b i)) (reverse_byte b (link_byte b i))
  pair_of i m h some e =
      let l = link_byte b i in
      link_paired b l (link_below b l (rows.links i h)) (rows.links i h) (some_rank b l some (eqb-true (rank b l) m e))

  -- ---- the mirror behind, by its number

  pub row_mirrored : (i : ℕ) → i < n → higher b i ≡ true → RowWith b (i + 1) (mirror_number b i) → Mirrored b n i
  row_mirrored i h e x =
      let l = link_byte b i in
      let behind = eqb-true (rank b l) 2 e in
      let there : x.place < n = omega (arith, x.below) in
      let less = behind_is b l behind in
      let small = (rows.numbered i h).link in
      let w : row_number b x.place ≡ four (sds_byte b i) (reverse_byte b l) (1 - side_byte b i) (object_byte b i)
      = x.is ∙ ap (λ (t : ℕ). t * 256 + object_byte b i) (turned_behind b l (sds_byte b i) (side_byte b i) behind) in
      let (d, r, s, o) = tells (rows.numbered x.place there) (sds_byte b i) (reverse_byte b l) (1 - side_byte b i) (object_byte b i)
      (omega arith) (omega (arith, rows.sides i h)) (rows.numbered i h).object w in
      record {
        place = x.place;
        is = record {
          here = h;
          there = there;
          category = value_byte b l;
          pair = pair_of i 2 h (omega arith) e ∙ ap (paired (value_byte b l)) (sym r);
          sds = d;
          side = s;
          object = o;
        };
      }

  pub mirrored_row : (i : ℕ) → i < n → (higher b i ≡ true → Mirrored b n i) → RowWith b (i + 1) (mirror_number b i)
  mirrored_row i h f = go (higher b i) refl
    where
      go : (x : Bool) → higher b i ≡ x → RowWith b (i + 1) (mirror_number b i)
      go true e =
          let l = link_byte b i in
          let behind = eqb-true (rank b l) 2 e in
          let m = (f e).is in
          let j = (f e).place in
          let less = behind_is b l behind in
          let is : row_number b j ≡ four (sds_byte b i) (reverse_byte b l) (1 - side_byte b i) (object_byte b i)
          = (rows.numbered j m.there).is ∙ (λ t. four (m.sds t) (sym (reversed m) t) (m.side t) (m.object t)) in
          let before : row_number b j < row_number b i
          = omega (arith, is, (rows.numbered i h).is, (rows.numbered i h).object, rows.sides i h, rows.sides j m.there) in
          record {
            place = j;
            below = omega (arith, no_further j i m.there (omega (arith, before)));
            is = is ∙ ap (λ (t : ℕ). t * 256 + object_byte b i) (sym (turned_behind b l (sds_byte b i) (side_byte b i) behind));
          }
      go false e = record {
        place = i;
        below = omega arith;
        is = (rows.numbered i h).is ∙ ap (λ (t : ℕ). t * 256 + object_byte b i)
            (sym (turned_own b (link_byte b i) (sds_byte b i) (side_byte b i) (eqb-false (rank b (link_byte b i)) 2 e)));
      }

  -- ---- as many of both

  lower_partner : {i : ℕ} → higher b i ≡ true → Mirrored b n i → Partner (lower b) n (Mirror b n) i
  lower_partner e m = record { place = m.place; below = m.is.there; passes = turns_lower m.is e; is = m.is }

  higher_partner : {i : ℕ} → lower b i ≡ true → Mirrored b n i → Partner (higher b) n (Mirror b n) i
  higher_partner e m = record { place = m.place; below = m.is.there; passes = turns_higher m.is e; is = m.is }

  -- where each has its mirror
  pub as_many : ((i c r : ℕ) → i < n → kind_of (schema_of b) (link_byte b i) ≡ paired c r → Mirrored b n i) → count (lower b) n ≡ count (higher b) n
  as_many f =
      let less = count_le (lower b) n (Mirror b n) alone (higher b) n (λ i h e. higher_partner e (f i _ _ h (pair_of i 1 h (omega arith) e))) in
      let more = count_le (higher b) n (Mirror b n) alone (lower b) n (λ i h e. lower_partner e (f i _ _ h (pair_of i 2 h (omega arith) e))) in
      omega arith

  -- where the higher ones have theirs and there are as many, none of the lower ones lacks its own
  pub none_left : ((i : ℕ) → i < n → higher b i ≡ true → Mirrored b n i) → count (lower b) n ≡ count (higher b) n
      → (i : ℕ) → i < n → lower b i ≡ true → (Mirrored b n i → ⊥) → ⊥
  none_left f e i h low lost =
      let fewer = count_lt (higher b) n (Mirror b n) alone (lower b) n i (λ k l u. lower_partner u (f k l u)) h low
      (λ k l u m. lost (record { place = k; is = back m })) in
      omega arith

  -- a link type of a pair is the one or the other
  pub either_rank : (i : ℕ) {c r : ℕ} → kind_of (schema_of b) (link_byte b i) ≡ paired c r → higher b i ≡ false → lower b i ≡ true
  either_rank i {c} {r} k e =
      let more : r < link_byte b i → ⊥ = λ h. eqb-false (rank b (link_byte b i)) 2 e (pair_behind b (link_byte b i) k h) in
      eq-eqb (rank b (link_byte b i)) 1 (pair_ahead b (link_byte b i) k (omega arith))
