-- What the name passed last in an SDS tells of the next row. Assumes nothing.
use Prim.Native.Nat.{ℕ, ◌+◌, ◌*◌, ◌%◌, ◌^◌, ◌≤◌, ◌<◌}
use native.Mathlib.Omega.{arith}
use mathlib.Core.Path.{◌≡◌, refl, sym, ap, ap₂, ◌∙◌, subst}
use mathlib.Core.Logic.{◌⊎◌, inl, inr, ⊎_elim}
use mathlib.Core.List.{List, [], ◌∷◌}
use Rattle.std.proofs.Common.{Some, None, cond}
use Rattle.std.specs.Ordering.{partial_lt, partial_ordering_then, nat_cmp, is_lt, is_some_and}
use Rattle.std.specs.declared.cmp.Ordering.TheVariants.{Less, Equal, Greater}
use mathlib.Core.Bool.{Bool, true, false, not, ◌&&◌, ◌||◌, true≢false}
use lib.Dec.{ltb, eqb}
use lib.ListN.{length, get_or, replicate, length-map}
use borrow.Author.Tests.{ltb-true, lt-ltb, le-ltb, eqb-true, eqb-false, eq-eqb, ne_eqb}
use Rattle.rules.specs.01-Lists.{bytes_before}
use Rattle.rules.specs.02-Limits.{limits}
use Rattle.rules.specs.04-Schema.{used_sds, kind_of, is_object}
use Rattle.rules.specs.07-Picture.{base_length}
use Rattle.rules.specs.Read.{name_offset, type_offset}
use Rattle.rules.proofs.Bools.{or_cases, or_left, and_both}
use Rattle.name_fields.specs.Field.{name_field}
use Rattle.rows.specs.declared.order.Key.{Key}
use Rattle.rows.specs.Rows.{part}
use Rattle.rows.specs.Order.{fold, folded, front, number, numbers_of, Keyed}
use Rattle.rows.proofs.Rows.{part_part}
use Rattle.rows.proofs.OrderLaws.{keyed_before, before_apart, before_alike, before_last, number_less, half_small}
use Rattle.rows.proofs.Scan.{length_part}
use Rattle.base.specs.Rows.{presence_at}
use Rattle.base.specs.Back.{schema_of}
use Rattle.check_presences.specs.declared.Floor.{Floor}
use Rattle.check_presences.specs.Rows.{tag, told_apart}
use Rattle.check_presences.specs.Fields.{FieldFine, first_half, second_half, halves, names_before, SdsBit}
use Rattle.check_presences.specs.Floor.{Follows, Bottom, Halves, MadeBy, Last, Under, above, Begun, Made, GoesOn}
use Rattle.check_presences.proofs.OrderLaws.{told_rows}
use Rattle.check_presences.proofs.HalfLaws.{letter_named, named_letter, zeros_half, half_zeros, blank_tag, named_tag, same_small}

-- ---- two rows, by their keys

-- two rows stand by their keys, and where these are the same by their tags
keys_before : (b : List ℕ) {i j : ℕ} {row next : Key} → length b ≡ base_length → ((k : ℕ) → get_or b k 0 < 256) → i < limits.presences
    → j < limits.presences → Keyed b (presence_at i) row → Keyed b (presence_at j) next → bytes_before (told_apart b i) (told_apart b j)
    ≡ (bytes_before (numbers_of row) (numbers_of next) || (not (bytes_before (numbers_of next) (numbers_of row)) && ltb (tag b i) (tag b j)))
keys_before b {i} {j} {row} {next} long bytes h k x y =
    told_rows b long i j h k ∙ (λ z. keys h k x y z || (not (keys k h y x z) && ltb (tag b i) (tag b j)))
  where
    keys : {i j : ℕ} {row next : Key} → i < limits.presences → j < limits.presences → Keyed b (presence_at i) row → Keyed b (presence_at j) next
        → bytes_before (front b (presence_at i)) (front b (presence_at j)) ≡ bytes_before (numbers_of row) (numbers_of next)
    keys {i} {j} {row} {next} h k x y = keyed_before b (presence_at i) (presence_at j) row next bytes (omega arith) (omega arith) x y

-- where the SDSs differ these decide, and where not the names
sds_apart : (b : List ℕ) (i j : ℕ) → (get_or b (presence_at i) 0 ≡ get_or b (presence_at j) 0 → ⊥)
    → bytes_before (told_apart b i) (told_apart b j) ≡ ltb (get_or b (presence_at i) 0) (get_or b (presence_at j) 0)
sds_apart b i j n = before_apart (get_or b (presence_at i) 0) (get_or b (presence_at j) 0) _ _ n

sds_same : (b : List ℕ) {i j : ℕ} {row next : Key} → length b ≡ base_length → ((k : ℕ) → get_or b k 0 < 256) → i < limits.presences
    → j < limits.presences → Keyed b (presence_at i) row → Keyed b (presence_at j) next → get_or b (presence_at i) 0 ≡ get_or b (presence_at j) 0
    → bytes_before (told_apart b i) (told_apart b j) ≡ names_before b i j row next
sds_same b {i} {j} {row} {next} long bytes h k x y e =
    let same : row.sds ≡ next.sds = x.sds ∙ e ∙ sym y.sds in
    keys_before b long bytes h k x y
    ∙ (λ z. before_alike row.sds next.sds (halves row) (halves next) same z
    || (not (before_alike next.sds row.sds (halves next) (halves row) (sym same) z) && ltb (tag b i) (tag b j)))

-- names by their halves
module _ (b : List ℕ) (i j : ℕ) (row next : Key) where
  first_less : row.first < next.first → names_before b i j row next ≡ true
  unfolding bytes_before
  first_less l = rw (lt-ltb row.first next.first l)

  first_more : next.first < row.first → names_before b i j row next ≡ false
  unfolding bytes_before
  first_more l =
      rw (le-ltb row.first next.first (omega arith), ne_eqb row.first next.first (λ e. omega arith), lt-ltb next.first row.first l)

  halves_same : row.first ≡ next.first → row.second ≡ next.second → names_before b i j row next ≡ ltb (tag b i) (tag b j)
  unfolding bytes_before
  halves_same e l =
      rw (
        le-ltb row.first next.first (omega arith),
        eq-eqb row.first next.first e,
        le-ltb row.second next.second (omega arith),
        eq-eqb row.second next.second l,
        le-ltb next.first row.first (omega arith),
        eq-eqb next.first row.first (sym e),
        le-ltb next.second row.second (omega arith),
        eq-eqb next.second row.second (sym l),
      )

-- ---- above a floor

-- the order of pairs of numbers
pub pair_before : (f : Floor) (k : Key) → partial_lt {X = ℕ × ℕ} (λ x y. partial_ordering_then (Some (nat_cmp x.0 y.0)) (Some (nat_cmp x.1 y.1)))
    (f.first, f.second) (k.first, k.second)
    ≡ (ltb f.first k.first || (eqb f.first k.first && ltb f.second k.second))
pair_before f k = go (ltb f.first k.first) (eqb f.first k.first) (ltb f.second k.second) (eqb f.second k.second)
  where
    go : (p q r s : Bool) → is_some_and is_lt (partial_ordering_then (Some (cond p Less (cond q Equal Greater))) (Some (cond r Less (cond s Equal Greater))))
        ≡ (p || (q && r))
    go true q r s = refl
    go false true true s = refl
    go false true false true = refl
    go false true false false = refl
    go false false r s = refl

module _ (f : Floor) (k : Key) where
  pub above_is : above f k ≡ (ltb f.first k.first || (eqb f.first k.first && ltb f.second k.second))
  unfolding bytes_before
  above_is = ap (λ (t : Bool). ltb f.first k.first || (eqb f.first k.first && t)) (before_last f.second k.second)

  above_first : f.first < k.first → true ≡ above f k
  above_first l = sym (above_is ∙ or_left _ _ (lt-ltb f.first k.first l))

  above_cases : above f k ≡ true → (f.first < k.first) ⊎ ((f.first ≡ k.first) × (f.second < k.second))
  above_cases e =
      ⊎_elim
      (λ l. inl (ltb-true f.first k.first l))
      (λ s.
      let (same, l) = and_both (eqb f.first k.first) (ltb f.second k.second) s in
      inr (eqb-true f.first k.first same, ltb-true f.second k.second l))
      (or_cases (ltb f.first k.first) (eqb f.first k.first && ltb f.second k.second) (sym above_is ∙ e))

-- ---- a row that is to stand on one

-- the second half of a blank field
second_blank : (b : List ℕ) (i : ℕ) → part b (presence_at i + name_offset) limits.name ≡ replicate limits.name 0
    → second_half b i ≡ 0x0101010101010101
unfolding number fold
second_blank b i e =
    let there : presence_at i + 9 ≡ presence_at i + name_offset + 8 = omega arith in
    ap (λ (l : List ℕ). number 0 (folded l)) (ap (λ (p : ℕ). part b p 8) there ∙ sym (part_part b (presence_at i + name_offset) 16 8 8 (omega arith))
    ∙ ap (λ (l : List ℕ). part l 8 8) e)

-- row i is to stand on the floor, behind row `last`; `next` is its key
pub record Meets (b : List ℕ) (last i : ℕ) (f : Floor) (next : Key) : Type 0 where
  pub long : length b ≡ base_length
  pub bytes : (k : ℕ) → get_or b k 0 < 256
  pub last_few : last < limits.presences
  pub few : i < limits.presences
  pub last_fine : FieldFine b last
  pub fine : FieldFine b i
  pub key : Keyed b (presence_at i) next
  pub under : Under b last i f

pub met : {b : List ℕ} {last i : ℕ} {f : Floor} {next : Key} → (length b ≡ base_length) × ((last < limits.presences) × (i < limits.presences))
    → FieldFine b last × FieldFine b i → ((k : ℕ) → get_or b k 0 < 256) → Keyed b (presence_at i) next → Under b last i f → Meets b last i f next
met long fine bytes key under =
    record {
      long = long.0;
      bytes = bytes;
      last_few = long.1.0;
      few = long.1.1;
      last_fine = fine.0;
      fine = fine.1;
      key = key;
      under = under;
    }

module _ {b : List ℕ} {last i : ℕ} {f : Floor} {next : Key} (m : Meets b last i f next) where
  abbrev row : Key
  row = record { sds = get_or b (presence_at last) 0; first = first_half b last; second = second_half b last }

  by_names : get_or b (presence_at last) 0 ≡ get_or b (presence_at i) 0 → bytes_before (told_apart b last) (told_apart b i) ≡ names_before b last i row next
  by_names e = sds_same b m.long m.bytes m.last_few m.few (record { sds = refl; first = refl; second = refl }) m.key e

  later : get_or b (presence_at last) 0 < get_or b (presence_at i) 0 → bytes_before (told_apart b last) (told_apart b i) ≡ true
  later l = sds_apart b last i (λ e. omega arith) ∙ lt-ltb (get_or b (presence_at last) 0) (get_or b (presence_at i) 0) l

  second_below : next.second < 0x10000000000000000
  unfolding number
  second_below =
      let at = presence_at i + 9 in
      let room : at + 8 ≤ length b = omega (arith, m.long, m.few) in
      let eight : length (folded (part b at 8)) ≡ 8 = length-map (part b at 8) fold ∙ length_part b at 8 room in
      let less = number_less (folded (part b at 8)) (replicate 8 0) 0 1 eight (half_small b at m.bytes room) (same_small 8 0 (omega arith)) (omega arith) in
      omega (arith, m.key.second)

  -- a name begins with a letter
  last_letter : name_field (part b (presence_at last + name_offset) limits.name) ≡ true → 0x4200000000000000 ≤ first_half b last
  last_letter = named_letter b m.long m.bytes last m.last_few m.last_fine

  next_letter : name_field (part b (presence_at i + name_offset) limits.name) ≡ true → 0x4200000000000000 ≤ first_half b i
  next_letter = named_letter b m.long m.bytes i m.few m.fine

  last_blank : part b (presence_at last + name_offset) limits.name ≡ replicate limits.name 0 → first_half b last ≡ 0x0101010101010101
  last_blank = zeros_half b m.long m.bytes last m.last_few m.last_fine

  -- of a name, or every name is above it
  kinds : (0x4200000000000000 ≤ f.first) ⊎ Bottom f
  kinds =
      ⊎_elim
      (λ s. ⊎_elim (λ v. inl (omega (arith, v.first, last_letter v.named))) (λ z. inr z.1) s.1)
      (λ s. inr s.1)
      m.under.made

  lettered : above f next ≡ true → 0x4200000000000000 ≤ next.first
  lettered e =
      ⊎_elim
      (λ l. ⊎_elim (λ a. omega arith) (λ z. omega (arith, z.first)) kinds)
      (λ s. ⊎_elim (λ a. omega (arith, s.0)) (λ z. absurd (omega (arith, z.second, s.1, second_below))) kinds)
      (above_cases f next e)

  above_named : above f next ≡ true → name_field (part b (presence_at i + name_offset) limits.name) ≡ true
  above_named e = letter_named b m.long m.bytes i m.few m.fine (omega (arith, m.key.first, lettered e))

  above_follows : above f next ≡ true → Follows b last i
  above_follows e = record {
    named = inl (above_named e);
    used = m.under.bit.used;
    behind = ⊎_elim (λ s. by_names s.0 ∙ ⊎_elim by_halves after_blank s.1) (λ s. later s.0) m.under.made;
  }
    where
      by_halves : Halves b last f → names_before b last i row next ≡ true
      by_halves v =
          or_left _ _ (ap₂ (λ (p q : ℕ). bytes_before (p ∷ q ∷ []) (halves next)) (sym v.first) (sym v.second) ∙ e)

      after_blank : (part b (presence_at last + name_offset) limits.name ≡ replicate limits.name 0) × Bottom f → names_before b last i row next ≡ true
      after_blank z = first_less b last i row next (omega (arith, last_blank z.0, lettered e))

  -- ---- not above it

  -- with a name, or with what is none
  pub not_behind : above f next ≡ false → (next.first ≡ 0x0101010101010101 → ⊥) → Follows b last i → ⊥
  not_behind n x q =
      ⊎_elim with_name (λ z. x (m.key.first ∙ zeros_half b m.long m.bytes i m.few m.fine z.0)) q.named
    where
      no_bottom : 0x4200000000000000 ≤ first_half b i → Bottom f → ⊥
      no_bottom least z = true≢false (above_first f next (omega (arith, z.first, m.key.first)) ∙ n)

      below_name : 0x4200000000000000 ≤ first_half b i → get_or b (presence_at last) 0 ≡ get_or b (presence_at i) 0 → Halves b last f → ⊥
      below_name least e v =
          ⊎_elim
          (λ a. true≢false (sym a ∙ ap₂ (λ (p q : ℕ). bytes_before (p ∷ q ∷ []) (halves next)) (sym v.first) (sym v.second) ∙ n))
          (λ a.
          let (s, l) = and_both (not (bytes_before (halves next) (halves row))) (ltb (tag b last) (tag b i)) a in
          omega (arith, ltb-true (tag b last) (tag b i) l, named_tag b m.long m.bytes i m.few m.fine (λ z. omega arith)))
          (or_cases (bytes_before (halves row) (halves next)) (not (bytes_before (halves next) (halves row)) && ltb (tag b last) (tag b i))
          (sym (by_names e) ∙ q.behind))

      with_name : name_field (part b (presence_at i + name_offset) limits.name) ≡ true → ⊥
      with_name w =
          let least = next_letter w in
          ⊎_elim (λ s. ⊎_elim (below_name least s.0) (λ z. no_bottom least z.1) s.1) (λ s. no_bottom least s.1) m.under.made

  -- without a name
  module _ (z : next.first ≡ 0x0101010101010101) where
    pub zeros : part b (presence_at i + name_offset) limits.name ≡ replicate limits.name 0
    zeros = half_zeros b m.long m.bytes i m.few m.fine (sym m.key.first ∙ z)

    pub no_object : is_object (kind_of (schema_of b) (get_or b (presence_at i + type_offset) 0)) ≡ false → Follows b last i → ⊥
    no_object e q =
        ⊎_elim (λ w. omega (arith, next_letter w, m.key.first)) (λ o. true≢false (sym o.1 ∙ e)) q.named

    module _ (o : is_object (kind_of (schema_of b) (get_or b (presence_at i + type_offset) 0)) ≡ true) where
      pub nameless : bytes_before (told_apart b last) (told_apart b i) ≡ true → Follows b last i
      nameless e = record { named = inr (zeros, o); used = m.under.bit.used; behind = e }

      pub first_nameless : (get_or b (presence_at last) 0 ≡ get_or b (presence_at i) 0 → ⊥) → Follows b last i
      first_nameless x = ⊎_elim (λ s. absurd (x s.0)) (λ s. nameless (later s.0)) m.under.made

      module _ (same : get_or b (presence_at last) 0 ≡ get_or b (presence_at i) 0) where
        pub behind_name : (f.first ≡ 0x41ffffffffffffff → ⊥) → Follows b last i → ⊥
        behind_name x q =
            ⊎_elim
            (λ s. ⊎_elim after_name (λ v. x v.1.first) s.1)
            (λ s. omega (arith, same, s.0))
            m.under.made
          where
            after_name : Halves b last f → ⊥
            after_name v =
                let more = first_more b last i row next (omega (arith, last_letter v.named)) in
                true≢false (sym q.behind ∙ by_names same ∙ more)

        pub by_types : f.first ≡ 0x41ffffffffffffff
            → bytes_before (told_apart b last) (told_apart b i) ≡ ltb (get_or b (presence_at last + type_offset) 0) (get_or b (presence_at i + type_offset) 0)
        by_types e =
            ⊎_elim
            (λ s. ⊎_elim (λ v. absurd (omega (arith, v.first, last_letter v.named))) (λ v. both v.0) s.1)
            (λ s. absurd (omega (arith, same, s.0)))
            m.under.made
          where
            both : part b (presence_at last + name_offset) limits.name ≡ replicate limits.name 0
                → bytes_before (told_apart b last) (told_apart b i) ≡ ltb (get_or b (presence_at last + type_offset) 0) (get_or b (presence_at i + type_offset) 0)
            both a =
                let first = last_blank a in
                by_names same
                ∙ halves_same b last i row next (first ∙ sym z) (second_blank b last a ∙ sym (second_blank b i zeros) ∙ sym m.key.second)
                ∙ ap₂ ltb (blank_tag b m.long m.bytes last m.last_few m.last_fine first)
                (blank_tag b m.long m.bytes i m.few m.fine (sym m.key.first ∙ z))

-- ---- the floor of a row's SDS

module _ (b : List ℕ) (long : length b ≡ base_length) {last i : ℕ} {f : Floor} (l : Last b last f) where
  -- that of the last row
  same_under : get_or b (presence_at last) 0 ≡ get_or b (presence_at i) 0 → Under b last i f
  same_under e = record { bit = subst (λ (d : ℕ). SdsBit b d f.bit) e l.bit; made = inl (e, l.made) }

  pub begun_same : get_or b (presence_at last) 0 ≡ get_or b (presence_at i) 0 → Begun b last i (Some f)
  begun_same = same_under

  -- one that stands before it
  pub begun_back : get_or b (presence_at i) 0 < get_or b (presence_at last) 0 → Begun b last i None
  begun_back h q =
      true≢false (sym q.behind ∙ sds_apart b last i (λ e. omega arith) ∙ le-ltb (get_or b (presence_at last) 0) (get_or b (presence_at i) 0) (omega arith))

  -- one that is not used
  pub begun_unused : used_sds (schema_of b) (get_or b (presence_at i) 0) ≡ false → Begun b last i None
  begun_unused e q = true≢false (sym q.used ∙ e)

  -- another
  pub begun_new : {r : Floor} {d : ℕ} → d ≡ get_or b (presence_at i) 0 → get_or b (presence_at last) 0 < d → used_sds (schema_of b) d ≡ true
      → (r.bit ≡ 1 * 2 ^ d % 2 ^ 16) × Bottom r → Begun b last i (Some r)
  begun_new {r} {d} is h used x =
      let bit : SdsBit b d r.bit = record { used = used; is = x.0 } in
      record { bit = subst (λ (d : ℕ). SdsBit b d r.bit) is bit; made = inr (omega (arith, is), x.1) }

-- ---- a row that is passed

module _ {b : List ℕ} {last i : ℕ} {f : Floor} {next : Key} (m : Meets b last i f next) where
  -- it follows, and makes a floor with the bit
  row_follows : {r : Floor} → r.bit ≡ f.bit → Follows b last i → MadeBy b i r → Made b last i r
  row_follows {r} w q made = record { follows = q; made = record { bit = rw w m.under.bit; made = made } }

  pub row_above : {r : Floor} → above f next ≡ true → (r.bit ≡ f.bit) × ((r.first ≡ next.first) × (r.second ≡ next.second)) → Made b last i r
  row_above e x =
      row_follows x.0 (above_follows m e) (inl (record { named = above_named m e; first = x.1.0 ∙ m.key.first; second = x.1.1 ∙ m.key.second }))

  pub row_nameless : {r : Floor} → above f next ≡ false → Follows b last i → (r.bit ≡ f.bit) × Bottom r → Made b last i r
  row_nameless {r} n q x = go (eqb next.first 0x0101010101010101) refl
    where
      go : (t : Bool) → eqb next.first 0x0101010101010101 ≡ t → Made b last i r
      go true e = row_follows x.0 q (inr (zeros m (eqb-true next.first 0x0101010101010101 e), x.1))
      go false e = absurd (not_behind m n (eqb-false next.first 0x0101010101010101 e) q)

-- it has the first half of the last row's name, and a second one above
pub row_goes_on : (b : List ℕ) → length b ≡ base_length → ((k : ℕ) → get_or b k 0 < 256) → {last i : ℕ} {f : Floor} {second : ℕ}
    → last < limits.presences → i < limits.presences → FieldFine b last → FieldFine b i → Last b last f
    → GoesOn b (presence_at last) (presence_at i) f second → second ≡ second_half b i
    → Made b last i (record { bit = f.bit; first = f.first; second = second })
row_goes_on b long bytes {last} {i} {f} {second} h k last_fine fine l g is = ⊎_elim by_halves after_blank l.made
  where
    key : Key
    key = record { sds = get_or b (presence_at i) 0; first = first_half b i; second = second_half b i }

    meets : Meets b last i f key
    meets = record {
      long = long;
      bytes = bytes;
      last_few = h;
      few = k;
      last_fine = last_fine;
      fine = fine;
      key = record { sds = refl; first = refl; second = refl };
      under = same_under b long l g.sds;
    }

    by_halves : Halves b last f → Made b last i (record { bit = f.bit; first = f.first; second = second })
    by_halves v =
        let same : f.first ≡ first_half b i = v.first ∙ ap (λ (l : List ℕ). number 0 (folded l)) g.first in
        let higher : above f key ≡ true
        = above_is f key ∙ rw (le-ltb f.first (first_half b i) (omega arith), eq-eqb f.first (first_half b i) same)
        (lt-ltb f.second (second_half b i) (omega (arith, g.above, is))) in
        row_above meets higher (refl, (same, is))

    after_blank : (part b (presence_at last + name_offset) limits.name ≡ replicate limits.name 0) × Bottom f
        → Made b last i (record { bit = f.bit; first = f.first; second = second })
    after_blank z = absurd (omega (arith, z.1.second, g.above, is, second_below meets))
