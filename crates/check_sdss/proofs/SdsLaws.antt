-- Fields that hold a name or nothing, and what they say of SDSs. Assumes nothing.
use Prim.Native.Nat.{ℕ, ◌+◌, ◌*◌, ◌/◌, ◌%◌, ◌^◌, ◌≤◌, ◌<◌}
use native.Mathlib.Nat.{add-zero}
use native.Mathlib.Omega.{arith}
use mathlib.Core.Path.{◌≡◌, refl, sym, ap, ◌∙◌, subst}
use mathlib.Core.Logic.{⊎_elim}
use mathlib.Core.List.{List, [], ◌∷◌}
use mathlib.Core.Bool.{Bool, true, false, not, ◌||◌, true≢false, false≢true}
use lib.Bits.{bit_and, bit_or}
use lib.Dec.{ltb, eqb, eqb-suc-zero}
use lib.ListN.{length, get_or, replicate, get_or-eq_default}
use borrow.Author.Count.{below_more}
use Rattle.std.proofs.Common.{zero-add, MatchBool}
use Rattle.std.proofs.lemmas.List.FromFn.{length-range_with_len, get_or-range_with_len}
use Rattle.std.specs.List.{range_with_len, AllWithin, HoldsAt}
use Rattle.rows.specs.Decides.{Decides}
use Rattle.rows.proofs.Decides.{decides_yes, decides_no}
use borrow.Author.Tests.{ltb-true, ltb-false, eqb-true, eqb-false, eq-eqb}
use Rattle.rules.specs.01-Lists.{same_bytes, all}
use Rattle.rules.specs.02-Limits.{limits}
use Rattle.rules.specs.03-Names.{Name, well_formed, blank, same_name}
use Rattle.rules.specs.04-Schema.{sds_name, used_sds, system_name}
use Rattle.rules.specs.07-Picture.{pad, sds_row, base_length}
use Rattle.rules.proofs.Bools.{or_cases, or_left, or_right}
use Rattle.rules.proofs.01-Lists.{same_bytes_is, same_bytes_refl}
use Rattle.rules.proofs.03-Names.{formed_letters, same_turned, same_blank, Fits, formed_fits, blank_fits, pad_same}
use Rattle.rules.proofs.07-Picture.{strip_blank}
use Rattle.rules.specs.Read.{strip}
use Rattle.name_fields.specs.Field.{name_field, blank_field}
use Rattle.name_fields.proofs.NamedFields.{name_field_of, name_field_formed, name_field_padded}
use Rattle.type_set.specs.Set.{bit}
use Rattle.type_set.proofs.Bit.{bit_masked, bit_set}
use Rattle.rows.specs.Rows.{part}
use Rattle.rows.specs.Order.{number, folded, Low, NameBytes}
use Rattle.rows.proofs.Rows.{part_byte, part_part}
use Rattle.rows.proofs.Scan.{length_part}
use Rattle.rows.proofs.FoldLaws.{low_part, first_half_other, pad_pass}
use Rattle.base.specs.Rows.{sds_at}
use Rattle.base.specs.Back.{schema_of, sds_shown}
use Rattle.base.proofs.Shown.{sdss_long, sds_is}
use Rattle.lookup.proofs.SdsShown.{used_below}
use Rattle.check_held.specs.Fine.{SdssFine}
use Rattle.check_sdss.specs.Fields.{fine_field, first_half, UnlikeEarlier, Alone, Seen, SeenWith}

-- ---- a field

-- a blank field of 16 bytes
blank_zeros : (f : List ℕ) → length f ≡ limits.name → blank_field f ≡ true → f ≡ pad limits.name []
unfolding blank_field pad
blank_zeros f l e = sym (same_bytes_is (replicate 16 0) f (rw l at e))

zeros_blank : (f : List ℕ) → f ≡ pad limits.name [] → blank_field f ≡ true
unfolding blank_field pad
zeros_blank f e = rw e (same_bytes_refl (replicate 16 0))

used_name : (n : Name) → not (blank n) ≡ true → n ≡ [] → ⊥
used_name n u e = false≢true (rw e at u)

-- ---- SDSs

module _ (b : List ℕ) (long : length b ≡ base_length) where
  field_long : (d : ℕ) → d < 16 → length (part b (sds_at d) limits.name) ≡ limits.name
  field_long d h = length_part b (sds_at d) limits.name (omega arith)

  -- a fine field holds no byte that a name has not
  pub fine_bytes : (d : ℕ) → d < 16 → fine_field b d ≡ true → NameBytes (part b (sds_at d) limits.name)
  unfolding all
  fine_bytes d h e =
      let f = part b (sds_at d) limits.name in record {
        long = field_long d h;
        each = ⊎_elim (λ q. rw (blank_zeros f (field_long d h) q) (pad_pass [] refl))
            (λ q. rw (← name_field_padded f q) (pad_pass (strip f) (formed_letters (strip f) (name_field_formed f q))))
            (or_cases (blank_field f) (name_field f) e);
      }

  -- so it can be read less its case
  pub fine_low : (d at : ℕ) → d < 16 → fine_field b d ≡ true → at ≡ sds_at d → Low (part b at 8)
  fine_low d at h e same =
      let bytes = fine_bytes d h e in
      let here : sds_at d + 0 ≡ at = omega arith in
      subst (λ (k : ℕ). Low (part b k 8)) here
      (subst Low (part_part b (sds_at d) limits.name 0 8 (omega arith)) (low_part (part b (sds_at d) limits.name) 0 8 bytes.each (omega (arith, bytes.long))))

  -- a fine field is written back as it stands
  fine_written : (d : ℕ) → d < 16 → fine_field b d ≡ true → sds_row (sds_shown b d) ≡ part b (sds_at d) limits.name
  unfolding sds_row
  fine_written d h e =
      let f = part b (sds_at d) limits.name in
      ⊎_elim
      (λ q. let z = blank_zeros f (field_long d h) q in ap (pad limits.name) (ap strip z ∙ strip_blank) ∙ sym z)
      (name_field_padded f)
      (or_cases (blank_field f) (name_field f) e)

  fine_named : (d : ℕ) → d < 16 → fine_field b d ≡ true → used_sds (schema_of b) d ≡ true → well_formed (sds_name (schema_of b) d) ≡ true
  unfolding used_sds
  fine_named d h e u =
      let f = part b (sds_at d) limits.name in
      ⊎_elim
      (λ q. absurd (used_name (sds_name (schema_of b) d) u (sds_is b d h ∙ ap strip (blank_zeros f (field_long d h) q) ∙ strip_blank)))
      (λ q. rw (sds_is b d h) (name_field_formed f q))
      (or_cases (blank_field f) (name_field f) e)

  sdss_fine : SdssFine b → (d : ℕ) → d < 16 → fine_field b d ≡ true
  unfolding used_sds sds_row
  sdss_fine s d h = go (not (blank (sds_shown b d))) refl
    where
      f : List ℕ
      f = part b (sds_at d) limits.name

      go : (t : Bool) → not (blank (sds_shown b d)) ≡ t → fine_field b d ≡ true
      go true q =
          or_right (blank_field f) (name_field f)
          (name_field_of f (rw (sds_is b d h) at (s.sdss.named d (rw (sds_is b d h) q))) (s.sds_fields d h))
      go false q =
          or_left (blank_field f) (name_field f) (zeros_blank f (sym (s.sds_fields d h) ∙ ap (pad limits.name) (no_name (sds_shown b d) q)))
        where
          no_name : (n : Name) → not (blank n) ≡ false → n ≡ []
          no_name [] e = refl
          no_name (x ∷ n) e = absurd (true≢false (sym (ap not (eqb-suc-zero (length n))) ∙ e))

  -- two fields are the same exactly where the names are
  module _ (fine : (d : ℕ) → d < 16 → fine_field b d ≡ true) where
    fits : (d : ℕ) → d < 16 → Fits (sds_shown b d)
    fits d h =
        let f = part b (sds_at d) limits.name in
        ⊎_elim
        (λ q. rw (blank_zeros f (field_long d h) q, strip_blank) blank_fits)
        (λ q. formed_fits (strip f) (name_field_formed f q))
        (or_cases (blank_field f) (name_field f) (fine d h))

    same_fields : (d e : ℕ) → d < 16 → e < 16
        → same_name (part b (sds_at d) limits.name) (part b (sds_at e) limits.name) ≡ same_name (sds_name (schema_of b) d) (sds_name (schema_of b) e)
    unfolding sds_row
    same_fields d e h k =
        rw (← fine_written d h (fine d h), ← fine_written e k (fine e k), sds_is b d h, sds_is b e k) (pad_same (fits d h) (fits e k))

    -- an SDS with the name of a used one is used
    used_same : (d e : ℕ) → d < 16 → e < 16 → used_sds (schema_of b) d ≡ true
        → same_name (part b (sds_at d) limits.name) (part b (sds_at e) limits.name) ≡ true → used_sds (schema_of b) e ≡ true
    unfolding used_sds
    used_same d e h k u q =
        ap not (sym (same_blank (sds_name (schema_of b) d) (sds_name (schema_of b) e) (sym (same_fields d e h k) ∙ q))) ∙ u

    unique : ((d : ℕ) → d < 16 → Alone b d) → (d e : ℕ) → used_sds (schema_of b) d ≡ true → used_sds (schema_of b) e ≡ true
        → same_name (sds_name (schema_of b) d) (sds_name (schema_of b) e) ≡ true → d ≡ e
    unique a d e u v q = go (ltb d e) refl (ltb e d) refl
      where
        go : (x : Bool) → ltb d e ≡ x → (y : Bool) → ltb e d ≡ y → d ≡ e
        go true l y m =
            absurd (a e (used_below b long e v) v d (ltb-true d e l)
            (same_fields e d (used_below b long e v) (used_below b long d u)
            ∙ same_turned (sds_name (schema_of b) e) (sds_name (schema_of b) d) ∙ q))
        go false l true m =
            absurd (a d (used_below b long d u) u e (ltb-true e d m) (same_fields d e (used_below b long d u) (used_below b long e v) ∙ q))
        go false l false m = omega (arith, ltb-false d e l, ltb-false e d m)

  pub fields_of : SdssFine b → (d : ℕ) → d < 16 → fine_field b d ≡ true
  fields_of = sdss_fine

  pub alone_of : SdssFine b → (d : ℕ) → d < 16 → Alone b d
  unfolding used_sds
  alone_of s d h u e l q =
      let fine = sdss_fine s in
      let k : e < 16 = omega arith in
      let same : d ≡ e = s.sdss.unique d e u (used_same fine d e h k u q) (sym (same_fields fine d e h k) ∙ q) in
      omega arith

  pub system_of : SdssFine b → (f : List ℕ) → f ≡ part b (sds_at 0) limits.name → same_bytes f (pad limits.name system_name) ≡ true
  unfolding sds_row
  system_of s f e =
      let z : part b (sds_at 0) limits.name ≡ pad limits.name system_name
      = sym (s.sds_fields 0 (omega arith)) ∙ ap (pad limits.name) (sym (sds_is b 0 (omega arith)) ∙ s.sdss.system) in
      rw (e, z) (same_bytes_refl (pad limits.name system_name))

  pub sdss_of : ((d : ℕ) → d < 16 → fine_field b d ≡ true) → ((d : ℕ) → d < 16 → Alone b d)
      → (f : List ℕ) → f ≡ part b (sds_at 0) limits.name → same_bytes f (pad limits.name system_name) ≡ true → SdssFine b
  unfolding pad strip used_sds
  sdss_of fine a f e q = record {
    sds_fields = λ d h. fine_written d h (fine d h);
    sdss = record {
      room = sdss_long b;
      named = λ d u. fine_named d (used_below b long d u) (fine d (used_below b long d u)) u;
      unique = unique fine a;
      system = sds_is b 0 (omega arith) ∙ ap strip (sym e ∙ same_bytes_is f (pad limits.name system_name) q);
    };
  }

pub fine_blank : (f : List ℕ) → blank_field f ≡ true → true ≡ blank_field f || name_field f
fine_blank f e = sym (or_left (blank_field f) (name_field f) e)

pub fine_name : (f : List ℕ) (r : Bool) → blank_field f ≡ false → r ≡ name_field f → r ≡ blank_field f || name_field f
fine_name f r e q = rw e q

-- ---- marks of names

module _ (b : List ℕ) (long : length b ≡ base_length) (small : (k : ℕ) → get_or b k 0 < 256) (fine : (d : ℕ) → d < 16 → fine_field b d ≡ true) where
  field_small : (d : ℕ) → d < 16 → (i : ℕ) → get_or (part b (sds_at d) limits.name) i 0 < 256
  field_small d h i = go (ltb i 16) refl
    where
      go : (t : Bool) → ltb i 16 ≡ t → get_or (part b (sds_at d) limits.name) i 0 < 256
      go true q = rw (part_byte b (sds_at d) 16 i (ltb-true i 16 q)) (small (sds_at d + i))
      go false q =
          let past : length (part b (sds_at d) 16) ≤ i = omega (arith, length_part b (sds_at d) 16 (omega arith), ltb-false i 16 q) in
          rw (get_or-eq_default (part b (sds_at d) 16) 0 {n = i} past) (omega arith)

  -- the first halves of the same name are the same
  same_halves : (d e : ℕ) → d < 16 → e < 16 → same_name (part b (sds_at d) limits.name) (part b (sds_at e) limits.name) ≡ true
      → first_half b d ≡ first_half b e
  same_halves d e h k q = go (eqb (half d) (half e)) refl
    where
      half : ℕ → ℕ
      half d = number 0 (folded (part (part b (sds_at d) limits.name) 0 8))

      first : (d : ℕ) → half d ≡ first_half b d
      first d =
          ap (λ (l : List ℕ). number 0 (folded l)) (part_part b (sds_at d) limits.name 0 8 (omega arith))
          ∙ ap (λ (k : ℕ). number 0 (folded (part b k 8))) (add-zero (sds_at d))

      go : (t : Bool) → eqb (half d) (half e) ≡ t → first_half b d ≡ first_half b e
      go true t = sym (first d) ∙ eqb-true (half d) (half e) t ∙ first e
      go false t =
          absurd (true≢false (sym q ∙ first_half_other (fine_bytes b long d h (fine d h)) (fine_bytes b long e k (fine e k)) (field_small d h)
          (field_small e k) (eqb-false (half d) (half e) t)))

  module _ {d seen : ℕ} (h : d < 16) (s : Seen b d seen) where
    -- a name whose mark was not seen is new
    pub unseen_new : used_sds (schema_of b) d ≡ true → (first : ℕ) → first ≡ first_half b d → (bit_and (seen / 2 ^ (first % 61)) 1 ≡ 1 → ⊥)
        → UnlikeEarlier b d
    unseen_new u first e n f l q =
        let k : f < 16 = omega arith in
        n (eqb-true (bit_and (seen / 2 ^ (first % 61)) 1) 1 (bit_masked seen (first % 61)
        ∙ ap (λ (x : ℕ). bit seen (x % 61)) (e ∙ same_halves d f h k q)
        ∙ s.marks f l (used_same b long fine d f h k u q)))

module _ {b : List ℕ} {d seen : ℕ} (s : Seen b d seen) where
  -- an unused number has no mark
  pub seen_unused : used_sds (schema_of b) d ≡ false → SeenWith b d seen
  seen_unused n = record {
    alone = λ u. absurd (true≢false (sym u ∙ n));
    seen = record {
      marks = below_more (λ e. used_sds (schema_of b) e ≡ true → bit seen (first_half b e % 61) ≡ true) d s.marks
          (λ u. absurd (true≢false (sym u ∙ n)));
    };
  }

  -- a used one that is alone gets its mark
  pub seen_used : UnlikeEarlier b d → (first : ℕ) → first ≡ first_half b d → SeenWith b d (bit_or seen (1 * 2 ^ (first % 61) % 2 ^ 64))
  seen_used a first e =
      let mark = 1 * 2 ^ (first % 61) % 2 ^ 64 in
      let set : (k : ℕ) → bit (bit_or seen mark) k ≡ bit seen k || eqb k (first % 61) = λ k. bit_set 64 seen (first % 61) k (omega arith) in
      record {
        alone = λ u. a;
        seen = record {
          marks = below_more (λ e. used_sds (schema_of b) e ≡ true → bit (bit_or seen mark) (first_half b e % 61) ≡ true) d
              (λ f l u. set (first_half b f % 61)
              ∙ or_left (bit seen (first_half b f % 61)) (eqb (first_half b f % 61) (first % 61)) (s.marks f l u))
              (λ u. set (first_half b d % 61) ∙ or_right (bit seen (first_half b d % 61)) (eqb (first_half b d % 61) (first % 61))
              (eq-eqb (first_half b d % 61) (first % 61) (ap (λ (x : ℕ). x % 61) (sym e))));
        };
      }

-- ---- `all` over 0..n

pub all_below : (n : ℕ) (test : ℕ → Bool) (r : Bool)
    → MatchBool r (AllWithin (λ x. true ≡ test x) (range_with_len 0 n) 0 (length (range_with_len 0 n)))
    ((k : ℕ) × (k < length (range_with_len 0 n)) × HoldsAt (λ x. false ≡ test x) (range_with_len 0 n) k)
    → Decides ((d : ℕ) → d < n → test d ≡ true) r
all_below n test true h =
    decides_yes (λ d l. sym (h d 0 (omega arith) (omega (arith, length-range_with_len 0 n)) ∙ ap test (get_or-range_with_len 0 n d 0 l ∙ zero-add d)))
all_below n test false (k, below, other) =
    let h : k < n = omega (arith, length-range_with_len 0 n) in
    decides_no (λ f. true≢false (sym (f k h) ∙ sym (other 0 ∙ ap test (get_or-range_with_len 0 n k 0 h ∙ zero-add k))))
