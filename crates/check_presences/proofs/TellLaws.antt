-- What the pass over fields, types and modes keeps of the rows passed, and what it comes to. Assumes nothing.
use Prim.Native.Nat.{ℕ, zero, suc, ◌+◌, ◌*◌, ◌≤◌, ◌<◌}
use native.Mathlib.Omega.{arith}
use mathlib.Core.Path.{◌≡◌, refl, sym, ap, ◌∙◌, subst}
use mathlib.Core.Logic.{inl, ⊎_elim}
use mathlib.Core.List.{List, [], ◌∷◌, ◌++◌}
use mathlib.Core.Bool.{true}
use lib.ListN.{length, get_or, replicate}
use lib.Bits.{bit_and, bit_or, and_le_l, and_le_r}
use borrow.Author.Count.{below_none, below_more}
use Rattle.rules.specs.01-Lists.{same_bytes}
use Rattle.rules.specs.02-Limits.{limits}
use Rattle.rules.specs.03-Names.{letter, letter_or_digit}
use Rattle.rules.specs.07-Picture.{pad, base_length}
use Rattle.rules.specs.Read.{name_offset, type_offset, usage_offset, definition_offset}
use Rattle.rules.proofs.Bools.{and_both, and_of}
use Rattle.name_fields.specs.Field.{blank_field, orderly, standing, Gathered}
use Rattle.name_fields.proofs.FieldLaws.{named}
use Rattle.name_fields.proofs.StandLaws.{standing_orderly, orderly_standing}
use Rattle.rows.specs.Rows.{part, Level, Reads}
use Rattle.rows.specs.Order.{folded}
use Rattle.rows.proofs.Rows.{part_byte}
use Rattle.rows.proofs.Scan.{length_part, rising_level}
use Rattle.base.specs.Tables.{presences}
use Rattle.base.specs.Rows.{presence_at}
use Rattle.check_presences.specs.declared.Modes.{Modes}
use Rattle.check_presences.specs.declared.Modes.TheVariants.{All}
use Rattle.check_presences.specs.Rows.{NamedFine, SystemFirst, tag, NamesRise, RowsFine}
use Rattle.check_presences.specs.Fields.{tail_of, FieldFine, Told}
use Rattle.check_presences.proofs.RowLaws.{object_named}
use Rattle.check_presences.proofs.HalfLaws.{field_low}
use Rattle.check_presences.proofs.TailLaws.{word, Columns, column_first, columns_more, looked_at, five_modes, columns_told, columns_tell}

-- ---- fields

named_orderly : (b : List ℕ) (i : ℕ) → length b ≡ base_length → i < limits.presences → NamedFine b i → FieldFine b i
unfolding orderly blank_field same_bytes letter_or_digit letter
named_orderly b i long h e =
    let f = part b (presence_at i + name_offset) limits.name in
    ⊎_elim
    (λ n. (and_both (letter (get_or f 0 0)) (orderly f) (sym (named f (length_part b (presence_at i + name_offset) 16 (omega arith))) ∙ n)).1)
    (λ z. ap orderly z.0)
    e

-- ---- the rows stand by SDS

pub level : (b : List ℕ) (n : ℕ) → NamesRise b n → Level b presences.start presences.width n
level b n r = rising_level b presences.start presences.width n (λ i. folded (part b (presence_at i + name_offset) limits.name) ++ (tag b i ∷ [])) r

-- the first alone is in SDS 0
pub first_alone : {b : List ℕ} {n : ℕ} → SystemFirst b n → NamesRise b n → (i : ℕ) → i < n → get_or b (presence_at i) 0 ≡ 0 → i ≡ 0
first_alone s r zero h e = refl
first_alone s r (suc zero) h e = absurd (s.next h e)
first_alone {b} {n} s r (suc (suc i)) h e =
    let le = level b n r 1 (suc (suc i)) (omega arith) h in
    absurd (s.next (omega arith) (omega arith))

-- ---- the last four bytes of a row

-- the last of its name
abbrev last_byte : List ℕ → ℕ → ℕ
last_byte b i = get_or b (presence_at i + limits.name) 0

abbrev type_byte : List ℕ → ℕ → ℕ
type_byte b i = get_or b (presence_at i + type_offset) 0

abbrev usage_byte : List ℕ → ℕ → ℕ
usage_byte b i = get_or b (presence_at i + usage_offset) 0

abbrev definition_byte : List ℕ → ℕ → ℕ
definition_byte b i = get_or b (presence_at i + definition_offset) 0

-- four bytes from the last of the name on
pub tail_read : (b : List ℕ) (i at : ℕ) {p q r s : ℕ} → at ≡ presence_at i + limits.name → Reads b at p → Reads b (at + 1) q → Reads b (at + 2) r
    → Reads b (at + 3) s → p + 256 * q + 65536 * r + 16777216 * s ≡ tail_of b i
tail_read b i at e p q r s =
    let byte : ℕ → ℕ = λ k. get_or b k 0 in
    let last = ap byte e in
    let type : get_or b (at + 1) 0 ≡ type_byte b i = ap byte (omega arith) in
    let usage : get_or b (at + 2) 0 ≡ usage_byte b i = ap byte (omega arith) in
    let definition : get_or b (at + 3) 0 ≡ definition_byte b i = ap byte (omega arith) in
    omega (arith, p.is, q.is, r.is, s.is)

last_low : (b : List ℕ) (i : ℕ) → length b ≡ base_length → i < limits.presences → FieldFine b i → last_byte b i < 128
last_low b i long h fine =
    let far : presence_at i + 9 + 7 ≡ presence_at i + limits.name = omega arith in
    let half = length_part b (presence_at i + 9) 8 (omega arith) in
    rw (part_byte b (presence_at i + 9) 8 7 (omega arith), far) at ((field_low b i long h fine).second 7 (omega (arith, half)))

last_first : (b : List ℕ) {n : ℕ} → SystemFirst b n → last_byte b 0 ≡ 0
unfolding pad
last_first b s = sym (part_byte b (presence_at 0 + name_offset) 16 15 (omega arith)) ∙ ap (λ (l : List ℕ). get_or l 15 0) s.name

-- ---- the rows passed

-- what is gathered of i of n rows
pub record Kept (b : List ℕ) (n i : ℕ) (faults : List ℕ) (all any : ℕ) : Type 0 where
  pub room : length faults ≡ limits.name
  pub fields : blank_field faults ≡ true → (j : ℕ) → j < i → FieldFine b j
  pub blank : RowsFine b n → blank_field faults ≡ true
  pub least : (j : ℕ) → j < i → all ≤ tail_of b j
  pub tails : Columns (last_byte b) (type_byte b) (usage_byte b) (definition_byte b) i any

pub kept_first : (b : List ℕ) {n : ℕ} → length b ≡ base_length → SystemFirst b n → Kept b n 1 (replicate limits.name 0) five_modes five_modes
unfolding blank_field same_bytes
kept_first b long s = record {
  room = refl;
  fields = λ _. below_more _ 0 (below_none _) (named_orderly b 0 long (omega arith) (inl (object_named _ s.name)));
  blank = λ _. refl;
  least = below_more _ 0 (below_none _) (omega (arith, s.usage, s.definition));
  tails = record {
    a = 0;
    b = 0;
    c = 31;
    d = 31;
    is = refl;
    first = column_first (last_byte b) (last_first b s) (omega arith);
    second = column_first (type_byte b) s.type (omega arith);
    third = column_first (usage_byte b) s.usage (omega arith);
    fourth = column_first (definition_byte b) s.definition (omega arith);
  };
}

pub kept_more : {b : List ℕ} {n i all any m : ℕ} {were faults : List ℕ} → length b ≡ base_length → n ≤ limits.presences → SystemFirst b n
    → ((k : ℕ) → get_or b k 0 < 256) → 0 < i → i < n → Kept b n i were all any → Gathered b (presence_at i) were faults → m ≡ tail_of b i
    → Kept b n (i + 1) faults (bit_and all m) (bit_or any m)
kept_more {b} {n} {i} {all} {any} {m} {were} long most s bytes some h k g is =
    let d = get_or b (presence_at i) 0 in
    let field = part b (presence_at i + name_offset) limits.name in record {
      room = g.room;
      fields = λ e.
          let (was, here) = and_both (blank_field were) (standing d field) (sym g.blank ∙ e) in
          below_more _ i (k.fields was) (standing_orderly field d here);
      blank = λ fine.
          let here = named_orderly b i long (omega arith) (fine.each i h).named in
          let stands = orderly_standing field d (λ z. omega (arith, first_alone s fine.rise i h z)) here in
          g.blank ∙ and_of (blank_field were) (standing d field) (k.blank fine) stands;
      least = below_more _ i (λ j l. omega (arith, k.least j l, and_le_l all m)) (omega (arith, and_le_r all m));
      tails = columns_more k.tails (bytes _) (bytes _) (bytes _) (bytes _) (omega (arith, is));
    }

pub all_kept : {b : List ℕ} {n i : ℕ} {faults : List ℕ} {all any : ℕ} → Kept b n i faults all any → i ≡ n → Kept b n n faults all any
all_kept {b} {n} {i} {faults} {all} {any} k e = subst (λ (m : ℕ). Kept b n m faults all any) e k

-- ---- what it comes to

module _ {b : List ℕ} {n all any : ℕ} {faults : List ℕ} (k : Kept b n n faults all any) where
  pub strange_tails : length b ≡ base_length → n ≤ limits.presences → SystemFirst b n → (bit_and any looked_at ≡ five_modes → ⊥) → RowsFine b n → ⊥
  strange_tails long most s x fine =
      x (columns_tell k.tails s.some s.usage s.definition
      (λ j h. last_low b j long (omega arith) (named_orderly b j long (omega arith) (fine.each j h).named))
      (λ j h. (fine.each j h).small) (λ j h. (fine.each j h).known.usage) (λ j h. (fine.each j h).known.definition))

  pub told : {modes : Modes} → blank_field faults ≡ true → bit_and any looked_at ≡ five_modes
      → (modes ≡ All → bit_and all (word 0 0 255 255) ≡ five_modes) → Told b n modes
  told e f one = record {
    each = λ i h.
        let (type, (usage, definition)) = columns_told k.tails f i h in
        record { field = k.fields e i h; small = type; known = record { usage = usage; definition = definition } };
    all = λ x i h.
        let (type, (usage, definition)) = columns_told k.tails f i h in
        let least = k.least i h in
        let most = and_le_l all (word 0 0 255 255) in
        let all-is = one x in
        let last = k.tails.first in
        let low = last.most i h in
        record { usage = omega (arith, last.small); definition = omega (arith, last.small) };
  }
