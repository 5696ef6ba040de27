-- What the loop over the presences keeps of the rows passed. Assumes nothing.
use Prim.Native.Nat.{ℕ, ◌+◌, ◌*◌, ◌%◌, ◌^◌, ◌<◌}
use native.Mathlib.Omega.{arith}
use mathlib.Core.Path.{◌≡◌, refl, sym, ap, ap₂, ◌∙◌, subst}
use mathlib.Core.Logic.{◌⊎◌, inl, inr, ⊎_elim}
use mathlib.Core.List.{List}
use mathlib.Core.Bool.{Bool, true, false, cond, true≢false, false≢true}
use lib.Bits.{bit_or}
use lib.Dec.{ltb, eqb}
use lib.ListN.{get_or, set, replicate}
use borrow.Author.Count.{below_none, below_more}
use borrow.Author.Tests.{ltb-true, ltb-false, eqb-true, eqb-false}
use Rattle.rules.specs.01-Lists.{bytes_before}
use Rattle.rules.specs.02-Limits.{limits}
use Rattle.rules.specs.04-Schema.{used_sds}
use Rattle.rules.specs.Read.{type_offset}
use Rattle.type_set.specs.Set.{bit}
use Rattle.type_set.proofs.Bit.{bit_zero}
use Rattle.rows.proofs.Decides.{decides_yes, decides_no}
use Rattle.rows.proofs.Scan.{zeros_room, zero_at, rising_one, rising_more, rising_not}
use Rattle.base.specs.Rows.{presence_at}
use Rattle.base.specs.Back.{schema_of}
use Rattle.check_held.specs.Held.{marked}
use Rattle.check_presences.specs.declared.Floor.{Floor}
use Rattle.check_presences.specs.Rows.{RowFine, SystemFirst, told_apart, NamesRise, RowsFine}
use Rattle.check_presences.specs.Fields.{first_half, second_half, SdsBit, ByItself}
use Rattle.check_presences.specs.Floor.{Follows, Last}
use Rattle.check_presences.specs.Gathered.{Gathers, bits_in, RowsGathered}
use Rattle.check_presences.proofs.GatherLaws.{gathers_first, gathers_more}
use Rattle.check_presences.proofs.CountLaws.{bits_none, bits_marked}
use Rattle.check_presences.proofs.RowLaws.{object_named}

-- no two of the first n rows are of one SDS and one type
abbrev OnceEach : List ℕ → ℕ → Type 0
OnceEach b n = (i j : ℕ) → i < j → j < n → get_or b (presence_at i) 0 ≡ get_or b (presence_at j) 0
    → get_or b (presence_at i + type_offset) 0 ≡ get_or b (presence_at j + type_offset) 0 → ⊥

-- as many bits as rows, or fewer, and then some two are
abbrev Tallied : List ℕ → ℕ → ℕ → Type 0
Tallied b n bits = ((bits ≡ n) × OnceEach b n) ⊎ ((bits < n) × (OnceEach b n → ⊥))

-- the rows up to row k are fine, but for two of one type, and gathered, and row k has made the floor
pub record Passed (b : List ℕ) (k : ℕ) (f : Floor) (held : List ℕ) : Type 0 where
  pub last : Last b k f
  pub each : (i : ℕ) → i < k + 1 → RowFine b i
  pub in_used : (i : ℕ) → i < k + 1 → used_sds (schema_of b) (get_or b (presence_at i) 0) ≡ true
  pub rise : NamesRise b (k + 1)
  pub gathers : Gathers b (k + 1) held
  pub tally : Tallied b (k + 1) (bits_in held)

pub rows_refused : {b : List ℕ} {n : ℕ} {held : List ℕ} → (RowsFine b n → ⊥) → RowsGathered b n held false
rows_refused f = record { fine = decides_no f; gathers = λ e. absurd (false≢true e) }

-- one bit
first_bit : (held : List ℕ) → held ≡ replicate {A = ℕ} limits.types 0 → bits_in (set held 0 1) ≡ 1
first_bit held e =
    let none = zero_at limits.types e 0 in
    let one : set held 0 1 ≡ marked held 0 0 = sym (ap (λ (w : ℕ). set held 0 (bit_or w (1 * 2 ^ 0 % 2 ^ 16))) none) in
    let new : bit (get_or held 0 0) 0 ≡ false = ap (λ (w : ℕ). bit w 0) none ∙ bit_zero 0 in
    ap bits_in one
    ∙ bits_marked held 0 0 (omega (arith, zeros_room limits.types e)) (omega arith)
    ∙ ap₂ (λ (x : ℕ) (t : Bool). x + cond t 0 1) (ap bits_in e ∙ bits_none 128) new

pub passed_first : {b : List ℕ} {n : ℕ} {f : Floor} (held : List ℕ) → SystemFirst b n → used_sds (schema_of b) 0 ≡ true
    → held ≡ replicate {A = ℕ} limits.types 0 → Last b 0 f → Passed b 0 f (set held 0 1)
passed_first {b} held s u e last = record {
  last = last;
  each = below_more _ 0 (below_none _) (record {
    named = inl (object_named _ s.name);
    small = omega (arith, s.type);
    known = record { usage = omega (arith, s.usage); definition = omega (arith, s.definition) };
  });
  in_used = below_more _ 0 (below_none _) (ap (used_sds (schema_of b)) s.sds ∙ u);
  rise = rising_one (told_apart b);
  gathers = gathers_first b held e s.type s.sds;
  tally = inl (first_bit held e, λ i j l h. absurd (omega arith));
}

-- what row 0 makes
pub first_made : {b : List ℕ} {n : ℕ} {f : Floor} → SystemFirst b n → used_sds (schema_of b) 0 ≡ true → f.bit ≡ 1 → f.first ≡ first_half b 0
    → f.second ≡ second_half b 0 → Last b 0 f
first_made {b} {f = f} s u bit first second = record {
  bit = subst (λ (d : ℕ). SdsBit b d f.bit) (sym s.sds) (record { used = u; is = bit });
  made = inl (record { named = object_named _ s.name; first = first; second = second });
}

-- ---- the next row

module _ {b held : List ℕ} (k : ℕ) (g : Gathers b (k + 1) held) (t d : ℕ) (is_t : t ≡ get_or b (presence_at (k + 1) + type_offset) 0)
    (is_d : d ≡ get_or b (presence_at (k + 1)) 0) (ht : t < 128) (hd : d < 16) where
  -- a bit that is there already: an SDS holds a type twice
  twice : bit (get_or held t 0) d ≡ true → OnceEach b (k + 1 + 1) → ⊥
  twice q once = let (i, h, s, e) = g.marks t d ht hd q in once i (k + 1) h (omega arith) (s ∙ is_d) (e ∙ is_t)

  -- and one that is not
  once_more : bit (get_or held t 0) d ≡ false → OnceEach b (k + 1) → OnceEach b (k + 1 + 1)
  once_more new once i j l h s y = go (ltb j (k + 1)) refl
    where
      go : (r : Bool) → ltb j (k + 1) ≡ r → ⊥
      go true q = once i j l (ltb-true j (k + 1) q) s y
      go false q =
          let here : j ≡ k + 1 = omega (arith, ltb-false j (k + 1) q) in
          let same_d : get_or b (presence_at i) 0 ≡ d = s ∙ ap (λ (m : ℕ). get_or b (presence_at m) 0) here ∙ sym is_d in
          let same_t : get_or b (presence_at i + type_offset) 0 ≡ t = y ∙ ap (λ (m : ℕ). get_or b (presence_at m + type_offset) 0) here ∙ sym is_t in
          true≢false (sym (g.marked i (omega arith)) ∙ ap₂ (λ (u e : ℕ). bit (get_or held u 0) e) same_t same_d ∙ new)

  tally_more : Tallied b (k + 1) (bits_in held) → Tallied b (k + 1 + 1) (bits_in (marked held t d))
  tally_more tally = go (bit (get_or held t 0) d) refl
    where
      bits : {r : Bool} → bit (get_or held t 0) d ≡ r → bits_in (marked held t d) ≡ bits_in held + cond r 0 1
      bits e = bits_marked held t d (omega (arith, g.room)) hd ∙ ap (λ (r : Bool). bits_in held + cond r 0 1) e

      go : (r : Bool) → bit (get_or held t 0) d ≡ r → Tallied b (k + 1 + 1) (bits_in (marked held t d))
      go true e = inr (⊎_elim (λ x. omega (arith, x.0, bits e)) (λ x. omega (arith, x.0, bits e)) tally, twice e)
      go false e =
          ⊎_elim
          (λ x. inl (omega (arith, x.0, bits e), once_more e x.1))
          (λ x. inr (omega (arith, x.0, bits e), λ once. x.1 (λ i j l h. once i j l (omega arith))))
          tally

pub passed_more : {b held : List ℕ} {k : ℕ} {f next : Floor} → Passed b k f held → Follows b k (k + 1) → Last b (k + 1) next → ByItself b (k + 1)
    → (t d : ℕ) → t ≡ get_or b (presence_at (k + 1) + type_offset) 0 → d ≡ get_or b (presence_at (k + 1)) 0 → d < 16
    → Passed b (k + 1) next (marked held t d)
passed_more {b} {held} {k} p follows last fine t d is_t is_d hd =
    let ht : t < 128 = omega (arith, is_t, fine.small) in record {
      last = last;
      each = below_more _ (k + 1) p.each (record { named = follows.named; small = fine.small; known = fine.known });
      in_used = below_more _ (k + 1) p.in_used follows.used;
      rise = rising_more (told_apart b) k p.rise follows.behind;
      gathers = gathers_more p.gathers t d is_t is_d ht hd;
      tally = tally_more k p.gathers t d is_t is_d ht hd p.tally;
    }

-- rows that are fine follow each other
pub fine_follows : {b : List ℕ} {n : ℕ} (k : ℕ) → k + 1 < n → RowsFine b n → Follows b k (k + 1)
fine_follows {b} {n} k h f = record {
  named = (f.each (k + 1) h).named;
  used = f.in_used (k + 1) h;
  behind = go (bytes_before (told_apart b k) (told_apart b (k + 1))) refl;
}
  where
    go : (r : Bool) → bytes_before (told_apart b k) (told_apart b (k + 1)) ≡ r → r ≡ true
    go true e = refl
    go false e = absurd (rising_not (told_apart b) k n (omega arith) e f.rise)

-- ---- all are passed

module _ {b held : List ℕ} {n k : ℕ} {f : Floor} (p : Passed b k f held) (e : n ≡ k + 1) where
  passed_all : bits_in held ≡ n → RowsGathered b n held true
  passed_all all =
      let once : OnceEach b (k + 1) = ⊎_elim (λ x. x.1) (λ x. absurd (omega (arith, x.0))) p.tally in
      subst (λ (m : ℕ). RowsGathered b m held true) (sym e) (record {
        fine = decides_yes (record { each = p.each; in_used = p.in_used; rise = p.rise; once = once });
        gathers = λ _. p.gathers;
      })

  passed_twice : (bits_in held ≡ n → ⊥) → RowsGathered b n held false
  passed_twice x =
      rows_refused (λ fine. ⊎_elim (λ y. x (y.0 ∙ sym e)) (λ y. y.1 (λ i j l h. fine.once i j l (omega arith))) p.tally)

  -- as many bits as rows, or not
  pub counted : (bits : ℕ) → bits ≡ bits_in held → RowsGathered b n held (eqb bits n)
  counted bits is = go (eqb bits n) refl
    where
      go : (r : Bool) → eqb bits n ≡ r → RowsGathered b n held r
      go true q = passed_all (sym is ∙ eqb-true bits n q)
      go false q = passed_twice (λ z. eqb-false bits n q (is ∙ z))

-- there is but one
pub first_all : {b : List ℕ} {n : ℕ} (held : List ℕ) → SystemFirst b n → used_sds (schema_of b) 0 ≡ true
    → held ≡ replicate {A = ℕ} limits.types 0 → n ≡ 1 → RowsGathered b n (set held 0 1) true
first_all {b} held s u e one =
    let floor : Floor = record { bit = 1; first = first_half b 0; second = second_half b 0 } in
    passed_all (passed_first held s u e (first_made {f = floor} s u refl refl refl)) one (first_bit held e ∙ sym one)
