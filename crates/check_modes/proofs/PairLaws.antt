-- What the words keep of the rows passed tells whether a row agrees with that of its type's reverse, and where each row agrees the pairs
-- are alike. Assumes nothing.
use Prim.Native.Nat.{ℕ, zero, suc, ◌+◌, ◌*◌, ◌≤◌, ◌<◌}
use native.Mathlib.Omega.{arith}
use mathlib.Core.Path.{◌≡◌, refl, sym, ap, ◌∙◌, subst, subst₂}
use mathlib.Core.Logic.{⊎_elim}
use mathlib.Core.List.{List}
use mathlib.Core.Bool.{Bool, true, false, false≢true}
use lib.Dec.{ltb, eqb}
use lib.ListN.{length, get_or, set, replicate, length-set}
use lib.Seq.{get_or-set_same}
use borrow.Author.Count.{below_more}
use borrow.Author.Tests.{ltb-true, ltb-false, eqb-true, eqb-false}
use Rattle.rules.specs.01-Lists.{◌∈◌}
use Rattle.rules.specs.02-Limits.{limits}
use Rattle.rules.specs.04-Schema.{Presence, system_presence, used_sds, kind_of, is_link}
use Rattle.rules.specs.04-Schema.Kind.{paired}
use Rattle.rules.specs.06-Good.{presence_before, KnownModes, SameModes}
use Rattle.rules.specs.Parts.{Alike}
use Rattle.rules.proofs.Bools.{or_cases, and_both}
use Rattle.rules.proofs.01-Lists.{rising_at}
use Rattle.rules.proofs.Edits.{set_either}
use Rattle.rows.specs.Decides.{Decides}
use Rattle.rows.proofs.Decides.{decides_yes}
use Rattle.rows.proofs.Scan.{zeros_room, zero_at}
use Rattle.base.specs.Tables.{presences}
use Rattle.base.specs.Back.{schema_of, presence_count, presence_shown}
use Rattle.base.proofs.Back.{rows_few}
use Rattle.base.proofs.Shown.{presences_long, presence_is, presence_in, presence_there}
use Rattle.lookup.proofs.KindBytes.{reverse_byte, paired_bytes, reverse_paired}
use Rattle.lookup.proofs.SdsShown.{used_below}
use Rattle.check_modes.specs.Pairs.{Fine, word, Agrees, Keeps, Agreed}

-- ---- the word of a presence

-- in one SDS it tells the modes
word_modes : (p q : Presence) → KnownModes p → KnownModes q → p.sds ≡ q.sds → word p ≡ word q → SameModes p q
word_modes p q k l d e = record {
  usage = omega (arith, k.definition, l.definition);
  definition = omega (arith, k.definition, l.definition);
}

modes_word : (p q : Presence) → p.sds ≡ q.sds → SameModes p q → word p ≡ word q
modes_word p q d s = omega (arith, s.usage, s.definition)

modes_turned : {p q : Presence} → SameModes p q → SameModes q p
modes_turned s = record { usage = sym s.usage; definition = sym s.definition }

-- ---- presences stand by SDS

before_sds : (p q : Presence) → presence_before p q ≡ true → p.sds ≤ q.sds
unfolding presence_before
before_sds p q e =
    ⊎_elim (λ h. omega (arith, ltb-true p.sds q.sds h)) (λ h. omega (arith, eqb-true p.sds q.sds (and_both (eqb p.sds q.sds) _ h).0))
    (or_cases (ltb p.sds q.sds) _ e)

-- ---- a type's reverse

-- r is the reverse of t, and t that of r; neither is 0
record Reversed (b : List ℕ) (t r : ℕ) : Type 0 where
  is : reverse_byte b t ≡ r
  some : t ≡ 0 → ⊥
  other_small : r < 128
  other_some : r ≡ 0 → ⊥
  other_is : reverse_byte b r ≡ t

module _ {b : List ℕ} (f : Fine b) where
  -- type 0 is an object type
  paired_some : (t c r : ℕ) → kind_of (schema_of b) t ≡ paired c r → t ≡ 0 → ⊥
  paired_some t c r e z = false≢true (ap is_link (sym f.types.parents.root ∙ ap (kind_of (schema_of b)) (sym z) ∙ e))

  paired_reversed : (t c r : ℕ) → kind_of (schema_of b) t ≡ paired c r → Reversed b t r
  paired_reversed t c r e =
      let (d, turn) = f.types.reverses.in_turn t c r e in
      let (small, _, _, _, is) = paired_bytes b r d t turn in
      record {
        is = (paired_bytes b t c r e).4;
        some = paired_some t c r e;
        other_small = small;
        other_some = paired_some r d t turn;
        other_is = is;
      }

  -- ---- rows

  there : (i : ℕ) → i < presence_count b → presence_shown b i ∈ (schema_of b).presences
  there i h = presence_there b i h

  pub row_room : (i : ℕ) → i < presence_count b → i < limits.presences
  row_room i h = omega (arith, rows_few presences b)

  pub type_small : (i : ℕ) → i < presence_count b → (presence_shown b i).type < limits.types
  type_small i h = f.presences.small (presence_shown b i) (there i h)

  pub sds_small : (i : ℕ) → i < presence_count b → (presence_shown b i).sds < limits.sdss
  unfolding used_sds
  sds_small i h = used_below b f.long (presence_shown b i).sds (f.presences.rows.in_used (presence_shown b i) (there i h))

  pub modes_known : (i : ℕ) → i < presence_count b → KnownModes (presence_shown b i)
  modes_known i h = f.presences.rows.known (presence_shown b i) (there i h)

  -- no row passed is of a later SDS
  level : (i j : ℕ) → i < j → j < presence_count b → (presence_shown b i).sds ≤ (presence_shown b j).sds
  level i zero l h = absurd (omega arith)
  level i (suc j) l h = go (ltb i j) refl (λ q. level i j q (omega arith))
    where
      next : (presence_shown b j).sds ≤ (presence_shown b (suc j)).sds
      next =
          before_sds (presence_shown b j) (presence_shown b (suc j))
          (rw (presence_is b j system_presence (omega arith), presence_is b (suc j) system_presence h)
          at (rising_at presence_before system_presence (schema_of b).presences f.presences.rows.rises j (omega (arith, presences_long b))))

      go : (x : Bool) → ltb i j ≡ x → (i < j → (presence_shown b i).sds ≤ (presence_shown b j).sds) → (presence_shown b i).sds ≤ (presence_shown b (suc j)).sds
      go true q ih = let le = ih (ltb-true i j q) in omega (arith, next)
      go false q ih = let same : j ≡ i = omega (arith, ltb-false i j q) in subst (λ (k : ℕ). (presence_shown b k).sds ≤ (presence_shown b (suc j)).sds) same next

  -- ---- every row

  pub alike_agrees : Alike (schema_of b).types (schema_of b).presences → (i : ℕ) → i < presence_count b → Agrees b i
  alike_agrees a i h = record {
    with_passed = λ j l d c k. a (presence_shown b i) (presence_shown b j) (there i h) (there j (omega arith)) d c k;
  }

  module _ (a : (i : ℕ) → i < presence_count b → Agrees b i) where
    -- of two rows the later agrees with the earlier
    rows_alike : (i j : ℕ) → i < presence_count b → j < presence_count b → (presence_shown b i).sds ≡ (presence_shown b j).sds
        → (c : ℕ) → kind_of (schema_of b) (presence_shown b i).type ≡ paired c (presence_shown b j).type
        → SameModes (presence_shown b i) (presence_shown b j)
    rows_alike i j h l d c k = go (ltb j i) refl (ltb i j) refl
      where
        go : (x : Bool) → ltb j i ≡ x → (y : Bool) → ltb i j ≡ y → SameModes (presence_shown b i) (presence_shown b j)
        go true p y q = (a i h).with_passed j (ltb-true j i p) d c k
        go false p true q =
            let (e, turn) = f.types.reverses.in_turn (presence_shown b i).type c (presence_shown b j).type k in
            modes_turned ((a j l).with_passed i (ltb-true i j q) (sym d) e turn)
        go false p false q =
            let same : i ≡ j = omega (arith, ltb-false j i p, ltb-false i j q) in
            subst (λ (m : ℕ). SameModes (presence_shown b i) (presence_shown b m)) same (record { usage = refl; definition = refl })

    pub agree_alike : Alike (schema_of b).types (schema_of b).presences
    agree_alike p q m o d c k =
        let (i, h, pi) = presence_in b p m in
        let (j, l, qj) = presence_in b q o in
        subst₂ (λ (p q : Presence). p.sds ≡ q.sds → (c : ℕ) → kind_of (schema_of b) p.type ≡ paired c q.type → SameModes p q)
        (sym pi) (sym qj) (rows_alike i j h l) d c k

-- ---- what the words keep

pub keeps_none : (b words : List ℕ) → words ≡ replicate {A = ℕ} limits.types 0 → Keeps b 0 words
keeps_none b words e = record {
  room = zeros_room limits.types e;
  shown = λ t h. absurd (omega (arith, zero_at limits.types e t));
  passed = λ j h. absurd (omega arith);
}

-- what was read of row i: its type and the reverse of that
pub record RowRead (b : List ℕ) (i : ℕ) (words : List ℕ) (t r : ℕ) : Type 0 where
  pub fine : Fine b
  pub below : i < presence_count b
  pub keeps : Keeps b i words
  pub type : t ≡ (presence_shown b i).type
  pub reverse : r ≡ reverse_byte b t

pub row_read : {b words : List ℕ} {i t r : ℕ} → Fine b → (i < presence_count b) × Keeps b i words → t ≡ (presence_shown b i).type
    → r ≡ reverse_byte b t → RowRead b i words t r
row_read fine kept type reverse = record { fine = fine; below = kept.0; keeps = kept.1; type = type; reverse = reverse }

module _ {b words : List ℕ} {i t r : ℕ} (x : RowRead b i words t r) where
  -- a type without a reverse has nothing to agree with
  pub agreed_alone : r ≡ 0 → Agreed b i words true
  agreed_alone z = record {
    agrees = decides_yes (record {
      with_passed = λ j l d c k.
          let o = paired_reversed x.fine (presence_shown b i).type c (presence_shown b j).type k in
          absurd (o.other_some (sym o.is ∙ none));
    });
    keeps = record {
      room = x.keeps.room;
      shown = λ u h. let (j, l, s, e) = x.keeps.shown u h in (j, omega arith, s, e);
      passed = below_more _ i x.keeps.passed (λ n. absurd (n none));
    };
  }
    where
      none : reverse_byte b (presence_shown b i).type ≡ 0
      none = ap (reverse_byte b) (sym x.type) ∙ sym x.reverse ∙ z

  module _ (some : r ≡ 0 → ⊥) where
    small : t < 128
    small = omega (arith, x.type, type_small x.fine i x.below)

    pair : (c : ℕ) × (kind_of (schema_of b) t ≡ paired c r)
    pair =
        let (c, e) = reverse_paired b t small (x.fine.types.type_rows t small) (λ z. some (x.reverse ∙ z)) in
        (c, e ∙ ap (paired c) (sym x.reverse))

    reversed : Reversed b t r
    reversed = paired_reversed x.fine t pair.0 r pair.1

    pub other_room : r < length words
    other_room = omega (arith, reversed.other_small, x.keeps.room)

    -- the row's word takes the place of its type's
    keeps_more : Keeps b (i + 1) (set words t (word (presence_shown b i)))
    keeps_more = record {
      room = length-set words t (word (presence_shown b i)) ∙ x.keeps.room;
      shown = λ u h.
          ⊎_elim (λ e. (i, omega arith, sym (e.0 ∙ x.type), e.1))
          (λ e. let (j, l, s, w) = x.keeps.shown u (omega (arith, e.1)) in (j, omega arith, s, e.1 ∙ w))
          (set_either words t (word (presence_shown b i)) 0 room u);
      passed = below_more _ i (λ j l n. old j l n) (λ n. here i (omega arith) (sym x.type));
    }
      where
        room : t < length words
        room = omega (arith, small, x.keeps.room)

        -- a row of the same type
        here : (j : ℕ) → (presence_shown b j).sds ≤ (presence_shown b i).sds → (presence_shown b j).type ≡ t
            → (presence_shown b j).sds * 1024 ≤ get_or (set words t (word (presence_shown b i))) (presence_shown b j).type 0
        here j l e = rw (e, get_or-set_same words t (word (presence_shown b i)) 0 room) (omega arith)

        old : (j : ℕ) → j < i → (reverse_byte b (presence_shown b j).type ≡ 0 → ⊥)
            → (presence_shown b j).sds * 1024 ≤ get_or (set words t (word (presence_shown b i))) (presence_shown b j).type 0
        old j l n =
            ⊎_elim (λ e. here j (level x.fine j i l x.below) e.0) (λ e. omega (arith, e.1, x.keeps.passed j l n))
            (set_either words t (word (presence_shown b i)) 0 room (presence_shown b j).type)

    -- a row before of the reverse in the SDS
    module _ (j : ℕ) (l : j < i) (d : (presence_shown b i).sds ≡ (presence_shown b j).sds) (c : ℕ)
        (k : kind_of (schema_of b) (presence_shown b i).type ≡ paired c (presence_shown b j).type) where
      of_reverse : (presence_shown b j).type ≡ r
      of_reverse =
          sym (paired_bytes b (presence_shown b i).type c (presence_shown b j).type k).4 ∙ ap (reverse_byte b) (sym x.type) ∙ sym x.reverse

      reverse_passed : (presence_shown b i).sds * 1024 ≤ get_or words r 0
      reverse_passed =
          let n : reverse_byte b (presence_shown b j).type ≡ 0 → ⊥
          = λ z. reversed.some (sym reversed.other_is ∙ ap (reverse_byte b) (sym of_reverse) ∙ z) in
          omega (arith, d, x.keeps.passed j l n, ap (λ (u : ℕ). get_or words u 0) of_reverse)

    -- SDS 0 holds no link type
    elsewhere : 0 < (presence_shown b i).sds
    elsewhere = go (presence_shown b i).sds refl
      where
        go : (d : ℕ) → (presence_shown b i).sds ≡ d → 0 < d
        go zero e =
            let first : presence_shown b i ≡ system_presence
            = x.fine.presences.rows.system_alone (presence_shown b i) (there x.fine i x.below) e in
            absurd (reversed.some (x.type ∙ ap (λ (p : Presence). p.type) first))
        go (suc d) e = omega arith

    -- the word is that of a row before in the SDS
    module _ (at_least_lem : (presence_shown b i).sds * 1024 ≤ get_or words r 0) where
      passed_row : (j : ℕ) × (j < i) × ((presence_shown b j).type ≡ r) × (get_or words r 0 ≡ word (presence_shown b j))
          × ((presence_shown b i).sds ≡ (presence_shown b j).sds)
      passed_row =
          let (j, l, s, e) = x.keeps.shown r (omega (arith, elsewhere, at_least_lem)) in
          let m = modes_known x.fine j (omega (arith, x.below)) in
          (j, l, s, e, omega (arith, at_least_lem, e, m.usage, m.definition, level x.fine j i l x.below))

      passed_decides : Decides (Agrees b i) (eqb (get_or words r 0) (word (presence_shown b i)))
      passed_decides =
          let (j, l, s, e, d) = passed_row in
          let p = presence_shown b i in
          let q = presence_shown b j in
          let h : j < presence_count b = omega (arith, x.below) in record {
            holds = λ y.
                let same : word p ≡ word q = sym (eqb-true (get_or words r 0) (word p) y) ∙ e in
                let modes = word_modes p q (modes_known x.fine i x.below) (modes_known x.fine j h) d same in
                record {
                  with_passed = λ j' l' d' c k.
                      let one : q ≡ presence_shown b j'
                      = x.fine.presences.once q (presence_shown b j') (there x.fine j h) (there x.fine j' (omega (arith, x.below))) (sym d ∙ d')
                      (s ∙ sym (of_reverse j' l' d' c k)) in
                      subst (SameModes p) one modes;
                };
            fails = λ y a.
                let kind : kind_of (schema_of b) p.type ≡ paired pair.0 q.type
                = ap (kind_of (schema_of b)) (sym x.type) ∙ pair.1 ∙ ap (paired pair.0) (sym s) in
                eqb-false (get_or words r 0) (word p) y (e ∙ sym (modes_word p q d (a.with_passed j l d pair.0 kind)));
          }

    -- the numbers that the code finds
    module _ {start w : ℕ} (is_start : start ≡ (presence_shown b i).sds * 1024) (is_IsWord : w ≡ word (presence_shown b i)) where
      pub agreed_first : get_or words r 0 < start → Agreed b i (set words t w) true
      agreed_first h = rw is_IsWord (record {
        agrees = decides_yes (record { with_passed = λ j l d c k. absurd (omega (arith, is_start, h, reverse_passed j l d c k)) });
        keeps = keeps_more;
      })

      pub agreed_pair : start ≤ get_or words r 0 → Agreed b i (set words t w) (eqb (get_or words r 0) w)
      agreed_pair h = rw is_IsWord (record { agrees = passed_decides (omega (arith, is_start, h)); keeps = keeps_more })
