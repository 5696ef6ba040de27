-- What the tests of presences find is what `PresencesFine` asks, and words that are gathered show what the SDSs hold. Assumes nothing.
use Prim.Native.Nat.{ℕ, zero, suc, ◌+◌, ◌<◌}
use native.Mathlib.Omega.{arith}
use mathlib.Core.Path.{◌≡◌, sym, ap, ap₂, ◌∙◌}
use mathlib.Core.List.{List}
use mathlib.Core.Bool.{true, false, ◌||◌, true≢false}
use lib.ListN.{length, get_or, replicate}
use Rattle.rules.specs.01-Lists.{◌∈◌}
use Rattle.rules.specs.02-Limits.{limits}
use Rattle.rules.specs.03-Names.{blank, well_formed}
use Rattle.rules.specs.04-Schema.{Presence, system_presence, used_sds, present}
use Rattle.rules.specs.Parts.{of_presences, Once}
use Rattle.rules.specs.07-Picture.{pad, base_length}
use Rattle.rules.specs.Read.{strip, name_offset}
use Rattle.rules.proofs.Bools.{same_test}
use Rattle.rules.proofs.Parts.{presence_of, present_each}
use Rattle.rules.proofs.Parts as part
use Rattle.type_set.specs.Set.{bit}
use Rattle.name_fields.proofs.NamedFields.{name_field_formed}
use Rattle.rows.specs.Rows.{part, Counted}
use Rattle.rows.proofs.Scan.{first_used}
use Rattle.base.specs.Tables.{BlankFrom, PresencesHalved, presences, row_of, Written}
use Rattle.base.specs.Rows.{presence_at}
use Rattle.base.specs.Back.{schema_of, presence_count, presence_shown}
use Rattle.base.proofs.Halved.{confirmed}
use Rattle.base.proofs.Shown.{presences_long, presence_in, presence_there}
use Rattle.lookup.proofs.RowBytes.{halved_counted}
use Rattle.lookup.proofs.SdsShown.{used_below}
use Rattle.check_held.specs.Held.{Holds}
use Rattle.check_held.specs.Fine.{PresencesFine}
use Rattle.check_held.proofs.HeldLaws.{present_shown}
use Rattle.check_presences.specs.Rows.{NamedFine, SystemFirst, NamesRise, RowsFine}
use Rattle.check_presences.specs.declared.Modes.{Modes}
use Rattle.check_presences.specs.declared.Modes.TheVariants.{All}
use Rattle.check_presences.specs.Fields.{AllModes, Told}
use Rattle.check_presences.specs.Gathered.{Gathers}
use Rattle.check_presences.proofs.RowLaws.{fine_name, fine_nameless, named_written, written_named, name_used, object_named}
use Rattle.check_presences.proofs.TellLaws.{level, first_alone}
use Rattle.check_presences.proofs.OrderLaws.{equal, row_field, row_once, rise_presences, rise_unique, presences_rise}

record Found (b : List ℕ) (n : ℕ) : Type 0 where
  rows : RowsFine b n
  rest : BlankFrom presences n b
  system : SystemFirst b n

-- row 0 as `SystemFirst` has it
first_shown : (b : List ℕ) (n : ℕ) → SystemFirst b n → presence_shown b 0 ≡ system_presence
unfolding pad strip
first_shown b n s = λ i. record { sds = s.sds i; name = (ap strip s.name) i; type = s.type i; usage = s.usage i; definition = s.definition i }

module _ {b : List ℕ} {n : ℕ} (f : Found b n) where
  -- the first has a name, and the others are in SDSs that are not 0
  used : (i : ℕ) → i < n → row_of presences b i ≡ replicate presences.width 0 → ⊥
  used zero h =
      name_used b 0 (name_field_formed (part b (presence_at 0 + name_offset) limits.name)
      (object_named (part b (presence_at 0 + name_offset) limits.name) f.system.name))
  used (suc i) h = first_used b (presence_at (suc i)) presences.width (omega arith) (λ e. omega (arith, first_alone f.system f.rows.rise (suc i) h e))

module _ (b : List ℕ) {n : ℕ} (long : length b ≡ base_length) (count : Counted (presence_count b) limits.presences n) where
  counted : (i : ℕ) → i < presence_count b → i < n
  counted i h = omega (arith, count.is)

  small : (i : ℕ) → i < presence_count b → i < limits.presences
  small i h = omega (arith, count.is, count.fits)

  -- ---- from what was found

  module _ (f : Found b n) where
    written : Written presences (presence_count b) b
    written i h = named_written b long i (small i h) (f.rows.each i (counted i h)).named

    named : (i : ℕ) → i < presence_count b → blank (presence_shown b i).name || well_formed (presence_shown b i).name ≡ true
    named i h = fine_name b i (f.rows.each i (counted i h)).named

    rises : NamesRise b (presence_count b)
    rises = rw count.is at f.rows.rise

    once : Once (schema_of b).presences
    once p q m o s e =
        let (i, h, pi) = presence_in b p m in
        let (j, k, qj) = presence_in b q o in
        let sds : (presence_shown b i).sds ≡ (presence_shown b j).sds = sym (ap (λ (v : Presence). v.sds) pi) ∙ s ∙ ap (λ (v : Presence). v.sds) qj in
        let type : (presence_shown b i).type ≡ (presence_shown b j).type = sym (ap (λ (v : Presence). v.type) pi) ∙ e ∙ ap (λ (v : Presence). v.type) qj in
        pi ∙ ap (presence_shown b) (equal i j (λ l. f.rows.once i j l (counted j k) sds type) (λ l. f.rows.once j i l (counted i h) (sym sds) (sym type)))
        ∙ sym qj

    found_presences : PresencesFine b
    unfolding used_sds
    found_presences = record {
      presence_rows = written;
      presence_rest = rw (← count.is) f.rest;
      rows = record {
        room = omega (arith, presences_long b, count.is, count.fits);
        in_used = λ p m. let (i, h, e) = presence_in b p m in rw e (f.rows.in_used i (counted i h));
        named = λ p m. let (i, h, e) = presence_in b p m in rw e (named i h);
        known = λ p m. let (i, h, e) = presence_in b p m in rw e (f.rows.each i (counted i h)).known;
        unique = rise_unique b long written named rises;
        system = rw (first_shown b n f.system) at (presence_there b 0 (omega (arith, count.is, f.system.some)));
        system_alone = λ p m z.
            let (i, h, e) = presence_in b p m in
            let same : i ≡ 0 = first_alone f.system f.rows.rise i (counted i h) (sym (ap (λ (q : Presence). q.sds) e) ∙ z) in
            e ∙ ap (presence_shown b) same ∙ first_shown b n f.system;
        rises = rise_presences b long written named rises;
      };
      once = once;
      nameless = λ p m. let (i, h, e) = presence_in b p m in rw e (fine_nameless b i (f.rows.each i (counted i h)).named);
      small = λ p m. let (i, h, e) = presence_in b p m in rw e (f.rows.each i (counted i h)).small;
    }

  -- ---- to what is found

  module _ (p : PresencesFine b) where
    there : (i : ℕ) → i < n → presence_shown b i ∈ (schema_of b).presences
    there i h = presence_there b i (omega (arith, count.is))

    named_of : (i : ℕ) → i < presence_count b → blank (presence_shown b i).name || well_formed (presence_shown b i).name ≡ true
    named_of i h = p.rows.named (presence_shown b i) (presence_there b i h)

    rising : NamesRise b (presence_count b)
    rising = presences_rise b long p.presence_rows named_of p.rows.rises p.rows.unique p.once

    -- some row is that of a fresh base, so row 0 is in SDS 0, and so is that row
    first_sds : (0 < n) × (get_or b (presence_at 0) 0 ≡ 0)
    first_sds = go (presence_in b system_presence p.rows.system)
      where
        go : (i : ℕ) × (i < presence_count b) × (system_presence ≡ presence_shown b i) → (0 < n) × (get_or b (presence_at 0) 0 ≡ 0)
        go w = at w.0 (counted w.0 w.1) (sym (ap (λ (q : Presence). q.sds) w.2))
          where
            at : (i : ℕ) → i < n → get_or b (presence_at i) 0 ≡ 0 → (0 < n) × (get_or b (presence_at 0) 0 ≡ 0)
            at zero h e = (h, e)
            at (suc i) h e =
                let le = level b n (rw count.is rising) 0 (suc i) (omega arith) h in
                (omega arith, omega arith)

    zero_row : (i : ℕ) → i < n → get_or b (presence_at i) 0 ≡ 0 → presence_shown b i ≡ system_presence
    zero_row i h e = p.rows.system_alone (presence_shown b i) (there i h) e

    field : (i : ℕ) → i < n → NamedFine b i
    field i h =
        let k : i < presence_count b = omega (arith, count.is) in
        written_named b long i (omega (arith, count.fits)) (named_of i k) (p.nameless (presence_shown b i) (there i h)) (p.presence_rows i k)

    presences_found : Found b n
    unfolding pad used_sds
    presences_found =
        let (some, zero-sds) = first_sds in
        let one = zero_row 0 some zero-sds in record {
          rows = record {
            each = λ i h. record {
              named = field i h;
              small = p.small (presence_shown b i) (there i h);
              known = p.rows.known (presence_shown b i) (there i h);
            };
            in_used = λ i h. p.rows.in_used (presence_shown b i) (there i h);
            rise = rw count.is rising;
            once = λ i j l h s e. twice i j l h (p.once (presence_shown b i) (presence_shown b j) (there i (omega arith)) (there j h) s e);
          };
          rest = rw count.is p.presence_rest;
          system = record {
            some = some;
            sds = zero-sds;
            type = ap (λ (q : Presence). q.type) one;
            name = row_field b 0 (p.presence_rows 0 (omega (arith, count.is)))
                ∙ ap (λ (q : Presence). pad limits.name q.name) one;
            usage = ap (λ (q : Presence). q.usage) one;
            definition = ap (λ (q : Presence). q.definition) one;
            next = λ h e. no_second h e one;
          };
        }
      where
        twice : (i j : ℕ) → i < j → j < n → presence_shown b i ≡ presence_shown b j → ⊥
        twice i j l h e =
            let same : i ≡ j = row_once b long p.presence_rows named_of rising i j (omega (arith, count.is)) (omega (arith, count.is)) e in
            omega arith

        no_second : 1 < n → get_or b (presence_at 1) 0 ≡ 0 → presence_shown b 0 ≡ system_presence → ⊥
        no_second h e one = twice 0 1 (omega arith) h (one ∙ sym (zero_row 1 h e))

-- ---- words that are gathered of all presences

module _ {b held : List ℕ} {n : ℕ} (long : length b ≡ base_length) (p : PresencesFine b) (count : n ≡ presence_count b) (g : Gathers b n held) where
  places : (d t : ℕ) → present (schema_of b) d t ≡ true → (d < 16) × (t < 128)
  unfolding used_sds
  places d t e =
      present_each (schema_of b).presences (λ d t. (d < 16) × (t < 128)) (λ q m. (used_below b long q.sds (p.rows.in_used q m), p.small q m)) d t
      (present_shown b d t ∙ e)

  bit_present : (t d : ℕ) → t < 128 → d < 16 → bit (get_or held t 0) d ≡ true → present (schema_of b) d t ≡ true
  bit_present t d h k q =
      let (i, l, s, e) = g.marks t d h k q in
      sym (present_shown b d t)
      ∙ sym (ap₂ (λ (d t : ℕ). present (of_presences (schema_of b).presences) d t) s e)
      ∙ part.presence_there (presence_there b i (omega arith))

  present_bit : (t d : ℕ) → present (schema_of b) d t ≡ true → bit (get_or held t 0) d ≡ true
  present_bit t d q =
      let (v, m, s, e) = presence_of (schema_of b).presences d t (present_shown b d t ∙ q) in
      let (i, h, vi) = presence_in b v m in
      ap₂ (λ (t d : ℕ). bit (get_or held t 0) d) (sym e ∙ ap (λ (w : Presence). w.type) vi) (sym s ∙ ap (λ (w : Presence). w.sds) vi)
      ∙ g.marked i (omega arith)

  gathers_all : Holds b held
  gathers_all = record {
    room = g.room;
    words = g.words;
    shows = λ t d h k. same_test (bit (get_or held t 0) d) (present (schema_of b) d t) (bit_present t d h k) (present_bit t d);
    places = places;
  }

-- ---- a count by halving

module _ {b : List ℕ} {n : ℕ} (long : length b ≡ base_length) (half : PresencesHalved b n) where
  -- the rows that are fine confirm it
  found_count : Found b n → Counted (presence_count b) limits.presences n
  found_count f = confirmed presences b n (omega (arith, half.is, half.halved.fits)) (used f) f.rest

  -- if the presences are fine, it is right
  pub fine_count : PresencesFine b → Counted (presence_count b) limits.presences n
  fine_count p = halved_counted b p.rows.system p.rows.system_alone p.rows.rises p.presence_rest half

  found_of : PresencesFine b → Found b n
  found_of p = presences_found b long (fine_count p) p

  -- ---- what the tests find

  pub no_system : (SystemFirst b n → ⊥) → PresencesFine b → ⊥
  no_system f p = f (found_of p).system

  pub no_sds : SystemFirst b n → used_sds (schema_of b) 0 ≡ false → PresencesFine b → ⊥
  no_sds s e p = true≢false (sym ((found_of p).rows.in_used 0 s.some) ∙ ap (used_sds (schema_of b)) s.sds ∙ e)

  pub no_rest : (BlankFrom presences n b → ⊥) → PresencesFine b → ⊥
  no_rest f p = f (found_of p).rest

  pub no_rows : (RowsFine b n → ⊥) → PresencesFine b → ⊥
  no_rows f p = f (found_of p).rows

  pub found_fine : SystemFirst b n → BlankFrom presences n b → RowsFine b n → PresencesFine b
  found_fine s rest r = let f : Found b n = record { rows = r; rest = rest; system = s } in found_presences b long (found_count f) f

  module _ (p : PresencesFine b) where
    pub found_holds : {held : List ℕ} → Gathers b n held → Holds b held
    found_holds g = gathers_all long p (fine_count p).is g

    pub found_modes : {modes : Modes} → Told b n modes → modes ≡ All → (q : Presence) → q ∈ (schema_of b).presences → AllModes q
    found_modes t e q m = let (i, h, one) = presence_in b q m in rw one (t.all e i (omega (arith, (fine_count p).is)))
