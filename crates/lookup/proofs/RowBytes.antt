-- The numbers that the rows of a sound base hold. Assumes nothing.
use Prim.Native.Nat.{ℕ, zero, suc, ◌+◌, ◌≤◌, ◌<◌}
use native.Mathlib.Omega.{arith}
use mathlib.Core.Path.{◌≡◌, sym, ap, ◌∙◌}
use mathlib.Core.List.{List}
use mathlib.Core.Bool.{true, ◌&&◌}
use lib.Dec.{eqb}
use lib.ListN.{get_or}
use borrow.Author.Tests.{eqb-true}
use Rattle.rules.specs.02-Limits.{limits}
use Rattle.rules.specs.01-Lists.{◌∈◌, rising}
use Rattle.rules.specs.04-Schema.{Presence, End, system_presence, holds_type, present, side_code}
use Rattle.rules.specs.06-Good.{presence_before}
use Rattle.rules.specs.07-Picture.{Sound, end_row, end_width}
use Rattle.rules.specs.Read.{attribute_offset, link_offset, object_offset, side_offset, to_offset, type_offset}
use Rattle.rules.proofs.Bools.{and_both}
use Rattle.rules.proofs.01-Lists.{any_where}
use Rattle.rules.proofs.05-Descent.{used_below}
use Rattle.rules.proofs.08-Working.{present_used}
use Rattle.rules.proofs.Modes.{none_behind}
use Rattle.rows.specs.Rows.{Counted}
use Rattle.rows.proofs.Rows.{part_byte}
use Rattle.base.specs.Tables.{BlankFrom, PresencesHalved, presences, applications, ends}
use Rattle.base.specs.Rows.{presence_at, application_at, end_at}
use Rattle.base.specs.Back.{schema_of, presence_count, application_count, end_count, application_shown, end_shown}
use Rattle.base.proofs.Back.{rows_few, sound_canonical, sound_good}
use Rattle.base.proofs.Halved.{presences_right}
use Rattle.base.proofs.Kept.{sound_long}
use Rattle.base.proofs.Shown.{presences_long, presence_is, presence_in, presence_there, application_there, end_there, end_read}
use Rattle.lookup.proofs.SdsShown as SdsShown

module _ (b : List ℕ) where
  pub few_presences : presence_count b ≤ limits.presences
  few_presences = rows_few presences b

  pub few_applications : application_count b ≤ limits.applications
  few_applications = rows_few applications b

  pub few_ends : end_count b ≤ limits.ends
  few_ends = rows_few ends b

-- the first presence is in SDS 0 and no other, so that their count is found by halving
module _ (b : List ℕ) (holds : system_presence ∈ (schema_of b).presences)
    (alone : (p : Presence) → p ∈ (schema_of b).presences → p.sds ≡ 0 → p ≡ system_presence)
    (rises : rising presence_before (schema_of b).presences ≡ true) (rest : BlankFrom presences (presence_count b) b) where
  pub halved_counted : {n : ℕ} → PresencesHalved b n → Counted (presence_count b) limits.presences n
  halved_counted {n} half = presences_right b n half (let (i, h, e) = presence_in b system_presence holds in omega arith) later rest
    where
      later : (i : ℕ) → 0 < i → i < presence_count b → get_or b (presence_at i) 0 ≡ 0 → ⊥
      later zero h k z = omega arith
      later (suc i) h k z =
          none_behind system_presence (schema_of b).presences rises alone i (omega (arith, presences_long b))
          (ap (λ (p : Presence). p.sds) (presence_is b (suc i) system_presence k) ∙ z)

module _ {b : List ℕ} (s : Sound b) where
  pub presences_counted : {n : ℕ} → PresencesHalved b n → Counted (presence_count b) limits.presences n
  presences_counted =
      let good = sound_good s in halved_counted b good.system_holds good.system_alone good.presences_rising (sound_canonical s).presence_rest

  -- what is present is a type, in an SDS
  small : (d t : ℕ) → present (schema_of b) d t ≡ true → (d < limits.sdss) × (t < 128)
  unfolding present
  small d t e =
      let (p, i, h) = any_where (holds_type d t) (schema_of b).presences e in
      let same : p.sds ≡ d = eqb-true p.sds d (and_both (eqb p.sds d) (eqb p.type t) h).0 in
      let below = SdsShown.used_below b (sound_long s) p.sds ((sound_good s).presence_sds p i) in
      (omega arith, used_below (sound_good s) t (present_used (sound_good s) d t e))

  both : (d t u : ℕ) → present (schema_of b) d t && present (schema_of b) d u ≡ true → (d < limits.sdss) × ((t < 128) × (u < 128))
  both d t u e =
      let (x, y) = and_both (present (schema_of b) d t) (present (schema_of b) d u) e in
      ((small d t x).0, ((small d t x).1, (small d u y).1))

  pub presence_small : (i : ℕ) → i < presence_count b → (get_or b (presence_at i) 0 < limits.sdss) × (get_or b (presence_at i + type_offset) 0 < 128)
  presence_small i h =
      let m = presence_there b i h in (
        omega (arith, SdsShown.used_below b (sound_long s) (get_or b (presence_at i) 0) ((sound_good s).presence_sds _ m)),
        used_below (sound_good s) (get_or b (presence_at i + type_offset) 0) ((sound_good s).presence_type _ m),
      )

  pub application_small : (i : ℕ) → i < application_count b
      → (get_or b (application_at i) 0 < limits.sdss)
      × ((get_or b (application_at i + to_offset) 0 < 128) × (get_or b (application_at i + attribute_offset) 0 < 128))
  application_small i h = both _ _ _ ((sound_good s).application_present (application_shown b i) (application_there b i h))

  pub end_small : (i : ℕ) → i < end_count b
      → (get_or b (end_at i) 0 < limits.sdss) × ((get_or b (end_at i + link_offset) 0 < 128) × (get_or b (end_at i + object_offset) 0 < 128))
  end_small i h = both _ _ _ ((sound_good s).end_present (end_shown b i) (end_there b i h))

  -- the byte of a side is its code
  pub side_byte : (i : ℕ) → i < end_count b → get_or b (end_at i + side_offset) 0 ≡ side_code (end_shown b i).side
  unfolding end_row
  side_byte i h =
      sym (part_byte b (end_at i) end_width side_offset (omega arith)) ∙ ap (λ (r : List ℕ). get_or r side_offset 0) (sym ((sound_canonical s).end_rows i h))
      ∙ ap (λ (e : End). side_code e.side) (end_read b i)
