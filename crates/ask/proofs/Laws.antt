-- The name call: what the row that was found says of the rule, and that the answer's stretch lies in the base. Assumes nothing.
use Prim.Native.Nat.{ℕ, ◌+◌, ◌-◌, ◌≤◌, ◌<◌}
use native.Mathlib.Omega.{arith}
use mathlib.Core.Path.{◌≡◌, refl, sym, ap, ◌∙◌}
use mathlib.Core.List.{List, []}
use mathlib.Core.Bool.{Bool, true, false, not}
use lib.Dec.{leb, ltb}
use lib.ListN.{length, get_or, take, drop}
use borrow.Author.Tests.{leb-true, leb-false, lt-ltb, le-ltb}
use Rattle.rules.specs.02-Limits.{limits}
use Rattle.rules.specs.declared.Answer.{Answer}
use Rattle.rules.specs.04-Schema.{Schema, Presence, system_presence, holds_type, present, local_name}
use Rattle.rules.specs.07-Picture.{Sound, name_start}
use Rattle.rules.specs.09-Refusals.{Outcome, not_present}
use Rattle.rules.specs.09-Refusals.Outcome.{done}
use Rattle.rules.specs.11-Asks.{name, name_refusals}
use Rattle.rules.specs.01-Lists.{place}
use Rattle.rules.specs.12-Contracts.{Answered, Handed, stretch}
use Rattle.rules.specs.Read.{strip, name_offset}
use Rattle.rules.proofs.09-Refusals.{Left}
use Rattle.rules.proofs.11-Asks.{place_is, local_at, name_start_is, name_within}
use Rattle.rows.specs.Rows.{part}
use Rattle.base.specs.Rows.{presence_at}
use Rattle.base.specs.Back.{schema_of, presence_shown, presence_count}
use Rattle.lookup.specs.Found.{PresenceRow, FirstRow}
use Rattle.base.proofs.Shown.{presences_long, presence_is}
use Rattle.lookup.proofs.Walked.{first_presence, presence_first}
use Rattle.base.proofs.Kept.{sound_long}

abbrev pub name_effect : ℕ → ℕ → Schema → Outcome (List ℕ)
name_effect d t s = done (name_start s (place (holds_type d t) s.presences)) (length (local_name s d t)) 0 []

-- before the first test
pub name_left : (d t : ℕ) (s : Schema) → Left (name d t s) (name_refusals d t s) (name_effect d t s)
unfolding name
name_left d t s = record { is = refl }

module _ (b : List ℕ) (d t : ℕ) where
  module _ {r : ℕ} (found : PresenceRow b (presence_count b) d t r) where
    first_is : FirstRow (presence_count b) (λ i. holds_type d t (presence_shown b i)) r
    first_is = presence_first b d t found

    is_there : ltb r (presence_count b) ≡ present (schema_of b) d t
    unfolding present
    is_there = first_presence b (holds_type d t) first_is

    -- no row was found
    pub name_nowhere : r ≡ presence_count b → not_present (schema_of b) d t ≡ true
    unfolding not_present
    name_nowhere e = ap not (sym is_there ∙ le-ltb r (presence_count b) (omega arith))

    module _ (h : r < presence_count b) where
      here : present (schema_of b) d t ≡ true
      here = sym is_there ∙ lt-ltb r (presence_count b) h

      pub name_there : not_present (schema_of b) d t ≡ false
      unfolding not_present
      name_there = ap not here

      row_is : place (holds_type d t) (schema_of b).presences ≡ r
      row_is =
          place_is (holds_type d t) system_presence (schema_of b).presences r (omega (arith, presences_long b))
          (λ i k. ap (holds_type d t) (presence_is b i system_presence (omega arith)) ∙ first_is.others i k)
          (ap (holds_type d t) (presence_is b r system_presence h) ∙ first_is.found h)

      pub start_is : presence_at r + name_offset ≡ name_start (schema_of b) (place (holds_type d t) (schema_of b).presences)
      start_is = sym (name_start_is (schema_of b) (place (holds_type d t) (schema_of b).presences) ∙ ap (λ (k : ℕ). presence_at k + name_offset) row_is)

      pub length_is : length (strip (part b (presence_at r + name_offset) limits.name)) ≡ length (local_name (schema_of b) d t)
      length_is =
          ap length (sym ((local_at (schema_of b) d t here).1
          ∙ ap (λ (k : ℕ). (get_or (schema_of b).presences k system_presence).name) row_is
          ∙ ap (λ (p : Presence). p.name) (presence_is b r system_presence h)))

-- ---- the stretch

module _ {b : List ℕ} (d t : ℕ) {a : Answer} (k : Answered b (name d t) a) where
  -- it needs no decision of soundness, since a bound is decided
  pub within : a.one + a.two ≤ length b
  within = go (leb (a.one + a.two) (length b)) refl
    where
      sound_within : Sound b → a.one + a.two ≤ length b
      sound_within s =
          let e = k.kept s.schema s.good s.shown in
          omega (arith, sound_long s, name_within s.good d t, ap (λ (x : Answer). x.one) e, ap (λ (x : Answer). x.two) e)

      go : (x : Bool) → leb (a.one + a.two) (length b) ≡ x → a.one + a.two ≤ length b
      go true e = leb-true (a.one + a.two) (length b) e
      go false e =
          let over = leb-false (a.one + a.two) (length b) e in
          let q = k.spoiled (λ s. let u = sound_within s in omega arith) in
          omega (arith, ap (λ (x : Answer). x.one) q, ap (λ (x : Answer). x.two) q)

  pub handed : Handed b (name d t) (take ((a.one + a.two) - a.one) (drop a.one b))
  handed = record {
    spoiled = λ n. part_is ∙ ap (stretch b) (k.spoiled n);
    kept = λ s g p. part_is ∙ ap (stretch b) (k.kept s g p);
  }
    where
      part_is : take ((a.one + a.two) - a.one) (drop a.one b) ≡ stretch b a
      part_is = let w : (a.one + a.two) - a.one ≡ a.two = omega arith in ap (λ (n : ℕ). take n (drop a.one b)) w
