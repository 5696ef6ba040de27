-- A call keeps its contract where it does what its rule says of the schema that the bytes show. Assumes nothing.
use Prim.Native.Nat.{ℕ, ◌<◌}
use mathlib.Core.Path.{◌≡◌, refl, sym, ap, ◌∙◌, subst}
use mathlib.Core.List.{List}
use lib.ListN.{length, set}
use Rattle.rules.specs.declared.Answer.{Answer}
use Rattle.rules.specs.03-Names.{Name}
use Rattle.rules.specs.04-Schema.{Schema, with_sdss}
use Rattle.rules.specs.06-Good.{Good}
use Rattle.rules.specs.07-Picture.{Sound, sds_row, picture, base_length}
use Rattle.rules.specs.09-Refusals.{Outcome, telling, refusal, success, answer_of}
use Rattle.rules.specs.09-Refusals.Outcome.{refused, done}
use Rattle.rules.specs.12-Contracts.{Kept, Listed, Answered, base_after, output_after}
use Rattle.rows.specs.Table.{written}
use Rattle.base.specs.Rows.{sds_at}
use Rattle.base.specs.Back.{schema_of}
use Rattle.base.proofs.Back.{way_back, canonical_picture, sound_canonical, sound_good}
use Rattle.base.proofs.SdsWritten.{sds_written}

pub sound_long : {b : List ℕ} → Sound b → length b ≡ base_length
sound_long s = (sound_canonical s).long

-- the only schema that the bytes can be the picture of
shown_by : {b : List ℕ} {s : Schema} → Good s → b ≡ picture s → schema_of b ≡ s
shown_by g p = ap schema_of p ∙ way_back g

module _ {b : List ℕ} {rule : Schema → Outcome Schema} {a : Answer} where
  pub kept_spoiled : (Sound b → ⊥) → a ≡ refusal 1 → Kept b rule a b
  kept_spoiled n e = record { spoiled = λ _. (e, refl); kept = λ s g p. absurd (n (record { schema = s; good = g; shown = p })) }

  kept_as : {after : List ℕ} {o : Outcome Schema} → Sound b → rule (schema_of b) ≡ o → a ≡ answer_of o → after ≡ base_after b o → Kept b rule a after
  kept_as s₀ r e f = record {
    spoiled = λ n. absurd (n s₀);
    kept = λ s g p.
        let same = sym r ∙ ap rule (shown_by g p) in
        (e ∙ ap answer_of same, f ∙ ap (base_after b) same);
  }

  pub kept_refused : {n value : ℕ} → Sound b → rule (schema_of b) ≡ refused n value → a ≡ telling n value → Kept b rule a b
  kept_refused s₀ r e = kept_as s₀ r e refl

  pub kept_done : {after : List ℕ} {x y z : ℕ} {next : Schema} → Sound b → rule (schema_of b) ≡ done x y z next → a ≡ success x y z
      → after ≡ picture next → Kept b rule a after
  kept_done s₀ r e f = kept_as s₀ r e f

-- a call that keeps a rule keeps any other that says the same of that schema
pub kept_like : {b after : List ℕ} {rule other : Schema → Outcome Schema} {a : Answer} → rule (schema_of b) ≡ other (schema_of b) → Kept b other a after
    → Kept b rule a after
kept_like {b} {rule = rule} {other = other} e k = record {
  spoiled = k.spoiled;
  kept = λ s g p.
      let same : rule s ≡ other s = subst (λ (x : Schema). rule x ≡ other x) (shown_by g p) e in
      let (x, y) = k.kept s g p in
      (x ∙ ap answer_of (sym same), y ∙ ap (base_after b) (sym same));
}

module _ {b : List ℕ} {rule : Schema → Outcome (List ℕ)} {a : Answer} where
  pub listed_spoiled : {out : List ℕ} → (Sound b → ⊥) → a ≡ refusal 1 → Listed b rule a out out
  listed_spoiled n e = record { spoiled = λ _. (e, refl); kept = λ s g p. absurd (n (record { schema = s; good = g; shown = p })) }

  pub listed_as : Sound b → {before after : List ℕ} {o : Outcome (List ℕ)} → rule (schema_of b) ≡ o → a ≡ answer_of o → after ≡ output_after before o
      → Listed b rule a before after
  listed_as s₀ {before} r e f = record {
    spoiled = λ n. absurd (n s₀);
    kept = λ s g p.
        let same = sym r ∙ ap rule (shown_by g p) in
        (e ∙ ap answer_of same, f ∙ ap (output_after before) same);
  }

  pub answered_spoiled : (Sound b → ⊥) → a ≡ refusal 1 → Answered b rule a
  answered_spoiled n e = record { spoiled = λ _. e; kept = λ s g p. absurd (n (record { schema = s; good = g; shown = p })) }

  pub answered_as : Sound b → {o : Outcome (List ℕ)} → rule (schema_of b) ≡ o → a ≡ answer_of o → Answered b rule a
  answered_as s₀ r e = record {
    spoiled = λ n. absurd (n s₀);
    kept = λ s g p. e ∙ ap answer_of (sym r ∙ ap rule (shown_by g p));
  }

-- a name over the field of an SDS, in a sound base
pub sds_changed : {b : List ℕ} → Sound b → (d : ℕ) (n : Name) → d < 16
    → written b (sds_at d) (sds_row n) ≡ picture (with_sdss (schema_of b) (set (schema_of b).sdss d n))
sds_changed {b} s d n h =
    ap (λ (x : List ℕ). written x (sds_at d) (sds_row n)) (sym (canonical_picture b (sound_canonical s))) ∙ sds_written (sound_good s) d n h
