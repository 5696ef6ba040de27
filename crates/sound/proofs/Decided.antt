-- What the checks decide is together `Sound`, and a sound base has it all: each has a part of `Canonical`, of `Good`, or of both.
-- Assumes nothing.
use Prim.Native.Nat.{ℕ}
use mathlib.Core.Path.{◌≡◌, sym, ◌∙◌}
use mathlib.Core.Bool.{false}
use mathlib.Core.List.{List}
use lib.ListN.{length}
use Rattle.rules.specs.01-Lists.{◌∈◌}
use Rattle.rules.specs.04-Schema.{Kind, Presence}
use Rattle.rules.specs.07-Picture.{Sound, base_length}
use Rattle.rules.specs.Parts.{Acyclic, Alike, Parts}
use Rattle.rules.proofs.05-Descent.{used_below}
use Rattle.rules.proofs.Parts.{parent_in, parts_of, whole}
use Rattle.base.specs.Back.{schema_of, Canonical}
use Rattle.base.proofs.Back.{sound_canonical, sound_good, is_sound}
use Rattle.lookup.specs.Parents.{Parental}
use Rattle.check_presences.specs.Fields.{AllModes}
use Rattle.rows.specs.Decides.{Decides}
use Rattle.rows.proofs.Decides.{decides_no}
use Rattle.base.specs.Tables.{BlankFrom, PresencesHalved, presences}
use Rattle.check_held.specs.Fine.{SdssFine, PresencesFine, TypesFine, ApplicationsFine, EndsFine, Shown}
use Rattle.check_presences.specs.Rows.{SystemFirst, RowsFine}
use Rattle.check_presences.specs.Gathered.{Gathers}
use Rattle.check_presences.proofs.PresenceLaws.{found_fine, found_holds}

-- all that is decided
pub record Decided (b : List ℕ) : Type 0 where
  pub long : length b ≡ base_length
  pub sdss : SdssFine b
  pub presences : PresencesFine b
  pub types : TypesFine b
  pub acyclic : Acyclic (schema_of b).types
  pub applications : ApplicationsFine b
  pub ends : EndsFine b
  pub alike : Alike (schema_of b).types (schema_of b).presences

-- as the check for cycles asks for it
pub parental : {b : List ℕ} → length b ≡ base_length → TypesFine b → Parental b
parental long t = record { long = long; type_rows = t.type_rows; parents_objects = λ u a by. t.parents.objects u a (parent_in u a by) }

-- where every presence has all modes, a pair has the same
pub all_alike : (ks : List Kind) (ps : List Presence) → ((p : Presence) → p ∈ ps → AllModes p) → Alike ks ps
all_alike ks ps all p q m n d c e = record {
  usage = (all p m).usage ∙ sym (all q n).usage;
  definition = (all p m).definition ∙ sym (all q n).definition;
}

pub decided_of : {b : List ℕ} → Sound b → Decided b
decided_of {b} s =
    let c = sound_canonical s in
    let p = parts_of (sound_good s) in
    record {
      long = c.long;
      sdss = record { sds_fields = c.sds_fields; sdss = p.sdss };
      presences = record {
        presence_rows = c.presence_rows;
        presence_rest = c.presence_rest;
        rows = p.presences.rows;
        once = p.presences.once;
        nameless = p.presences.nameless;
        small = λ q m. used_below (sound_good s) q.type (p.presences.typed q m);
      };
      types = record {
        type_rows = c.type_rows;
        kinds = p.types.kinds;
        parents = p.types.parents;
        reverses = p.types.reverses;
        typed = p.presences.typed;
        closed = p.presences.closed;
        somewhere = p.presences.somewhere;
      };
      acyclic = p.types.acyclic;
      applications = record { application_rest = c.application_rest; rows = p.applications.rows; each = p.applications.each };
      ends = record {
        end_rows = c.end_rows;
        end_rest = c.end_rest;
        rows = p.ends.rows;
        each = p.ends.each;
        mirrored = p.ends.mirrored;
      };
      alike = p.presences.alike;
    }

pub decided_sound : (b : List ℕ) → Decided b → Sound b
decided_sound b w = is_sound b canonical (whole parts)
  where
    canonical : Canonical b
    canonical = record {
      long = w.long;
      sds_fields = w.sdss.sds_fields;
      type_rows = w.types.type_rows;
      presence_rows = w.presences.presence_rows;
      end_rows = w.ends.end_rows;
      presence_rest = w.presences.presence_rest;
      application_rest = w.applications.application_rest;
      end_rest = w.ends.end_rest;
    }

    parts : Parts (schema_of b)
    parts = record {
      sdss = w.sdss.sdss;
      types = record { kinds = w.types.kinds; parents = w.types.parents; reverses = w.types.reverses; acyclic = w.acyclic };
      presences = record {
        rows = w.presences.rows;
        once = w.presences.once;
        nameless = w.presences.nameless;
        typed = w.types.typed;
        closed = w.types.closed;
        alike = w.alike;
        somewhere = w.types.somewhere;
      };
      applications = record { rows = w.applications.rows; each = w.applications.each };
      ends = record { rows = w.ends.rows; each = w.ends.each; mirrored = w.ends.mirrored };
    }

-- where one of them is refused
pub refused : {b : List ℕ} → (Decided b → ⊥) → Decides (Sound b) false
refused f = decides_no (λ s. f (decided_of s))

-- what the tests have told once the presences and the types are fine
pub shown_of : {b held : List ℕ} {n : ℕ} → length b ≡ base_length → PresencesHalved b n → SystemFirst b n → BlankFrom presences n b → RowsFine b n
    → Gathers b n held → TypesFine b → Shown b held
shown_of long half first rest rows gathers types =
    let p = found_fine long half first rest rows in
    record { long = long; presences = p; types = types; holds = found_holds long half p gathers }

-- and once the rest is
pub sound_of : {b held : List ℕ} → Shown b held → SdssFine b → Acyclic (schema_of b).types → ApplicationsFine b → EndsFine b
    → Alike (schema_of b).types (schema_of b).presences → Sound b
sound_of {b} s sdss acyclic applications ends alike = decided_sound b (record {
  long = s.long;
  sdss = sdss;
  presences = s.presences;
  types = s.types;
  acyclic = acyclic;
  applications = applications;
  ends = ends;
  alike = alike;
})
