-- A file written and read, by what its steps promise. Assumes nothing.
use Prim.Native.Nat.{ℕ, ◌≤◌, ◌<◌}
use native.Mathlib.Omega.{arith}
use mathlib.Core.Path.{◌≡◌, refl, sym, ap, subst, ◌∙◌}
use mathlib.Core.List.{List}
use Rattle.std.specs.Prelude.{Ok, Err}
use mathlib.Core.Bool.{Bool, true, false, cond, true≢false, false≢true}
use lib.ListN.{length, take, drop}
use lib.Seq.{take_at}
use borrow.Author.Tests.{lt-ltb, le-ltb}
use Rattle.rules.specs.declared.Answer.{Answer}
use Rattle.rules.specs.01-Lists.{joined}
use Rattle.rules.specs.04-Schema.{Schema}
use Rattle.rules.specs.07-Picture.{Sound, base_length}
use Rattle.rules.specs.09-Refusals.{Outcome, verdict, short_output, answer_of, telling, refusal, success}
use Rattle.rules.specs.09-Refusals.Outcome.{refused, done}
use Rattle.rules.specs.11-File.{file_of, write_file, WrittenAs}
use Rattle.rules.specs.12-Contracts.{Filed, file_after, ReadIn}
use Rattle.rules.specs.12-Contracts.ReadIn.{malformed, read}
use Rattle.rows.specs.Decides.{Decides}
use Rattle.base.specs.Back.{schema_of}
use Rattle.base.proofs.Back.{way_back, canonical_picture, sound_canonical, sound_good}
use Rattle.file_form.specs.Form.{Told}
use Rattle.file_out_presences.specs.Out.{PutDown}
use Rattle.file_out.specs.Parts.{file_parts}
use Rattle.file.specs.Accept.{Loaded, ToldBy, Accepts}
use Rattle.file_out.proofs.PartLaws.{parts_whole}

-- ---- out

module _ {b : List ℕ} {rule : Schema → Outcome (List ℕ)} {a : Answer} {out : List ℕ} where
  pub filed_spoiled : (Sound b → ⊥) → a ≡ refusal 1 → Filed b rule a out out
  filed_spoiled n e = record { spoiled = λ _. (e, refl); kept = λ s g p. absurd (n (record { schema = s; good = g; shown = p })) }

  filed_as : Sound b → {after : List ℕ} {o : Outcome (List ℕ)} → rule (schema_of b) ≡ o → a ≡ answer_of o → after ≡ file_after out o → Filed b rule a out after
  filed_as x r e f = record {
    spoiled = λ n. absurd (n x);
    kept = λ s g p.
        let same = sym r ∙ ap rule (ap schema_of p ∙ way_back g) in
        (e ∙ ap answer_of same, f ∙ ap (file_after out) same);
  }

module _ {b : List ℕ} (x : Sound b) where
  pub whole : joined (file_parts (schema_of b)) ≡ file_of (schema_of b)
  whole = parts_whole (sound_good x)

  -- a test of the parts is one of the file
  pub decided : (file : List ℕ) {r : Bool} → Decides (file ≡ joined (file_parts (schema_of b))) r → Decides (file ≡ file_of (schema_of b)) r
  decided file {r} t = subst (λ (l : List ℕ). Decides (file ≡ l) r) whole t

  pub fits : (out : List ℕ) → length (file_of (schema_of b)) ≤ length out → length (joined (file_parts (schema_of b))) ≤ length out
  fits out h = omega (arith, ap length whole)

  module _ {a : Answer} {out : List ℕ} {n : ℕ} (long : n ≡ length (file_of (schema_of b))) where
    pub filed_short : length out < n → a ≡ refusal 15 → Filed b (write_file (length out)) a out out
    unfolding write_file verdict short_output
    filed_short h e = filed_as x {o = refused 15 0} (rw (lt-ltb (length out) (length (file_of (schema_of b))) (omega arith))) e refl

    pub filed_done : n ≤ length out → {after : List ℕ} {r : ℕ} → PutDown (file_of (schema_of b)) out after r → a ≡ success n 0 0
        → Filed b (write_file (length out)) a out after
    unfolding write_file verdict short_output
    filed_done h p e =
        filed_as x {o = done (length (file_of (schema_of b))) 0 0 (file_of (schema_of b))}
        (rw (le-ltb (length out) (length (file_of (schema_of b))) (omega arith))) (e ∙ ap (λ (k : ℕ). success k 0 0) long) p.is

-- ---- in

-- bytes put down in a work area
pub taken_back : {list area area' : List ℕ} {n : ℕ} → PutDown list area area' n → take n area' ≡ list
taken_back {list} {area} {n = n} p = ap (take n) p.is ∙ take_at list (drop (length list) area) n (sym p.long)

-- a file is read exactly where what it was loaded into tells of it: the file of a good schema shows that schema there
module _ {before file area : List ℕ} (l : Loaded file area) where
  pub accepts : {r : Bool} {after : List ℕ} → Decides (ToldBy area file) r → after ≡ cond r area before → Accepts before file r after
  accepts {r} d e = go r d e
    where
      go : (r : Bool) {after : List ℕ} → Decides (ToldBy area file) r → after ≡ cond r area before → Accepts before file r after
      go true d e =
          let t = d.holds refl in
          record {
            taken = λ _. (
              schema_of area,
              record { good = sound_good t.sound; is = t.is },
              e ∙ sym (canonical_picture area (sound_canonical t.sound)),
            );
            left = λ q. absurd (true≢false q);
          }
      go false d e = record {
        taken = λ q. absurd (false≢true q);
        left = λ _. (none, e);
      }
        where
          none : (s : Schema) → WrittenAs file s → ⊥
          none s w =
              d.fails refl (record {
                sound = record { schema = s; good = w.good; shown = l.shows s w };
                is = w.is ∙ ap file_of (sym (ap schema_of (l.shows s w) ∙ way_back w.good));
              })

module _ {before file : List ℕ} {a : Answer} (long : length before ≡ base_length) where
  pub read_malformed : {start : ℕ} → Told file (Err start) → a ≡ telling 20 start → ReadIn before file a before
  read_malformed {start} t answer = let (none, longest) = t.malformed in malformed long none start longest answer refl

  module _ {done : Unit} (t : Told file (Ok done)) {r : Bool} {after : List ℕ} (x : Accepts before file r after) where
    pub read_done : r ≡ true → a ≡ success 0 0 0 → ReadIn before file a after
    read_done f answer = let (s, w, shown) = x.taken f in read long s w answer shown
