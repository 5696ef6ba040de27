-- What is printed of an answer is what 14-Run says of the outcome. Assumes nothing.
use Prim.Native.Nat.{ℕ, ◌≤◌}
use native.Mathlib.Omega.{arith}
use mathlib.Core.Path.{◌≡◌, refl, sym, ap, ap₂, ◌∙◌}
use mathlib.Core.List.{List, [], ◌∷◌, ◌++◌}
use mathlib.Core.Bool.{Bool, true, false}
use lib.Dec.{ltb}
use lib.ListN.{length, drop}
use borrow.Author.Tests.{ltb-true, ltb-false}
use Rattle.rules.specs.declared.Answer.{Answer}
use Rattle.rules.specs.01-Lists.{bytes, all}
use Rattle.rules.specs.04-Schema.{Schema}
use Rattle.rules.specs.07-Picture.{Sound, picture, base_length}
use Rattle.rules.specs.08-Working.{shown}
use Rattle.rules.specs.09-Refusals.{Outcome, answer_of}
use Rattle.rules.specs.09-Refusals.Outcome.{refused, done}
use Rattle.rules.specs.11-Asks.{scan_object, scan_object_refusals, object_scan_list}
use Rattle.rules.specs.12-Contracts.{Kept, Listed, Answered, base_after, output_after, entries}
use Rattle.rules.specs.14-Run.{Reply, decimal, changed, asked, about_type, unreadable}
use Rattle.rules.proofs.05-Descent.{members_most}
use Rattle.rules.proofs.09-Refusals.{Beyond, verdict_keeps, untold_at}
use Rattle.base.specs.Back.{schema_of}
use Rattle.base.proofs.Back.{sound_good}
use Rattle.base.proofs.StoredLaws.{sound_stored}
use Rattle.run_print.specs.Print.{Printed, spaced, read_entries, spoken}
use Rattle.run_reply.specs.Reply.{Says}
use Rattle.run_print.proofs.PrintLaws.{printed_line, printed_within, read_all}
use Rattle.run_print.proofs.SpokenLaws.{printed_one, spoken_refused, spoken_list}

-- the number of an answer, and behind 0 its value
abbrev pub said_of : Answer → List ℕ
said_of a = spoken a.no (a.one ∷ [])

-- ---- a change

changed_line : (s : Schema) (o : Outcome Schema) → Beyond 0 o → said_of (answer_of o) ≡ (changed s o).line
unfolding spoken
changed_line s (refused n value) p = spoken_refused n (value ∷ []) (λ e. omega (arith, p, e))
changed_line s (done one two three next) p = refl

changed_next : (s : Schema) (o : Outcome Schema) (b : List ℕ) → b ≡ picture s → base_after b o ≡ picture (changed s o).next
changed_next s (refused n value) b e = e
changed_next s (done one two three next) b e = refl

pub says_changed : {target : Schema → Reply} {rule : Schema → Outcome Schema} {a : Answer} {b b' out out' : List ℕ} {r : ℕ}
    → Kept b rule a b' → target (schema_of b) ≡ changed (schema_of b) (rule (schema_of b)) → Beyond 0 (rule (schema_of b))
    → length b' ≡ base_length → Printed out 0 (said_of a) out' r → Says target b b' out out' r
says_changed {target} {rule} {a} {b} {b'} {out} {out'} {r} k t pos long p = record {
  long = long;
  room = p.long;
  within = printed_within p;
  said = λ sound.
      let s = schema_of b in
      let shown = (sound_stored sound).shown in
      let (answered, after) = k.kept s (sound_good sound) shown in (
        printed_line p ∙ ap (λ (x : Answer). said_of x) answered ∙ changed_line s (rule s) pos ∙ ap (λ (x : Reply). x.line) (sym t),
        after ∙ changed_next s (rule s) b shown ∙ ap (λ (x : Reply). picture x.next) (sym t),
      );
}

-- ---- a question about the type that is found

-- the answer of a question that is refused, and of one that is done
refused_by : {a : Answer} (o : Outcome (List ℕ)) → a ≡ answer_of o → (a.no ≡ 0 → ⊥) → o ≡ refused a.no a.one
refused_by (refused n value) e h = ap (λ (x : Answer). refused x.no x.one) (sym e)
refused_by (done one two three list) e h = absurd (h (ap (λ (x : Answer). x.no) e))

done_by : {a : Answer} (o : Outcome (List ℕ)) → Beyond 0 o → a ≡ answer_of o → a.no ≡ 0 → (q : ℕ → Outcome (List ℕ)) → about_type o q ≡ q a.one
done_by (refused n value) p e z q = absurd (omega (arith, p, sym (ap (λ (x : Answer). x.no) e) ∙ z))
done_by (done one two three list) p e z q = ap (λ (x : Answer). q x.one) (sym e)

-- the rule's answer on a sound base
pub answer_is : {b : List ℕ} {rule : Schema → Outcome (List ℕ)} {a : Answer} → Answered b rule a → Sound b → a ≡ answer_of (rule (schema_of b))
answer_is {b} k sound = k.kept (schema_of b) (sound_good sound) (sound_stored sound).shown

asked_next : (values : ℕ → List ℕ → List ℕ) (s : Schema) (o : Outcome (List ℕ)) → s ≡ (asked values s o).next
asked_next values s (refused n value) = refl
asked_next values s (done one two three list) = refl

module _ {b : List ℕ} {found : Answer} {find : Schema → Outcome (List ℕ)} (target : Schema → Reply) (values : ℕ → List ℕ → List ℕ)
    (question : ℕ → Schema → Outcome (List ℕ)) (long : length b ≡ base_length) (f : Answered b find found)
    (is : target (schema_of b) ≡ asked values (schema_of b) (about_type (find (schema_of b)) (λ t. question t (schema_of b)))) where
  abbrev s : Schema
  s = schema_of b

  -- a text that the rule prints of the outcome o of one question or the other
  says_asked : {out text out' : List ℕ} {r : ℕ} (o : Outcome (List ℕ)) → (Sound b → about_type (find s) (λ t. question t s) ≡ o)
      → (Sound b → text ≡ (asked values s o).line) → Printed out 0 text out' r → Says target b b out out' r
  says_asked o e text p = record {
    long = long;
    room = p.long;
    within = printed_within p;
    said = λ sound.
        let all = is ∙ ap (λ (o : Outcome (List ℕ)). asked values s o) (e sound) in (
          printed_line p ∙ text sound ∙ ap (λ (x : Reply). x.line) (sym all),
          (sound_stored sound).shown ∙ ap picture (asked_next values s o) ∙ ap (λ (x : Reply). picture x.next) (sym all),
        );
  }

  pub says_not_found : {out out' : List ℕ} {r : ℕ} → (found.no ≡ 0 → ⊥) → Printed out 0 (decimal 20 found.no) out' r → Says target b b out out' r
  says_not_found h p =
      says_asked (refused found.no found.one)
      (λ sound. ap (λ (o : Outcome (List ℕ)). about_type o (λ t. question t s)) (refused_by (find s) (answer_is f sound) h))
      (λ sound. sym (printed_one found.no)) p

  pub says_found : {out text out' : List ℕ} {r : ℕ} → Beyond 0 (find s) → found.no ≡ 0
      → (Sound b → text ≡ (asked values s (question found.one s)).line) → Printed out 0 text out' r → Says target b b out out' r
  says_found pos z text p =
      says_asked (question found.one s) (λ sound. done_by (find s) pos (answer_is f sound) z (λ t. question t s)) text p

-- ---- the line of an outcome

-- one value
value_said : (s : Schema) (o : Outcome (List ℕ)) → Beyond 0 o → said_of (answer_of o) ≡ (asked (λ one list. one ∷ []) s o).line
unfolding spoken
value_said s (refused n value) p = spoken_refused n (value ∷ []) (λ e. omega (arith, p, e))
value_said s (done one two three list) p = refl

pub value_line : {a : Answer} (s : Schema) (o : Outcome (List ℕ)) → Beyond 0 o → a ≡ answer_of o → said_of a ≡ (asked (λ one list. one ∷ []) s o).line
value_line s o p is = ap (λ (x : Answer). said_of x) is ∙ value_said s o p

-- a scan's value is the length of its list, there are no more than 128 types, and a refusal tells 0
abbrev Counted : Outcome (List ℕ) → Type 0
Counted (refused n value) = value ≡ 0
Counted (done one two three list) = (one ≡ length list) × (length list ≤ 128)

scan_counted : (w : List ℕ) (t code room : ℕ) (s : Schema) → Counted (scan_object w t code room s)
unfolding scan_object object_scan_list shown all
scan_counted w t code room s =
    verdict_keeps Counted (scan_object_refusals w t code room s) _
    (λ r i. untold_at (scan_object_refusals w t code room s) refl i) (λ _. (refl, members_most _))

counted_few : (o : Outcome (List ℕ)) → Counted o → (answer_of o).one ≤ 128
counted_few (refused n value) c = omega (arith, c)
counted_few (done one two three list) c = omega (arith, c.0, c.1)

-- on any base: one that is not sound is refused
pub scan_few : {b before after : List ℕ} {a : Answer} (w : List ℕ) (t code room : ℕ) → Listed b (scan_object w t code room) a before after → a.one ≤ 128
scan_few {b} {a = a} w t code room k = go (ltb 128 a.one) refl
  where
    go : (x : Bool) → ltb 128 a.one ≡ x → a.one ≤ 128
    go false e = ltb-false 128 a.one e
    go true e =
        let many = ltb-true 128 a.one e in
        let spoiled : Sound b → ⊥
        = λ sound. let (is, _) = k.kept (schema_of b) (sound_good sound) (sound_stored sound).shown in
        omega (arith, many, ap (λ (x : Answer). x.one) is, counted_few (scan_object w t code room (schema_of b)) (scan_counted w t code room (schema_of b))) in
        absurd (omega (arith, many, ap (λ (x : Answer). x.one) (k.spoiled spoiled).0))

-- the count and the list
refused_line : (s : Schema) (o : Outcome (List ℕ)) → ((answer_of o).no ≡ 0 → ⊥) → said_of (answer_of o) ≡ (asked (λ one list. one ∷ list) s o).line
refused_line s (refused n value) h = spoken_refused n (value ∷ []) h
refused_line s (done one two three list) h = absurd (h refl)

list_line : (s : Schema) (o : Outcome (List ℕ)) (before : List ℕ) → Beyond 0 o → Counted o → (answer_of o).no ≡ 0
    → said_of (answer_of o) ++ spaced (read_entries (output_after before o) (answer_of o).one) ≡ (asked (λ one list. one ∷ list) s o).line
list_line s (refused n value) before p c z = absurd (omega (arith, p, z))
list_line s (done one two three list) before p c z =
    let rest = drop (length (entries list)) before in
    let read : read_entries (entries list ++ rest) one ≡ list = ap (read_entries (entries list ++ rest)) c.0 ∙ read_all list rest in
    ap (λ (l : List ℕ). spoken 0 (one ∷ []) ++ spaced l) read ∙ spoken_list one list

module _ {b before list : List ℕ} {a : Answer} (w : List ℕ) (t : ℕ) (k : Listed b (scan_object w t 1 128) a before list) (sound : Sound b) where
  abbrev scanned : Outcome (List ℕ)
  scanned = scan_object w t 1 128 (schema_of b)

  scan_is : (a ≡ answer_of scanned) × (list ≡ output_after before scanned)
  scan_is = k.kept (schema_of b) (sound_good sound) (sound_stored sound).shown

  pub no_list_line : (a.no ≡ 0 → ⊥) → said_of a ≡ (asked (λ one list. one ∷ list) (schema_of b) scanned).line
  no_list_line h =
      let (is, _) = scan_is in
      ap (λ (x : Answer). said_of x) is ∙ refused_line (schema_of b) scanned (λ e. h (ap (λ (x : Answer). x.no) is ∙ e))

  pub count_and_list_line : Beyond 0 scanned → a.no ≡ 0
      → said_of a ++ spaced (read_entries list a.one) ≡ (asked (λ one list. one ∷ list) (schema_of b) scanned).line
  count_and_list_line pos z =
      let (is, put) = scan_is in
      ap₂ (λ (x : Answer) (l : List ℕ). said_of x ++ spaced (read_entries l x.one)) is put
      ∙ list_line (schema_of b) scanned before pos (scan_counted w t 1 128 (schema_of b)) (sym (ap (λ (x : Answer). x.no) is) ∙ z)

-- ---- an unreadable line

pub says_unreadable : {b out out' : List ℕ} {r : ℕ} → length b ≡ base_length → Printed out 0 (bytes "?") out' r → Says unreadable b b out out' r
unfolding unreadable
says_unreadable long p = record {
  long = long;
  room = p.long;
  within = printed_within p;
  said = λ sound. (printed_line p, (sound_stored sound).shown);
}
