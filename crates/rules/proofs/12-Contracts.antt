-- Any two outcomes that a contract allows are equal: answer, base and output. It needs no decision of soundness, since what follows
-- both from soundness and from its failure is not false, and equality of numbers and bytes is decided. Assumes nothing.
use Prim.Native.Nat.{ℕ}
use native.Mathlib.Decide.{ℕ_discrete}
use native.Mathlib.Omega.{arith}
use mathlib.Core.Path.{◌≡◌, sym, ap, subst, ◌∙◌}
use mathlib.Core.Logic.Dec
use mathlib.Core.List.{List, List-discrete}
use lib.ListN.{length}
use Rattle.rules.specs.declared.Answer.{Answer}
use Rattle.rules.specs.04-Schema.{Schema}
use Rattle.rules.specs.06-Good.{Good}
use Rattle.rules.specs.07-Picture.{Sound, picture, base_length}
use Rattle.rules.specs.09-Refusals.{Outcome, telling, refusal, success}
use Rattle.rules.specs.11-File.{WellFormed, Longest, WrittenAs}
use Rattle.rules.specs.12-Contracts.{Kept, Listed, Answered, Handed, Freshened, Filed, ReadIn}
use Rattle.rules.specs.12-Contracts.ReadIn.{wrong_length, malformed, not_sound, read}
use Rattle.rules.proofs.11-File.{file_formed, file_once}

pub no_of : {a a' : Answer} → a ≡ a' → a.no ≡ a'.no
no_of e = ap (λ (x : Answer). x.no) e

weakly : {A P : Type 0} → (A → P) → ((A → ⊥) → P) → (P → ⊥) → ⊥
weakly f g n = n (g (λ a. n (f a)))

-- numbers, and so answers, that are the same where A holds and where it fails are the same
same_number : (A : Type 0) (x y : ℕ) → (A → x ≡ y) → ((A → ⊥) → x ≡ y) → x ≡ y
same_number A x y f g = (Dec.not-not (ℕ_discrete x y)).0 (weakly f g)

same_list : (A : Type 0) (x y : List ℕ) → (A → x ≡ y) → ((A → ⊥) → x ≡ y) → x ≡ y
same_list A x y f g = (Dec.not-not (List-discrete ℕ_discrete x y)).0 (weakly f g)

same_answer : (A : Type 0) (x y : Answer) → (A → x ≡ y) → ((A → ⊥) → x ≡ y) → x ≡ y
same_answer A x y f g = λ i. record {
  no = part (λ r. r.no) i;
  one = part (λ r. r.one) i;
  two = part (λ r. r.two) i;
  three = part (λ r. r.three) i;
}
  where
    part : (h : Answer → ℕ) → h x ≡ h y
    part h = same_number A (h x) (h y) (λ a. ap h (f a)) (λ n. ap h (g n))

-- two outcomes of a call: their answers, and what they leave of the base or the output
pub record Same (answer answer' : Answer) (area area' : List ℕ) : Type 0 where
  pub answers : answer ≡ answer'
  pub areas : area ≡ area'

-- both come to the same
meet : {a a' b : Answer} {x x' y : List ℕ} → (a ≡ b) × (x ≡ y) → (a' ≡ b) × (x' ≡ y) → (a ≡ a') × (x ≡ x')
meet h k = (h.0 ∙ sym k.0, h.1 ∙ sym k.1)

both : {a a' : Answer} {x x' : List ℕ} → (a ≡ a') × (x ≡ x') → Same a a' x x'
both h = record { answers = h.0; areas = h.1 }

same : (A : Type 0) {a a' : Answer} {x x' : List ℕ} → (A → (a ≡ a') × (x ≡ x')) → ((A → ⊥) → (a ≡ a') × (x ≡ x')) → Same a a' x x'
same A {a} {a'} {x} {x'} f g = record {
  answers = same_answer A a a' (λ h. (f h).0) (λ n. (g n).0);
  areas = same_list A x x' (λ h. (f h).1) (λ n. (g n).1);
}

module _ {b : List ℕ} {a a' : Answer} {x x' : List ℕ} where
  -- what is promised of a sound base, and of any other, leaves one answer and one area
  settled : {left : List ℕ} (answer : Schema → Answer) (after : Schema → List ℕ)
      → ((Sound b → ⊥) → (a ≡ refusal 1) × (x ≡ left)) → ((s : Schema) → Good s → b ≡ picture s → (a ≡ answer s) × (x ≡ after s))
      → ((Sound b → ⊥) → (a' ≡ refusal 1) × (x' ≡ left)) → ((s : Schema) → Good s → b ≡ picture s → (a' ≡ answer s) × (x' ≡ after s)) → Same a a' x x'
  settled answer after spoiled kept spoiled' kept' =
      same (Sound b)
      (λ s. meet (kept s.schema s.good s.shown) (kept' s.schema s.good s.shown))
      (λ n. meet (spoiled n) (spoiled' n))

  pub kept_once : {rule : Schema → Outcome Schema} → Kept b rule a x → Kept b rule a' x' → Same a a' x x'
  kept_once k k' = settled _ _ k.spoiled k.kept k'.spoiled k'.kept

  pub listed_once : {rule : Schema → Outcome (List ℕ)} {out : List ℕ} → Listed b rule a out x → Listed b rule a' out x' → Same a a' x x'
  listed_once k k' = settled _ _ k.spoiled k.kept k'.spoiled k'.kept

  pub filed_once : {rule : Schema → Outcome (List ℕ)} {out : List ℕ} → Filed b rule a out x → Filed b rule a' out x' → Same a a' x x'
  filed_once k k' = settled _ _ k.spoiled k.kept k'.spoiled k'.kept

  pub freshened_once : Freshened b a x → Freshened b a' x' → Same a a' x x'
  freshened_once k k' = same (length b ≡ base_length) (λ l. meet (k.written l) (k'.written l)) (λ n. meet (k.wrong_length n) (k'.wrong_length n))

pub answered_once : {b : List ℕ} {rule : Schema → Outcome (List ℕ)} {a a' : Answer} → Answered b rule a → Answered b rule a' → a ≡ a'
answered_once {b} {a = a} {a' = a'} k k' =
    same_answer (Sound b) a a'
    (λ s. k.kept s.schema s.good s.shown ∙ sym (k'.kept s.schema s.good s.shown))
    (λ n. k.spoiled n ∙ sym (k'.spoiled n))

pub handed_once : {b : List ℕ} {rule : Schema → Outcome (List ℕ)} {part part' : List ℕ} → Handed b rule part → Handed b rule part' → part ≡ part'
handed_once {b} {part = part} {part' = part'} k k' =
    same_list (Sound b) part part'
    (λ s. k.kept s.schema s.good s.shown ∙ sym (k'.kept s.schema s.good s.shown))
    (λ n. k.spoiled n ∙ sym (k'.spoiled n))

-- ---- a file read: each of the four cases shuts the others out

-- the longest start that is shared with some is one number
longest_once : {L : List ℕ → Type 0} {l : List ℕ} {k k' : ℕ} → Longest L l k → Longest L l k' → k ≡ k'
longest_once h h' = omega (arith, h.reached, h'.reached, h.most h'.some h'.is, h'.most h.some h.is)

pub formed_as : {file : List ℕ} {s : Schema} → WrittenAs file s → WellFormed file
formed_as w = subst WellFormed (sym w.is) (file_formed w.good)

module _ {b file : List ℕ} {a : Answer} {x : List ℕ} where
  pub short_read : (length b ≡ base_length → ⊥) → ReadIn b file a x → (a ≡ refusal 1) × (x ≡ b)
  short_read n (wrong_length _ e h) = (e, h)
  short_read n (malformed l _ _ _ _ _) = absurd (n l)
  short_read n (not_sound l _ _ _ _) = absurd (n l)
  short_read n (read l _ _ _ _) = absurd (n l)

  malformed_read : length b ≡ base_length → (WellFormed file → ⊥) → {start : ℕ} → Longest WellFormed file start → ReadIn b file a x
      → (a ≡ telling 20 start) × (x ≡ b)
  malformed_read l n h (wrong_length m _ _) = absurd (m l)
  malformed_read l n h (malformed _ _ start k e q) = (e ∙ ap (telling 20) (longest_once k h), q)
  malformed_read l n h (not_sound _ f _ _ _) = absurd (n f)
  malformed_read l n h (read _ s w _ _) = absurd (n (formed_as w))

  unsound_read : length b ≡ base_length → WellFormed file → ((s : Schema) → WrittenAs file s → ⊥) → ReadIn b file a x → (a ≡ refusal 21) × (x ≡ b)
  unsound_read l f n (wrong_length m _ _) = absurd (m l)
  unsound_read l f n (malformed _ m _ _ _ _) = absurd (m f)
  unsound_read l f n (not_sound _ _ _ e q) = (e, q)
  unsound_read l f n (read _ s w _ _) = absurd (n s w)

  -- the file of a good schema is read in, whatever the bytes were
  pub written_read : length b ≡ base_length → {s : Schema} → WrittenAs file s → ReadIn b file a x → (a ≡ success 0 0 0) × (x ≡ picture s)
  written_read l w (wrong_length m _ _) = absurd (m l)
  written_read l w (malformed _ m _ _ _ _) = absurd (m (formed_as w))
  written_read l {s} w (not_sound _ _ n _ _) = absurd (n s w)
  written_read l w (read _ s w' e q) = (e, q ∙ ap picture (file_once w'.good w.good (sym w'.is ∙ w.is)))

  -- what was read is the file of a good schema, and the base shows it
  pub read_done : ReadIn b file a x → a.no ≡ 0 → (s : Schema) × WrittenAs file s × (x ≡ picture s)
  read_done (wrong_length _ e _) z = absurd (omega (arith, no_of e, z))
  read_done (malformed _ _ _ _ e _) z = absurd (omega (arith, no_of e, z))
  read_done (not_sound _ _ _ e _) z = absurd (omega (arith, no_of e, z))
  read_done (read _ s w _ q) z = (s, w, q)

  -- "A refusal leaves the base as it was"
  pub refused_read : ReadIn b file a x → (a.no ≡ 0 → ⊥) → x ≡ b
  refused_read (wrong_length _ _ q) n = q
  refused_read (malformed _ _ _ _ _ q) n = q
  refused_read (not_sound _ _ _ _ q) n = q
  refused_read (read _ _ _ e _) n = absurd (n (no_of e))

pub read_once : {b file : List ℕ} {a a' : Answer} {x x' : List ℕ} → ReadIn b file a x → ReadIn b file a' x' → Same a a' x x'
read_once (wrong_length n e q) k = both (meet (e, q) (short_read n k))
read_once (malformed l n start h e q) k = both (meet (e, q) (malformed_read l n h k))
read_once (not_sound l f n e q) k = both (meet (e, q) (unsound_read l f n k))
read_once (read l s w e q) k = both (meet (e, q) (written_read l w k))
