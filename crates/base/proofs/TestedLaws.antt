-- The refusals of a call test by test, and its verdict where they were told at once. Assumes nothing.
use Prim.Native.Nat.{ℕ}
use native.Mathlib.Omega.{arith}
use mathlib.Core.Path.{◌≡◌, refl, sym, ap, ◌∙◌, subst}
use mathlib.Core.List.{List, [], ◌∷◌, ◌++◌, append-nil}
use mathlib.Core.Bool.{Bool, true, false, cond, true≢false}
use lib.Dec.{ltb}
use Rattle.rules.specs.declared.Answer.{Answer}
use Rattle.rules.specs.01-Lists.{all}
use Rattle.rules.specs.04-Schema.{Schema}
use Rattle.rules.specs.07-Picture.{Sound}
use Rattle.std.specs.Prelude.{Result, Ok, Err, IsErr, IsErrAnd}
use Rattle.rules.specs.declared.Done.{Done}
use Rattle.rules.specs.declared.Refused.{Refused}
use Rattle.rules.specs.declared.Refused.TheVariants.{NotSound, UnknownSds, SystemSds, Malformed, UnknownCode, NoSuchType, WrongKind, Repeated}
use Rattle.rules.specs.declared.Refused.TheVariants.{AlreadyThere, NameTaken, SdsInUse, NotThere, NoRoom, ShortOutput, ChildPresent}
use Rattle.rules.specs.declared.Refused.TheVariants.{ApplicationPresent, EndPresent, UnknownMode, MalformedFile, UnsoundFile}
use Rattle.rules.specs.09-Refusals.{Outcome, Refusal, Refusals, verdict, telling, number_of, value_of, answered}
use Rattle.rules.specs.09-Refusals.Outcome.{refused}
use Rattle.rules.specs.12-Contracts.{Kept, Listed, Answered}
use Rattle.rules.proofs.Bools.{and_both}
use Rattle.rules.proofs.09-Refusals.{Left, ends, numbers_beyond}
use Rattle.base.specs.Back.{schema_of}
use Rattle.base.specs.Tested.{told, told_value, Tested, Tests, onward}
use Rattle.base.specs.Tested.Tested.{spoiled, tested}
use Rattle.base.proofs.Kept.{kept_spoiled, kept_refused, listed_spoiled, listed_as, answered_spoiled, answered_as}

-- ---- several conditions told at once

-- of two lists the first decides where one of its conditions holds, and else the second
module _ (rs rest : Refusals) where
  pub record First : Type 0 where
    pub no : told (rs ++ rest) ≡ told rs
    pub value : told_value (rs ++ rest) ≡ told_value rs

  pub record Rest : Type 0 where
    pub no : told (rs ++ rest) ≡ told rest
    pub value : told_value (rs ++ rest) ≡ told_value rest

first_told : (rs rest : Refusals) → (told rs ≡ 0 → ⊥) → First rs rest
unfolding told told_value
first_told [] rest n = absurd (n refl)
first_told (r ∷ rs) rest n = go r.holds refl n (first_told rs rest)
  where
    go : (x : Bool) → r.holds ≡ x → (cond x r.no (told rs) ≡ 0 → ⊥) → ((told rs ≡ 0 → ⊥) → First rs rest) → First (r ∷ rs) rest
    go true e n f = record { no = rw e; value = rw e }
    go false e n f = let g = f n in record { no = rw e g.no; value = rw e g.value }

rest_told : (rs rest : Refusals) → numbers_beyond 0 rs ≡ true → told rs ≡ 0 → Rest rs rest
unfolding told told_value all
rest_told [] rest h z = record { no = refl; value = refl }
rest_told (r ∷ rs) rest h z = let (first, more) = and_both (ltb 0 r.no) (numbers_beyond 0 rs) h in go r.holds refl first z (rest_told rs rest more)
  where
    go : (x : Bool) → r.holds ≡ x → ltb 0 r.no ≡ true → cond x r.no (told rs) ≡ 0 → (told rs ≡ 0 → Rest rs rest) → Rest (r ∷ rs) rest
    go true e positive z f = absurd (true≢false (sym positive ∙ ap (ltb 0) z))
    go false e positive z f = let g = f z in record { no = rw e g.no; value = rw e g.value }

module _ {Made : Type 0} {o : Outcome Made} (effect : Outcome Made) where
  told_stops : (rs rest : Refusals) → o ≡ verdict (rs ++ rest) effect → (told rs ≡ 0 → ⊥) → o ≡ refused (told rs) (told_value rs)
  unfolding told told_value verdict
  told_stops [] rest e n = absurd (n refl)
  told_stops (r ∷ rs) rest e n = go r.holds e n (told_stops rs rest)
    where
      go : (x : Bool) → o ≡ cond x (refused r.no r.value) (verdict (rs ++ rest) effect) → (cond x r.no (told rs) ≡ 0 → ⊥)
          → (o ≡ verdict (rs ++ rest) effect → (told rs ≡ 0 → ⊥) → o ≡ refused (told rs) (told_value rs))
          → o ≡ refused (cond x r.no (told rs)) (cond x r.value (told_value rs))
      go true e n f = e
      go false e n f = f e n

  told_passes : (rs rest : Refusals) → numbers_beyond 0 rs ≡ true → o ≡ verdict (rs ++ rest) effect → told rs ≡ 0 → o ≡ verdict rest effect
  unfolding told verdict all
  told_passes [] rest h e z = e
  told_passes (r ∷ rs) rest h e z =
      let (first, more) = and_both (ltb 0 r.no) (numbers_beyond 0 rs) h in
      go r.holds first e z (told_passes rs rest more)
    where
      go : (x : Bool) → ltb 0 r.no ≡ true → o ≡ cond x (refused r.no r.value) (verdict (rs ++ rest) effect) → cond x r.no (told rs) ≡ 0
          → (o ≡ verdict (rs ++ rest) effect → told rs ≡ 0 → o ≡ verdict rest effect) → o ≡ verdict rest effect
      go true positive e z f = absurd (true≢false (sym positive ∙ ap (ltb 0) z))
      go false positive e z f = f e z

-- ---- the tests, one after the other

-- the base is sound, and of all the conditions rs are left to tell
pub record Come (b : List ℕ) (whole rs : Refusals) : Type 0 where
  pub sound : Sound b
  pub no : told whole ≡ told rs
  pub value : told_value whole ≡ told_value rs

-- the conditions before that of number n have failed
abbrev pub Past : List ℕ → Refusals → ℕ → Type 0
Past b rs n = Come b rs (onward n rs)

-- a base that is not sound is told before all of them
pub come_spoiled : {b : List ℕ} {rs : Refusals} {no : ℕ} → (Sound b → ⊥) → no ≡ 1 → Tested b rs no 0
come_spoiled n e = spoiled n e refl

pub come_first : {b : List ℕ} {whole : Refusals} → Sound b → Come b whole whole
come_first s = record { sound = s; no = refl; value = refl }

module _ {b : List ℕ} {whole : Refusals} where
  pub come_next : {r : Refusal} {rs : Refusals} → Come b whole (r ∷ rs) → r.holds ≡ false → Come b whole rs
  unfolding told told_value
  come_next c e = record { sound = c.sound; no = c.no ∙ rw e; value = c.value ∙ rw e }

  pub come_stops : {r : Refusal} {rs : Refusals} {no : ℕ} → Come b whole (r ∷ rs) → r.holds ≡ true → no ≡ r.no → Tested b whole no r.value
  unfolding told told_value
  come_stops {r} {rs} c e q = tested c.sound (q ∙ sym (c.no ∙ number)) (sym (c.value ∙ value))
    where
      number : cond r.holds r.no (told rs) ≡ r.no
      number = rw e

      value : cond r.holds r.value (told_value rs) ≡ r.value
      value = rw e

  -- a function that is called tests what is left
  pub come_rest : {rs : Refusals} {no value : ℕ} → Come b whole rs → Tested b rs no value → Tested b whole no value
  come_rest c (spoiled n e f) = spoiled n e f
  come_rest c (tested s e f) = tested s (e ∙ sym c.no) (f ∙ sym c.value)

  pub come_through : Come b whole [] → Tested b whole 0 0
  unfolding told told_value
  come_through c = tested c.sound (sym c.no) (sym c.value)

-- ---- several conditions of a call told at once by a function that it calls

-- all is well with the conditions that were told
pub tested_sound : {b : List ℕ} {rs : Refusals} {no value : ℕ} → Tested b rs no value → no ≡ 0 → Sound b
tested_sound (spoiled n e f) z = absurd (omega arith)
tested_sound (tested s e f) z = s

-- the first of them, before the base is known to be sound
pub tested_first : {b : List ℕ} {rs : Refusals} (rest : Refusals) {no value : ℕ} → Tested b rs no value → (no ≡ 0 → ⊥) → Tested b (rs ++ rest) no value
tested_first rest (spoiled n e f) z = spoiled n e f
tested_first {rs = rs} rest (tested s e f) z =
    let g = first_told rs rest (λ w. z (e ∙ w)) in
    tested s (e ∙ sym g.no) (f ∙ sym g.value)

module _ {b : List ℕ} {whole : Refusals} (rs rest : Refusals) {no value : ℕ} (c : Come b whole (rs ++ rest)) where
  pub come_refused : Tested b rs no value → (no ≡ 0 → ⊥) → Tested b whole no value
  come_refused t z = come_rest c (tested_first rest t z)

  pub come_past : numbers_beyond 0 rs ≡ true → Tested b rs no value → no ≡ 0 → Come b whole rest
  come_past h (spoiled n e f) z = absurd (n c.sound)
  come_past h (tested s e f) z =
      let g = rest_told rs rest h (sym e ∙ z) in
      record { sound = s; no = c.no ∙ g.no; value = c.value ∙ g.value }

-- ---- what `?` hands on: r is the refusal e that it met

-- no refusal has the number of none
pub positive : (e : Refused) → number_of e ≡ 0 → ⊥
positive NotSound z = omega arith
positive UnknownSds z = omega arith
positive SystemSds z = omega arith
positive Malformed z = omega arith
positive UnknownCode z = omega arith
positive NoSuchType z = omega arith
positive WrongKind z = omega arith
positive Repeated z = omega arith
positive AlreadyThere z = omega arith
positive NameTaken z = omega arith
positive (SdsInUse t) z = omega arith
positive NotThere z = omega arith
positive NoRoom z = omega arith
positive ShortOutput z = omega arith
positive (ChildPresent t) z = omega arith
positive (ApplicationPresent t) z = omega arith
positive (EndPresent t) z = omega arith
positive UnknownMode z = omega arith
positive (MalformedFile at) z = omega arith
positive UnsoundFile z = omega arith

handed : {A : Type 0} (r : Result A Refused) (e : Refused) → IsErrAnd r (λ y. y ≡ e) → r ≡ Err e
handed (Ok x) e h = absurd h
handed (Err y) e h = ap Err h

module _ {A : Type 0} {b : List ℕ} (r : Result A Refused) (e : Refused) (on : IsErr r × IsErrAnd r (λ y. y ≡ e)) where
  -- a function that was called tests the conditions of its caller
  pub tests_on : {rs : Refusals} → Tested b rs (number_of e) (value_of e) → Tests b rs r
  tests_on {rs} t = subst (λ (x : Result A Refused). Tests b rs x) (sym (handed r e on.1)) t

  -- the first of them
  pub first_on : {rs : Refusals} (rest : Refusals) → Tested b rs (number_of e) (value_of e) → Tests b (rs ++ rest) r
  first_on rest t = tests_on (tested_first rest t (positive e))

  -- those that are left
  pub rest_on : {whole rs : Refusals} → Come b whole rs → Tested b rs (number_of e) (value_of e) → Tests b whole r
  rest_on c t = tests_on (come_rest c t)

-- the answer of what is handed on
pub answer_on : (r : Result Done Refused) (e : Refused) → IsErr r × IsErrAnd r (λ y. y ≡ e) → answered r ≡ telling (number_of e) (value_of e)
answer_on r e on = ap answered (handed r e on.1)

-- ---- the verdict of a call whose first conditions were told at once; rest is what it tests besides

module _ {Made : Type 0} {b : List ℕ} {rs : Refusals} {no value : ℕ} {o effect : Outcome Made} (rest : Refusals) where
  -- what holds of the base wherever the call refuses, for want of soundness or by its verdict
  begun_either : {P : Type 0} → Tested b rs no value → (no ≡ 0 → ⊥) → Left o (rs ++ rest) effect → ((Sound b → ⊥) → no ≡ 1 → value ≡ 0 → P)
      → (Sound b → o ≡ refused no value → P) → P
  begun_either (spoiled n e f) z l g h = g n e f
  begun_either (tested s e f) z l g h = h s (told_stops effect rs rest l.is (λ w. z (e ∙ w)) ∙ sym (λ i. refused (e i) (f i)))

  pub begun_passes : Tested b rs no value → no ≡ 0 → numbers_beyond 0 rs ≡ true → Left o (rs ++ rest) effect → Left o rest effect
  begun_passes (spoiled n e f) z h l = absurd (omega arith)
  begun_passes (tested s e f) z h l = record { is = told_passes effect rs rest h l.is (sym e ∙ z) }

-- the answer of a base that is not sound
unsound : {a : Answer} {no value : ℕ} → a ≡ telling no value → no ≡ 1 → value ≡ 0 → a ≡ telling 1 0
unsound q e f = q ∙ (λ i. telling (e i) (f i))

module _ {b : List ℕ} {rs : Refusals} {no value : ℕ} (rest : Refusals) {a : Answer} where
  pub begun_stops : {rule : Schema → Outcome Schema} {effect : Outcome Schema} → Tested b rs no value → (no ≡ 0 → ⊥)
      → Left (rule (schema_of b)) (rs ++ rest) effect → a ≡ telling no value → Kept b rule a b
  begun_stops t z l q = begun_either rest t z l (λ n e f. kept_spoiled n (unsound q e f)) (λ s r. kept_refused s r q)

  module _ {rule : Schema → Outcome (List ℕ)} {effect : Outcome (List ℕ)} where
    pub listed_stops : {out : List ℕ} → Tested b rs no value → (no ≡ 0 → ⊥) → Left (rule (schema_of b)) (rs ++ rest) effect → a ≡ telling no value
        → Listed b rule a out out
    listed_stops t z l q = begun_either rest t z l (λ n e f. listed_spoiled n (unsound q e f)) (λ s r. listed_as s r q refl)

    pub answered_stops : Tested b rs no value → (no ≡ 0 → ⊥) → Left (rule (schema_of b)) (rs ++ rest) effect → a ≡ telling no value → Answered b rule a
    answered_stops t z l q = begun_either rest t z l (λ n e f. answered_spoiled n (unsound q e f)) (λ s r. answered_as s r q)

-- ---- the verdict of a call that has tested all of its conditions

whole_left : {o effect : Outcome Schema} {rs : Refusals} → Left o rs effect → Left o (rs ++ []) effect
whole_left {o} {effect} {rs} l = record { is = l.is ∙ ap (λ (x : Refusals). verdict x effect) (sym (append-nil rs)) }

module _ {b : List ℕ} {rs : Refusals} {no value : ℕ} {effect : Outcome Schema} where
  pub tested_stops : {rule : Schema → Outcome Schema} {a : Answer} → Tested b rs no value → (no ≡ 0 → ⊥) → Left (rule (schema_of b)) rs effect
      → a ≡ telling no value → Kept b rule a b
  tested_stops t z l q = begun_stops [] t z (whole_left l) q

  pub tested_passes : {o : Outcome Schema} → Tested b rs no value → no ≡ 0 → numbers_beyond 0 rs ≡ true → Left o rs effect → o ≡ effect
  tested_passes t z h l = ends (begun_passes [] t z h (whole_left l))
