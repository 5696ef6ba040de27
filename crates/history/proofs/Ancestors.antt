-- An import brings the ancestors that the target lacks, and nothing else; 10 is never its answer; a name finds no nameless presence, and a
-- rename by number gives one a name that finds it (02, Q-8). Assumes nothing.
use Prim.Native.Nat.{ℕ}
use native.Mathlib.Omega.{arith}
use mathlib.Core.Path.{◌≡◌, refl, sym, ap, ◌∙◌, subst}
use mathlib.Core.Logic.{◌⊎◌, inl, inr, ⊎_elim}
use mathlib.Core.List.{List}
use mathlib.Core.Bool.{true, false, not, true≢false}
use lib.Dec.{eqb}
use borrow.Author.Tests.{not-false, eq-eqb}
use Rattle.rules.specs.declared.Answer.{Answer}
use Rattle.rules.specs.01-Lists.{◌∈◌, any, all, first}
use Rattle.rules.specs.03-Names.{Name, blank, same_name}
use Rattle.rules.specs.04-Schema.{Schema, Presence, new_presence, nowhere, with_reverse, holds_name, present, bears, type_named}
use Rattle.rules.specs.04-Schema.{type_presence}
use Rattle.rules.specs.05-Descent.{Descends}
use Rattle.rules.specs.06-Good.{presence_before, Good}
use Rattle.rules.specs.07-Picture.{Sound}
use Rattle.rules.specs.09-Refusals.{answer_of, no_name_listed}
use Rattle.rules.specs.09-Refusals.Outcome.{done}
use Rattle.rules.specs.10-Changes.{nameless, incoming, import, import_refusals, renamed, rename_number, rename_number_refusals}
use Rattle.rules.specs.11-Asks.{find, find_refusals}
use Rattle.rules.specs.12-Contracts.{Kept}
use Rattle.rules.specs.13-History.{next}
use Rattle.rules.proofs.Bools.{and_both, and_of}
use Rattle.rules.proofs.01-Lists.{any_at, all_at}
use Rattle.rules.proofs.03-Names.{same_name_refl, same_blank, formed_named}
use Rattle.rules.proofs.Edits.{put_new, put_all_in, put_all_old, put_all_new, first_in}
use Rattle.rules.proofs.08-Working.{bearer, holder_is}
use Rattle.rules.proofs.09-Refusals.{verdict_keeps, verdict_done}
use Rattle.rules.proofs.12-Contracts.{no_of}
use Rattle.history.proofs.Imports.{after, type_comes, missing_comes, type_there, missing_of, ancestor_there, import_keeps}
use Rattle.history.proofs.Passed.{formed}
use Rattle.history.proofs.Renames.{rename_number_keeps}

-- ---- "10 no longer occurs for parents, which is to be proved" (02, Q-8): by no input, on any schema and on any bytes

module _ (target source : ℕ) (n new new_reverse : Name) where
  pub import_never_10 : (s : Schema) → (answer_of (import target source n new new_reverse s)).no ≡ 10 → ⊥
  unfolding import all
  import_never_10 s =
      verdict_keeps (λ o. (answer_of o).no ≡ 10 → ⊥) (import_refusals target source n new new_reverse s) _
      (λ r i e. true≢false
      (sym (all_at (λ r. not (eqb r.no 10)) {l = import_refusals target source n new new_reverse s} refl i) ∙ ap not (eq-eqb r.no 10 e)))
      (λ _ e. omega arith)

  pub import_answers_never_10 : {before after : List ℕ} {answer : Answer} → Kept before (import target source n new new_reverse) answer after
      → answer.no ≡ 10 → ⊥
  import_answers_never_10 {before} k e =
      let unsound : Sound before → ⊥
      = λ x. import_never_10 x.schema (sym (no_of (k.kept x.schema x.good x.shown).0) ∙ e) in
      let z : ◌≡◌ {A = ℕ} 1 10 = sym (no_of (k.spoiled unsound).0) ∙ e in
      omega arith

-- ---- after an import that is done

-- an SDS holds a type, its reverse and all its ancestors
pub record HoldsAll (s s' : Schema) (d t : ℕ) : Type 0 where
  pub types : (u : ℕ) → u ∈ with_reverse s t → present s' d u ≡ true
  pub ancestors : (a : ℕ) → Descends s t a → present s' d a ≡ true

-- no presence is new but these, and nothing else is altered
pub record OnlyAdded (s s' : Schema) (new : List Presence) : Type 0 where
  pub added : (p : Presence) → p ∈ s'.presences → (p ∈ s.presences) ⊎ (p ∈ new)
  pub kept : (p : Presence) → p ∈ s.presences → p ∈ s'.presences
  pub sdss : s'.sdss ≡ s.sdss
  pub types : s'.types ≡ s.types
  pub applications : s'.applications ≡ s.applications
  pub ends : s'.ends ≡ s.ends

module _ (target source : ℕ) (n new new_reverse : Name) (s : Schema) {a b c : ℕ} {s' : Schema}
    (e : import target source n new new_reverse s ≡ done a b c s') where
  abbrev t : ℕ
  t = type_named s source n

  made : after target source t new new_reverse s ≡ s'
  unfolding import
  made =
      verdict_done (λ s'. after target source t new new_reverse s ≡ s') (import_refusals target source n new new_reverse s) _ _ _ _ e (λ _. refl)

  -- and nothing but what comes by name and the missing ancestors (02, Q-8); "Applications and ends don't come along."
  pub import_adds_no_more : OnlyAdded s s' (incoming target source t new new_reverse s)
  import_adds_no_more =
      let coming = incoming target source t new new_reverse s in
      subst (λ (z : Schema). OnlyAdded s z coming) made
      (record {
        added = λ p i. ⊎_elim inr inl (put_all_in presence_before coming s.presences i);
        kept = λ p i. put_all_old presence_before coming s.presences i;
        sdss = refl;
        types = refl;
        applications = refl;
        ends = refl;
      })

  there : {p : Presence} → p ∈ incoming target source t new new_reverse s → p ∈ s'.presences
  there {p} i = subst (λ (z : Schema). p ∈ z.presences) made (put_all_new presence_before (incoming target source t new new_reverse s) s.presences i)

  module _ (g : Good s) where
    -- "An import shall add the missing ancestors too" (02, Q-8)
    pub import_holds : HoldsAll s s' target t
    import_holds =
        subst (λ (z : Schema). HoldsAll s z target t) made
        (record { types = type_there target source t new new_reverse s; ancestors = ancestor_there target source t new new_reverse s g })

    good_after : Good s'
    good_after = subst Good (ap (next s) e) (import_keeps target source n new new_reverse s g)

    -- what comes has all five modes and, as the schema is good, comes once; the ancestors "without a local name" (02, Q-8)
    pub brought_named : (u : ℕ) → u ∈ with_reverse s t → (m : Name) × (type_presence s' target u ≡ new_presence target m u)
    brought_named u i =
        let (m, j) = type_comes target source t new new_reverse s u i in
        (m, holder_is good_after target u (new_presence target m u) (there j) refl refl)

    pub brought_once : (a : ℕ) → Descends s t a → present s target a ≡ false → type_presence s' target a ≡ nameless target a
    brought_once a above lacks =
        holder_is good_after target a (nameless target a)
        (there (missing_comes target source t new new_reverse s a (missing_of target source t new new_reverse s g a above lacks))) refl refl

-- ---- "a name looked for never finds a nameless one" (02, Q-8)

pub name_finds_named : (s : Schema) (d : ℕ) (n : Name) → blank n ≡ false → bears s d n ≡ true
    → blank (first (holds_name d n) nowhere s.presences).name ≡ false
unfolding bears
name_finds_named s d n named e =
    let p = first (holds_name d n) nowhere s.presences in
    same_blank p.name n (and_both (eqb p.sds d) (same_name p.name n) (first_in (holds_name d n) nowhere s.presences e).1).1 ∙ named

-- so what *find* tells is in a listed SDS under a name
pub find_finds_named : (w : List ℕ) (n : Name) (s : Schema) {t a b : ℕ} {l : List ℕ} → find w n s ≡ done t a b l
    → (d : ℕ) × (d ∈ w) × (p : Presence) × (p ∈ s.presences) × (p.sds ≡ d) × (p.type ≡ t) × (blank p.name ≡ false)
unfolding find no_name_listed
find_finds_named w n s {t} {a} {b} {l} =
    verdict_keeps
    (λ o. o ≡ done t a b l → (d : ℕ) × (d ∈ w) × (p : Presence) × (p ∈ s.presences) × (p.sds ≡ d) × (p.type ≡ t) × (blank p.name ≡ false))
    (find_refusals w n s) _
    (λ r _ e. absurd (let z : ◌≡◌ {A = ℕ} 0 1 = cc in omega arith))
    (λ passed e.
    let d = first (λ d. bears s d n) 0 w in
    let (i, borne) = first_in (λ d. bears s d n) 0 w (not-false (any (λ d. bears s d n) w) (passed.fails 6)) in
    let (p, j, at, same, of) = bearer s d n borne in
    let is : type_named s d n ≡ t = cc in
    (d, i, p, j, at, of ∙ is, same_blank p.name n same ∙ formed_named n (formed n (passed.fails 4))))

-- ---- "Rename and remove also accept a type number, so that nameless presences can be handled" (02, Q-8): the new name finds the type

pub rename_number_names : (d t : ℕ) (new : Name) (s : Schema) → Good s → {a b c : ℕ} {s' : Schema} → rename_number d t new s ≡ done a b c s'
    → (bears s' d new ≡ true) × (type_named s' d new ≡ t)
unfolding rename_number bears
rename_number_names d t new s g {s' = s'} e =
    let x = renamed d new t s in
    let (i, named) = verdict_done (λ s'. (x ∈ s'.presences) × (blank new ≡ false)) (rename_number_refusals d t new s) _ _ _ _ e
    (λ passed. (put_new presence_before x _, formed_named new (formed new (passed.fails 4)))) in
    let borne = any_at (holds_name d new) i (and_of (eqb d d) (same_name new new) (eq-eqb d d refl) (same_name_refl new)) in
    let (p, j, at, same, of) = bearer s' d new borne in
    let good = subst Good (ap (next s) e) (rename_number_keeps d t new s g) in
    let one : p ≡ x = good.local_names_unique p x j i at (same_blank p.name new same ∙ named) same in
    (borne, sym of ∙ ap (λ (q : Presence). q.type) one)
