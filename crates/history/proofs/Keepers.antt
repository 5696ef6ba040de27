-- "Four empty keepers are shut out": one that refuses always, one that answers alike always, one that stores nothing, and one that
-- works at the first call and feigns afterwards. None of them keeps its contracts. Assumes nothing.
use Prim.Native.Nat.{ℕ}
use native.Mathlib.Omega.{arith}
use mathlib.Core.Path.{◌≡◌, refl, sym, subst, ap, ◌∙◌}
use mathlib.Core.List.{List, [], ◌∷◌, ◌++◌}
use lib.ListN.{length, get_or, set}
use Rattle.rules.specs.declared.Answer.{Answer}
use Rattle.rules.specs.01-Lists.{bytes, any, all, numbers}
use Rattle.rules.specs.03-Names.{letter, letter_or_digit, well_formed}
use Rattle.rules.specs.04-Schema.{with_sdss, Schema, fresh, used_sds}
use Rattle.rules.specs.06-Good.{Good}
use Rattle.rules.specs.07-Picture.{Sound, picture, pad, sds_row, table}
use Rattle.rules.specs.09-Refusals.{Outcome, verdict, answer_of, success, malformed, sds_name_taken, no_free_sds, free_sdss}
use Rattle.rules.specs.09-Refusals.Outcome.{done}
use Rattle.rules.specs.10-Changes as Changes
use Rattle.rules.specs.12-Contracts.{base_after}
use Rattle.rules.specs.13-History.{Call, next, after, after_all, Allowed, Runs, Begun}
use Rattle.rules.specs.13-History.Change.{new_sds}
use Rattle.rules.specs.13-History.Call.{begin_fresh, change, ask, read}
use Rattle.rules.specs.13-History.Runs.{stop, step}
use Rattle.rules.proofs.03-Names.{unlike_long}
use Rattle.rules.proofs.06-Good.{fresh_good}
use Rattle.rules.proofs.07-Picture.{picture_length, picture_same}
use Rattle.rules.proofs.12-Contracts.{no_of, short_read}
use Rattle.history.proofs.Numbers.{allowed_not_1}
use Rattle.history.proofs.Demand.{demand_3}
use Rattle.history.proofs.SdsChanges.{new_sds_keeps}

-- what a keeper answers to a call and leaves of the base; it may remember the calls before, the last of them first
abbrev pub Keeper : Type 0
Keeper = List Call → Call → List ℕ → Answer × List ℕ

pub record Keeps (k : Keeper) : Type 0 where
  pub allowed : (past : List Call) (c : Call) (b : List ℕ) → Allowed c b (k past c b).0 (k past c b).1

-- ---- two calls, and what the rules make of them

abbrev pub new_bus : Call
new_bus = change (new_sds (bytes "bus"))

abbrev pub new_radio : Call
new_radio = change (new_sds (bytes "radio"))

abbrev with_bus : Schema
with_bus = with_sdss fresh (set fresh.sdss 1 (bytes "bus"))

abbrev with_both : Schema
with_both = with_sdss with_bus (set with_bus.sdss 2 (bytes "radio"))

bus_done : Changes.new_sds (bytes "bus") fresh ≡ done 1 0 0 with_bus
unfolding Changes.new_sds verdict malformed sds_name_taken no_free_sds free_sdss well_formed letter letter_or_digit all any numbers fresh used_sds
bus_done = rw (unlike_long (bytes "system") (bytes "bus") (λ e. omega arith))

radio_done : Changes.new_sds (bytes "radio") with_bus ≡ done 2 0 0 with_both
unfolding Changes.new_sds verdict malformed sds_name_taken no_free_sds free_sdss well_formed letter letter_or_digit all any numbers fresh used_sds
radio_done = rw (unlike_long (bytes "system") (bytes "radio") (λ e. omega arith), unlike_long (bytes "bus") (bytes "radio") (λ e. omega arith))

-- the first byte of each SDS's name in the base
fresh_byte : get_or (picture fresh) 16 0 ≡ 0
unfolding picture table sds_row pad fresh
fresh_byte = refl

bus_byte : get_or (picture with_bus) 16 0 ≡ 98
unfolding picture table sds_row pad fresh
bus_byte = refl

bus_next_byte : get_or (picture with_bus) 32 0 ≡ 0
unfolding picture table sds_row pad fresh
bus_next_byte = refl

radio_byte : get_or (picture with_both) 32 0 ≡ 114
unfolding picture table sds_row pad fresh
radio_byte = refl

bus_kept : {a : Answer} {b : List ℕ} → Allowed new_bus (picture fresh) a b → (a ≡ success 1 0 0) × (b ≡ picture with_bus)
bus_kept k =
    let (x, y) = k.kept fresh fresh_good refl in
    (x ∙ ap (λ (o : Outcome Schema). answer_of o) bus_done, y ∙ ap (base_after (picture fresh)) bus_done)

-- ---- the schema after the first is good

bus_good : Good with_bus
bus_good = subst (λ (o : Outcome Schema). Good (next fresh o)) bus_done (new_sds_keeps (bytes "bus") fresh fresh_good)

radio_kept : {b b' : List ℕ} {a : Answer} → b ≡ picture with_bus → Allowed new_radio b a b' → b' ≡ picture with_both
radio_kept {b} e k = (k.kept with_bus bus_good e).1 ∙ ap (base_after b) radio_done

second_stored : {b b' : List ℕ} {a : Answer} → b ≡ picture with_bus → Allowed new_radio b a b' → b' ≡ b → ⊥
second_stored stored k same =
    let e : picture with_bus ≡ picture with_both = sym stored ∙ sym same ∙ radio_kept stored k in
    let z : ◌≡◌ {A = ℕ} 0 114 = sym bus_next_byte ∙ ap (λ (x : List ℕ). get_or x 32 0) e ∙ radio_byte in
    omega arith

-- ---- every call answers 1 on no bytes at all, and not so on a fresh base

no_base : Sound [] → ⊥
no_base x = let e : length (picture x.schema) ≡ 0 = sym (ap (λ (b : List ℕ). length b) x.shown) in omega (arith, picture_length x.schema)

spoiled_1 : (c : Call) (a : Answer) (b : List ℕ) → Allowed c [] a b → a.no ≡ 1
spoiled_1 begin_fresh a b k = no_of (k.wrong_length (λ h. omega arith)).0
spoiled_1 (change c) a b k = no_of (k.spoiled no_base).0
spoiled_1 (ask q) a b k = no_of (k.1.spoiled no_base)
spoiled_1 (read file r) a b k = no_of (short_read (λ h. omega arith) k).0

-- ---- the four

module _ (k : Keeper) (keeps : Keeps k) where
  -- a new SDS is to be made in a fresh base
  pub not_refuses_always : ((past : List Call) (c : Call) (b : List ℕ) → (k past c b).0.no ≡ 0 → ⊥) → ⊥
  not_refuses_always refuses = refuses [] new_bus (picture fresh) (no_of (bus_kept (keeps.allowed [] new_bus (picture fresh))).0)

  -- no call at all may answer alike always
  pub not_answers_alike : (c : Call) (a : Answer) → ((past : List Call) (b : List ℕ) → (k past c b).0 ≡ a) → ⊥
  not_answers_alike c a alike =
      allowed_not_1 fresh fresh_good c a (k [] c (picture fresh)).1 (alone (picture fresh)) (spoiled_1 c a (k [] c []).1 (alone []))
    where
      alone : (b : List ℕ) → Allowed c b a (k [] c b).1
      alone b = subst (λ (x : Answer). Allowed c b x (k [] c b).1) (alike [] b) (keeps.allowed [] c b)

  -- a new SDS is to be stored
  pub not_stores_nothing : ((past : List Call) (c : Call) (b : List ℕ) → (k past c b).1 ≡ b) → ⊥
  not_stores_nothing same =
      let e : picture fresh ≡ picture with_bus = sym (same [] new_bus (picture fresh)) ∙ (bus_kept (keeps.allowed [] new_bus (picture fresh))).1 in
      let z : ◌≡◌ {A = ℕ} 0 98 = sym fresh_byte ∙ ap (λ (b : List ℕ). get_or b 16 0) e ∙ bus_byte in
      omega arith

  -- and a second one too, however well the first was stored
  pub not_feigns_afterwards : ((before : Call) (past : List Call) (c : Call) (b : List ℕ) → (k (before ∷ past) c b).1 ≡ b) → ⊥
  not_feigns_afterwards same =
      let b = (k [] new_bus (picture fresh)).1 in
      second_stored (bus_kept (keeps.allowed [] new_bus (picture fresh))).1 (keeps.allowed (new_bus ∷ []) new_radio b) (same new_bus [] new_radio b)

-- ---- the last of them over runs

one_step : {b b' : List ℕ} {c : Call} → Runs b (c ∷ []) b' → (answer : Answer) × Allowed c b answer b'
one_step (step c answer k stop) = (answer, k)

-- the second of two calls from a fresh base
pub second_not_feigned : (b : List ℕ) → Runs (picture fresh) (new_bus ∷ []) b → Runs b (new_radio ∷ []) b → ⊥
second_not_feigned b r q = second_stored (bus_kept (one_step r).1).1 (one_step q).1 refl

runs_on : {b b' b'' : List ℕ} {cs ds : List Call} → Runs b cs b' → Runs b' ds b'' → Runs b (cs ++ ds) b''
runs_on stop r = r
runs_on (step c answer k q) r = step c answer k (runs_on q r)

after_on : (s : Schema) (cs ds : List Call) → after_all s (cs ++ ds) ≡ after_all (after_all s cs) ds
unfolding after_all
after_on s [] ds = refl
after_on s (c ∷ cs) ds = after_on (after s c) cs ds

-- whatever was called before, a keeper that leaves the base as it was does so because the rules leave the schema as it was
pub never_feigns : {s : Schema} {b : List ℕ} → Begun s b → (cs : List Call) (c : Call) (b' : List ℕ) → Runs b cs b' → Runs b' (c ∷ []) b'
    → after (after_all s cs) c ≡ after_all s cs
unfolding after_all
never_feigns {s} begun cs c b r q =
    let both : picture (after_all s (cs ++ (c ∷ []))) ≡ picture (after_all s cs)
    = sym (demand_3.bytes begun (cs ++ (c ∷ [])) b (runs_on r q)) ∙ demand_3.bytes begun cs b r in
    sym (after_on s cs (c ∷ [])) ∙ picture_same (demand_3.good begun (cs ++ (c ∷ []))) (demand_3.good begun cs) both
