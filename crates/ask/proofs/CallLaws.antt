-- The calls over their view: what it leaves of the rule, and what is then listed. Assumes nothing.
use Prim.Native.Nat.{ℕ, ◌+◌, ◌^◌, ◌<◌}
use native.Mathlib.Omega.{arith}
use mathlib.Core.Path.{◌≡◌, refl, sym, ap, subst}
use mathlib.Core.List.{List, [], ◌∷◌, ◌++◌}
use mathlib.Core.Bool.{Bool, true, false, not}
use lib.Dec.{ltb}
use lib.ListN.{length}
use borrow.Author.Tests.{ltb-true, ltb-false, lt-ltb, le-ltb}
use Rattle.rules.specs.declared.Answer.{Answer}
use Rattle.rules.specs.01-Lists.{any, repeated}
use Rattle.rules.specs.04-Schema.{Schema, kind_of, is_object, is_link}
use Rattle.rules.specs.05-Descent.{depth, members}
use Rattle.rules.specs.07-Picture.{Sound}
use Rattle.rules.specs.08-Working.{shown}
use Rattle.rules.specs.09-Refusals.{◌when◌, Outcome, Refusals, verdict, success, unknown_sds, unknown_object_scan, unknown_link_scan}
use Rattle.rules.specs.09-Refusals.{not_visible, no_object, no_link, short_output}
use Rattle.rules.specs.09-Refusals.Outcome.{done}
use Rattle.rules.specs.11-Asks.{object_scan_list, scan_object, link_scan_list, scan_link, profile_ancestors, profile_attributes, profile_links}
use Rattle.rules.specs.11-Asks.{profile_list, profile, depth_of, marks, visible_descendant, descendant_set}
use Rattle.rules.specs.12-Contracts.{room, Listed}
use Rattle.rules.proofs.09-Refusals.{Left}
use Rattle.base.specs.Back.{schema_of}
use Rattle.base.proofs.Kept.{listed_as}
use Rattle.type_set.specs.declared.TypeSet.{TypeSet}
use Rattle.type_set.specs.Set.{bit, has}
use Rattle.type_set.proofs.Members.{members_alike}
use Rattle.type_set.proofs.Set.{words_are}
use Rattle.ask_scans.specs.View.{type_refusals, Through}
use Rattle.ask_scans.specs.Scans.{object_scan, link_scan, Scanned}
use Rattle.ask_scans.specs.Lists.{listing, three_listing, Puts}

-- ---- a rule's refusals begin with those of the view

past_last : (n code : ℕ) → not (ltb code (n + 1)) ≡ ltb n code
past_last n code = go (ltb n code) refl
  where
    go : (x : Bool) → ltb n code ≡ x → not (ltb code (n + 1)) ≡ x
    go true e = ap not (le-ltb code (n + 1) (let h = ltb-true n code e in omega arith))
    go false e = ap not (lt-ltb code (n + 1) (let h = ltb-false n code e in omega arith))

-- all that a scan tests, by whether its code is unknown and its type of the wrong kind
abbrev scan_tests : Schema → List ℕ → ℕ → Bool → Bool → ℕ → List ℕ → Refusals
scan_tests s w t unknown wrong room l =
    (2 when any (unknown_sds s) w) ∷ (5 when unknown) ∷ (6 when not_visible s w t) ∷ (7 when wrong) ∷ (8 when repeated w) ∷
    (15 when short_output room (length l)) ∷ []

abbrev pub room_test : ℕ → List ℕ → Refusals
room_test room l = (15 when short_output room (length l)) ∷ []

module _ (w : List ℕ) (t code room : ℕ) (s : Schema) where
  pub scan_object_left : Left (scan_object w t code room s) (type_refusals s w t false (ltb code 10) ++ room_test room (object_scan_list w t code s))
      (done (length (object_scan_list w t code s)) 0 0 (object_scan_list w t code s))
  unfolding scan_object no_object unknown_object_scan
  scan_object_left =
      let l = object_scan_list w t code s in
      record { is = ap (λ (x : Bool). verdict (scan_tests s w t x (not (is_object (kind_of s t))) room l) (done (length l) 0 0 l)) (sym (past_last 9 code)) }

  pub scan_link_left : Left (scan_link w t code room s) (type_refusals s w t true (ltb code 5) ++ room_test room (link_scan_list w t code s))
      (done (length (link_scan_list w t code s)) 0 0 (link_scan_list w t code s))
  unfolding scan_link no_link unknown_link_scan
  scan_link_left =
      let l = link_scan_list w t code s in
      record { is = ap (λ (x : Bool). verdict (scan_tests s w t x (not (is_link (kind_of s t))) room l) (done (length l) 0 0 l)) (sym (past_last 4 code)) }

module _ (w : List ℕ) (t : ℕ) where
  pub profile_left : (room : ℕ) (s : Schema) → Left (profile w t room s) (type_refusals s w t false true ++ room_test room (profile_list w t s))
      (done (length (profile_ancestors w t s)) (length (profile_attributes w t s)) (length (profile_links w t s)) (profile_list w t s))
  unfolding profile no_object verdict
  profile_left room s = record { is = refl }

  pub depth_left : (s : Schema) → Left (depth_of w t s) (type_refusals s w t false true ++ []) (done (depth s t) 0 0 [])
  unfolding depth_of no_object verdict
  depth_left s = record { is = refl }

  pub descendant_left : (s : Schema) → Left (descendant_set w t s) (type_refusals s w t false true ++ [])
      (done (marks 0 64 (visible_descendant w t s)) (marks 64 64 (visible_descendant w t s)) (length (members (visible_descendant w t s))) [])
  unfolding descendant_set no_object verdict
  descendant_left s = record { is = refl }

-- ---- what is visible of a scan is its list

module _ {b w : List ℕ} {t : ℕ} {link : Bool} {word : ℕ} (through : Through b w t link word) (p : ℕ → Bool) where
  pub object_list : (code : ℕ) → Scanned (schema_of b) (bit word) (λ w. object_scan (schema_of b) w t code) p
      → members p ≡ object_scan_list w t code (schema_of b)
  unfolding object_scan_list shown
  object_list code scanned = members_alike _ _ (λ k h. scanned.is w through.listed k)

  pub link_list : (code : ℕ) → Scanned (schema_of b) (bit word) (λ w. link_scan (schema_of b) w t code) p
      → members p ≡ link_scan_list w t code (schema_of b)
  unfolding link_scan_list shown
  link_list code scanned = members_alike _ _ (λ k h. scanned.is w through.listed k)

  pub descendants_seen : Scanned (schema_of b) (bit word) (λ w. object_scan (schema_of b) w t 1) p → (k : ℕ)
      → p k ≡ visible_descendant w t (schema_of b) k
  unfolding visible_descendant
  descendants_seen scanned k = scanned.is w through.listed k

-- ---- done, or refused for want of room

module _ {b : List ℕ} {rule : Schema → Outcome (List ℕ)} {a : Answer} {before after : List ℕ} (sound : Sound b) where
  pub listed_put : (l m : List ℕ) → l ≡ m → Puts (listing l (room before)) a before after
      → Left (rule (schema_of b)) (room_test (room before) m) (done (length m) 0 0 m) → Listed b rule a before after
  unfolding listing
  listed_put l m e puts left =
      let puts' = subst (λ (x : List ℕ). Puts (listing x (room before)) a before after) e puts in
      listed_as sound left.is puts'.answers puts'.outputs

  pub listed_three : {l m n l' m' n' : List ℕ} → l ≡ l' → m ≡ m' → n ≡ n' → Puts (three_listing l m n (room before)) a before after
      → Left (rule (schema_of b)) (room_test (room before) (l' ++ (m' ++ n'))) (done (length l') (length m') (length n') (l' ++ (m' ++ n')))
      → Listed b rule a before after
  unfolding three_listing
  listed_three {l} {m} {n} e f g puts left =
      let moved = subst (λ (x : Outcome (List ℕ)). Puts x a before after) (λ i. three_listing (e i) (f i) (g i) (room before)) puts in
      listed_as sound left.is moved.answers moved.outputs

-- the words of the set, and its count
pub set_answer : (s : TypeSet) (p : ℕ → Bool) → s.low < 2 ^ 64 → s.high < 2 ^ 64 → ((k : ℕ) → has s k ≡ p k)
    → success s.low s.high (length (members (has s))) ≡ success (marks 0 64 p) (marks 64 64 p) (length (members p))
set_answer s p l h e =
    let (low, high) = words_are s p l h (λ k u. e k) in
    λ i. success (low i) (high i) (length (members_alike (has s) p (λ k u. e k) i))
