-- Every refusal has a number beyond 1, so that no call answers 1 on the base of a good schema; and of a rule's refusals all but four
-- numbers tell zeros (02, Q-1). Assumes nothing.
use Prim.Native.Nat.{ℕ, ◌<◌}
use native.Mathlib.Omega.{arith}
use mathlib.Core.Path.{◌≡◌, refl, sym, ◌∙◌}
use mathlib.Core.Logic.{⊎_elim}
use mathlib.Core.List.{List, [], ◌∷◌}
use mathlib.Core.Bool.{Bool, true, false, ◌&&◌, ◌||◌, true≢false}
use lib.Dec.{ltb, eqb}
use lib.ListN.{length}
use borrow.Author.Tests.{ltb-true, eqb-true}
use Rattle.rules.specs.declared.Answer.{Answer}
use Rattle.rules.specs.01-Lists.{any, all, among}
use Rattle.rules.specs.04-Schema.{Schema}
use Rattle.rules.specs.04-Schema.Side.{origin, destination}
use Rattle.rules.specs.06-Good.{Good}
use Rattle.rules.specs.07-Picture.{picture, base_length}
use Rattle.rules.specs.09-Refusals.{Outcome, Refusal, Refusals, verdict, answer_of}
use Rattle.rules.specs.09-Refusals.Outcome.{refused, done}
use Rattle.rules.specs.10-Changes as Changes
use Rattle.rules.specs.11-Asks as Asks
use Rattle.rules.specs.11-File as File
use Rattle.rules.specs.12-Contracts.{ReadIn}
use Rattle.rules.specs.12-Contracts.ReadIn.{wrong_length, malformed, not_sound, read}
use Rattle.rules.specs.13-History.{Change, Ask, Call, change_rule, ask_rule, Allowed}
use Rattle.rules.specs.13-History.Change.{new_sds, remove_sds, new_object, new_attribute, new_designation, new_pair, import, apply}
use Rattle.rules.specs.13-History.Change.{unapply, apply_link, unapply_link, add_destination, remove_destination, remove_type, remove_number, rename}
use Rattle.rules.specs.13-History.Change.{rename_number, set_modes}
use Rattle.rules.specs.13-History.Ask.{scan_object, scan_link, profile, find, depth_of, name, descendant_set, modes_of, write_file}
use Rattle.rules.specs.13-History.Call.{begin_fresh, change, ask}
use Rattle.rules.proofs.Bools.{and_both, or_cases}
use Rattle.rules.proofs.01-Lists.{all_at}
use Rattle.rules.proofs.09-Refusals.{Refusing, verdict_keeps}
use Rattle.rules.proofs.07-Picture.{picture_length}
use Rattle.rules.proofs.12-Contracts.{no_of}

-- the numbers that tell a type
abbrev pub tells_type : ℕ → Bool
tells_type n = among (12 ∷ 16 ∷ 17 ∷ 18 ∷ []) n

abbrev pub Fair : ℕ → ℕ → Type 0
Fair n value = (1 < n) × (tells_type n ≡ false → value ≡ 0)

abbrev fair : Refusal → Bool
fair r = ltb 1 r.no && (tells_type r.no || eqb r.value 0)

verdict_fair : {Made : Type 0} (rs : Refusals) (effect : Outcome Made) → all fair rs ≡ true → Refusing Fair effect → Refusing Fair (verdict rs effect)
verdict_fair rs effect e so = verdict_keeps (Refusing Fair) rs effect (λ r i. each r (all_at fair e i)) (λ _. so)
  where
    each : (r : Refusal) → fair r ≡ true → Fair r.no r.value
    each r f =
        let (a, b) = and_both (ltb 1 r.no) (tells_type r.no || eqb r.value 0) f in
        (ltb-true 1 r.no a, λ n. ⊎_elim (λ g. absurd (true≢false (sym g ∙ n))) (eqb-true r.value 0) (or_cases (tells_type r.no) (eqb r.value 0) b))

not_1 : {Made : Type 0} (o : Outcome Made) → Refusing Fair o → (answer_of o).no ≡ 1 → ⊥
not_1 (refused n value) h e = omega (arith, h.0, e)
not_1 (done one two three made) h e = omega arith

pub change_refuses : (c : Change) (s : Schema) → Refusing Fair (change_rule c s)
unfolding
    any all Changes.new_sds Changes.remove_sds Changes.new_object Changes.new_attribute Changes.new_designation Changes.new_pair Changes.import
    Changes.apply Changes.unapply Changes.add_end Changes.remove_end Changes.remove_type Changes.remove_number Changes.rename
    Changes.rename_number Changes.set_modes
change_refuses (new_sds n) s = verdict_fair (Changes.new_sds_refusals n s) _ refl tt
change_refuses (remove_sds d) s = verdict_fair (Changes.remove_sds_refusals d s) _ refl tt
change_refuses (new_object d n run) s = verdict_fair (Changes.new_object_refusals d n run s) _ refl tt
change_refuses (new_attribute d n v) s = verdict_fair (Changes.new_attribute_refusals d n v s) _ refl tt
change_refuses (new_designation d n) s = verdict_fair (Changes.new_designation_refusals d n s) _ refl tt
change_refuses (new_pair d n m c c') s = verdict_fair (Changes.new_pair_refusals d n m c c' s) _ refl tt
change_refuses (import target source n new new_reverse) s = verdict_fair (Changes.import_refusals target source n new new_reverse s) _ refl tt
change_refuses (apply d a n) s = verdict_fair (Changes.apply_refusals d a n s) _ refl tt
change_refuses (unapply d a n) s = verdict_fair (Changes.unapply_refusals d a n s) _ refl tt
change_refuses (apply_link d n m) s = verdict_fair (Changes.add_end_refusals origin d n m s) _ refl tt
change_refuses (unapply_link d n m) s = verdict_fair (Changes.remove_end_refusals origin d n m s) _ refl tt
change_refuses (add_destination d n m) s = verdict_fair (Changes.add_end_refusals destination d n m s) _ refl tt
change_refuses (remove_destination d n m) s = verdict_fair (Changes.remove_end_refusals destination d n m s) _ refl tt
change_refuses (remove_type d n) s = verdict_fair (Changes.remove_type_refusals d n s) _ refl tt
change_refuses (remove_number d t) s = verdict_fair (Changes.remove_number_refusals d t s) _ refl tt
change_refuses (rename d n new) s = verdict_fair (Changes.rename_refusals d n new s) _ refl tt
change_refuses (rename_number d t new) s = verdict_fair (Changes.rename_number_refusals d t new s) _ refl tt
change_refuses (set_modes d n usage definition) s = verdict_fair (Changes.set_modes_refusals d n usage definition s) _ refl tt

pub ask_refuses : (q : Ask) (s : Schema) → Refusing Fair (ask_rule q s)
unfolding any all Asks.scan_object Asks.scan_link Asks.profile Asks.find Asks.depth_of Asks.name Asks.descendant_set Asks.modes_of File.write_file
ask_refuses (scan_object w t code room) s = verdict_fair (Asks.scan_object_refusals w t code room s) _ refl tt
ask_refuses (scan_link w t code room) s = verdict_fair (Asks.scan_link_refusals w t code room s) _ refl tt
ask_refuses (profile w t room) s = verdict_fair (Asks.profile_refusals w t room s) _ refl tt
ask_refuses (find w n) s = verdict_fair (Asks.find_refusals w n s) _ refl tt
ask_refuses (depth_of w t) s = verdict_fair (Asks.object_refusals w t s) _ refl tt
ask_refuses (name d t) s = verdict_fair (Asks.name_refusals d t s) _ refl tt
ask_refuses (descendant_set w t) s = verdict_fair (Asks.object_refusals w t s) _ refl tt
ask_refuses (modes_of w t) s = verdict_fair (Asks.modes_refusals w t s) _ refl tt
ask_refuses (write_file room) s = verdict_fair (File.write_file_refusals room s) _ refl tt

-- a read into bytes of a base's length does not answer 1
read_not_1 : {b file x : List ℕ} {a : Answer} → length b ≡ base_length → ReadIn b file a x → a.no ≡ 1 → ⊥
read_not_1 l (wrong_length n _ _) e = n l
read_not_1 l (malformed _ _ _ _ told _) e = omega (arith, no_of told, e)
read_not_1 l (not_sound _ _ _ told _) e = omega (arith, no_of told, e)
read_not_1 l (read _ _ _ told _) e = omega (arith, no_of told, e)

pub allowed_not_1 : (s : Schema) → Good s → (c : Call) (a : Answer) (b : List ℕ) → Allowed c (picture s) a b → a.no ≡ 1 → ⊥
allowed_not_1 s g begin_fresh a b k e = let z : ◌≡◌ {A = ℕ} 0 1 = sym (no_of (k.written (picture_length s)).0) ∙ e in omega arith
allowed_not_1 s g (change c) a b k e = not_1 (change_rule c s) (change_refuses c s) (sym (no_of (k.kept s g refl).0) ∙ e)
allowed_not_1 s g (ask q) a b k e = not_1 (ask_rule q s) (ask_refuses q s) (sym (no_of (k.1.kept s g refl)) ∙ e)
allowed_not_1 s g (Call.read file r) a b k e = read_not_1 (picture_length s) k e
