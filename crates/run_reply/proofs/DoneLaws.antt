-- Each command, by the contract of the call that it makes. Assumes nothing.
use Prim.Native.Nat.{ℕ}
use mathlib.Core.Path.{◌≡◌, sym, ap, subst}
use Rattle.rules.specs.09-Refusals.{Outcome}
use mathlib.Core.List.{List, [], ◌∷◌}
use lib.ListN.{length, drop}
use Rattle.rules.specs.declared.Answer.{Answer}
use Rattle.rules.specs.03-Names.{Name}
use Rattle.rules.specs.04-Schema.{Schema}
use Rattle.rules.specs.07-Picture.{base_length}
use Rattle.rules.specs.10-Changes.{new_sds, import, new_object, remove_type}
use Rattle.rules.specs.11-Asks.{find, scan_object, depth_of}
use Rattle.rules.specs.12-Contracts.{Kept, Listed, Answered}
use Rattle.rules.specs.14-Run.{decimal, changed, asked, word, sds_word, joined, about_type}
use Rattle.rules.specs.14-Run.{obey_sds, obey_import, obey_object, obey_remove, obey_desc, obey_depth}
use Rattle.base.specs.Back.{schema_of}
use Rattle.run_print.specs.Print.{Printed, spaced, read_entries}
use Rattle.run_reply.specs.Reply.{Says}
use Rattle.run_print.proofs.PrintLaws.{printed_next}
use Rattle.run_reply.proofs.PositiveLaws.{new_sds_positive, import_positive, new_object_positive, remove_type_positive}
use Rattle.run_reply.proofs.PositiveLaws.{find_positive, scan_object_positive, depth_positive}
use Rattle.run_reply.proofs.SayLaws.{said_of, says_changed, says_not_found, says_found, answer_is, value_line, no_list_line, count_and_list_line}

-- what is promised of a call's outcome holds of the answer that it becomes
module _ {a x : Answer} (e : a ≡ x) {b : List ℕ} where
  pub kept_as : {rule : Schema → Outcome Schema} {b' : List ℕ} → Kept b rule x b' → Kept b rule a b'
  kept_as {rule} {b'} k = subst (λ (y : Answer). Kept b rule y b') (sym e) k

  pub asked_as : {rule : Schema → Outcome (List ℕ)} → Answered b rule x → Answered b rule a
  asked_as {rule} k = subst (λ (y : Answer). Answered b rule y) (sym e) k

  pub list_as : {rule : Schema → Outcome (List ℕ)} {before after : List ℕ} → Listed b rule x before after → Listed b rule a before after
  list_as {rule} {before} {after} k = subst (λ (y : Answer). Listed b rule y before after) (sym e) k

-- a number is printed as what it is
pub printed_as : {n m : ℕ} → n ≡ m → {out out' : List ℕ} {at r : ℕ} → Printed out at (decimal 20 n) out' r → Printed out at (decimal 20 m) out' r
printed_as e {out} {out'} {at} {r} p = subst (λ (k : ℕ). Printed out at (decimal 20 k) out' r) e p

-- ---- changes

module _ (ws : List Name) {b b' out out' : List ℕ} {a : Answer} {r : ℕ} (long : length b' ≡ base_length) (p : Printed out 0 (said_of a) out' r) where
  pub sds_done : (name : Name) → name ≡ word ws 1 → Kept b (new_sds name) a b' → Says (obey_sds ws) b b' out out' r
  unfolding obey_sds
  sds_done name e k =
      let s = schema_of b in
      says_changed k (ap (λ (n : Name). changed s (new_sds n s)) (sym e)) (new_sds_positive s name) long p

  pub import_done : (target source : ℕ) (name : Name) → target ≡ sds_word ws 1 (schema_of b) → source ≡ sds_word ws 2 (schema_of b)
      → name ≡ word ws 3 → Kept b (import target source name [] []) a b' → Says (obey_import ws) b b' out out' r
  unfolding obey_import
  import_done target source name d e f k =
      let s = schema_of b in
      says_changed k (sym (λ i. changed s (import (d i) (e i) (f i) [] [] s))) (import_positive s target source name [] []) long p

  pub object_done : (d : ℕ) (name : Name) (run : List ℕ) → d ≡ sds_word ws 1 (schema_of b) → name ≡ word ws 2 → run ≡ joined (drop 3 ws)
      → Kept b (new_object d name run) a b' → Says (obey_object ws) b b' out out' r
  unfolding obey_object
  object_done d name run e f g k =
      let s = schema_of b in
      says_changed k (sym (λ i. changed s (new_object (e i) (f i) (g i) s))) (new_object_positive s d name run) long p

  pub remove_done : (d : ℕ) (name : Name) → d ≡ sds_word ws 1 (schema_of b) → name ≡ word ws 2 → Kept b (remove_type d name) a b'
      → Says (obey_remove ws) b b' out out' r
  unfolding obey_remove
  remove_done d name e f k =
      let s = schema_of b in
      says_changed k (sym (λ i. changed s (remove_type (e i) (f i) s))) (remove_type_positive s d name) long p

-- ---- questions

module _ (ws : List Name) (b w : List ℕ) (name : Name) {found : Answer} (long : length b ≡ base_length) (e : w ≡ sds_word ws 1 (schema_of b) ∷ [])
    (f : name ≡ word ws 2) (k : Answered b (find w name) found) where
  abbrev s : Schema
  s = schema_of b

  depth_as : obey_depth ws s ≡ asked (λ one list. one ∷ []) s (about_type (find w name s) (λ t. depth_of w t s))
  unfolding obey_depth
  depth_as = sym (λ i. asked (λ one list. one ∷ []) s (about_type (find (e i) (f i) s) (λ t. depth_of (e i) t s)))

  desc_as : obey_desc ws s ≡ asked (λ one list. one ∷ list) s (about_type (find w name s) (λ t. scan_object w t 1 128 s))
  unfolding obey_desc
  desc_as = sym (λ i. asked (λ one list. one ∷ list) s (about_type (find (e i) (f i) s) (λ t. scan_object (e i) t 1 128 s)))

  module _ {out out' : List ℕ} {r : ℕ} where
    pub depth_not_found : (found.no ≡ 0 → ⊥) → Printed out 0 (decimal 20 found.no) out' r → Says (obey_depth ws) b b out out' r
    depth_not_found h p = says_not_found (obey_depth ws) (λ one list. one ∷ []) (λ t s. depth_of w t s) long k depth_as h p

    pub depth_done : {a : Answer} → found.no ≡ 0 → Answered b (depth_of w found.one) a → Printed out 0 (said_of a) out' r
        → Says (obey_depth ws) b b out out' r
    depth_done z q p =
        says_found (obey_depth ws) (λ one list. one ∷ []) (λ t s. depth_of w t s) long k depth_as (find_positive s w name) z
        (λ sound. value_line s (depth_of w found.one s) (depth_positive s w found.one) (answer_is q sound)) p

    pub desc_not_found : (found.no ≡ 0 → ⊥) → Printed out 0 (decimal 20 found.no) out' r → Says (obey_desc ws) b b out out' r
    desc_not_found h p = says_not_found (obey_desc ws) (λ one list. one ∷ list) (λ t s. scan_object w t 1 128 s) long k desc_as h p

    module _ {a : Answer} {before list : List ℕ} (z : found.no ≡ 0) (q : Listed b (scan_object w found.one 1 128) a before list)
        (p : Printed out 0 (said_of a) out' r) where
      pub desc_refused : (a.no ≡ 0 → ⊥) → Says (obey_desc ws) b b out out' r
      desc_refused h =
          says_found (obey_desc ws) (λ one list. one ∷ list) (λ t s. scan_object w t 1 128 s) long k desc_as (find_positive s w name) z
          (λ sound. no_list_line w found.one q sound h) p

      pub desc_done : {out'' : List ℕ} {r' : ℕ} → a.no ≡ 0 → Printed out' r (spaced (read_entries list a.one)) out'' r'
          → Says (obey_desc ws) b b out out'' r'
      desc_done h p' =
          says_found (obey_desc ws) (λ one list. one ∷ list) (λ t s. scan_object w t 1 128 s) long k desc_as (find_positive s w name) z
          (λ sound. count_and_list_line w found.one q sound (scan_object_positive s w found.one 1 128) h) (printed_next p p')
