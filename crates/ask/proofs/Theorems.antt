-- "From what list was the statement drawn, and how would we know if the list were short?" What the contracts of the asking calls say
-- to that, on every base that is sound and under every working schema. The contracts are the only premises.
use Prim.Native.Nat.{ℕ, ◌+◌, ◌≤◌, ◌<◌}
use native.Mathlib.Omega.{arith}
use mathlib.Core.Path.{◌≡◌, refl, sym, ap, ◌∙◌, subst}
use mathlib.Core.Logic.{◌↔◌}
use mathlib.Core.List.{List, [], ◌∷◌, ◌++◌, head-eq_of_cons-eq, tail-eq_of_cons-eq, Perm}
use mathlib.Core.Bool.{Bool, true, false, not, cond, true≢false}
use lib.Bits.{bit_or}
use lib.Count.{ones}
use lib.Dec.{ltb, eqb}
use lib.ListN.{length, drop}
use Rattle.rules.specs.declared.Answer.{Answer}
use Rattle.rules.specs.01-Lists.{◌∈◌, all, among, rising}
use Rattle.rules.specs.03-Names.{Name}
use Rattle.rules.specs.04-Schema.{Schema, has_mode, kind_of, is_object}
use Rattle.rules.specs.05-Descent.{Descends, Chain, depth, members}
use Rattle.rules.specs.06-Good.{Good}
use Rattle.rules.specs.07-Picture.{picture}
use Rattle.rules.specs.08-Working.{visible, descendant}
use Rattle.rules.specs.09-Refusals.{Outcome, Refusals, verdict, answer_of, refusal, success, not_visible, no_object}
use Rattle.rules.specs.09-Refusals.Outcome.{done}
use Rattle.rules.specs.11-Asks.{object_scan_list, scan_object, scan_object_refusals, object_refusals, find, depth_of, marks}
use Rattle.rules.specs.11-Asks.{visible_descendant, descendant_set, modes_under, modes_refusals, modes_of}
use Rattle.rules.specs.12-Contracts.{entries, room, output_after, Listed, Answered}
use Rattle.rules.specs.13-History.{ask_rule}
use Rattle.rules.proofs.Bools.{and_both}
use Rattle.rules.proofs.05-Descent.{chain_short, depth_greatest, depth_reached}
use Rattle.rules.proofs.09-Refusals.{Passed, passed_none, passed_more, numbers_beyond}
use Rattle.rules.proofs.11-Asks.{set_counts_list, whole_list}
use Rattle.rules.proofs.12-Contracts.{Same, listed_once, answered_once}
use Rattle.rules.proofs.Joins.{visible_joined, scans, order_alters_no_scan, UsedOnce, halves, or_where_6, find_joined, depth_joined}
use Rattle.rules.proofs.Joins.{union, scan_unseen, scan_done, scan_of_one, descendants_of_both, set_unseen, set_done, set_of_both, set_of_one}
use Rattle.rules.proofs.Joins.{modes_joined, modes_unseen, modes_done, modes_of_one, longer_list}
use Rattle.rules.proofs.Questions.{Question, under, unseen, empty_shows_nothing}
use Rattle.type_set.proofs.Members.{ones_members}

-- ---- a verdict that is done has passed every test, if each number is above 0

module _ {Made : Type 0} (effect : Outcome Made) where
  done_passed : (rs : Refusals) → numbers_beyond 0 rs ≡ true → (answer_of (verdict rs effect)).no ≡ 0 → Passed rs × (verdict rs effect ≡ effect)
  unfolding all verdict
  done_passed [] h e = (passed_none, refl)
  done_passed (r ∷ rs) h e = let (first, more) = and_both (ltb 0 r.no) (numbers_beyond 0 rs) h in go r.holds refl first e (done_passed rs more)
    where
      go : (x : Bool) → r.holds ≡ x → ltb 0 r.no ≡ true → (answer_of (cond x (Outcome.refused r.no r.value) (verdict rs effect))).no ≡ 0
          → ((answer_of (verdict rs effect)).no ≡ 0 → Passed rs × (verdict rs effect ≡ effect))
          → Passed (r ∷ rs) × (cond x (Outcome.refused r.no r.value) (verdict rs effect) ≡ effect)
      go true q positive e f = absurd (true≢false (sym positive ∙ ap (ltb 0) e))
      go false q positive e f = let (p, same) = f e in (passed_more q p, same)

-- the list that a scan put down: its length is told, and its entries stand in the output
pub record PutDown (l : List ℕ) (a : Answer) (before after : List ℕ) : Type 0 where
  pub told : a ≡ success (length l) 0 0
  pub written : after ≡ entries l ++ drop (length (entries l)) before

-- entries that are as many and stand in one output are those of one list
entries_same : (l m x y : List ℕ) → length l ≡ length m → entries l ++ x ≡ entries m ++ y → l ≡ m
unfolding entries
entries_same [] [] x y h e = refl
entries_same [] (k ∷ m) x y h e = absurd (omega arith)
entries_same (n ∷ l) [] x y h e = absurd (omega arith)
entries_same (n ∷ l) (k ∷ m) x y h e =
    let low = head-eq_of_cons-eq e in
    let high = head-eq_of_cons-eq (tail-eq_of_cons-eq e) in
    let same : n ≡ k = omega arith in
    let rest = entries_same l m x y (omega arith) (tail-eq_of_cons-eq (tail-eq_of_cons-eq e)) in
    λ i. same i ∷ rest i

not_false : (x : Bool) → not x ≡ false → x ≡ true
not_false true e = refl
not_false false e = absurd (true≢false e)

module _ (b w : List ℕ) (t : ℕ) (s : Schema) (good : Good s) (shown : b ≡ picture s) where
  -- ---- the set of descendants

  set_answer_is : {c : Answer} → Answered b (descendant_set w t) c → c.no ≡ 0 → (visible s w t ≡ true) × (no_object s t ≡ false)
      × (c ≡ success (marks 0 64 (visible_descendant w t s)) (marks 64 64 (visible_descendant w t s)) (length (members (visible_descendant w t s))))
  unfolding descendant_set all not_visible
  set_answer_is answers done' =
      let e = answers.kept s good shown in
      let (passed, is) = done_passed _ (object_refusals w t s) refl (sym (ap (λ (x : Answer). x.no) e) ∙ done') in
      (not_false (visible s w t) (passed.fails 6), passed.fails 7, e ∙ ap answer_of is)

  -- ---- modes

  modes_answer_is : {c : Answer} → Answered b (modes_of w t) c → c.no ≡ 0 → (visible s w t ≡ true)
      × (c ≡ success (modes_under (λ p. p.usage) w t s) (modes_under (λ p. p.definition) w t s) 0)
  unfolding modes_of all not_visible
  modes_answer_is answers done' =
      let e = answers.kept s good shown in
      let (passed, is) = done_passed _ (modes_refusals w t s) refl (sym (ap (λ (x : Answer). x.no) e) ∙ done') in
      (not_false (visible s w t) (passed.fails 6), e ∙ ap answer_of is)

  -- ---- the list of descendants: scan code 1

  module _ (before after : List ℕ) (a : Answer) (keeps : Listed b (scan_object w t 1 (room before)) a before after) (is_done : a.no ≡ 0) where
    scanned : (answer_of (scan_object w t 1 (room before) s)).no ≡ 0
    scanned = sym (ap (λ (x : Answer). x.no) (keeps.kept s good shown).0) ∙ is_done

    scan_told : Passed (scan_object_refusals w t 1 (room before) s)
        × (scan_object w t 1 (room before) s ≡ done (length (object_scan_list w t 1 s)) 0 0 (object_scan_list w t 1 s))
    unfolding scan_object all
    scan_told = done_passed (done (length (object_scan_list w t 1 s)) 0 0 (object_scan_list w t 1 s)) (scan_object_refusals w t 1 (room before) s) refl scanned

    scan_is : scan_object w t 1 (room before) s ≡ done (length (object_scan_list w t 1 s)) 0 0 (object_scan_list w t 1 s)
    scan_is = scan_told.1

    -- the output begins with a list that holds every visible descendant of the type once, and nothing else; its length is the count
    pub descendants_whole : (l : List ℕ) × (after ≡ entries l ++ drop (length (entries l)) before) × (a.one ≡ length l)
        × ((k : ℕ) → (k ∈ l) ↔ ((visible s w k ≡ true) × Descends s k t)) × (rising ltb l ≡ true)
    descendants_whole =
        let (e, f) = keeps.kept s good shown in
        let whole = whole_list good w t in (
          object_scan_list w t 1 s,
          f ∙ ap (output_after before) scan_is,
          ap (λ (x : Answer). x.one) (e ∙ ap answer_of scan_is),
          whole.exact,
          whole.once,
        )

    -- the count of the set of descendants is the length of the list
    pub set_as_long : (c : Answer) → Answered b (descendant_set w t) c → c.no ≡ 0 → c.three ≡ a.one
    set_as_long c answers done' =
        ap (λ (x : Answer). x.three) (set_answer_is answers done').2 ∙ ap length (set_counts_list w t s) ∙ sym
        (ap (λ (x : Answer). x.one) ((keeps.kept s good shown).0 ∙ ap answer_of scan_is))

  -- what was put down is the list
  put_down_is : {before after l : List ℕ} {a : Answer} → Listed b (scan_object w t 1 (room before)) a before after → PutDown l a before after
      → (visible s w t ≡ true) × (no_object s t ≡ false) × (l ≡ object_scan_list w t 1 s)
  unfolding not_visible
  put_down_is {before} {after} {l} {a} keeps put =
      let done' = ap (λ (x : Answer). x.no) put.told in
      let (passed, is) = scan_told before after a keeps done' in
      let (e, f) = keeps.kept s good shown in
      let long = ap (λ (x : Answer). x.one) (sym put.told ∙ e ∙ ap answer_of is) in (
        not_false (visible s w t) (passed.fails 6),
        passed.fails 7,
        entries_same l (object_scan_list w t 1 s) _ _ long (sym put.written ∙ f ∙ ap (output_after before) is),
      )

  -- ---- depth

  module _ (a : Answer) (keeps : Answered b (depth_of w t) a) (is_done : a.no ≡ 0) where
    told : Passed (object_refusals w t s) × (depth_of w t s ≡ done (depth s t) 0 0 [])
    unfolding depth_of all
    told =
        done_passed (done (depth s t) 0 0 []) (object_refusals w t s) refl (sym (ap (λ (x : Answer). x.no) (keeps.kept s good shown)) ∙ is_done)

    is_depth : a.one ≡ depth s t
    is_depth = ap (λ (x : Answer). x.one) (keeps.kept s good shown ∙ ap answer_of told.1)

    object : is_object (kind_of s t) ≡ true
    unfolding no_object
    object = not_false (is_object (kind_of s t)) (told.0.fails 7)

    -- the answer is the length of a chain of parents up to type 0, no chain is longer, and the longest has fewer steps than there are
    -- object types
    pub depth_longest : Chain s t a.one × ((n : ℕ) → Chain s t n → n ≤ a.one) × (a.one < length (members (λ u. is_object (kind_of s u))))
    depth_longest =
        let chain : Chain s t a.one = rw is_depth (depth_reached good t object) in
        (chain, (λ n c. rw is_depth (depth_greatest good t n c)), chain_short good t a.one chain)

-- ---- the empty working schema (02, Q-7): nothing is told and nothing put down, whichever of the calls asks

module _ (b : List ℕ) (s : Schema) (good : Good s) (shown : b ≡ picture s) (q : Question) (a : Answer) where
  pub nothing_listed : (before after : List ℕ) → Listed b (ask_rule (under [] q)) a before after → (a ≡ refusal (unseen q)) × (after ≡ before)
  nothing_listed before after keeps =
      let (e, f) = keeps.kept s good shown in
      (e ∙ ap answer_of (empty_shows_nothing q s), f ∙ ap (output_after before) (empty_shows_nothing q s))

  pub nothing_answered : Answered b (ask_rule (under [] q)) a → a ≡ refusal (unseen q)
  nothing_answered keeps = keeps.kept s good shown ∙ ap answer_of (empty_shows_nothing q s)

-- ---- working schemas joined (02, Q-10): what the functions answer and write under v ++ w, given what they do under v and under w

-- the answer of a set of descendants: its two words, and how many marks they have
abbrev pub marked : ℕ → ℕ → Answer
marked low high = success low high (ones low + ones high)

-- two rules that give one outcome
same_listed : {o o' : Outcome (List ℕ)} {a a' : Answer} (before : List ℕ) {after after' : List ℕ} → o ≡ o' → (a ≡ answer_of o) × (after ≡ output_after before o)
    → (a' ≡ answer_of o') × (after' ≡ output_after before o') → Same a a' after after'
same_listed before e found expected = record {
  answers = found.0 ∙ ap answer_of e ∙ sym expected.0;
  areas = found.1 ∙ ap (output_after before) e ∙ sym expected.1;
}

-- "their order does not alter any scan": on all bytes, spoiled ones too
module _ (b : List ℕ) {v w : List ℕ} (turned : Perm v w) (q : Question) (scan : scans q ≡ true) where
  rules_same : ask_rule (under v q) ≡ ask_rule (under w q)
  rules_same = λ i s. order_alters_no_scan s turned q scan i

  pub order_alters_no_list : {a a' : Answer} {before after after' : List ℕ} → Listed b (ask_rule (under v q)) a before after
      → Listed b (ask_rule (under w q)) a' before after' → Same a a' after after'
  order_alters_no_list {a} {before = before} {after = after} keeps keeps' =
      listed_once (subst (λ (rule : Schema → Outcome (List ℕ)). Listed b rule a before after) rules_same keeps) keeps'

  pub order_alters_no_answer : {a a' : Answer} → Answered b (ask_rule (under v q)) a → Answered b (ask_rule (under w q)) a' → a ≡ a'
  order_alters_no_answer {a} keeps keeps' = answered_once (subst (λ (rule : Schema → Outcome (List ℕ)). Answered b rule a) rules_same keeps) keeps'

module _ (b : List ℕ) (s : Schema) (good : Good s) (shown : b ≡ picture s) (v w : List ℕ) (joined : UsedOnce s (v ++ w)) where
  -- where the rule gives one outcome under the join, whichever list comes first, and under v
  answers_of_one : (rule : List ℕ → Schema → Outcome (List ℕ)) → (rule (v ++ w) s ≡ rule v s) × (rule (w ++ v) s ≡ rule v s) → {a first : Answer}
      → Answered b (rule v) first → (Answered b (rule (v ++ w)) a → a ≡ first) × (Answered b (rule (w ++ v)) a → a ≡ first)
  answers_of_one rule e keeps₁ = (
    λ keeps. keeps.kept s good shown ∙ ap answer_of e.0 ∙ sym (keeps₁.kept s good shown),
    λ keeps. keeps.kept s good shown ∙ ap answer_of e.1 ∙ sym (keeps₁.kept s good shown),
  )

  module _ {a first second : Answer} where
    answers_joined : (rule : List ℕ → Schema → Outcome (List ℕ)) → rule (v ++ w) s ≡ or_where_6 (rule v s) (rule w s)
        → Answered b (rule (v ++ w)) a → Answered b (rule v) first → Answered b (rule w) second → a ≡ cond (eqb first.no 6) second first
    answers_joined rule e keeps keeps₁ keeps₂ =
        keeps.kept s good shown ∙ ap answer_of e ∙ told (eqb (answer_of (rule v s)).no 6)
        ∙ (λ i. cond (eqb (sym (keeps₁.kept s good shown) i).no 6) (sym (keeps₂.kept s good shown) i) (sym (keeps₁.kept s good shown) i))
      where
        told : (x : Bool) → answer_of (cond x (rule w s) (rule v s)) ≡ cond x (answer_of (rule w s)) (answer_of (rule v s))
        told true = refl
        told false = refl

    -- "find answers as the first list does, or where that is 6 as the second"
    pub find_answers_joined : (n : Name) → Answered b (find (v ++ w) n) a → Answered b (find v n) first → Answered b (find w n) second
        → a ≡ cond (eqb first.no 6) second first
    find_answers_joined n = answers_joined (λ w. find w n) (find_joined s n v w joined)

    -- "the visible types of the join are the union", as depth tells: 6 of a type that is not visible, and of no other
    pub depth_answers_joined : (t : ℕ) → Answered b (depth_of (v ++ w) t) a → Answered b (depth_of v t) first → Answered b (depth_of w t) second
        → a ≡ cond (eqb first.no 6) second first
    depth_answers_joined t = answers_joined (λ w. depth_of w t) (depth_joined s v w joined t)

  -- ---- descendants: scan code 1, and the set

  module _ (t : ℕ) where
    -- "the descendants of a type visible in both are the union of the two lists of descendants", in an output that holds 128 entries
    pub descendants_listed_of_both : {a first second : Answer} {before after before₁ after₁ before₂ after₂ : List ℕ}
        → Listed b (scan_object (v ++ w) t descendant (room before)) a before after
        → Listed b (scan_object v t descendant (room before₁)) first before₁ after₁
        → Listed b (scan_object w t descendant (room before₂)) second before₂ after₂
        → 128 ≤ room before → (l m : List ℕ) → PutDown l first before₁ after₁ → PutDown m second before₂ after₂ → PutDown (union l m) a before after
    descendants_listed_of_both {before = before} keeps keeps₁ keeps₂ long l m put₁ put₂ =
        let (e, f) = keeps.kept s good shown in
        let (seen, object, is₁) = put_down_is b v t s good shown keeps₁ put₁ in
        let is₂ = (put_down_is b w t s good shown keeps₂ put₂).2 in
        let scan = scan_done s joined t (room before) long (visible_joined s v w t ∙ rw seen) object in
        let all : object_scan_list (v ++ w) t descendant s ≡ union l m = descendants_of_both s v w t ∙ (λ i. union (sym is₁ i) (sym is₂ i)) in
        record {
          told = e ∙ ap answer_of scan ∙ ap (λ (x : List ℕ). success (length x) 0 0) all;
          written = f ∙ ap (output_after before) scan ∙ ap (λ (x : List ℕ). entries x ++ drop (length (entries x)) before) all;
        }

    -- and of the set each word has the marks of both, and the count tells how many there are
    pub set_answers_of_both : {a first second : Answer} → Answered b (descendant_set (v ++ w) t) a → Answered b (descendant_set v t) first
        → Answered b (descendant_set w t) second → first.no ≡ 0 → second.no ≡ 0
        → a ≡ marked (bit_or first.one second.one) (bit_or first.two second.two)
    set_answers_of_both {first = first} {second = second} keeps keeps₁ keeps₂ done₁ done₂ =
        let (seen, object, is₁) = set_answer_is b v t s good shown keeps₁ done₁ in
        let is₂ = (set_answer_is b w t s good shown keeps₂ done₂).2 in
        let p = visible_descendant (v ++ w) t s in
        let low : marks 0 64 p ≡ bit_or first.one second.one = set_of_both s v w t 0 64 ∙ (λ i. bit_or (sym is₁ i).one (sym is₂ i).one) in
        let high : marks 64 64 p ≡ bit_or first.two second.two = set_of_both s v w t 64 64 ∙ (λ i. bit_or (sym is₁ i).two (sym is₂ i).two) in
        keeps.kept s good shown ∙ ap answer_of (set_done s joined t (visible_joined s v w t ∙ rw seen) object)
        ∙ ap (success (marks 0 64 p) (marks 64 64 p)) (sym (ones_members p)) ∙ (λ i. marked (low i) (high i))

    -- "and where it is visible in one, that one's": where the other list answers 6, whichever comes first
    pub descendants_listed_of_one : {a first second : Answer} {before after after₁ before₂ after₂ : List ℕ}
        → Listed b (scan_object w t descendant (room before₂)) second before₂ after₂ → second.no ≡ 6
        → Listed b (scan_object v t descendant (room before)) first before after₁
        → (Listed b (scan_object (v ++ w) t descendant (room before)) a before after → Same a first after after₁)
        × (Listed b (scan_object (w ++ v) t descendant (room before)) a before after → Same a first after after₁)
    descendants_listed_of_one {before = before} {before₂ = before₂} keeps₂ six keeps₁ =
        let unseen = scan_unseen s (halves s v w joined).1 t (room before₂) (sym (ap (λ (x : Answer). x.no) (keeps₂.kept s good shown).0) ∙ six) in
        let (front, behind) = scan_of_one good v w t unseen joined (room before) in (
          λ keeps. same_listed before front (keeps.kept s good shown) (keeps₁.kept s good shown),
          λ keeps. same_listed before behind (keeps.kept s good shown) (keeps₁.kept s good shown),
        )

    pub set_answers_of_one : {a first second : Answer} → Answered b (descendant_set w t) second → second.no ≡ 6 → Answered b (descendant_set v t) first
        → (Answered b (descendant_set (v ++ w) t) a → a ≡ first) × (Answered b (descendant_set (w ++ v) t) a → a ≡ first)
    set_answers_of_one keeps₂ six keeps₁ =
        let unseen = set_unseen s (halves s v w joined).1 t (sym (ap (λ (x : Answer). x.no) (keeps₂.kept s good shown)) ∙ six) in
        answers_of_one (λ u. descendant_set u t) (set_of_one good v w t unseen joined) keeps₁

    -- ---- modes (02, Q-2)

    -- "the union over the listed SDSs" of both
    pub modes_answers_of_both : {a first second : Answer} → Answered b (modes_of (v ++ w) t) a → Answered b (modes_of v t) first
        → Answered b (modes_of w t) second → first.no ≡ 0 → second.no ≡ 0
        → a ≡ success (bit_or first.one second.one) (bit_or first.two second.two) 0
    modes_answers_of_both keeps keeps₁ keeps₂ done₁ done₂ =
        let (seen, is₁) = modes_answer_is b v t s good shown keeps₁ done₁ in
        let is₂ = (modes_answer_is b w t s good shown keeps₂ done₂).1 in
        let usage = modes_joined s (λ p. p.usage) t v w ∙ (λ i. bit_or (sym is₁ i).one (sym is₂ i).one) in
        let definition = modes_joined s (λ p. p.definition) t v w ∙ (λ i. bit_or (sym is₁ i).two (sym is₂ i).two) in
        keeps.kept s good shown ∙ ap answer_of (modes_done s joined t (visible_joined s v w t ∙ rw seen)) ∙ (λ i. success (usage i) (definition i) 0)

    pub modes_answers_of_one : {a first second : Answer} → Answered b (modes_of w t) second → second.no ≡ 6 → Answered b (modes_of v t) first
        → (Answered b (modes_of (v ++ w) t) a → a ≡ first) × (Answered b (modes_of (w ++ v) t) a → a ≡ first)
    modes_answers_of_one keeps₂ six keeps₁ =
        let unseen = modes_unseen s (halves s v w joined).1 t (sym (ap (λ (x : Answer). x.no) (keeps₂.kept s good shown)) ∙ six) in
        answers_of_one (λ u. modes_of u t) (modes_of_one s v w t unseen joined) keeps₁

-- "where both are done a longer list never takes a mode away": of any two lists of which the one has every SDS of the other
module _ (b : List ℕ) (s : Schema) (good : Good s) (shown : b ≡ picture s) (t : ℕ) (v w : List ℕ) (more : (d : ℕ) → among v d ≡ true → among w d ≡ true) where
  pub longer_list_answers : {first second : Answer} → Answered b (modes_of v t) first → Answered b (modes_of w t) second → first.no ≡ 0 → second.no ≡ 0
      → (m : ℕ) → (has_mode first.one m ≡ true → has_mode second.one m ≡ true) × (has_mode first.two m ≡ true → has_mode second.two m ≡ true)
  longer_list_answers keeps₁ keeps₂ done₁ done₂ m =
      let is₁ = (modes_answer_is b v t s good shown keeps₁ done₁).1 in
      let is₂ = (modes_answer_is b w t s good shown keeps₂ done₂).1 in (
        λ e. ap (λ (x : Answer). has_mode x.one m) is₂ ∙ longer_list s (λ p. p.usage) t v w more m (ap (λ (x : Answer). has_mode x.one m) (sym is₁) ∙ e),
        λ e. ap (λ (x : Answer). has_mode x.two m) is₂
            ∙ longer_list s (λ p. p.definition) t v w more m (ap (λ (x : Answer). has_mode x.two m) (sym is₁) ∙ e),
      )
