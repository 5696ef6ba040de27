-- "Integrators put two teams' lists end to end and ask what follows" (02, Q-10). Each of its sentences is a theorem here, over the rules; over what
-- the functions answer and write they stand in ask/proofs/Theorems. Assumes nothing.
use Prim.Native.Nat.{ℕ, ◌≤◌, ◌<◌}
use native.Mathlib.Omega.{arith}
use mathlib.Core.Path.{◌≡◌, refl, sym, ap, ◌∙◌}
use mathlib.Core.List.Permᴰ
use mathlib.Core.List.{List, [], ◌++◌, Perm}
use mathlib.Core.Bool.{Bool, true, false, not, cond, ◌&&◌, ◌||◌, true≢false, false≢true, or-false, and-or_distrib_right}
use lib.Bits.{bit_or}
use lib.Dec.{ltb, eqb}
use lib.ListN.{length, get_or}
use borrow.Author.Tests.{le-ltb, eq-eqb}
use Rattle.rules.specs.01-Lists.{any, first, among, repeated}
use Rattle.rules.specs.03-Names.{Name}
use Rattle.rules.specs.04-Schema.{Schema, Presence, Modes, has_mode, holds_type, present, bears, type_named, applied, has_end}
use Rattle.rules.specs.05-Descent.{descends, depth, members}
use Rattle.rules.specs.06-Good.{Good}
use Rattle.rules.specs.08-Working.{visible, applied_in, end_in, shown, object_scans, link_scans}
use Rattle.rules.specs.08-Working.{descendant, ancestor, attribute_all, link_origin_all}
use Rattle.rules.specs.09-Refusals.{Outcome, verdict, answer_of, unknown_sds, malformed, unknown_object_scan, no_name_listed, not_visible}
use Rattle.rules.specs.09-Refusals.{no_object, short_output}
use Rattle.rules.specs.09-Refusals.Outcome.{refused, done}
use Rattle.rules.specs.11-Asks as Asks
use Rattle.rules.specs.11-Asks.{object_scan_list, link_scan_list, marks, visible_descendant, mode_listed, modes_under}
use Rattle.rules.specs.13-History.{ask_rule}
use Rattle.rules.proofs.Bools.{and_both, and_of, or_neither, fails}
use Rattle.rules.proofs.01-Lists.{numbers_alike, any_at, any_where, any_either, among_in, any_joined}
use Rattle.rules.proofs.01-Lists.{first_joined, once_joined, any_order, repeated_order}
use Rattle.rules.proofs.05-Descent.{members_among, members_most, descends_sound}
use Rattle.rules.proofs.08-Working.{ancestors_visible}
use Rattle.rules.proofs.11-Asks.{marks_or, marks_mode, set_counts_list}
use Rattle.rules.proofs.Questions.{Question, under}
use Rattle.rules.proofs.Questions.Question.{scan_object, scan_link, profile, find, depth_of, descendant_set, modes_of}

-- ---- "the visible types of the join are the union"

pub visible_joined : (s : Schema) (v w : List ℕ) (t : ℕ) → visible s (v ++ w) t ≡ visible s v t || visible s w t
unfolding visible
visible_joined s v w t = any_joined (λ d. present s d t) v w

-- where it is visible in one alone
pub joined_unseen : (s : Schema) (v w : List ℕ) (t : ℕ) → visible s w t ≡ false → visible s (v ++ w) t ≡ visible s v t
joined_unseen s v w t unseen = visible_joined s v w t ∙ rw unseen (or-false (visible s v t))

-- ---- "their order does not alter any scan"

-- every question but find, for which the first listed SDS decides
abbrev pub scans : Question → Bool
scans (scan_object t code room) = true
scans (scan_link t code room) = true
scans (profile t room) = true
scans (find n) = false
scans (depth_of t) = true
scans (descendant_set t) = true
scans (modes_of t) = true

module _ (s : Schema) {v w : List ℕ} (turned : Perm v w) where
  seen : visible s v ≡ visible s w
  unfolding visible
  seen = λ i t. any_order turned (λ d. present s d t) i

  applications : applied_in s v ≡ applied_in s w
  unfolding applied_in
  applications = λ i t a. any_order turned (λ d. applied s d t a) i

  ends : end_in s v ≡ end_in s w
  unfolding end_in
  ends = λ i l side o. any_order turned (λ d. has_end s d l side o) i

  object_list : (t code : ℕ) → object_scan_list v t code s ≡ object_scan_list w t code s
  unfolding object_scan_list shown
  object_list t code = λ i. members (λ k. seen i k && get_or (scans_same i) code (λ k. false) k)
    where
      scans_same : object_scans s v t ≡ object_scans s w t
      scans_same = rw (applications, ends)

  link_list : (t code : ℕ) → link_scan_list v t code s ≡ link_scan_list w t code s
  unfolding link_scan_list shown
  link_list t code = λ i. members (λ k. seen i k && get_or (scans_same i) code (λ k. false) k)
    where
      scans_same : link_scans s v t ≡ link_scans s w t
      scans_same = rw (applications, ends)

  below : (t : ℕ) → visible_descendant v t s ≡ visible_descendant w t s
  unfolding visible_descendant
  below t = λ i k. seen i k && descends s k t

  modes_same : (modes : Presence → Modes) (t : ℕ) → mode_listed modes v t s ≡ mode_listed modes w t s
  unfolding mode_listed
  modes_same modes t = λ i m. any (λ p. any_order turned (eqb p.sds) i && (eqb p.type t && has_mode (modes p) m)) s.presences

  -- of any list, with unknown or repeated SDSs too, the whole outcome, refusals included
  pub order_alters_no_scan : (q : Question) → scans q ≡ true → ask_rule (under v q) s ≡ ask_rule (under w q) s
  unfolding not_visible Asks.scan_object Asks.scan_link Asks.profile_list Asks.profile Asks.depth_of Asks.descendant_set Asks.modes_of
  order_alters_no_scan (scan_object t code room) e = rw (any_order turned (unknown_sds s), seen, repeated_order turned, object_list t code)
  order_alters_no_scan (scan_link t code room) e = rw (any_order turned (unknown_sds s), seen, repeated_order turned, link_list t code)
  order_alters_no_scan (profile t room) e =
      rw (any_order turned (unknown_sds s), seen, repeated_order turned, object_list t ancestor, object_list t attribute_all, object_list t link_origin_all)
  order_alters_no_scan (find n) e = absurd (false≢true e)
  order_alters_no_scan (depth_of t) e = rw (any_order turned (unknown_sds s), seen, repeated_order turned)
  order_alters_no_scan (descendant_set t) e = rw (any_order turned (unknown_sds s), seen, repeated_order turned, below t)
  order_alters_no_scan (modes_of t) e =
      rw (any_order turned (unknown_sds s), seen, repeated_order turned, modes_same (λ p. p.usage) t, modes_same (λ p. p.definition) t)

either_first : (v w : List ℕ) → Perm (v ++ w) (w ++ v)
either_first v w = ∣ Permᴰ.append_comm v w ∣₁

-- ---- "two lists of used SDSs, none twice in the join"

pub record UsedOnce (s : Schema) (w : List ℕ) : Type 0 where
  pub used : any (unknown_sds s) w ≡ false
  pub once : repeated w ≡ false

-- then so is each of the two
pub halves : (s : Schema) (v w : List ℕ) → UsedOnce s (v ++ w) → UsedOnce s v × UsedOnce s w
halves s v w h =
    let (used, others) = or_neither (any (unknown_sds s) v) (any (unknown_sds s) w) (sym (any_joined (unknown_sds s) v w) ∙ h.used) in
    let (once, rest) = once_joined v w h.once in
    (record { used = used; once = once }, record { used = others; once = rest })

-- "as the first list does, or where that is 6 as the second"
abbrev pub or_where_6 : Outcome (List ℕ) → Outcome (List ℕ) → Outcome (List ℕ)
or_where_6 o p = cond (eqb (answer_of o).no 6) p o

-- ---- "find answers as the first list does, or where that is 6 as the second"

module _ (s : Schema) (n : Name) where
  abbrev has : ℕ → Bool
  has d = bears s d n

  -- 4 where the name is malformed, 6 where no SDS has it, else the type that bears it in SDS d
  abbrev found : Bool → Bool → ℕ → Outcome (List ℕ)
  found wrong there d = cond wrong (refused 4 0) (cond (not there) (refused 6 0) (done (type_named s d n) 0 0 []))

  find_asked : {w : List ℕ} → UsedOnce s w → Asks.find w n s ≡ found (malformed n) (any has w) (first has 0 w)
  unfolding Asks.find verdict no_name_listed
  find_asked h = rw (h.used, h.once) refl

  pub find_joined : (v w : List ℕ) → UsedOnce s (v ++ w) → Asks.find (v ++ w) n s ≡ or_where_6 (Asks.find v n s) (Asks.find w n s)
  find_joined v w h =
      let (left, right) = halves s v w h in
      rw (find_asked h, find_asked left, find_asked right, any_joined has v w, first_joined has 0 v w)
      (go (malformed n) (any has v) (any has w) (first has 0 v) (first has 0 w))
    where
      go : (x p q : Bool) (d e : ℕ) → found x (p || q) (cond p d e) ≡ or_where_6 (found x p d) (found x q e)
      go true p q d e = refl
      go false true q d e = refl
      go false false q d e = refl

-- ---- a question about a type under such a list

-- 6 where it is not visible, 7 where it is of another kind, else what the call tells
abbrev asked : Bool → Bool → Outcome (List ℕ) → Outcome (List ℕ)
asked seen wrong told = cond (not seen) (refused 6 0) (cond wrong (refused 7 0) told)

record Asked (seen wrong : Bool) (told o : Outcome (List ℕ)) : Type 0 where
  is : o ≡ asked seen wrong told

-- where the call tells no 6 of its own, 6 says that the type is not visible
unseen_by_6 : {seen wrong : Bool} {told o : Outcome (List ℕ)} → Asked seen wrong told o → ((answer_of told).no ≡ 6 → ⊥) → (answer_of o).no ≡ 6
    → seen ≡ false
unseen_by_6 {seen} {wrong} {told} q other e = go seen wrong (ap (λ (x : Outcome (List ℕ)). (answer_of x).no) (sym q.is) ∙ e)
  where
    go : (seen wrong : Bool) → (answer_of (asked seen wrong told)).no ≡ 6 → seen ≡ false
    go true true e = absurd (omega arith)
    go true false e = absurd (other e)
    go false wrong e = refl

-- two questions about it that tell the same
asked_same : {seen seen' wrong : Bool} {told told' o o' : Outcome (List ℕ)} → Asked seen wrong told o → Asked seen' wrong told' o' → seen ≡ seen'
    → told ≡ told' → o ≡ o'
asked_same {wrong = wrong} q q' e f = q.is ∙ (λ i. asked (e i) wrong (f i)) ∙ sym q'.is

-- descendants, as a set and as a list
abbrev set_told : (ℕ → Bool) → Outcome (List ℕ)
set_told p = done (marks 0 64 p) (marks 64 64 p) (length (members p)) []

-- usage and definition
abbrev modes_told : ((Presence → Modes) → Modes) → Outcome (List ℕ)
modes_told told = done (told (λ p. p.usage)) (told (λ p. p.definition)) 0 []

abbrev list_told : ℕ → List ℕ → Outcome (List ℕ)
list_told room l = cond (short_output room (length l)) (refused 15 0) (done (length l) 0 0 l)

module _ (s : Schema) {w : List ℕ} (h : UsedOnce s w) (t : ℕ) where
  depth_asked : Asks.depth_of w t s ≡ asked (visible s w t) (no_object s t) (done (depth s t) 0 0 [])
  unfolding Asks.depth_of verdict not_visible
  depth_asked = rw (h.used, h.once)

  set_asked : Asked (visible s w t) (no_object s t) (set_told (visible_descendant w t s)) (Asks.descendant_set w t s)
  unfolding Asks.descendant_set verdict not_visible
  set_asked = record { is = rw (h.used, h.once) }

  pub set_unseen : (answer_of (Asks.descendant_set w t s)).no ≡ 6 → visible s w t ≡ false
  set_unseen = unseen_by_6 set_asked (λ e. omega arith)

  modes_asked : Asked (visible s w t) false (modes_told (λ modes. modes_under modes w t s)) (Asks.modes_of w t s)
  unfolding Asks.modes_of verdict not_visible
  modes_asked = record { is = rw (h.used, h.once) }

  pub modes_unseen : (answer_of (Asks.modes_of w t s)).no ≡ 6 → visible s w t ≡ false
  modes_unseen = unseen_by_6 modes_asked (λ e. omega arith)

  pub modes_done : visible s w t ≡ true → Asks.modes_of w t s ≡ modes_told (λ modes. modes_under modes w t s)
  modes_done seen = modes_asked.is ∙ rw seen

  pub set_done : visible s w t ≡ true → no_object s t ≡ false → Asks.descendant_set w t s ≡ set_told (visible_descendant w t s)
  set_done seen object = set_asked.is ∙ rw (seen, object)

  module _ (room : ℕ) where
    scan_asked : Asked (visible s w t) (no_object s t) (list_told room (object_scan_list w t descendant s)) (Asks.scan_object w t descendant room s)
    unfolding Asks.scan_object verdict not_visible unknown_object_scan
    scan_asked = record { is = rw (h.used, h.once) }

    pub scan_unseen : (answer_of (Asks.scan_object w t descendant room s)).no ≡ 6 → visible s w t ≡ false
    scan_unseen =
        unseen_by_6 scan_asked (other (object_scan_list w t descendant s) (short_output room (length (object_scan_list w t descendant s))))
      where
        other : (l : List ℕ) (short : Bool) → (answer_of (cond short (refused 15 0) (done (length l) 0 0 l))).no ≡ 6 → ⊥
        other l true e = omega arith
        other l false e = omega arith

    -- an output that holds 128 entries is not too short
    pub scan_done : 128 ≤ room → visible s w t ≡ true → no_object s t ≡ false
        → Asks.scan_object w t descendant room s ≡ done (length (object_scan_list w t descendant s)) 0 0 (object_scan_list w t descendant s)
    unfolding short_output
    scan_done long seen object =
        let l = object_scan_list w t descendant s in
        let enough : ltb room (length l) ≡ false
        = le-ltb room (length l) (omega (arith, members_most (visible_descendant w t s), ap length (set_counts_list w t s))) in
        scan_asked.is ∙ rw (seen, object, enough)

-- depth is 6 exactly where a type is not visible: the union again, as this call tells it
pub depth_joined : (s : Schema) (v w : List ℕ) → UsedOnce s (v ++ w) → (t : ℕ)
    → Asks.depth_of (v ++ w) t s ≡ or_where_6 (Asks.depth_of v t s) (Asks.depth_of w t s)
depth_joined s v w h t =
    let (left, right) = halves s v w h in
    rw (depth_asked s h t, depth_asked s left t, depth_asked s right t, visible_joined s v w t) (go (visible s v t) (visible s w t) (no_object s t))
  where
    answer : Bool → Bool → Outcome (List ℕ)
    answer seen wrong = asked seen wrong (done (depth s t) 0 0 [])

    go : (p q x : Bool) → answer (p || q) x ≡ or_where_6 (answer p x) (answer q x)
    go true q true = refl
    go true q false = refl
    go false q x = refl

-- ---- "the descendants of a type visible in both are the union of the two lists of descendants"

-- as a list: the numbers of either, rising, each once
abbrev pub union : List ℕ → List ℕ → List ℕ
union l m = members (λ k. among l k || among m k)

module _ (s : Schema) (v w : List ℕ) (t : ℕ) where
  -- type by type
  descendant_joined : (k : ℕ) → visible_descendant (v ++ w) t s k ≡ visible_descendant v t s k || visible_descendant w t s k
  unfolding visible_descendant
  descendant_joined k = rw (visible_joined s v w k) (and-or_distrib_right (visible s v k) (visible s w k) (descends s k t))

  pub descendants_of_both : object_scan_list (v ++ w) t descendant s ≡ union (object_scan_list v t descendant s) (object_scan_list w t descendant s)
  unfolding members
  descendants_of_both =
      sym (set_counts_list (v ++ w) t s) ∙ numbers_alike _ _ 0 128 (λ k l u. descendant_joined k ∙ (λ i. sym (listed v k u) i || sym (listed w k u) i))
    where
      listed : (w : List ℕ) (k : ℕ) → k < 128 → among (object_scan_list w t descendant s) k ≡ visible_descendant w t s k
      listed w k u = ap (λ (l : List ℕ). among l k) (sym (set_counts_list w t s)) ∙ members_among (visible_descendant w t s) k (λ h. absurd (omega arith))

  -- and of the set: each word has the marks of both
  pub set_of_both : (start many : ℕ) → marks start many (visible_descendant (v ++ w) t s)
      ≡ bit_or (marks start many (visible_descendant v t s)) (marks start many (visible_descendant w t s))
  set_of_both start many = ap (marks start many) (λ i k. descendant_joined k i) ∙ marks_or (visible_descendant v t s) (visible_descendant w t s) start many

-- ---- "and where it is visible in one, that one's", whichever comes first

module _ {s : Schema} (good : Good s) (v w : List ℕ) (t : ℕ) (unseen : visible s w t ≡ false) where
  -- an ancestor of a visible type is visible: where the type is not, none of its descendants is
  below_none : (k : ℕ) → visible_descendant w t s k ≡ false
  unfolding visible_descendant
  below_none k =
      fails (visible s w k && descends s k t)
      (λ e. let (seen, below) = and_both (visible s w k) (descends s k t) e in
      true≢false (sym (ancestors_visible good w k t seen (descends_sound good k t below)) ∙ unseen))

  below_one : visible_descendant (v ++ w) t s ≡ visible_descendant v t s
  below_one = λ i k. at k i
    where
      at : (k : ℕ) → visible_descendant (v ++ w) t s k ≡ visible_descendant v t s k
      at k = descendant_joined s v w t k ∙ rw (below_none k) (or-false (visible_descendant v t s k))

  pub descendants_of_one : (object_scan_list (v ++ w) t descendant s ≡ object_scan_list v t descendant s)
      × (object_scan_list (w ++ v) t descendant s ≡ object_scan_list v t descendant s)
  descendants_of_one =
      let first = sym (set_counts_list (v ++ w) t s) ∙ ap members below_one ∙ set_counts_list v t s in
      (first, object_list s (either_first w v) t descendant ∙ first)

  -- so are the outcomes of both calls, whatever the room
  module _ (h : UsedOnce s (v ++ w)) where
    left : UsedOnce s v
    left = (halves s v w h).0

    seen_by_one : visible s (v ++ w) t ≡ visible s v t
    seen_by_one = joined_unseen s v w t unseen

    pub scan_of_one : (room : ℕ) → (Asks.scan_object (v ++ w) t descendant room s ≡ Asks.scan_object v t descendant room s)
        × (Asks.scan_object (w ++ v) t descendant room s ≡ Asks.scan_object v t descendant room s)
    scan_of_one room =
        let first = asked_same (scan_asked s h t room) (scan_asked s left t room) seen_by_one (ap (list_told room) descendants_of_one.0) in
        (first, order_alters_no_scan s (either_first w v) (scan_object t descendant room) refl ∙ first)

    pub set_of_one : (Asks.descendant_set (v ++ w) t s ≡ Asks.descendant_set v t s) × (Asks.descendant_set (w ++ v) t s ≡ Asks.descendant_set v t s)
    set_of_one =
        let first = asked_same (set_asked s h t) (set_asked s left t) seen_by_one (ap set_told below_one) in
        (first, order_alters_no_scan s (either_first w v) (descendant_set t) refl ∙ first)

-- ---- modes (02, Q-2): "the union over the listed SDSs"

module _ (s : Schema) (modes : Presence → Modes) (t : ℕ) where
  -- mode by mode: a presence in an SDS of either list
  mode_joined : (v w : List ℕ) (m : ℕ) → mode_listed modes (v ++ w) t s m ≡ mode_listed modes v t s m || mode_listed modes w t s m
  unfolding mode_listed
  mode_joined v w m =
      (λ i. any (λ p. any_joined (eqb p.sds) v w i && has p) s.presences)
      ∙ (λ i. any (λ p. and-or_distrib_right (among v p.sds) (among w p.sds) (has p) i) s.presences)
      ∙ any_either (λ p. among v p.sds && has p) (λ p. among w p.sds && has p) s.presences
    where
      has : Presence → Bool
      has p = eqb p.type t && has_mode (modes p) m

  pub modes_joined : (v w : List ℕ) → modes_under modes (v ++ w) t s ≡ bit_or (modes_under modes v t s) (modes_under modes w t s)
  modes_joined v w = ap (marks 0 5) (λ i m. mode_joined v w m i) ∙ marks_or (mode_listed modes v t s) (mode_listed modes w t s) 0 5

  -- a list that has every SDS of another takes away no mode that this shows
  pub longer_list : (v w : List ℕ) → ((d : ℕ) → among v d ≡ true → among w d ≡ true) → (m : ℕ) → has_mode (modes_under modes v t s) m ≡ true
      → has_mode (modes_under modes w t s) m ≡ true
  unfolding mode_listed
  longer_list v w more m e =
      let (below, listed) = and_both (ltb m 5) (mode_listed modes v t s m) (sym (marks_mode (mode_listed modes v t s) m) ∙ e) in
      let (p, i, q) = any_where _ s.presences listed in
      let (in-v, has) = and_both (among v p.sds) (eqb p.type t && has_mode (modes p) m) q in
      marks_mode (mode_listed modes w t s) m
      ∙ and_of (ltb m 5) (mode_listed modes w t s m) below
      (any_at _ i (and_of (among w p.sds) (eqb p.type t && has_mode (modes p) m) (more p.sds in-v) has))

  -- there is none where the type is not visible
  mode_unseen : (w : List ℕ) → visible s w t ≡ false → (m : ℕ) → mode_listed modes w t s m ≡ false
  unfolding mode_listed visible present
  mode_unseen w unseen m =
      fails (mode_listed modes w t s m) (λ e.
      let (p, i, q) = any_where _ s.presences e in
      let (in-w, has) = and_both (among w p.sds) (eqb p.type t && has_mode (modes p) m) q in
      let there = any_at (holds_type p.sds t) i (and_of (eqb p.sds p.sds) (eqb p.type t) (eq-eqb p.sds p.sds refl)
      (and_both (eqb p.type t) (has_mode (modes p) m) has).0) in
      true≢false (sym (any_at (λ d. present s d t) (among_in w p.sds in-w) there) ∙ unseen))

  modes_of_first : (v w : List ℕ) → visible s w t ≡ false → modes_under modes (v ++ w) t s ≡ modes_under modes v t s
  modes_of_first v w unseen = ap (marks 0 5) (λ i m. first m i)
    where
      first : (m : ℕ) → mode_listed modes (v ++ w) t s m ≡ mode_listed modes v t s m
      first m = mode_joined v w m ∙ rw (mode_unseen w unseen m) (or-false (mode_listed modes v t s m))

-- "and where it is visible in one, that one's", whichever comes first
pub modes_of_one : (s : Schema) (v w : List ℕ) (t : ℕ) → visible s w t ≡ false → UsedOnce s (v ++ w)
    → (Asks.modes_of (v ++ w) t s ≡ Asks.modes_of v t s) × (Asks.modes_of (w ++ v) t s ≡ Asks.modes_of v t s)
modes_of_one s v w t unseen h =
    let first = asked_same (modes_asked s h t) (modes_asked s (halves s v w h).0 t) (joined_unseen s v w t unseen)
    (λ i. modes_told (λ modes. modes_of_first s modes t v w unseen i)) in
    (first, order_alters_no_scan s (either_first w v) (modes_of t) refl ∙ first)
