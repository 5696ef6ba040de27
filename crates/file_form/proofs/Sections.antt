-- A section walked entry by entry. Assumes nothing.
use Prim.Native.Nat.{ℕ, zero, suc, ◌+◌, ◌*◌, ◌-◌, min, ◌≤◌, ◌<◌}
use native.Mathlib.Omega.{arith}
use mathlib.Core.Path.{◌≡◌, refl, sym, ap, subst, ◌∙◌}
use mathlib.Core.List.{List, [], ◌∷◌, ◌++◌}
use mathlib.Core.Logic.{inl, inr}
use mathlib.Core.Bool.{Bool, true, false}
use lib.Dec.{ltb}
use borrow.Author.Tests.{ltb-true, ltb-false}
use lib.ListN.{length, get_or, take, drop, length-drop}
use lib.Seq.{get_or-take, get_or-drop, drop-drop, take_all}
use Rattle.rules.specs.11-File.{Entry, Section, shared, Longest}
use Rattle.rules.proofs.Sections.{Bytes}
use Rattle.file_form.specs.Walk.{fitting, Start, Walked}
use Rattle.file_form.proofs.Starts.{Some, shared_same, shared_most, shared_start, start_as, start_wide, start_short, start_none, then_stop, then_pass}
use Rattle.file_form.proofs.Values.{many, value}
use Rattle.file_form.proofs.Fit.{Between}
use Rattle.file_form.proofs.Compare.{Prior, past, past_some, entry_longest}
use Rattle.file_form.proofs.Entries.{Run, run_some, run_length, count, entry_two, section_counted, counted_section}

many_two : (w : ℕ) → 2 ≤ w → 65536 ≤ many w
unfolding many
many_two zero h = absurd (omega arith)
many_two (suc zero) h = absurd (omega arith)
many_two (suc (suc zero)) h = omega arith
many_two (suc (suc (suc w))) h = omega (arith, many_two (suc (suc w)) (omega arith))

-- ---- the count

module _ (w : ℕ) where
  -- a count, and a section with it
  count_some : 2 ≤ w → (c : List ℕ) → Entry 2 c → Some (Run w 0 (count c))
  count_some h c e = run_some w (count c) 0 (omega (arith, many_two w h, e.bytes 0, e.bytes 1))

  section_short : 2 ≤ w → (l : List ℕ) → Bytes l → length l < 2 → Start (Section w) l (length l) false
  section_short h l s k =
      start_as (counted_section w) (section_counted w)
      (then_stop (count_some h) (start_short 2 (λ o e. e.wide) k (longest l s k)))
    where
      longest : (l : List ℕ) → Bytes l → length l < 2 → Longest (Entry 2) l (length l)
      longest [] s k =
          record { some = 0 ∷ 0 ∷ []; is = entry_two (omega arith) (omega arith); reached = empty (0 ∷ 0 ∷ []); most = λ o e. omega (arith, shared_most [] o) }
        where
          empty : (o : List ℕ) → shared [] o ≡ 0
          empty o = omega (arith, shared_most [] o)
      longest (x ∷ []) s k =
          record {
            some = x ∷ 0 ∷ [];
            is = entry_two (s 0) (omega arith);
            reached = shared_same x [] (0 ∷ []) ∙ omega (arith, shared_most [] (0 ∷ []));
            most = λ o e. omega (arith, shared_most (x ∷ []) o);
          }
      longest (x ∷ y ∷ l) s k = absurd (omega arith)

  -- both bytes of the count are there: the entries decide
  section_first : (l : List ℕ) → Bytes l → 2 ≤ length l → (k : ℕ) (whole : Bool) → Start (Run w 0 (count l)) (drop 2 l) k whole
      → Start (Section w) l (2 + k) whole
  section_first [] s h k whole t = absurd (omega arith)
  section_first (x ∷ []) s h k whole t = absurd (omega arith)
  section_first (x ∷ y ∷ l) s h k whole t =
      start_as (counted_section w) (section_counted w) (then_pass (λ a e all. e.wide) front t)
    where
      front : Start (Entry 2) (x ∷ y ∷ l) 2 true
      front =
          start_wide 2 (λ o e. e.wide) (record {
            some = x ∷ y ∷ [];
            is = entry_two (s 0) (s 1);
            reached = shared_same x (y ∷ l) (y ∷ []) ∙ ap suc (shared_same y l [] ∙ ap suc (omega (arith, shared_most l [])));
            most = λ o e. omega (arith, (shared_most (x ∷ y ∷ l) o).1, e.wide);
          })

  -- a section that l begins with is as long as l's count says
  pub section_length : (l a : List ℕ) → Section w a → shared l a ≡ length a → length a ≡ 2 + count l * w
  section_length l a s all =
      let c = section_counted w a s in
      go c.front c.back c.first c.second c.is
    where
      go : (c b : List ℕ) → Entry 2 c → Run w 0 (count c) b → a ≡ c ++ b → length a ≡ 2 + count l * w
      go [] b e r is = absurd (omega (arith, e.wide))
      go (x ∷ []) b e r is = absurd (omega (arith, e.wide))
      go (x ∷ y ∷ z ∷ c) b e r is = absurd (omega (arith, e.wide))
      go (x ∷ y ∷ []) b e r is =
          let long : length a ≡ suc (suc (length b)) = ap length is in
          let first : get_or l 0 0 ≡ x = sym (get_or-take (length a) l 0 0 (omega arith)) ∙ ap (λ (t : List ℕ). get_or t 0 0) (shared_start l a all ∙ is) in
          let second : get_or l 1 0 ≡ y = sym (get_or-take (length a) l 1 0 (omega arith)) ∙ ap (λ (t : List ℕ). get_or t 1 0) (shared_start l a all ∙ is) in
          rw (first, second) (omega (arith, run_length w (x + 256 * y) 0 b r))

-- ---- entry by entry

-- w bytes from `at` on
abbrev part : List ℕ → ℕ → ℕ → List ℕ
part l at w = take w (drop at l)

bytes_from : (file : List ℕ) → Bytes file → (at : ℕ) → Bytes (drop at file)
bytes_from file bytes at i = rw (get_or-drop at file i 0) (bytes (at + i))

-- the entries up to `here` are read, `prev` is the last of them: the `left` that follow decide
pub record Left (w : ℕ) (file : List ℕ) (at : ℕ) (prev : List ℕ) (here left : ℕ) : Type 0 where
  pub wide : 2 ≤ w
  pub bytes : Bytes file
  pub further : at ≤ here
  pub inside : here ≤ length file
  pub few : left < 65536
  pub prior : Prior w prev
  pub room : past prev + left ≤ many w
  pub decides : (k : ℕ) (whole : Bool) → Start (Run w (past prev) left) (drop here file) k whole
      → Start (Section w) (drop at file) (here - at + k) whole

module _ (w : ℕ) (file : List ℕ) (at : ℕ) (wide : 2 ≤ w) (bytes : Bytes file) where
  pub walked_short : at ≤ length file → length file - at < 2 → Walked w file at (length file) false
  walked_short h k =
      let long = length-drop at file in
      record {
        further = h;
        inside = omega arith;
        start = subst (λ (n : ℕ). Start (Section w) (drop at file) n false) long
            (section_short w wide (drop at file) (bytes_from file bytes at) (omega arith));
      }

  pub left_first : (n : ℕ) → at + 2 ≤ length file → n ≡ get_or file at 0 + get_or file (at + 1) 0 * 256 → Left w file at [] (at + 2) n
  unfolding past
  left_first n h x =
      let two : at + 2 - at ≡ 2 = omega arith in
      let long = length-drop at file in
      record {
        wide = wide;
        bytes = bytes;
        further = omega arith;
        inside = h;
        few = omega (arith, bytes at, bytes (at + 1));
        prior = inl refl;
        room = omega (arith, bytes at, bytes (at + 1), many_two w wide);
        decides = λ k whole. rw two (λ t. section_first w (drop at file) (bytes_from file bytes at) (omega arith) k whole (again k whole t));
      }
    where
      counted : n ≡ count (drop at file)
      counted = let zero : at + 0 ≡ at = omega arith in rw (get_or-drop at file 0 0, get_or-drop at file 1 0, zero) (omega arith)

      again : (k : ℕ) (whole : Bool) → Start (Run w 0 n) (drop (at + 2) file) k whole → Start (Run w 0 (count (drop at file))) (drop 2 (drop at file)) k whole
      again k whole t = rw (drop-drop 2 at file, ← counted) t

past_entry : (w : ℕ) (p : List ℕ) → 2 ≤ w → Entry w p → past p ≡ suc (value p)
past_entry w [] h e = absurd (omega (arith, e.wide))
past_entry w (x ∷ p) h e = past_some x p

-- r of the bytes from `here` up to e can stand there, with m entries to come
module _ {w : ℕ} {file : List ℕ} {at : ℕ} {prev : List ℕ} {here e m r : ℕ} (s : Left w file at prev here (suc m)) (ends : e ≡ here + min w (length file - here))
    (good : r ≡ fitting w prev m (part file here (e - here))) where
  abbrev Next : List ℕ → Type 0
  Next = Between w (past prev) (many w - suc m)

  same_part : part file here (e - here) ≡ part file here w
  same_part = go (ltb e (here + w)) refl
    where
      go : (t : Bool) → ltb e (here + w) ≡ t → part file here (e - here) ≡ part file here w
      go true f =
          let less = ltb-true e (here + w) f in
          let long = length-drop here file in
          take_all (e - here) (drop here file) (omega (arith, ends)) ∙ sym (take_all w (drop here file) (omega (arith, ends)))
      go false f = let all : e - here ≡ w = omega (arith, ends, ltb-false e (here + w) f) in rw all

  found : Longest Next (drop here file) r
  found =
      subst (λ (n : ℕ). Longest Next (drop here file) n) (sym (good ∙ rw same_part))
      (entry_longest w m prev (drop here file) s.wide (omega (arith, s.few)) s.prior
      (bytes_from file s.bytes here) (omega (arith, s.room)))

  inside : here + r ≤ length file
  inside = omega (arith, (shared_most (drop here file) found.some).0, found.reached, length-drop here file, s.inside)

  stop : r < w → Walked w file at (here + r) false
  unfolding Run
  stop k =
      let far : here - at + r ≡ here + r - at = omega (arith, s.further) in
      let next = start_short w (λ o b. b.entry.wide) k found in
      let run = then_stop (λ x b. run_some w m (suc (value x)) (omega (arith, b.high, s.room))) next in
      record {
        further = omega (arith, s.further);
        inside = inside;
        start = subst (λ (n : ℕ). Start (Section w) (drop at file) n false) far (s.decides r false run);
      }

  go : w ≤ r → Left w file at (part file here (e - here)) e m
  unfolding Run
  go k =
      record {
        wide = s.wide;
        bytes = s.bytes;
        further = omega (arith, s.further, ends);
        inside = omega (arith, ends, s.inside);
        few = omega (arith, s.few);
        prior = rw reach (inr whole.entry);
        room = rw (reach, past_entry w (part file here w) s.wide whole.entry) (omega (arith, whole.high, s.room));
        decides = λ n t. rw (e_at, here_on, past_entry w (part file here w) s.wide whole.entry, ← drop-drop w here file) (λ u.
            let far : here - at + (w + n) ≡ here + w - at + n = omega (arith, s.further) in
            let run = then_pass (λ a b all. b.entry.wide) (start_wide w (λ o b. b.entry.wide) all) u in
            subst (λ (x : ℕ). Start (Section w) (drop at file) x t) far (s.decides (w + n) t run));
      }
    where
      reach : e - here ≡ w
      reach = omega (arith, ends, inside)

      e_at : e ≡ here + w
      e_at = omega (arith, reach, ends)

      here_on : here + w - here ≡ w
      here_on = omega arith

      same : r ≡ w
      same = omega (arith, (shared_most (drop here file) found.some).1, found.reached, found.is.entry.wide)

      all : Longest Next (drop here file) w
      all = subst (λ (n : ℕ). Longest Next (drop here file) n) same found

      whole : Next (part file here w)
      whole =
          let long = all.is.entry.wide in
          let start = shared_start (drop here file) all.some (all.reached ∙ sym long) in
          subst (λ (x : List ℕ). Next x) (sym start ∙ rw long) all.is

-- the same of the code's numbers
module _ {w : ℕ} {file : List ℕ} {at : ℕ} {prev : List ℕ} {here e left r : ℕ} (s : Left w file at prev here left) (some : 0 < left)
    (ends : e ≡ here + min w (length file - here)) (good : r ≡ fitting w prev (left - 1) (part file here (e - here))) where
  more : left ≡ suc (left - 1)
  more = omega arith

  pub left_stop : r < w → Walked w file at (here + r) false
  left_stop = stop (subst (λ (n : ℕ). Left w file at prev here n) more s) ends good

  pub left_go : w ≤ r → Left w file at (part file here (e - here)) e (left - 1)
  left_go = go (subst (λ (n : ℕ). Left w file at prev here n) more s) ends good

pub left_done : {w : ℕ} {file : List ℕ} {at : ℕ} {prev : List ℕ} {here left : ℕ} → Left w file at prev here left → left ≡ 0
    → Walked w file at here true
unfolding Run
left_done {w} {file} {at} {here = here} {left = zero} s e =
    let far : here - at + 0 ≡ here - at = omega arith in
    record {
      further = s.further;
      inside = s.inside;
      start = subst (λ (n : ℕ). Start (Section w) (drop at file) n true) far (s.decides 0 true (start_none (drop here file)));
    }
left_done {left = suc m} s e = absurd (omega arith)
