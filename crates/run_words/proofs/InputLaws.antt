-- A line gathered read by read: what was left, what a read brought, and what is whole. Assumes nothing.
use Rattle.std.proofs.Common.{◌≡◌, ◌≢◌, ◌⊎◌, ℕ, zero, suc, ◌+◌, ◌-◌, ◌≤◌, ◌<◌, Bool, true, false, not, ◌&&◌, eqb, ltb, List, [], ◌∷◌, ◌++◌}
use Rattle.std.proofs.Common.{length, get_or, take, drop, refl, sym, ap, ◌∙◌, inl, inr, arith, append_assoc, append-nil, true≢false}
use Rattle.std.proofs.Common.{length-take, length-drop, length-append, length-take-le, drop_of_length-le, eqb-true, ne_eqb, lt-ltb, drop-drop}
use Rattle.std.proofs.lemmas.Bool.{false≢true, eqb-false}
use mathlib.Core.Logic.{⊎_elim}
use borrow.Author.Tests.{not-true, not-false}
use Rattle.std.proofs.lemmas.List.{drop-take}
use Rattle.rules.specs.01-Lists.{any}
use Rattle.rules.proofs.Bools.{or_neither}
use Rattle.run_words.specs.Lines.{upto, beyond, has_newline}
use Rattle.run_words.specs.Input.{Left, all_turns, Filled, Gathered, NextLine}
use Rattle.run_words.proofs.LineLaws.{take_cut}

-- ---- a newline, or none

none_left : (a b : List ℕ) → has_newline (a ++ b) ≡ false → has_newline a ≡ false
unfolding any
none_left [] b e = refl
none_left (c ∷ a) b e = let h = or_neither (eqb c 10) (has_newline (a ++ b)) e in rw h.0 (none_left a b h.1)

-- where the first bytes have no newline, the bytes behind them decide
newline_behind : (a b : List ℕ) → has_newline a ≡ false → has_newline (a ++ b) ≡ has_newline b
unfolding any
newline_behind [] b e = refl
newline_behind (c ∷ a) b e = let h = or_neither (eqb c 10) (has_newline a) e in rw h.0 (newline_behind a b h.1)

upto_behind : (a b : List ℕ) → has_newline a ≡ false → upto (a ++ b) ≡ a ++ upto b
unfolding any upto
upto_behind [] b e = refl
upto_behind (c ∷ a) b e =
    let h = or_neither (eqb c 10) (has_newline a) e in
    rw h.0 (ap (λ (r : List ℕ). c ∷ r) (upto_behind a b h.1))

beyond_behind : (a b : List ℕ) → has_newline a ≡ false → beyond (a ++ b) ≡ beyond b
unfolding any beyond
beyond_behind [] b e = refl
beyond_behind (c ∷ a) b e = let h = or_neither (eqb c 10) (has_newline a) e in rw h.0 (beyond_behind a b h.1)

upto_all : (a : List ℕ) → has_newline a ≡ false → upto a ≡ a
unfolding upto
upto_all a e = ap upto (sym (append-nil a)) ∙ upto_behind a [] e ∙ append-nil a

beyond_none : (a : List ℕ) → has_newline a ≡ false → beyond a ≡ []
unfolding beyond
beyond_none a e = ap beyond (sym (append-nil a)) ∙ beyond_behind a [] e

newline_some : (a : List ℕ) → has_newline a ≡ true → eqb (length a) 0 ≡ false
unfolding any
newline_some [] e = absurd (false≢true e)
newline_some (c ∷ a) e = ne_eqb (length (c ∷ a)) 0 (λ h. omega arith)

empty : (l : List ℕ) → length l ≡ 0 → l ≡ []
empty [] h = refl
empty (c ∷ l) h = absurd (omega arith)

-- the first newline
newline_at : (l : List ℕ) (i : ℕ) → i < length l → get_or l i 0 ≡ 10 → ((k : ℕ) → k < i → get_or l k 0 ≢ 10)
    → (upto l ≡ take i l) × (beyond l ≡ drop (suc i) l) × (has_newline l ≡ true)
unfolding any upto beyond
newline_at [] i h e n = absurd (omega arith)
newline_at (c ∷ l) zero h e n = rw e (refl, refl, refl)
newline_at (c ∷ l) (suc i) h e n =
    let (u, b, t) = newline_at l i (omega arith) e (λ k s. n (suc k) (omega arith)) in
    rw (ne_eqb c 10 (n 0 (omega arith))) (ap (λ (r : List ℕ). c ∷ r) u, b, t)

newline_none : (l : List ℕ) → ((k : ℕ) → k < length l → get_or l k 0 ≢ 10) → has_newline l ≡ false
unfolding any
newline_none [] n = refl
newline_none (c ∷ l) n = rw (ne_eqb c 10 (n 0 (omega arith))) (newline_none l (λ k s. n (suc k) (omega arith)))

-- ---- `fill`

-- what an input has left, by its fields
abbrev pub seen : List ℕ → ℕ → ℕ → Left
seen read from n = record { unread = drop from (take n read); over = eqb n 0; read = read; from = from; n = n }

module _ {x : Left} (read : List ℕ) (from n : ℕ) (view : seen read from n ≡ x) (place : from ≤ n) (few : n ≤ length read) where
  -- something is left: nothing is read
  pub filled_left : from < n → Filled x.unread x true
  filled_left h = record {
    more = [];
    lean = inr refl;
    is = sym (append-nil x.unread);
    over = ends ∙ sym (ap (λ (l : List ℕ). eqb (length l) 0) (append-nil x.unread) ∙ ne_eqb (length x.unread) 0 some);
    some = ap not (sym ends);
  }
    where
      ends : x.over ≡ false
      ends = ap (λ (y : Left). y.over) (sym view) ∙ ne_eqb n 0 (λ e. omega arith)

      some : length x.unread ≡ 0 → ⊥
      some e = omega (arith, ap (λ (y : Left). length y.unread) view, length-drop from (take n read), length-take-le n read few)

  -- nothing is left: what stands in the buffer is what a read brought
  pub filled_read : (read' : List ℕ) {n' : ℕ} → n ≤ from → n' ≤ length read' → Filled x.unread (seen read' 0 n') (ltb 0 n')
  filled_read read' {n'} h more = record {
    more = take n' read';
    lean = inl none;
    is = sym got;
    over = ap (λ (k : ℕ). eqb k 0) (sym (ap length got ∙ length-take-le n' read' more));
    some = positive n';
  }
    where
      none : x.unread ≡ []
      none = ap (λ (y : Left). y.unread) (sym view) ∙ drop_of_length-le (take n read) {i = from} (omega (arith, length-take n read))

      got : x.unread ++ take n' read' ≡ take n' read'
      got = ap (λ (l : List ℕ). l ++ take n' read') none

      positive : (k : ℕ) → ltb 0 k ≡ not (eqb k 0)
      positive zero = refl
      positive (suc k) = lt-ltb 0 (suc k) (omega arith) ∙ sym (ap not (ne_eqb (suc k) 0 (λ e. omega arith)))

-- ---- `gather`

module _ {x : Left} (read : List ℕ) (from n : ℕ) (view : seen read from n ≡ x) (place : from ≤ n) where
  part : take (n - from) (drop from read) ≡ drop from (take n read)
  part = sym (drop-take from (n - from) read) ∙ ap (λ (k : ℕ). drop from (take k read)) whole
    where
      whole : from + (n - from) ≡ n
      whole = omega arith

  piece : take (n - from) (drop from read) ≡ x.unread
  piece = part ∙ ap (λ (y : Left). y.unread) view

  pub gathered_line : {line line' : List ℕ} {end : ℕ} → end < length (take (n - from) (drop from read))
      → get_or (take (n - from) (drop from read)) end 0 ≡ 10
      → ((k : ℕ) → k < end → get_or (take (n - from) (drop from read)) k 0 ≢ 10)
      → line' ≡ take 128 (line ++ take end (take (n - from) (drop from read)))
      → Gathered x line (seen read (from + (end + 1)) n) line' true
  gathered_line {line} {line'} {end} h e none l =
      let (u, b, t) = newline_at (take (n - from) (drop from read)) end h e none in
      record {
        is = l ∙ ap (λ (r : List ℕ). take 128 (line ++ r)) (sym u ∙ ap upto piece);
        rest = further ∙ sym b ∙ ap beyond piece;
        over = ap (λ (y : Left). y.over) view;
        ends = sym t ∙ ap has_newline piece;
      }
    where
      further : drop (from + (end + 1)) (take n read) ≡ drop (suc end) (take (n - from) (drop from read))
      further = ap (λ (k : ℕ). drop k (take n read)) next ∙ sym (drop-drop (suc end) from (take n read)) ∙ ap (drop (suc end)) (sym part)
        where
          next : from + (end + 1) ≡ from + suc end
          next = omega arith

  pub gathered_all : {line line' : List ℕ}
      → ((k : ℕ) → k < length (take (n - from) (drop from read)) → get_or (take (n - from) (drop from read)) k 0 ≢ 10)
      → line' ≡ take 128 (line ++ take (n - from) (drop from read))
      → Gathered x line (seen read n n) line' false
  gathered_all {line} {line'} none l =
      let t = newline_none (take (n - from) (drop from read)) none in
      record {
        is = l ∙ ap (λ (r : List ℕ). take 128 (line ++ r)) (sym (upto_all _ t) ∙ ap upto piece);
        rest = drop_of_length-le (take n read) {i = n} (omega (arith, length-take n read)) ∙ sym (beyond_none _ t) ∙ ap beyond piece;
        over = ap (λ (y : Left). y.over) view;
        ends = sym t ∙ ap has_newline piece;
      }

-- ---- `next_line`

-- What came was gathered up to here and has no newline: each turn has gathered a byte, and all that was left.
pub record Reading (left₀ line : List ℕ) (x : Left) (turns : ℕ) : Type 0 where
  pub gone : List ℕ
  pub more : List ℕ
  pub all : gone ++ x.unread ≡ left₀ ++ more
  pub none : has_newline gone ≡ false
  pub is : line ≡ take 128 gone
  pub either : (gone ≡ []) ⊎ (x.unread ≡ [])
  pub spent : turns ≤ length gone
  pub goes : 0 < turns → x.over ≡ false
  pub lean : has_newline left₀ ≡ true → more ≡ []

pub reading_first : (x : Left) → Reading x.unread [] x 0
unfolding any
reading_first x = record {
  gone = [];
  more = [];
  all = sym (append-nil x.unread);
  none = refl;
  is = refl;
  either = inl refl;
  spent = omega arith;
  goes = λ h. absurd (omega arith);
  lean = λ e. refl;
}

module _ {left₀ line : List ℕ} {x : Left} {turns : ℕ} (g : Reading left₀ line x turns) {y : Left} {r : Bool} (f : Filled x.unread y r) where
  -- what this turn gathers, and what came so far
  came_all : g.gone ++ y.unread ≡ left₀ ++ (g.more ++ f.more)
  came_all = ap (λ (l : List ℕ). g.gone ++ l) f.is ∙ sym (append_assoc g.gone x.unread f.more)
      ∙ ap (λ (l : List ℕ). l ++ f.more) g.all ∙ append_assoc left₀ g.more f.more

  came_lean : has_newline left₀ ≡ true → g.more ++ f.more ≡ []
  came_lean e = ap (λ (l : List ℕ). l ++ f.more) (g.lean e)
      ∙ ⊎_elim (λ h. absurd (true≢false (sym e ∙ gone_first h))) (λ h. h) f.lean
    where
      gone_first : x.unread ≡ [] → has_newline left₀ ≡ false
      gone_first h = none_left left₀ g.more (ap has_newline (sym g.all
          ∙ ap (λ (l : List ℕ). g.gone ++ l) h ∙ append-nil g.gone) ∙ g.none)

  -- the input is over
  pub reading_over : r ≡ false → NextLine left₀ y line (not (eqb (length line) 0))
  reading_over e = record {
    more = g.more ++ f.more;
    lean = came_lean;
    is = g.is ∙ ap (take 128) (sym (upto_all g.gone g.none) ∙ ap upto came);
    rest = nothing ∙ sym (beyond_none g.gone g.none) ∙ ap beyond came;
    goes_on = λ h. absurd (true≢false (sym h ∙ ap has_newline (sym came) ∙ g.none));
    ends = λ h. inl ended;
    some = ap (λ (t : Bool). not (t && eqb (length line) 0)) (sym ended);
  }
    where
      ended : y.over ≡ true
      ended = not-false y.over (sym f.some ∙ e)

      nothing : y.unread ≡ []
      nothing = empty y.unread (ap length f.is ∙ eqb-true (length (x.unread ++ f.more)) 0 (sym f.over ∙ ended))

      came : g.gone ≡ left₀ ++ (g.more ++ f.more)
      came = sym (append-nil g.gone) ∙ ap (λ (l : List ℕ). g.gone ++ l) (sym nothing) ∙ came_all

  module _ (goes : r ≡ true) {z : Left} {line' : List ℕ} {t : Bool} (a : Gathered y line z line' t) where
    going : y.over ≡ false
    going = not-true y.over (sym f.some ∙ goes)

    came_kept : line' ≡ take 128 (g.gone ++ upto y.unread)
    came_kept = a.is ∙ ap (λ (l : List ℕ). take 128 (l ++ upto y.unread)) g.is ∙ take_cut 128 g.gone (upto y.unread)

    -- a newline: the line is whole
    pub reading_whole : t ≡ true → NextLine left₀ z line' true
    reading_whole e = record {
      more = g.more ++ f.more;
      lean = came_lean;
      is = came_kept ∙ ap (take 128) (sym (upto_behind g.gone y.unread g.none) ∙ ap upto came_all);
      rest = a.rest ∙ sym (beyond_behind g.gone y.unread g.none) ∙ ap beyond came_all;
      goes_on = λ h. a.over ∙ going;
      ends = λ h. absurd (true≢false (sym e ∙ a.ends ∙ sym (newline_behind g.gone y.unread g.none) ∙ ap has_newline came_all ∙ h));
      some = ap (λ (s : Bool). not (s && eqb (length line') 0)) (sym (a.over ∙ going));
    }

    -- none: it goes on, with a byte more at least
    pub reading_more : t ≡ false → Reading left₀ line' z (turns + 1)
    reading_more e = record {
      gone = g.gone ++ y.unread;
      more = g.more ++ f.more;
      all = ap (λ (l : List ℕ). (g.gone ++ y.unread) ++ l) nothing ∙ append-nil (g.gone ++ y.unread) ∙ came_all;
      none = newline_behind g.gone y.unread g.none ∙ without;
      is = came_kept ∙ ap (λ (l : List ℕ). take 128 (g.gone ++ l)) (upto_all y.unread without);
      either = inr nothing;
      spent = omega (arith, length-append g.gone y.unread, ap length f.is, eqb-false (length (x.unread ++ f.more)) 0 (sym f.over ∙ going), g.spent);
      goes = λ h. a.over ∙ going;
      lean = came_lean;
    }
      where
        without : has_newline y.unread ≡ false
        without = sym a.ends ∙ e

        nothing : z.unread ≡ []
        nothing = a.rest ∙ beyond_none y.unread without

-- no turn is left: so many bytes without a newline
pub reading_spent : {left₀ line : List ℕ} {x : Left} {turns : ℕ} → turns ≡ all_turns → Reading left₀ line x turns → NextLine left₀ x line true
reading_spent {left₀} {line} {x} last g = record {
  more = g.more;
  lean = g.lean;
  is = g.is ∙ ap (take 128) (sym (upto_all g.gone g.none) ∙ ap upto came);
  rest = nothing ∙ sym (beyond_none g.gone g.none) ∙ ap beyond came;
  goes_on = λ h. goes;
  ends = λ h. inr (omega (arith, g.spent, ap length came));
  some = ap (λ (s : Bool). not (s && eqb (length line) 0)) (sym goes);
}
  where
    goes : x.over ≡ false
    goes = g.goes (omega arith)

    nothing : x.unread ≡ []
    nothing = ⊎_elim (λ e. absurd (omega (arith, g.spent, ap length e))) (λ e. e) g.either

    came : g.gone ≡ left₀ ++ g.more
    came = sym (append-nil g.gone) ∙ ap (λ (l : List ℕ). g.gone ++ l) (sym nothing) ∙ g.all
