-- Bytes put down one behind another, and a loop that puts down the whole of some bytes. Assumes nothing.
use Prim.Native.Nat.{ℕ, ◌+◌, ◌-◌, ◌≤◌, ◌<◌}
use native.Mathlib.Nat.{add-zero, zero-add}
use native.Mathlib.Numerals.{add-one}
use native.Mathlib.Omega.{arith}
use mathlib.Core.Path.{◌≡◌, refl, sym, ap, ◌∙◌}
use mathlib.Core.List.{List, [], ◌∷◌, ◌++◌, append_assoc, append-nil}
use lib.ListN.{length, take, drop, set, length-append, length-drop, take-append-drop}
use lib.Seq.{length-take-le, drop-drop, set_split}
use Rattle.rows.specs.Table.{written}
use Rattle.rows.proofs.Written.{written_first, written_past}
use Rattle.file_out_presences.specs.Out.{PutDown}
use Rattle.file_out_presences.proofs.SpanLaws.{span, span_next, span_past}

pub written_none : (b : List ℕ) (at : ℕ) → written b at [] ≡ b
unfolding written
written_none b at = ap (λ (n : ℕ). take at b ++ drop n b) (add-zero at) ∙ take-append-drop at b

-- behind those that were put down before
pub written_next : (b p q : List ℕ) (at k : ℕ) → at ≤ length b → k ≡ at + length p → written (written b at p) k q ≡ written b at (p ++ q)
unfolding written
written_next b p q at k h e =
    let rest = drop (at + length p) b in
    let long : length (take at b ++ p) ≡ at + length p = length-append (take at b) p ∙ ap (λ (n : ℕ). n + length p) (length-take-le at b h) in
    let far : at + length p + length q ≡ at + length (p ++ q) = omega (arith, length-append p q) in
    ap (λ (l : List ℕ). written l k q) (sym (append_assoc (take at b) p rest))
    ∙ written_past (take at b ++ p) rest q k 0 (omega arith)
    ∙ ap (λ (l : List ℕ). (take at b ++ p) ++ l) (written_first rest q)
    ∙ ap (λ (l : List ℕ). (take at b ++ p) ++ (q ++ l)) (drop-drop (length q) (at + length p) b ∙ ap (λ (n : ℕ). drop n b) far)
    ∙ append_assoc (take at b) p (q ++ drop (at + length (p ++ q)) b)
    ∙ ap (λ (l : List ℕ). take at b ++ l) (sym (append_assoc p q (drop (at + length (p ++ q)) b)))

pub written_long : (b p : List ℕ) (at : ℕ) → at + length p ≤ length b → length (written b at p) ≡ length b
unfolding written
written_long b p at h =
    omega (
      arith,
      length-append (take at b) (p ++ drop (at + length p) b),
      length-append p (drop (at + length p) b),
      length-take-le at b (omega arith),
      length-drop (at + length p) b,
    )

-- one byte
pub set_written : (b : List ℕ) (at x : ℕ) → at < length b → set b at x ≡ written b at (x ∷ [])
unfolding written
set_written b at x h = set_split b at x h ∙ ap (λ (n : ℕ). take at b ++ x ∷ drop n b) (sym (add-one at))

-- ---- a loop that puts down the whole of some bytes: what is there, and what is left

pub record Putting (whole before : List ℕ) (from : ℕ) (after : List ℕ) (at : ℕ) (rest : List ℕ) : Type 0 where
  pub front : List ℕ
  pub end : at ≡ from + length front
  pub is : after ≡ written before from front
  pub left : front ++ rest ≡ whole
  pub room : from + length whole ≤ length before

module _ {whole o : List ℕ} {from : ℕ} where
  pub putting_none : from + length whole ≤ length o → Putting whole o from o from whole
  putting_none h = record { front = []; end = sym (add-zero from); is = sym (written_none o from); left = refl; room = h }

  -- what is left, said in another way
  pub putting_as : {o' rest rest' : List ℕ} {at : ℕ} → rest ≡ rest' → Putting whole o from o' at rest → Putting whole o from o' at rest'
  putting_as e g =
      record { front = g.front; end = g.end; is = g.is; left = ap (λ (x : List ℕ). g.front ++ x) (sym e) ∙ g.left; room = g.room }

  module _ {o' : List ℕ} {at : ℕ} where
    pub putting_long : {rest : List ℕ} → Putting whole o from o' at rest → length o' ≡ length o
    putting_long {rest} g =
        ap length g.is ∙ written_long o g.front from (omega (arith, g.room, ap length g.left, length-append g.front rest))

    -- room for what comes next
    pub putting_room : (l rest : List ℕ) → Putting whole o from o' at (l ++ rest) → at + length l ≤ length o'
    putting_room l rest g =
        omega (arith, putting_long g, g.room, g.end, ap length g.left, length-append g.front (l ++ rest), length-append l rest)

    pub putting_more : (l rest : List ℕ) {o'' : List ℕ} {r : ℕ} → Putting whole o from o' at (l ++ rest) → r ≡ at + length l → o'' ≡ written o' at l
        → Putting whole o from o'' r rest
    putting_more l rest g e p = record {
      front = g.front ++ l;
      end = omega (arith, g.end, length-append g.front l);
      is = p ∙ ap (λ (x : List ℕ). written x at l) g.is ∙ written_next o g.front l from at (omega (arith, g.room)) g.end;
      left = append_assoc g.front l rest ∙ g.left;
      room = g.room;
    }

    pub putting_done : Putting whole o from o' at [] → (at ≡ from + length whole) × (o' ≡ written o from whole)
    putting_done g =
        let all : g.front ≡ whole = sym (append-nil g.front) ∙ g.left in
        (g.end ∙ ap (λ (x : List ℕ). from + length x) all, g.is ∙ ap (written o from) all)

-- at the front of the output
pub put_front : {l o o' : List ℕ} {r : ℕ} → r ≡ 0 + length l → o' ≡ written o 0 l → PutDown l o o' r
put_front {l} {o} e p = record { long = e ∙ zero-add (length l); is = p ∙ written_first o l }

-- ---- a loop over n numbers

module _ {whole o : List ℕ} {from : ℕ} (f : ℕ → List ℕ) (n : ℕ) where
  pub spans_none : whole ≡ span f 0 n → from + length whole ≤ length o → Putting whole o from o from (span f 0 (n - 0))
  spans_none e h = let all : n - 0 ≡ n = omega arith in rw all (putting_as e (putting_none h))

  module _ {o' : List ℕ} {at : ℕ} (k : ℕ) (g : Putting whole o from o' at (span f k (n - k))) where
    pub spans_room : k < n → at + length (f k) ≤ length o'
    spans_room h = putting_room (f k) (span f (k + 1) (n - (k + 1))) (putting_as (span_next f n k h) g)

    pub spans_more : {o'' : List ℕ} {r : ℕ} → k < n → r ≡ at + length (f k) → o'' ≡ written o' at (f k)
        → Putting whole o from o'' r (span f (k + 1) (n - (k + 1)))
    spans_more h e p = putting_more (f k) (span f (k + 1) (n - (k + 1))) (putting_as (span_next f n k h) g) e p

    pub spans_done : n ≤ k → (at ≡ from + length whole) × (o' ≡ written o from whole)
    spans_done h = putting_done (putting_as (span_past f n k h) g)
