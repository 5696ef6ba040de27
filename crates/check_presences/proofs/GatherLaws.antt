-- Words that are gathered row by row. Assumes nothing.
use Prim.Native.Nat.{ℕ, ◌+◌, ◌*◌, ◌%◌, ◌^◌, ◌<◌}
use native.Mathlib.Omega.{arith}
use mathlib.Core.Path.{◌≡◌, sym, ap, ◌∙◌, subst}
use mathlib.Core.Logic.{⊎_elim}
use mathlib.Core.List.{List}
use mathlib.Core.Bool.{true, ◌&&◌, false≢true}
use lib.Bits.{bit_or}
use lib.Dec.{eqb}
use lib.ListN.{length, get_or, set, replicate, length-set}
use borrow.Author.Count.{below_more}
use borrow.Author.Tests.{eqb-true, eq-eqb}
use Rattle.rules.specs.02-Limits.{limits}
use Rattle.rules.specs.Read.{type_offset}
use Rattle.rules.proofs.Bools.{or_cases, or_left, or_right, and_both, and_of}
use Rattle.type_set.specs.Set.{bit}
use Rattle.type_set.proofs.Bit.{bit_zero}
use Rattle.rows.proofs.Scan.{zeros_room, zero_at}
use Rattle.base.specs.Rows.{presence_at}
use Rattle.check_held.specs.Held.{marked}
use Rattle.check_held.proofs.WordLaws.{marked_bit, marked_small}
use Rattle.check_presences.specs.Gathered.{Gathers}

gathers_none : (b held : List ℕ) → held ≡ replicate {A = ℕ} limits.types 0 → Gathers b 0 held
gathers_none b held e = record {
  room = zeros_room limits.types e;
  words = λ t h. omega (arith, zero_at limits.types e t);
  marked = λ i h. absurd (omega arith);
  marks = λ t d h k q. absurd (false≢true (sym (bit_zero d) ∙ ap (λ (w : ℕ). bit w d) (sym (zero_at limits.types e t)) ∙ q));
}

-- row n too
pub gathers_more : {b : List ℕ} {n : ℕ} {held : List ℕ} → Gathers b n held → (t d : ℕ) → t ≡ get_or b (presence_at n + type_offset) 0
    → d ≡ get_or b (presence_at n) 0 → t < 128 → d < 16 → Gathers b (n + 1) (marked held t d)
gathers_more {b} {n} {held} g t d is_t is_d ht hd = record {
  room = length-set held t _ ∙ g.room;
  words = λ u h. marked_small held t d room hd u (g.words t ht) (g.words u h);
  marked = below_more _ n (λ i h. old (get_or b (presence_at i + type_offset) 0) (get_or b (presence_at i) 0) (g.marked i h))
      (added (get_or b (presence_at n + type_offset) 0) (get_or b (presence_at n) 0) (sym is_t) (sym is_d));
  marks = λ u e hu he q.
      ⊎_elim
      (λ x.
      let (same_t, same_d) = and_both (eqb u t) (eqb e d) x in
      (n, omega arith, sym is_d ∙ sym (eqb-true e d same_d), sym is_t ∙ sym (eqb-true u t same_t)))
      (λ x. let (i, h, s, y) = g.marks u e hu he x in (i, omega arith, s, y))
      (or_cases (eqb u t && eqb e d) (bit (get_or held u 0) e) (sym (marked_bit held t d room hd u e) ∙ q));
}
  where
    room : t < length held
    room = omega (arith, g.room)

    old : (u e : ℕ) → bit (get_or held u 0) e ≡ true → bit (get_or (marked held t d) u 0) e ≡ true
    old u e q = marked_bit held t d room hd u e ∙ or_right (eqb u t && eqb e d) (bit (get_or held u 0) e) q

    added : (u e : ℕ) → u ≡ t → e ≡ d → bit (get_or (marked held t d) u 0) e ≡ true
    added u e x y =
        marked_bit held t d room hd u e
        ∙ or_left (eqb u t && eqb e d) (bit (get_or held u 0) e) (and_of (eqb u t) (eqb e d) (eq-eqb u t x) (eq-eqb e d y))

-- row 0, of type 0 in SDS 0
pub gathers_first : (b held : List ℕ) → held ≡ replicate {A = ℕ} limits.types 0 → get_or b (presence_at 0 + type_offset) 0 ≡ 0
    → get_or b (presence_at 0) 0 ≡ 0 → Gathers b 1 (set held 0 1)
gathers_first b held e t d =
    subst (λ (w : ℕ). Gathers b 1 (set held 0 w)) (ap (λ (w : ℕ). bit_or w (1 * 2 ^ 0 % 2 ^ 16)) (zero_at limits.types e 0))
    (gathers_more (gathers_none b held e) 0 0 (sym t) (sym d) (omega arith) (omega arith))
