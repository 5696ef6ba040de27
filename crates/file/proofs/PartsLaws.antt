-- Parts one behind another: put down in an output, and compared with a file. Assumes nothing.
use Prim.Native.Nat.{ℕ, ◌+◌, ◌-◌, ◌≤◌, ◌<◌}
use native.Mathlib.Numerals.{add-one}
use native.Mathlib.Omega.{arith}
use mathlib.Core.Path.{◌≡◌, refl, sym, ap, ◌∙◌}
use mathlib.Core.List.{List, [], ◌∷◌, ◌++◌, append-nil}
use mathlib.Core.Logic.{◌≢◌}
use mathlib.Core.Bool.{false}
use borrow.Author.Tests.{eqb-true, eqb-false}
use borrow.Rule.Slice.PartMut.{mid_of, put_mid}
use borrow.Author.Rules.{part_to_end}
use lib.Dec.{eqb}
use lib.ListN.{length, get_or, drop, length-drop, drop_of_length-le}
use lib.Seq.{drop-cons, drop-drop}
use Rattle.rules.specs.01-Lists.{joined, numbers}
use Rattle.rules.specs.04-Schema.{Schema}
use Rattle.rules.proofs.07-Picture.{append_both}
use Rattle.rows.specs.Table.{written}
use Rattle.rows.specs.Decides.{Decides}
use Rattle.rows.proofs.Decides.{decides_no}
use Rattle.file_out_presences.specs.Out.{PutDown}
use Rattle.file_out_presences.proofs.PutLaws.{Putting, putting_none, putting_as, putting_room, putting_more, putting_done, put_front}
use Rattle.file_out.specs.Parts.{file_parts}

pub parts_many : (s : Schema) → length (file_parts s) ≡ 22
unfolding file_parts numbers
parts_many s = refl

-- put down at the front of what stands from `at` on
tail_written : (out l : List ℕ) (at : ℕ) {y : List ℕ} {r : ℕ} → PutDown l (mid_of at (length out - at) out) y r
    → put_mid at (length out - at) out y ≡ written out at l
unfolding written
tail_written out l at p =
    let none : drop (length out - at) (drop at out) ≡ [] = drop_of_length-le (drop at out) {i = length out - at} (omega (arith, length-drop at out)) in
    let back : drop (length l) (mid_of at (length out - at) out) ≡ drop (at + length l) out
    = ap (drop (length l)) (part_to_end out at) ∙ drop-drop (length l) at out in
    rw (none, append-nil, p.is, back)

module _ (ps : List (List ℕ)) where
  -- the parts from j on
  abbrev behind : ℕ → List ℕ
  behind j = joined (drop j ps)

  next : (j : ℕ) → j < length ps → behind j ≡ get_or ps j [] ++ behind (j + 1)
  unfolding joined
  next j h = ap joined (drop-cons ps j [] h) ∙ ap (λ (n : ℕ). get_or ps j [] ++ behind n) (sym (add-one j))

  past : (j : ℕ) → length ps ≤ j → behind j ≡ []
  unfolding joined
  past j h = ap joined (drop_of_length-le ps {i = j} h)

  -- ---- put down

  -- the first j parts stand in the output, up to `at`
  abbrev pub Down : List ℕ → List ℕ → ℕ → ℕ → Type 0
  Down out₀ out at j = Putting (joined ps) out₀ 0 out at (behind j)

  pub down_none : (out₀ : List ℕ) → length (joined ps) ≤ length out₀ → Down out₀ out₀ 0 0
  down_none out₀ h = putting_none (omega arith)

  module _ {out₀ out : List ℕ} {at : ℕ} (j : ℕ) (d : Down out₀ out at j) where
    module _ (h : j < length ps) where
      pub down_room : length (get_or ps j []) ≤ length (mid_of at (length out - at) out)
      down_room = rw (part_to_end out at) (omega (arith, length-drop at out, putting_room (get_or ps j []) (behind (j + 1)) (putting_as (next j h) d)))

      pub down_more : {y : List ℕ} {r : ℕ} → PutDown (get_or ps j []) (mid_of at (length out - at) out) y r
          → Down out₀ (put_mid at (length out - at) out y) (at + r) (j + 1)
      down_more p =
          putting_more (get_or ps j []) (behind (j + 1)) (putting_as (next j h) d) (ap (λ (n : ℕ). at + n) p.long) (tail_written out (get_or ps j []) at p)

    pub down_all : length ps ≤ j → PutDown (joined ps) out₀ out at
    down_all h = let (end, is) = putting_done (putting_as (past j h) d) in put_front end is

  -- ---- compared

  -- the first j parts are passed: what is left of the file decides
  pub record Met (file rest : List ℕ) (j : ℕ) : Type 0 where
    pub left : file ≡ joined ps → rest ≡ behind j
    pub all : rest ≡ behind j → file ≡ joined ps

  pub met_none : (file : List ℕ) → Met file file 0
  met_none file = record { left = λ e. e; all = λ e. e }

  module _ {file rest : List ℕ} {j : ℕ} (m : Met file rest j) where
    -- `bytes` are part j: what does not begin with them is no file of these parts
    module _ {bytes : List ℕ} (h : j < length ps) (q : bytes ≡ get_or ps j []) where
      here : behind j ≡ bytes ++ behind (j + 1)
      here = next j h ∙ ap (λ (l : List ℕ). l ++ behind (j + 1)) (sym q)

      pub met_not : ((more : List ℕ) → rest ≢ bytes ++ more) → Decides (file ≡ joined ps) false
      met_not other = decides_no (λ e. other (behind (j + 1)) (m.left e ∙ here))

      pub met_more : {more : List ℕ} → rest ≡ bytes ++ more → Met file more (j + 1)
      met_more {more} is = record {
        left = λ e. (append_both bytes bytes more (behind (j + 1)) refl (sym is ∙ m.left e ∙ here)).1;
        all = λ e. m.all (is ∙ ap (λ l. bytes ++ l) e ∙ sym here);
      }

    -- the parts are passed: the file is that of them where nothing is left of it
    pub met_end : length ps ≤ j → Decides (file ≡ joined ps) (eqb (length rest) 0)
    met_end h =
        record {
          holds = λ e. m.all (none rest (eqb-true (length rest) 0 e) ∙ sym (past j h));
          fails = λ e f. eqb-false (length rest) 0 e (ap length (m.left f ∙ past j h));
        }
      where
        none : (l : List ℕ) → length l ≡ 0 → l ≡ []
        none [] e = refl
        none (x ∷ l) e = absurd (omega arith)
