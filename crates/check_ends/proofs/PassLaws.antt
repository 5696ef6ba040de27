-- The pass, from row to row: it goes on while the numbers rise, and so ends behind the last row or at one that is not fine. Assumes nothing.
use Prim.Native.Nat.{ℕ, zero, suc, ◌+◌, ◌*◌, ◌-◌, ◌%◌, ◌≤◌, ◌<◌}
use native.Mathlib.Omega.{arith}
use mathlib.Core.Path.{◌≡◌, refl, sym, ap, subst, ◌∙◌}
use mathlib.Core.List.{List}
use mathlib.Core.Bool.{Bool, true, false, ◌&&◌, true≢false}
use lib.Dec.{eqb, ltb}
use lib.ListN.{get_or, get_or-replicate}
use lib.IntN.{ℤ, pos, ◌+ℤ◌}
use borrow.Author.Count.{below_more}
use borrow.Author.Tests.{ltb-true, ltb-false, eqb-true, eq-eqb}
use Rattle.rules.specs.02-Limits.{limits}
use Rattle.rules.proofs.Bools.{and_of, and_both}
use Rattle.rows.specs.Rows.{Halved}
use Rattle.rows.specs.Decides.{Decides}
use Rattle.rows.proofs.Rows.{part_byte}
use Rattle.base.specs.Tables.{ends, BlankFrom}
use Rattle.base.specs.Rows.{end_at}
use Rattle.check_held.specs.Fine.{Shown, EndsFine}
use Rattle.check_ends.specs.declared.Group.{Group}
use Rattle.check_ends.specs.declared.Mirrors.TheVariants.{Nowhere}
use Rattle.check_ends.specs.Ends.{row_number, balance, weight_of, Small, RowFine, Reached, GroupFine, Last, Past}
use Rattle.check_ends.specs.Ends.{near_of, weight_of}
use Rattle.check_ends.proofs.RowLaws.{Numbered, numbered, numbers_rise, rise_numbers, balance_on, balance_none, balance_same}
use Rattle.check_ends.proofs.GroupLaws.{link_there, object_there, group_next}
use Rattle.check_ends.proofs.EndLaws.{elsewhere, found_fine, fine_found}

-- before row i: the number of the row before and its group, that of row i, and the balance
pub record Going (b : List ℕ) (n i before number : ℕ) (total : ℤ) (g : Group) : Type 0 where
  pub within : i ≤ n
  pub is : number ≡ row_number b (i % limits.ends)
  pub start : i ≡ 0 → (before ≡ 0) × (g.top ≡ 0)
  pub last : (k : ℕ) → i ≡ k + 1 → (before ≡ row_number b k) × GroupFine b k g
  pub near : near_of g.mirrors ≤ i
  pub counts : total ≡ balance b i
  pub rise : (k : ℕ) → k + 1 < i → row_number b k < row_number b (k + 1)
  pub rows : (k : ℕ) → k < i → RowFine b k

module _ {b held : List ℕ} (shown : Shown b held) (bytes : (k : ℕ) → get_or b k 0 < 256) {n : ℕ} (few : n ≤ limits.ends) where
  number_of : (i : ℕ) → i < limits.ends → Numbered b i
  number_of = numbered b shown.long bytes

  pub going_start : {number : ℕ} → number ≡ row_number b 0 → Going b n 0 0 number (pos 0) (record { top = 0; mirrors = Nowhere })
  going_start e = record {
    within = omega arith;
    is = e;
    start = λ _. (refl, refl);
    last = λ k h. absurd (omega arith);
    near = omega arith;
    counts = balance_none b;
    rise = λ k h. absurd (omega arith);
    rows = λ k h. absurd (omega arith);
  }

  -- a row that is fine has its bytes in their bounds
  pub fine_small : (i : ℕ) → i < limits.ends → RowFine b i → Small (row_number b i)
  fine_small i h y =
      let x = number_of i h in
      let l = shown.holds.places _ _ (link_there y) in
      let o = shown.holds.places _ _ (object_there y) in
      record {
        sds = omega (arith, x.is, x.link, x.side, x.object, l.0);
        link = omega (arith, x.is, x.link, x.side, x.object, l.1);
        side = omega (arith, x.is, x.link, x.side, x.object, y.side);
        object = omega (arith, x.is, x.link, x.side, x.object, o.1);
      }

  -- ---- a row more

  module _ (rest : BlankFrom ends n b) {i before number : ℕ} {total : ℤ} {g : Group} (x : Going b n i before number total g) where
    blank : n < limits.ends → row_number b n ≡ 0
    blank h =
        let byte : (f : ℕ) → f < 4 → get_or b (end_at n + f) 0 ≡ 0 = λ f l.
        let inside : f < (512 - n) * 4 = omega arith in
        sym (part_byte b (end_at n) ((512 - n) * 4) f inside) ∙ ap (λ (l : List ℕ). get_or l f 0) rest
        ∙ get_or-replicate {A = ℕ} ((512 - n) * 4) f 0 0 inside in
        let first : get_or b (end_at n) 0 ≡ 0 = ap (λ (m : ℕ). get_or b m 0) (omega arith) ∙ byte 0 (omega arith) in
        omega (arith, (number_of n h).is, first, byte 1 (omega arith), byte 2 (omega arith), byte 3 (omega arith))

    module _ (more : before < number) where
      not_past : i ≡ n → ⊥
      not_past e = go (ltb n 512) refl
        where
          go : (t : Bool) → ltb n 512 ≡ t → ⊥
          go true l =
              let less = ltb-true n 512 l in
              let at : i % 512 ≡ n = omega arith in
              omega (arith, x.is, ap (row_number b) at, blank less)
          go false l =
              let all : n ≡ 512 = omega (arith, ltb-false n 512 l) in
              let at : i % 512 ≡ 0 = omega arith in
              let rises = numbers_rise b shown.long bytes i (omega (arith, x.within)) x.rise in
              let first = rise_numbers b shown.long bytes i (omega (arith, x.within)) rises 0 511 (omega arith) (omega arith) in
              omega (arith, x.is, ap (row_number b) at, first, (x.last 511 (omega arith)).0)

      pub going_below : i < n
      going_below = let no = not_past in omega (arith, x.within)

      pub going_number : number ≡ row_number b i
      going_number = let at : i % 512 ≡ i = omega (arith, going_below) in x.is ∙ ap (row_number b) at

      rise_on : (k : ℕ) → k + 1 < i + 1 → row_number b k < row_number b (k + 1)
      rise_on k h = go (ltb (k + 1) i) refl
        where
          go : (t : Bool) → ltb (k + 1) i ≡ t → row_number b k < row_number b (k + 1)
          go true l = x.rise k (ltb-true (k + 1) i l)
          go false l =
              let at : i ≡ k + 1 = omega (arith, ltb-false (k + 1) i l) in
              omega (arith, (x.last k at).0, going_number, ap (row_number b) at)

      pub going_reached : Small number → Reached b i
      going_reached small = record {
        long = shown.long;
        bytes = bytes;
        few = omega (arith, going_below);
        small = subst Small going_number small;
        rise = numbers_rise b shown.long bytes (i + 1) (omega (arith, going_below)) rise_on;
        rows = x.rows;
      }

      pub going_last : Reached b i → Last b i number g
      going_last at = record { near = x.near; same = λ h. go i refl h }
        where
          go : (m : ℕ) → i ≡ m → number ≤ g.top → GroupFine b i g
          go zero e h = absurd (omega (arith, (x.start e).1))
          go (suc m) e h =
              let (is, fine) = x.last m (omega arith) in
              group_next at fine (number_of m (omega (arith, at.few))) (omega (arith, going_number)) (omega (arith, going_number))

      pub going_on : {h : Group} {next : ℕ} {more : ℤ} → Past b i h → next ≡ row_number b ((i + 1) % limits.ends)
          → more ≡ total +ℤ weight_of h.mirrors → Going b n (i + 1) number next more h
      going_on {h} p e m =
          record {
            within = omega (arith, going_below);
            is = e;
            start = λ z. absurd (omega arith);
            last = λ k q.
                let same : i ≡ k = omega arith in
                subst (λ (m : ℕ). (number ≡ row_number b m) × GroupFine b m h) same (going_number, p.group);
            near = p.near;
            counts = m ∙ balance_on b i h.mirrors x.counts p.group.rank;
            rise = rise_on;
            rows = below_more _ _ x.rows p.holds;
          }

    -- ---- where the numbers rise no more

    module _ (found : Halved b ends.start ends.width limits.ends n) where
      pub going_not : i < n → (RowFine b i → ⊥) → EndsFine b → ⊥
      going_not h out f = out ((fine_found shown bytes n few found f).rows i h)

      module _ (no_more : number ≤ before) where
        stops_early : EndsFine b → i < n → ⊥
        stops_early f h = go i refl
          where
            go : (m : ℕ) → i ≡ m → ⊥
            go zero e =
                let at : i % 512 ≡ 0 = omega arith in
                let y = (fine_found shown bytes n few found f).rows 0 (omega arith) in
                let z = number_of 0 (omega arith) in
                elsewhere shown bytes n few 0 y.fits (omega (arith, (x.start e).0, x.is, ap (row_number b) at, z.is))
            go (suc m) e =
                let at : i % 512 ≡ m + 1 = omega arith in
                let more = (fine_found shown bytes n few found f).rise m (omega arith) in
                omega (arith, more, (x.last m (omega arith)).0, x.is, ap (row_number b) at)

        pub going_done : {z : Bool} → Decides (total ≡ pos 0) z → Decides (EndsFine b) (eqb i n && z)
        going_done {z = true} test = record {
          holds = λ e.
              let all = eqb-true i n (and_both (eqb i n) true e).0 in
              let counted : total ≡ balance b n = x.counts ∙ ap (balance b) all in
              found_fine shown bytes n few (record {
                rest = rest;
                rise = λ k h. x.rise k (omega arith);
                rows = λ k h. x.rows k (omega arith);
                many = (balance_same b n counted).0 (test.holds refl);
              });
          fails = λ e f.
              let early = stops_early f in
              let all : i ≡ n = omega (arith, x.within) in
              true≢false (sym (and_of (eqb i n) true (eq-eqb i n all) refl) ∙ e);
        }
        going_done {z = false} test = record {
          holds = λ e. absurd (true≢false (sym (and_both (eqb i n) false e).1));
          fails = λ e f.
              let early = stops_early f in
              let all : i ≡ n = omega (arith, x.within) in
              let counted : total ≡ balance b n = x.counts ∙ ap (balance b) all in
              test.fails refl ((balance_same b n counted).1 (fine_found shown bytes n few found f).many);
        }
