-- A row that is found by halving: where it is, it stands at its place. Assumes nothing.
use Prim.Native.Nat.{ℕ, ◌+◌, ◌≤◌}
use native.Mathlib.Omega.{arith}
use mathlib.Core.Path.{◌≡◌, refl, sym, ap, ◌∙◌, subst}
use mathlib.Core.List.{List, [], ◌∷◌}
use mathlib.Core.Bool.{Bool, true, false, true≢false}
use lib.Dec.{ltb}
use lib.ListN.{length, get_or}
use borrow.Author.Tests.{ltb-true, ltb-false}
use Rattle.rules.specs.01-Lists.{bytes_before}
use Rattle.rules.specs.02-Limits.{limits}
use Rattle.rules.specs.07-Picture.{base_length, end_width}
use Rattle.rules.specs.Read.{link_offset, object_offset, side_offset}
use Rattle.rules.proofs.01-Lists.{before_irreflexive}
use Rattle.rows.specs.Rows.{part}
use Rattle.rows.specs.Table.{Rises, Place}
use Rattle.rows.proofs.Scan.{part_cons, rising_far}
use Rattle.base.specs.Tables.{InOrder, by_end, ends, row_of}
use Rattle.base.specs.Rows.{end_at, EndRow}
use Rattle.lookup.specs.Found.{EndAt, EndFound}

-- the bytes of an end
pub end_bytes : (b : List ℕ) (i : ℕ) → end_at i + end_width ≤ length b
    → part b (end_at i) end_width ≡ get_or b (end_at i) 0 ∷ get_or b (end_at i + link_offset) 0 ∷ get_or b (end_at i + side_offset) 0 ∷ get_or b
    (end_at i + object_offset) 0 ∷ []
end_bytes b i h =
    let at = end_at i in
    let two : at + 1 + 1 ≡ at + 2 = omega arith in
    let three : at + 2 + 1 ≡ at + 3 = omega arith in
    part_cons b at 4 3 (omega arith) refl
    ∙ ap (λ (l : List ℕ). get_or b at 0 ∷ l) (part_cons b (at + 1) 3 2 (omega arith) refl
    ∙ ap (λ (l : List ℕ). get_or b (at + 1) 0 ∷ l) (rw two (part_cons b (at + 2) 2 1 (omega arith) refl
    ∙ ap (λ (l : List ℕ). get_or b (at + 2) 0 ∷ l) (rw three (part_cons b (at + 3) 1 0 (omega arith) refl)))))

ends_rises : (b : List ℕ) (n : ℕ) → length b ≡ base_length → n ≤ limits.ends → InOrder by_end b n
    → Rises b ends.start by_end.named ends.width n
ends_rises b n l m r = record { name = omega arith; room = omega arith; rise = rising_far (row_of ends b) n r }

module _ {b : List ℕ} {n d l s o r : ℕ} where
  pub end_found_at : EndAt b n r d l s o → EndFound b n d l s o r
  end_found_at e = record { found = λ h. e; none = λ h x. let u = e.below in absurd (omega arith) }

module _ {b : List ℕ} {n d l s o r : ℕ} (long : length b ≡ base_length) (few : n ≤ limits.ends) (rise : InOrder by_end b n)
    (p : Place b ends.start by_end.named n (d ∷ l ∷ s ∷ o ∷ []) r) where
  abbrev key : List ℕ
  key = d ∷ l ∷ s ∷ o ∷ []

  row_key : (x : EndRow b n d l s o) → part b (end_at x.place) end_width ≡ key
  row_key x =
      let u = x.below in
      end_bytes b x.place (omega arith) ∙ (λ i. x.sds i ∷ x.link i ∷ x.turned i ∷ x.object i ∷ [])

  rises : Rises b ends.start by_end.named ends.width n
  rises = ends_rises b n long few rise

  there : (x : EndRow b n d l s o) → x.place ≡ r
  there x = go (ltb x.place r) refl (ltb r x.place) refl
    where
      go : (t : Bool) → ltb x.place r ≡ t → (v : Bool) → ltb r x.place ≡ v → x.place ≡ r
      go true q v w =
          absurd (true≢false (sym (p.earlier rises x.place (ltb-true x.place r q))
          ∙ ap (λ (k : List ℕ). bytes_before k key) (row_key x) ∙ before_irreflexive key))
      go false q true w =
          let u = x.below in
          let less = ltb-true r x.place w in
          absurd (true≢false (sym (rising_far (row_of ends b) n rise r x.place less u)
          ∙ ap (bytes_before (part b (end_at r) end_width)) (row_key x) ∙ p.later rises r (omega arith) (omega arith)))
      go false q false w = omega (arith, ltb-false x.place r q, ltb-false r x.place w)

  pub end_found_none : (EndAt b n r d l s o → ⊥) → EndFound b n d l s o n
  end_found_none lost = record { found = λ h. absurd (omega arith); none = λ h x. lost (subst (λ (i : ℕ). EndAt b n i d l s o) (there x) (here x)) }
    where
      here : (x : EndRow b n d l s o) → EndAt b n x.place d l s o
      here x = record { below = x.below; sds = x.sds; link = x.link; turned = x.turned; object = x.object }
