-- Two bytes over the modes of a row are those modes in the schema. Assumes nothing.
use Prim.Native.Nat.{ℕ, ◌+◌, ◌<◌}
use native.Mathlib.Omega.{arith}
use mathlib.Core.Path.{◌≡◌, refl, sym, ap, ◌∙◌, subst}
use mathlib.Core.Logic.{⊎_elim}
use mathlib.Core.List.{List, [], ◌∷◌, ◌++◌, append_assoc}
use mathlib.Core.Bool.{true}
use lib.ListN.{length, get_or, take, drop, length-append, length-set}
use lib.Seq.{take-take, take_at}
use Rattle.rules.specs.01-Lists.{rising}
use Rattle.rules.specs.02-Limits.{limits}
use Rattle.rules.specs.04-Schema.{Presence, nowhere, with_modes, with_presences}
use Rattle.rules.specs.06-Good.{presence_before}
use Rattle.rules.specs.07-Picture.{pad, presence_row}
use Rattle.rules.specs.Read.{usage_offset}
use Rattle.rules.proofs.01-Lists.{place_in}
use Rattle.rules.proofs.07-Picture.{length_pad}
use Rattle.rows.specs.Rows.{part}
use Rattle.rows.specs.Table.{written}
use Rattle.rows.proofs.Written.{written_behind}
use Rattle.base.specs.Tables.{Used, row_of, presences, by_name}
use Rattle.base.specs.Rows.{presence_at}
use Rattle.base.specs.Back.{schema_of, presence_count}
use Rattle.base.specs.Stored.{Ordered, modes_row, Shows, Stored}
use Rattle.base.proofs.Back.{row_there}
use Rattle.base.proofs.Shown.{presences_long, presence_is}
use Rattle.base.proofs.Tables.{presences_placed, presences_sort, keeps_presences, row_over}
use Rattle.base.proofs.OrderedLaws.{elsewhere_used}
use Rattle.edit.proofs.TypeWritten.{set_in}

-- what stands before the modes of a row
abbrev before_modes : Presence → List ℕ
before_modes p = p.sds ∷ (pad limits.name p.name ++ (p.type ∷ []))

before_long : (p : Presence) → length (before_modes p) ≡ usage_offset
before_long p = omega (arith, length-append (pad limits.name p.name) (p.type ∷ []), length_pad limits.name p.name)

row_parted : (p : Presence) → presence_row p ≡ before_modes p ++ (p.usage ∷ p.definition ∷ [])
unfolding presence_row
row_parted p = ap (λ (l : List ℕ). p.sds ∷ l) (sym (append_assoc (pad limits.name p.name) (p.type ∷ []) (p.usage ∷ p.definition ∷ [])))

module _ {b : List ℕ} (x : Stored b) (i u f : ℕ) (h : i < presence_count b) where
  abbrev ps : List Presence
  ps = (schema_of b).presences

  abbrev p : Presence
  p = get_or ps i nowhere

  abbrev q : Presence
  q = with_modes u f p

  there : i < length ps
  there = omega (arith, presences_long b)

  -- the bytes before the modes stay
  front : part b (presence_at i) (length (before_modes p)) ≡ before_modes p
  front =
      let row : row_of presences b i ≡ before_modes p ++ (p.usage ∷ p.definition ∷ [])
      = ap (λ (l : List ℕ). row_of presences l i) x.shown
      ∙ row_there presences_placed (schema_of b) x.rows.presences.room nowhere i there ∙ row_parted p in
      sym (take-take (length (before_modes p)) presences.width (drop (presence_at i) b) (omega (arith, before_long p)))
      ∙ ap (take (length (before_modes p))) row ∙ take_at (before_modes p) (p.usage ∷ p.definition ∷ []) (length (before_modes p)) refl

  pub modes_written : (get_or b (presence_at i) 0 ≡ 0 → ⊥) → rising presence_before (modes_row i u f ps) ≡ true → {b' : List ℕ}
      → b' ≡ written b (presence_at i + usage_offset) (u ∷ f ∷ []) → Shows b' (with_presences (schema_of b) (modes_row i u f ps))
  modes_written elsewhere rise e = record {
    rows = keeps_presences.storable x.rows (record {
      room = omega (arith, length-set ps i q, k.room);
      used = λ y j. ⊎_elim (λ g. subst (Used presences) (sym g) (elsewhere_used presences_sort q other)) (k.used y) (set_in ps i q j);
      fit = λ y j. ⊎_elim (λ g. subst by_name.Fit (sym g) (k.fit p (place_in nowhere ps i there))) (k.fit y) (set_in ps i q j);
      rise = rise;
    });
    shown = e
        ∙ (ap (λ (n : ℕ). written b (presence_at i + n) (u ∷ f ∷ [])) (sym (before_long p))
        ∙ sym (written_behind b (before_modes p) (u ∷ f ∷ []) (presence_at i) front)
        ∙ ap (written b (presence_at i)) (sym (row_parted q)) ∙ ap (λ (l : List ℕ). written l (presence_at i) (presence_row q)) x.shown
        ∙ row_over keeps_presences.stands (schema_of b) i q there k.room);
  }
    where
      k : Ordered by_name ps
      k = x.rows.presences

      other : q.sds ≡ 0 → ⊥
      other z = elsewhere (ap (λ (y : Presence). y.sds) (sym (presence_is b i nowhere h)) ∙ z)
