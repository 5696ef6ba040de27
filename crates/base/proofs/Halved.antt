-- A count that was found by halving, or that the rows confirm, is that of the used rows. Assumes nothing.
use Prim.Native.Nat.{ℕ, zero, suc, ◌+◌, ◌*◌, ◌-◌, ◌≤◌, ◌<◌}
use native.Mathlib.Nat.{add-mul}
use native.Mathlib.Omega.{arith}
use mathlib.Core.Path.{◌≡◌, refl, sym, ap, ◌∙◌}
use mathlib.Core.List.{List, ◌∷◌}
use lib.ListN.{get_or, take, drop, replicate, get_or-replicate}
use lib.Seq.{take-take}
use Rattle.rows.specs.Rows.{Parted, Halved, Counted}
use Rattle.rows.proofs.Rows.{part_byte}
use Rattle.rows.proofs.Scan.{counted}
use Rattle.rows.proofs.TableLaws.{row_fits}
use Rattle.rules.specs.02-Limits.{limits}
use Rattle.base.specs.Tables.{Table, at, row_of, used_rows, BlankFrom, PresencesHalved, presences}
use Rattle.base.specs.Rows.{presence_at}
use Rattle.base.specs.Back.{presence_count}
use Rattle.base.proofs.Back.{rows_few}

take_zeros : (w k : ℕ) → w ≤ k → take w (replicate {A = ℕ} k 0) ≡ replicate {A = ℕ} w 0
take_zeros zero k h = refl
take_zeros (suc w) zero h = absurd (omega arith)
take_zeros (suc w) (suc k) h = ap (λ (l : List ℕ). 0 ∷ l) (take_zeros w k (omega arith))

module _ {A : Type 0} (t : Table A) (b : List ℕ) where
  -- a byte of the room behind n rows
  blank_byte : (n i f : ℕ) → BlankFrom t n b → n ≤ i → i < t.room → f < t.width → get_or b (at t i + f) 0 ≡ 0
  blank_byte n i f blank l h k =
      let w = t.width in
      let apart : i * w ≡ n * w + (i - n) * w = ap (λ (m : ℕ). m * w) (omega arith) ∙ add-mul n (i - n) w in
      let below : i - n < t.room - n = omega arith in
      let inside : (i - n) * w + f < (t.room - n) * w = omega (arith, row_fits w below) in
      ap (λ (m : ℕ). get_or b m 0) (omega (arith, apart))
      ∙ sym (part_byte b (at t n) ((t.room - n) * w) ((i - n) * w + f) inside)
      ∙ ap (λ (l : List ℕ). get_or l ((i - n) * w + f) 0) blank
      ∙ get_or-replicate {A = ℕ} ((t.room - n) * w) ((i - n) * w + f) 0 0 inside

  -- n rows that are used, and blank room behind them
  pub confirmed : (n : ℕ) → n ≤ t.room → ((i : ℕ) → i < n → row_of t b i ≡ replicate t.width 0 → ⊥) → BlankFrom t n b
      → Counted (used_rows t b) t.room n
  confirmed n few used blank =
      counted b t.start t.width t.room n (record {
        fits = few;
        used = used;
        free = λ h.
            let w = t.width in
            let below : 0 < t.room - n = omega arith in
            let one : w ≤ (t.room - n) * w = omega (arith, row_fits w below) in
            sym (take-take w ((t.room - n) * w) (drop (at t n) b) one) ∙ ap (take w) blank ∙ take_zeros w ((t.room - n) * w) one;
      })

  -- found by byte f of the rows, which no used row has 0 there, with blank room behind these
  pub halved_right : (f n : ℕ) → f < t.width → Halved b (t.start + f) t.width t.room n
      → ((i : ℕ) → i < used_rows t b → get_or b (at t i + f) 0 ≡ 0 → ⊥) → BlankFrom t (used_rows t b) b
      → Counted (used_rows t b) t.room n
  halved_right f n k found used blank = record { is = found.is (used_rows t b) parted; fits = found.fits }
    where
      parted : Parted b (t.start + f) t.width t.room (used_rows t b)
      parted = record {
        fits = rows_few t b;
        used = λ i h e. used i h (ap (λ (m : ℕ). get_or b m 0) (omega arith) ∙ e);
        free = λ i l h. ap (λ (m : ℕ). get_or b m 0) (omega arith) ∙ blank_byte (used_rows t b) i f blank l h k;
      }

-- the presences: the first is used, and none behind it is in SDS 0
pub presences_right : (b : List ℕ) (n : ℕ) → PresencesHalved b n → 0 < presence_count b
    → ((i : ℕ) → 0 < i → i < presence_count b → get_or b (presence_at i) 0 ≡ 0 → ⊥) → BlankFrom presences (presence_count b) b
    → Counted (presence_count b) limits.presences n
presences_right b n found some used blank =
    let count = presence_count b in
    let behind : found.behind ≡ count - 1 = found.halved.is (count - 1) parted in
    record { is = omega (arith, found.is); fits = omega (arith, found.is, found.halved.fits) }
  where
    next : (i : ℕ) → presence_at 1 + i * presences.width ≡ presence_at (suc i)
    next i = omega arith

    parted : Parted b (presence_at 1) presences.width (limits.presences - 1) (presence_count b - 1)
    parted = record {
      fits = omega (arith, rows_few presences b);
      used = λ i h e. used (suc i) (omega arith) (omega arith) (ap (λ (m : ℕ). get_or b m 0) (sym (next i)) ∙ e);
      free = λ i l h.
          ap (λ (m : ℕ). get_or b m 0) (omega (arith, next i)) ∙ blank_byte presences b (presence_count b) (suc i) 0 blank (omega arith) (omega arith) (omega arith);
    }
