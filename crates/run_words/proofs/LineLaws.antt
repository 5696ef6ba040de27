-- A line gathered piece by piece. Assumes nothing.
use Rattle.std.proofs.Common.{◌≡◌, ℕ, zero, suc, ◌+◌, ◌-◌, ◌≤◌, min, List, [], ◌∷◌, ◌++◌, length, take, refl, sym, ap, ◌∙◌, arith, length-take-le}
use borrow.Rule.Slice.PartMut.{put_mid}
use Rattle.std.proofs.Math.Seq.{take-append-add}
use Rattle.std.proofs.lemmas.List.{take_min}
use Rattle.std.proofs.lemmas.Slice.{take-put_mid}
use Rattle.run_words.specs.Lines.{Kept}

-- what is cut off once is cut off
pub take_cut : (k : ℕ) (l m : List ℕ) → take k (take k l ++ m) ≡ take k (l ++ m)
take_cut zero l m = refl
take_cut (suc k) [] m = refl
take_cut (suc k) (x ∷ l) m = ap (λ (r : List ℕ). x ∷ r) (take_cut k l m)

-- what there is room for, put behind the n bytes that are kept
pub kept : (line : List ℕ) → length line ≡ 128 → (n : ℕ) → n ≤ 128 → (piece : List ℕ) (m : ℕ) → m ≡ min (length piece) (length line - n)
    → {part : List ℕ} → part ≡ take m piece → Kept line n piece (put_mid n (n + m - n) line part) (n + m)
kept line long n few piece m e {part} p =
    let fits : m ≤ length piece = omega arith in
    let front : length (take n line) ≡ n = length-take-le n line (omega arith) in
    let whole : 128 ≡ length (take n line) + (128 - n) = omega arith in
    let least : m ≡ min (128 - n) (length piece) = omega arith in
    record {
      few = omega arith;
      is = take-put_mid n (n + m - n) line part (n + m) (omega (arith, ap length p, length-take-le m piece fits)) (omega arith)
          ∙ ap (λ (l : List ℕ). take n line ++ l) (p ∙ ap (λ (k : ℕ). take k piece) least ∙ take_min (128 - n) piece)
          ∙ sym (ap (λ (k : ℕ). take k (take n line ++ piece)) whole ∙ take-append-add (take n line) piece (128 - n));
    }
