-- The exchange file, by what the contracts promise alone (02, Q-3): a base written and read is the same, byte for byte; what is accepted is
-- written back as the same bytes; one file is one base; and no file is longer than `file_most`. That a refused read leaves the bytes,
-- whatever they were, is `refused_read` of rules/proofs/12-Contracts. Assumes nothing.
use Prim.Native.Nat.{ℕ, ◌≤◌, ◌<◌}
use native.Mathlib.Omega.{arith}
use mathlib.Core.Path.{◌≡◌, refl, sym, ap, ◌∙◌}
use mathlib.Core.List.{List, ◌++◌}
use mathlib.Core.Bool.{Bool, true, false, cond}
use lib.Dec.{leb, ltb}
use lib.ListN.{length, take, drop}
use lib.Seq.{take_at}
use borrow.Author.Tests.{leb-true, leb-false, le-ltb}
use Rattle.rules.specs.declared.Answer.{Answer}
use Rattle.rules.specs.04-Schema.{Schema}
use Rattle.rules.specs.06-Good.{Good}
use Rattle.rules.specs.07-Picture.{Sound, picture, base_length}
use Rattle.rules.specs.09-Refusals.{Outcome, verdict, answer_of, success, short_output}
use Rattle.rules.specs.09-Refusals.Outcome.{refused, done}
use Rattle.rules.specs.11-File.{file_of, write_file, file_most}
use Rattle.rules.specs.12-Contracts.{file_after, Filed, ReadIn}
use Rattle.rules.specs.12-Contracts.ReadIn.{wrong_length, malformed, not_sound, read}
use Rattle.rules.specs.13-History.{Reading}
use Rattle.rules.specs.13-History.Reading.{accepted, not_accepted}
use Rattle.rules.proofs.11-File.{file_longest, file_once}
use Rattle.rules.proofs.12-Contracts.{no_of, formed_as, written_read, read_done}

-- what reading a file answers tells whether it is accepted
pub read_tells : {b file x : List ℕ} {a : Answer} → length b ≡ base_length → ReadIn b file a x → Reading file
read_tells l (wrong_length n _ _) = absurd (n l)
read_tells l (malformed _ n _ _ _ _) = not_accepted (λ s w. n (formed_as w))
read_tells l (not_sound _ _ n _ _) = not_accepted n
read_tells l (read _ s w _ _) = accepted s w

-- ---- what writing comes to

abbrev written : Schema → Outcome (List ℕ)
written s = done (length (file_of s)) 0 0 (file_of s)

-- where it is done, and where there is room
done_written : (room : ℕ) (s : Schema) → (answer_of (write_file room s)).no ≡ 0 → write_file room s ≡ written s
unfolding write_file verdict short_output
done_written room s = go (ltb room (length (file_of s)))
  where
    go : (t : Bool) → (answer_of (cond t (refused 15 0) (written s))).no ≡ 0 → cond t (refused 15 0) (written s) ≡ written s
    go true e = absurd (omega (arith, e))
    go false e = refl

room_written : (room : ℕ) (s : Schema) → length (file_of s) ≤ room → write_file room s ≡ written s
unfolding write_file verdict short_output
room_written room s h = rw (le-ltb room (length (file_of s)) h)

-- the answer, and the output
module _ (room : ℕ) {base out out' : List ℕ} {a : Answer} (k : Filed base (write_file room) a out out') {s : Schema} (g : Good s) (shown : base ≡ picture s) where
  filed : write_file room s ≡ written s → (a ≡ success (length (file_of s)) 0 0) × (out' ≡ file_of s ++ drop (length (file_of s)) out)
  filed e =
      let (told, left) = k.kept s g shown in
      (told ∙ ap (λ (o : Outcome (List ℕ)). answer_of o) e, left ∙ ap (file_after out) e)

  filed_done : a.no ≡ 0 → (a ≡ success (length (file_of s)) 0 0) × (out' ≡ file_of s ++ drop (length (file_of s)) out)
  filed_done z = filed (done_written room s (sym (no_of (k.kept s g shown).0) ∙ z))

-- ---- written and read

-- "Reading a written file gives a base with the same meaning": the same base, over any bytes of a base's length
pub write_then_read : {s : Schema} → Good s → {base : List ℕ} → base ≡ picture s
    → {out out' : List ℕ} {a : Answer} → Filed base (write_file (length out)) a out out' → a.no ≡ 0
    → {before after : List ℕ} {a' : Answer} → length before ≡ base_length → ReadIn before (take a.one out') a' after
    → (a' ≡ success 0 0 0) × (after ≡ base)
write_then_read {s} g shown {out} {a = a} k z l r =
    let (told, left) = filed_done (length out) k g shown z in
    let file = file_of s in
    let back : take a.one _ ≡ file = (λ i. take (told i).one (left i)) ∙ take_at file (drop (length file) out) (length file) refl in
    let (e, q) = written_read l (record { good = g; is = back }) r in
    (e, q ∙ sym shown)

-- "each accepted file is written back as the same bytes"
pub accepted_written_back : {before file base : List ℕ} {a : Answer} → ReadIn before file a base → a.no ≡ 0
    → {out out' : List ℕ} {a' : Answer} → Filed base (write_file (length out)) a' out out' → length file ≤ length out
    → (a' ≡ success (length file) 0 0) × (out' ≡ file ++ drop (length file) out)
accepted_written_back r z {out} k h =
    let (s, w, shown) = read_done r z in
    let (told, left) = filed (length out) k w.good shown (room_written (length out) s (omega (arith, h, ap length w.is))) in (
      told ∙ ap (λ (f : List ℕ). success (length f) 0 0) (sym w.is),
      left ∙ ap (λ (f : List ℕ). f ++ drop (length f) out) (sym w.is),
    )

-- sound bases with one file are one
pub same_file_same_base : {b b' : List ℕ} (x : Sound b) (y : Sound b') → file_of x.schema ≡ file_of y.schema → b ≡ b'
same_file_same_base x y e = x.shown ∙ ap picture (file_once x.good y.good e) ∙ sym y.shown

-- ---- how long a file can be

pub accepted_most : {before file base : List ℕ} {a : Answer} → ReadIn before file a base → a.no ≡ 0 → length file ≤ file_most
accepted_most r z = let (s, w, _) = read_done r z in omega (arith, file_longest w.good, ap length w.is)

pub written_most : (room : ℕ) {base out out' : List ℕ} {a : Answer} → Filed base (write_file room) a out out' → a.no ≡ 0 → a.one ≤ file_most
written_most room {a = a} k z = go (leb a.one file_most) refl
  where
    over : file_most < a.one → ⊥
    over h =
        let (told, _) = k.spoiled (λ x.
        let (told, _) = filed_done room k x.good x.shown z in
        omega (arith, h, file_longest x.good, ap (λ (r : Answer). r.one) told)) in
        omega (arith, z, no_of told)

    go : (t : Bool) → leb a.one file_most ≡ t → a.one ≤ file_most
    go true e = leb-true a.one file_most e
    go false e = absurd (over (leb-false a.one file_most e))
