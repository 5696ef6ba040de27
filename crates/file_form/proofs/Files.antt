-- A file walked section by section. Assumes nothing.
use Prim.Native.Nat.{ℕ, ◌+◌, ◌-◌, ◌≤◌}
use native.Mathlib.Nat.{zero-add}
use native.Mathlib.Omega.{arith}
use mathlib.Core.Path.{◌≡◌, refl, sym, subst, ◌∙◌}
use mathlib.Core.List.Memᴰ
use mathlib.Core.List.{List, [], ◌∷◌, ◌++◌}
use mathlib.Core.Bool.{Bool, true, false, false≢true}
use lib.ListN.{length, drop}
use lib.Seq.{drop-drop, take_all}
use Rattle.std.specs.Prelude.{Result, Ok, Err, IsErr, IsErrAnd}
use Rattle.rules.specs.01-Lists.{rising, joined}
use Rattle.rules.specs.11-File.{Section, section, Sections, widths, WellFormed, shared}
use Rattle.file_form.specs.Form.{Told}
use Rattle.file_form.specs.Walk.{Start, Walked}
use Rattle.file_form.proofs.Starts.{shared_self, shared_most, shared_start, start_as, start_none}
use Rattle.file_form.proofs.Starts.{Some, then_followed, followed_then, then_stop, then_pass}
use Rattle.file_form.proofs.Sections.{section_length}

-- sections without entries
section_some : (w : ℕ) → Some (Section w)
unfolding rising joined section
section_some w = record { it = 0 ∷ 0 ∷ []; is = record { entries = []; few = omega arith; each = λ e m. absurd (Memᴰ.not-nil m); rise = refl; is = refl } }

sections_some : (ws : List ℕ) → Some (Sections ws)
unfolding Sections
sections_some [] = record { it = []; is = refl }
sections_some (w ∷ ws) =
    let front = section_some w in
    let back = sections_some ws in
    record { it = front.it ++ back.it; is = record { front = front.it; back = back.it; is = refl; first = front.is; second = back.is } }

-- a section, then the others
module _ (w : ℕ) (ws : List ℕ) {l : List ℕ} {k : ℕ} where
  sections_stop : Start (Section w) l k false → Start (Sections (w ∷ ws)) l k false
  unfolding Sections
  sections_stop s = start_as (λ o. then_followed) (λ o. followed_then) (then_stop (λ a m. sections_some ws) s)

  sections_pass : Start (Section w) l k true → {j : ℕ} {whole : Bool} → Start (Sections ws) (drop k l) j whole → Start (Sections (w ∷ ws)) l (k + j) whole
  unfolding Sections
  sections_pass s t = start_as (λ o. then_followed) (λ o. followed_then) (then_pass alone s t)
    where
      alone : (a : List ℕ) → Section w a → shared l a ≡ length a → length a ≡ k
      alone a m all =
          let long = s.passed refl in
          section_length w l a m all
          ∙ sym (section_length w l s.longest.some s.longest.is (s.longest.reached ∙ sym long))
          ∙ long

-- ---- what the walk's end tells

module _ {file : List ℕ} {k : ℕ} where
  told_formed : Start WellFormed file k true → k ≡ length file → Told file (Ok tt)
  told_formed s e =
      let some = s.longest.some in
      let long : length some ≡ k = s.passed refl in
      let start = shared_start file some (s.longest.reached ∙ sym long) in
      record { formed = subst (λ (l : List ℕ). WellFormed l) (sym start ∙ take_all (length some) file (omega arith)) s.longest.is; malformed = tt }

  told_behind : Start WellFormed file k true → (k ≡ length file → ⊥) → Told file (Err k)
  told_behind s n =
      record {
        formed = tt;
        malformed = (
          λ m.
              let most = s.longest.most file m in
              let least = (shared_most file s.longest.some).0 in
              n (omega (arith, shared_self file, s.longest.reached)),
          s.longest,
        );
      }

  told_stopped : Start WellFormed file k false → Told file (Err k)
  told_stopped s = record { formed = tt; malformed = (λ m. omega (arith, s.stopped refl file m, shared_self file), s.longest) }

-- what `?` makes of an Err is that Err
pub told_on : {file : List ℕ} {k : ℕ} → Told file (Err k) → (r : Result Unit ℕ) → IsErr r × IsErrAnd r (λ e. e ≡ k) → Told file r
told_on told (Ok v) (none, same) = absurd (false≢true none)
told_on {file} told (Err e) (none, same) = rw same told

-- ---- section by section

-- the sections before `at` are passed: the others, of these widths, decide
pub record Passed (file : List ℕ) (at : ℕ) (ws : List ℕ) : Type 0 where
  pub inside : at ≤ length file
  pub decides : (k : ℕ) (whole : Bool) → Start (Sections ws) (drop at file) k whole → Start WellFormed file (at + k) whole

pub passed_none : (file : List ℕ) → Passed file 0 widths
passed_none file = record { inside = omega arith; decides = λ k whole t. rw (zero-add k) t }

module _ {file : List ℕ} {at : ℕ} (p : Passed file at []) where
  passed_all : Start WellFormed file at true
  unfolding Sections
  passed_all = let zero : at + 0 ≡ at = omega arith in rw zero at (p.decides 0 true (start_none (drop at file)))

  pub formed : at ≡ length file → Told file (Ok tt)
  formed = told_formed passed_all

  pub behind : (at ≡ length file → ⊥) → Told file (Err at)
  behind = told_behind passed_all

module _ {file : List ℕ} {at w end : ℕ} {ws : List ℕ} (p : Passed file at (w ∷ ws)) where
  far : {whole : Bool} → Walked w file at end whole → at + (end - at) ≡ end
  far walked = omega (arith, walked.further)

  pub stopped : Walked w file at end false → Told file (Err end)
  stopped walked = told_stopped (rw (far walked) at (p.decides (end - at) false (sections_stop w ws walked.start)))

  pub passed : Walked w file at end true → Passed file end ws
  passed walked =
      record {
        inside = walked.inside;
        decides = λ k whole t.
            let far_on : at + (end - at + k) ≡ end + k = omega (arith, walked.further) in
            let others : Start (Sections ws) (drop (end - at) (drop at file)) k whole = rw (drop-drop (end - at) at file, far walked) t in
            rw far_on at (p.decides (end - at + k) whole (sections_pass w ws walked.start others));
      }
