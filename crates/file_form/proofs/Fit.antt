-- The longest start of a string whose place lies between two others, by numbers. Assumes nothing.
use Prim.Native.Nat.{ℕ, zero, suc, ◌+◌, ◌*◌, ◌-◌, ◌≤◌, ◌<◌}
use native.Mathlib.Omega.{arith}
use mathlib.Core.Path.{◌≡◌, refl, ap, ◌∙◌}
use mathlib.Core.List.{List, [], ◌∷◌}
use mathlib.Core.Bool.{Bool, true, false, cond, ◌&&◌}
use lib.Dec.{leb, ltb, eqb}
use borrow.Author.Tests.{ltb-true, ltb-false, leb-true, leb-false, eqb-true, eqb-false}
use Rattle.rules.specs.11-File.{Entry, shared, Longest}
use Rattle.rules.proofs.Sections.{Bytes}
use Rattle.file_form.proofs.Starts.{shared_same, shared_apart, shared_most}
use Rattle.file_form.proofs.Values.{many, value, digits, many_pos, bytes_rest, entry_rest, entry_cons, value_cons, value_less}
use Rattle.file_form.proofs.Values.{digits_entry, digits_value}

-- a string of w bytes at a place from a to b
pub record Between (w a b : ℕ) (e : List ℕ) : Type 0 where
  pub entry : Entry w e
  pub low : a ≤ value e
  pub high : value e ≤ b

pub between_some : (w a b : ℕ) → a ≤ b → a < many w → Between w a b (digits w a)
between_some w a b h k =
    let is = digits_value w a k in
    record { entry = digits_entry w a k; low = omega arith; high = omega arith }

-- strings that begin with x are those from x * many w on, many w of them
module _ {w a b x : ℕ} {l : List ℕ} where
  between_first : Between (suc w) a b (x ∷ l) → (a < x * many w + many w) × (x * many w ≤ b)
  between_first m =
      let rest = entry_rest m.entry in
      let is = value_cons x rest in
      (omega (arith, m.low, value_less w l rest), omega (arith, m.high))

  between_rest : Between (suc w) a b (x ∷ l) → Between w (a - x * many w) (b - x * many w) l
  between_rest m =
      let rest = entry_rest m.entry in
      let is = value_cons x rest in
      record { entry = rest; low = omega (arith, m.low); high = omega (arith, m.high) }

  between_cons : x < 256 → x * many w ≤ b → Between w (a - x * many w) (b - x * many w) l → Between (suc w) a b (x ∷ l)
  between_cons h k m =
      let is = value_cons x m.entry in
      record { entry = entry_cons h m.entry; low = omega (arith, m.low); high = omega (arith, m.high) }

-- a byte goes on where strings that begin so reach a and start at b or before it
unfoldable pub fit : ℕ → ℕ → ℕ → List ℕ → ℕ
fit zero a b l = 0
fit (suc w) a b [] = 0
fit (suc w) a b (x ∷ l) = cond (ltb a (x * many w + many w) && leb (x * many w) b) (suc (fit w (a - x * many w) (b - x * many w) l)) 0

none_shared : (w a b : ℕ) → a ≤ b → a < many w → (l : List ℕ) → ((o : List ℕ) → Between w a b o → shared l o ≡ 0) → Longest (Between w a b) l 0
none_shared w a b h k l none =
    let some = between_some w a b h k in
    record { some = digits w a; is = some; reached = none (digits w a) some; most = λ o m. omega (arith, none o m) }

pub fit_longest : (w a b : ℕ) (l : List ℕ) → Bytes l → a ≤ b → a < many w → Longest (Between w a b) l (fit w a b l)
unfolding fit shared
fit_longest zero a b l s h k = none_shared zero a b h k l (λ o m. omega (arith, (shared_most l o).1, m.entry.wide))
fit_longest (suc w) a b [] s h k = none_shared (suc w) a b h k [] (λ o m. refl)
fit_longest (suc w) a b (x ∷ l) s h k = go (ltb a (x * many w + many w)) refl (leb (x * many w) b) refl (fit_longest w (a - x * many w) (b - x * many w) l (bytes_rest x l s))
  where
    stop : ((a < x * many w + many w) × (x * many w ≤ b) → ⊥) → Longest (Between (suc w) a b) (x ∷ l) 0
    stop n = none_shared (suc w) a b h k (x ∷ l) none
      where
        none : (o : List ℕ) → Between (suc w) a b o → shared (x ∷ l) o ≡ 0
        none [] m = absurd (omega (arith, m.entry.wide))
        none (y ∷ o) m = shared_apart x y l o (λ e. n (rw e (between_first m)))

    go : (t : Bool) → ltb a (x * many w + many w) ≡ t → (u : Bool) → leb (x * many w) b ≡ u
        → (a - x * many w ≤ b - x * many w → a - x * many w < many w → Longest (Between w (a - x * many w) (b - x * many w)) l (fit w (a - x * many w) (b - x * many w) l))
        → Longest (Between (suc w) a b) (x ∷ l) (cond (ltb a (x * many w + many w) && leb (x * many w) b) (suc (fit w (a - x * many w) (b - x * many w) l)) 0)
    go false e u f ih = rw e (stop (λ p. absurd (omega (arith, ltb-false a (x * many w + many w) e, p.0))))
    go true e false f ih = rw (e, f) (stop (λ p. absurd (omega (arith, leb-false (x * many w) b f, p.1))))
    go true e true f ih =
        let low = ltb-true a (x * many w + many w) e in
        let high = leb-true (x * many w) b f in
        let rest = ih (omega arith) (omega (arith, many_pos w)) in
        rw (e, f) (record {
          some = x ∷ rest.some;
          is = between_cons (s 0) high rest.is;
          reached = shared_same x l rest.some ∙ ap suc rest.reached;
          most = most rest;
        })
      where
        most : (rest : Longest (Between w (a - x * many w) (b - x * many w)) l (fit w (a - x * many w) (b - x * many w) l))
            → (o : List ℕ) → Between (suc w) a b o → shared (x ∷ l) o ≤ suc (fit w (a - x * many w) (b - x * many w) l)
        most rest [] m = absurd (omega (arith, m.entry.wide))
        most rest (y ∷ o) m = cases (eqb x y) refl
          where
            cases : (t : Bool) → eqb x y ≡ t → shared (x ∷ l) (y ∷ o) ≤ suc (fit w (a - x * many w) (b - x * many w) l)
            cases true g =
                let is = eqb-true x y g in
                let m' : Between (suc w) a b (x ∷ o) = rw is m in
                rw (← is) (omega (arith, shared_same x l o, rest.most o (between_rest m')))
            cases false g = omega (arith, shared_apart x y l o (eqb-false x y g))
