-- How many words a line has. Assumes nothing.
use Rattle.std.proofs.Common.{◌≡◌, ℕ, suc, ◌≤◌, Bool, true, false, eqb, List, [], ◌∷◌, length, drop, ◌+◌}
use Rattle.std.proofs.Common.{Option, Some, None, Bor, option_map, unwrap_or, slice_get, MatchOption}
use Rattle.std.proofs.Common.{refl, ap, sym, ◌∙◌, arith, drop_of_length-le, drop-drop, length-drop}
use Rattle.std.proofs.lemmas.Option.{unwrap_or-slice_get}
use Rattle.rules.specs.03-Names.{Name, parted, names_in}
use Rattle.rules.specs.14-Run.{word}
use Rattle.names.proofs.Laws.{parted_some}

parted_few : (l : List ℕ) → length (parted l) ≤ suc (length l)
unfolding parted
parted_few [] = omega arith
parted_few (c ∷ cs) = go (eqb c 32) refl (parted_some cs) (parted_few cs)
  where
    go : (t : Bool) → eqb c 32 ≡ t → (n : Name) × (ns : List Name) × (parted cs ≡ n ∷ ns) → length (parted cs) ≤ suc (length cs)
        → length (parted (c ∷ cs)) ≤ suc (suc (length cs))
    go true e (n, ns, q) ih = rw e (omega arith)
    go false e (n, ns, q) ih = rw (e, q) (omega (arith, ap length q))

pub words_few : (l : List ℕ) → length (names_in l) ≤ suc (length l)
unfolding names_in
words_few [] = omega arith
words_few (c ∷ cs) = parted_few (c ∷ cs)

-- the word that stands at a place, blank behind the last
pub word_is : (r : Option (Bor (List ℕ))) (none : Bor (List ℕ)) → none.now ≡ [] → (ws : List Name) (i : ℕ)
    → option_map (λ b. b.now) r ≡ slice_get ws i
    → (unwrap_or r none).now ≡ word ws i
word_is r none z ws i e = go r ∙ ap (λ (o : Option Name). unwrap_or o []) e ∙ unwrap_or-slice_get ws i []
  where
    go : (r : Option (Bor (List ℕ))) → (unwrap_or r none).now ≡ unwrap_or (option_map (λ b. b.now) r) []
    go None = z
    go (Some b) = refl

-- one word further
pub walked : (ws : List Name) (k : ℕ) {left left' : List Name} (r : Option (Bor (List ℕ)))
    → MatchOption r ((left ≡ []) × (left' ≡ [])) (λ b. left ≡ b.now ∷ left') → left ≡ drop k ws → left' ≡ drop (k + 1) ws
walked ws k None (e, e') w = e' ∙ sym (drop_of_length-le ws (omega (arith, length-drop k ws, ap length (sym e ∙ w))))
walked ws k (Some b) e w = sym (ap (drop 1) (sym w ∙ e)) ∙ drop-drop 1 k ws
