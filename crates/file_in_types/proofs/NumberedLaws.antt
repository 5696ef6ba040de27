-- Things that a table keeps by their number, made by their entries in the order of the numbers: for SDSs, for types, and for the parents of
-- types. Assumes nothing.
use Prim.Native.Nat.{ℕ, zero, suc, ◌+◌, ◌≤◌, ◌<◌}
use native.Mathlib.Omega.{arith}
use mathlib.Core.Path.{◌≡◌, refl, sym, ap, ◌∙◌}
use mathlib.Core.List.{List, [], ◌∷◌, ◌++◌, append_assoc, append-nil, map}
use mathlib.Core.Bool.{Bool, true, false, cond}
use lib.ListN.{length, get_or, take, drop, set, length-append, length-drop, drop_of_length-le}
use lib.Seq.{take_all, take-suc, drop-cons, length-take-le, set_at, get_or_at, set-get_or}
use Rattle.rules.specs.01-Lists.{joined, numbers}
use Rattle.file_in_types.specs.Steps.{Step, all_in}

all_append : (step : Step) (es fs : List (List ℕ)) (area : List ℕ) → all_in step (es ++ fs) area ≡ all_in step fs (all_in step es area)
unfolding all_in
all_append step [] fs area = refl
all_append step (e ∷ es) fs area = all_append step es fs (step e area)

-- one entry to a number
pub joined_alone : (f : ℕ → List ℕ) (l : List ℕ) → map f l ≡ joined (map (λ k. f k ∷ []) l)
unfolding joined
joined_alone f [] = refl
joined_alone f (k ∷ l) = ap (λ (es : List (List ℕ)). f k ∷ es) (joined_alone f l)

-- The entries `es k` of a number that passes turn the thing y of ys there into the x of xs, in an area that shows a list of things; one that
-- does not pass is the same in both.
module _ {A : Type 0} (step : Step) (d : A) (show : List A → List ℕ) (xs ys : List A) (p : ℕ → Bool) (es : ℕ → List (List ℕ))
    (long : length xs ≡ length ys)
    (turned : (k : ℕ) → k < length xs → p k ≡ true → (rs : List A) → length rs ≡ length xs → get_or rs k d ≡ get_or ys k d
    → all_in step (es k) (show rs) ≡ show (set rs k (get_or xs k d)))
    (same : (k : ℕ) → k < length xs → p k ≡ false → get_or xs k d ≡ get_or ys k d) where
  -- the first a are done
  abbrev half : ℕ → List A
  half a = take a xs ++ drop a ys

  half_long : (a : ℕ) → a ≤ length xs → length (half a) ≡ length xs
  half_long a h = length-append (take a xs) (drop a ys) ∙ omega (arith, length-take-le a xs h, length-drop a ys, long)

  module _ (a : ℕ) (h : a < length xs) where
    half_at : get_or (half a) a d ≡ get_or ys a d
    half_at =
        rw (drop-cons ys a d (omega (arith, long)))
        (get_or_at (take a xs) (get_or ys a d) (drop (suc a) ys) d a (length-take-le a xs (omega arith)))

    half_set : set (half a) a (get_or xs a d) ≡ half (suc a)
    half_set =
        let x = get_or xs a d in
        rw (drop-cons ys a d (omega (arith, long)), take-suc xs a d h)
        (set_at (take a xs) (get_or ys a d) (drop (suc a) ys) x a (length-take-le a xs (omega arith))
        ∙ sym (append_assoc (take a xs) (x ∷ []) (drop (suc a) ys)))

    half_same : p a ≡ false → half a ≡ half (suc a)
    half_same q = sym (set-get_or (half a) a d) ∙ ap (set (half a) a) (half_at ∙ sym (same a h q)) ∙ half_set

    half_turned : (more : List ℕ) → p a ≡ true
        → all_in step (joined (map es (a ∷ more))) (show (half a)) ≡ all_in step (joined (map es more)) (show (half (suc a)))
    unfolding joined
    half_turned more q =
        all_append step (es a) (joined (map es more)) (show (half a))
        ∙ ap (all_in step (joined (map es more))) (turned a h q (half a) (half_long a (omega arith)) half_at ∙ ap show half_set)

  half_all : (a : ℕ) → a ≡ length xs → half a ≡ xs
  half_all a e =
      rw (take_all a xs (omega arith), drop_of_length-le ys {i = a} (omega (arith, long))) (append-nil xs)

  rest_in : (m a : ℕ) → a + m ≡ length xs → all_in step (joined (map es (numbers a m p))) (show (half a)) ≡ show xs
  unfolding numbers joined all_in
  rest_in zero a e = ap show (half_all a (omega arith))
  rest_in (suc m) a e = go (p a) refl (rest_in m (suc a) (omega arith))
    where
      more : List ℕ
      more = numbers (suc a) m p

      go : (b : Bool) → p a ≡ b → all_in step (joined (map es more)) (show (half (suc a))) ≡ show xs
          → all_in step (joined (map es (cond b (a ∷ more) more))) (show (half a)) ≡ show xs
      go true q ih = half_turned a (omega arith) more q ∙ ih
      go false q ih = ap (λ (rs : List A). all_in step (joined (map es more)) (show rs)) (half_same a (omega arith) q) ∙ ih

  pub numbered_in : (n : ℕ) → n ≡ length xs → all_in step (joined (map es (numbers 0 n p))) (show ys) ≡ show xs
  numbered_in n e = rest_in n 0 (omega arith)
