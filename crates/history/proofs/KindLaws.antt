-- What a kind's tests say of each other, and of its reverse. Assumes nothing.
use Prim.Native.Nat.{ℕ}
use native.Mathlib.Omega.{arith}
use mathlib.Core.Path.{◌≡◌, refl, sym, ap, ◌∙◌}
use mathlib.Core.Logic.{◌⊎◌, inl, inr, ⊎_elim}
use mathlib.Core.List.Memᴰ
use mathlib.Core.List.{[]}
use mathlib.Core.Bool.{true, false, ◌||◌, true≢false}
use lib.ListN.{length, get_or}
use Rattle.rules.specs.01-Lists.{◌∈◌}
use Rattle.rules.specs.04-Schema.{Kind, is_used, is_object, is_attribute, is_link, reverse_in}
use Rattle.rules.specs.04-Schema.Kind.{unused, object, attribute, designation, paired}
use Rattle.rules.proofs.Bools.{or_cases}
use Rattle.rules.proofs.05-Descent.{object_used}

pub attribute_used : (k : Kind) → is_attribute k ≡ true → is_used k ≡ true
attribute_used unused e = e
attribute_used (object ps) e = refl
attribute_used (attribute v) e = refl
attribute_used designation e = refl
attribute_used (paired c r) e = refl

pub link_used : (k : Kind) → is_link k ≡ true → is_used k ≡ true
link_used unused e = e
link_used (object ps) e = refl
link_used (attribute v) e = refl
link_used designation e = refl
link_used (paired c r) e = refl

pub either_used : (k : Kind) → is_object k || is_link k ≡ true → is_used k ≡ true
either_used k e = ⊎_elim (object_used k) (link_used k) (or_cases (is_object k) (is_link k) e)

pub kind_unused : (k : Kind) → is_used k ≡ false → k ≡ unused
kind_unused unused e = refl
kind_unused (object ps) e = absurd (true≢false e)
kind_unused (attribute v) e = absurd (true≢false e)
kind_unused designation e = absurd (true≢false e)
kind_unused (paired c r) e = absurd (true≢false e)

-- ---- the reverse

-- a type alone, or one with a reverse
pub alone_or_pair : (k : Kind) → (reverse_in k ≡ []) ⊎ ((c : ℕ) × (r : ℕ) × (k ≡ paired c r))
alone_or_pair unused = inl refl
alone_or_pair (object ps) = inl refl
alone_or_pair (attribute v) = inl refl
alone_or_pair designation = inl refl
alone_or_pair (paired c r) = inr (c, r, refl)

-- what has no reverse is of no pair
pub no_pair : (k : Kind) → reverse_in k ≡ [] → (c r : ℕ) → k ≡ paired c r → ⊥
no_pair k none c r e = let z : ◌≡◌ {A = ℕ} 0 1 = sym (ap length none) ∙ ap (λ (l : Kind). length (reverse_in l)) e in omega arith

-- a type has one reverse
pub one_reverse : {k : Kind} {c r c' r' : ℕ} → k ≡ paired c r → k ≡ paired c' r' → r ≡ r'
one_reverse e f = ap (λ (k : Kind). get_or (reverse_in k) 0 0) (sym e ∙ f)

-- a type with this reverse
pub is_reverse : (k : Kind) {c r : ℕ} → k ≡ paired c r → r ∈ reverse_in k
is_reverse k e = rw e (Memᴰ.head refl)

pub has_reverse : (k : Kind) (r : ℕ) → r ∈ reverse_in k → (c : ℕ) × (k ≡ paired c r)
has_reverse unused r i = absurd (Memᴰ.not-nil i)
has_reverse (object ps) r i = absurd (Memᴰ.not-nil i)
has_reverse (attribute v) r i = absurd (Memᴰ.not-nil i)
has_reverse designation r i = absurd (Memᴰ.not-nil i)
has_reverse (paired c q) r i = (c, ap (paired c) (sym (Memᴰ.eq_of_singleton i)))
