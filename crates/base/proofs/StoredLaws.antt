-- Bytes that hold a schema: they show that schema and no other. Assumes nothing.
use mathlib.Core.Path.{◌≡◌, sym, ap, ◌∙◌, subst}
use mathlib.Core.List.{List}
use Prim.Native.Nat.{ℕ}
use lib.ListN.{length}
use Rattle.rules.specs.04-Schema.{Schema}
use Rattle.rules.specs.07-Picture.{picture, base_length, Sound}
use Rattle.rules.proofs.07-Picture.{picture_length}
use Rattle.base.specs.Back.{schema_of, Canonical}
use Rattle.base.specs.Stored.{Storable, Shows, Stored}
use Rattle.base.proofs.Back.{storable_back, good_storable, storable_canonical, canonical_picture, sound_canonical, sound_good}

pub sound_stored : {b : List ℕ} → Sound b → Stored b
sound_stored {b} s = record { rows = good_storable (sound_good s); shown = sym (canonical_picture b (sound_canonical s)) }

pub shows_schema : {b : List ℕ} {s : Schema} → Shows b s → schema_of b ≡ s
shows_schema x = ap schema_of x.shown ∙ storable_back x.rows

-- what holds of the schema holds of what its bytes show
pub shows_has : {b : List ℕ} {s : Schema} (P : Schema → Type 0) → Shows b s → P s → P (schema_of b)
shows_has P x h = subst P (sym (shows_schema x)) h

pub shows_stored : {b : List ℕ} {s : Schema} → Shows b s → Stored b
shows_stored {b} x =
    record { rows = shows_has (λ s. Storable s) x x.rows; shown = x.shown ∙ ap picture (sym (shows_schema x)) }

-- a second edit, of what a first one made
pub shows_next : {b b' : List ℕ} {s : Schema} (edit : Schema → Schema) → Shows b s → Shows b' (edit (schema_of b)) → Shows b' (edit s)
shows_next {b' = b'} edit x y = subst (λ (s : Schema). Shows b' (edit s)) (shows_schema x) y

pub stored_long : {b : List ℕ} → Stored b → length b ≡ base_length
stored_long {b} x = ap length x.shown ∙ picture_length (schema_of b)

pub stored_canonical : {b : List ℕ} → Stored b → Canonical b
stored_canonical x = subst (λ (l : List ℕ). Canonical l) (sym x.shown) (storable_canonical x.rows)
