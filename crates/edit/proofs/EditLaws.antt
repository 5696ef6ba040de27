-- A row put in among the bytes, or taken out, is put into the schema that they show, or taken out. Assumes nothing.
use Prim.Native.Nat.{ℕ, zero, suc, ◌+◌, ◌*◌, ◌≤◌, ◌<◌}
use native.Mathlib.Omega.{arith}
use mathlib.Core.Path.{◌≡◌, refl, sym, ap, ◌∙◌}
use mathlib.Core.Logic.{◌⊎◌, ⊎_elim}
use mathlib.Core.List.{List, [], ◌∷◌, ◌++◌}
use mathlib.Core.Bool.{Bool, true, false, ◌&&◌, true≢false}
use lib.Dec.{eqb}
use lib.ListN.{length, set, replicate}
use borrow.Author.Tests.{eq-eqb}
use Rattle.rules.specs.01-Lists.{any, put}
use Rattle.rules.specs.02-Limits.{limits}
use Rattle.rules.specs.03-Names.{same_name}
use Rattle.rules.specs.04-Schema.{new_presence, with_modes}
use Rattle.rules.specs.04-Schema.{Schema, Presence, Application, End, holds_type, present, holds_name}
use Rattle.rules.specs.04-Schema.{bears, is_application, applied, is_end, has_end, side_code}
use Rattle.rules.specs.07-Picture.{presence_width, presence_row, application_row, end_row}
use Rattle.rules.specs.Read.{name_offset, type_offset, usage_offset, definition_offset, read_side}
use Rattle.rules.proofs.Bools.{and_of}
use Rattle.rules.proofs.01-Lists.{any_at}
use Rattle.rules.proofs.03-Names.{same_name_refl}
use Rattle.rows.specs.Table.{PutIn, written, closed}
use Rattle.rows.proofs.Written.{field_written}
use Rattle.base.specs.Tables.{Table, Sorted, at, bytes_of, presences, applications, ends, by_name}
use Rattle.base.specs.Back.{schema_of}
use Rattle.base.specs.Stored.{Ordered, less_row, Storable, Shows, Stored}
use Rattle.base.proofs.Tables.{Placed, Sorts, Keeps, presences_sort, applications_sort, ends_sort}
use Rattle.base.proofs.OrderedLaws.{Unlike, elsewhere_used, ordered_put, ordered_less, put_ready, put_opened, take_closed}

-- ---- a row put in, a row taken out

module _ {A : Type 0} {t : Table A} {o : Sorted t} {of : Schema → List A} {with_rows : Schema → List A → Schema} (k : Keeps o of with_rows)
    {b : List ℕ} (x : Stored b) where
  abbrev s : Schema
  s = schema_of b

  abbrev placed : Placed t of
  placed = k.stands.placed

  in_picture : b ≡ placed.ahead s ++ (bytes_of t (of s) ++ placed.behind s)
  in_picture = x.shown ∙ placed.whole s

  module _ (a : A) (less : length (of s) < t.room) {count : ℕ} {key : List ℕ} (many : count ≡ length (of s)) (is : key ≡ t.row a) where
    pub ready : (o.named < length key) × (t.start + count * length key + length key ≤ length b)
    ready = put_ready k.sorts (k.kept x.rows) (placed.ahead s) (placed.behind s) (placed.long s) in_picture a less many is

    pub row_put : (o.sds a ≡ 0 → ⊥) → o.Fit a → Unlike t a (of s) → {b' : List ℕ} → PutIn b t.start o.named count key b'
        → Shows b' (with_rows s (put o.before a (of s)))
    row_put elsewhere fit unlike p = record {
      rows = k.storable x.rows (ordered_put k.sorts (k.kept x.rows) a (elsewhere_used k.sorts a elsewhere) fit less unlike);
      shown = put_opened k.sorts (k.kept x.rows) (placed.ahead s) (placed.behind s) (placed.long s) in_picture a less many is fit p
          ∙ sym (k.stands.other s (put o.before a (of s)));
    }

  pub row_taken : {count : ℕ} → count ≡ length (of s) → (i : ℕ) → i < count → {b' : List ℕ} → b' ≡ closed b (at t i) (at t count) t.width
      → Shows b' (with_rows s (less_row i (of s)))
  row_taken many i h e = record {
    rows = k.storable x.rows (ordered_less k.sorts (k.kept x.rows) i);
    shown = e ∙ take_closed k.sorts (k.kept x.rows) (placed.ahead s) (placed.behind s) (placed.long s) in_picture many i h
        ∙ sym (k.stands.other s (less_row i (of s)));
  }

-- where no row passes a test that a does, none has its bytes
unlike : {A : Type 0} {t : Table A} {o : Sorted t} → Sorts o → {rs : List A} → Ordered o rs → (q : A → Bool) (a : A)
    → o.Fit a → q a ≡ true → any q rs ≡ false → Unlike t a rs
unlike {t = t} l k q a fit it none y i e =
    true≢false (sym (any_at q i (ap q (sym (l.back y (k.fit y i)) ∙ ap t.read e ∙ l.back a fit) ∙ it)) ∙ none)

-- ---- presences

pub presence_built : (d t u f : ℕ) (n y : List ℕ) → length n ≤ limits.name
    → y ≡ written (set (set (set (set (replicate presence_width 0) 0 d) type_offset t) usage_offset u) definition_offset f) name_offset n
    → y ≡ presence_row (with_modes u f (new_presence d n t))
unfolding presence_row
presence_built d t u f n y h e = e ∙ field_written (d ∷ []) (t ∷ u ∷ f ∷ []) n limits.name name_offset refl h

pub presence_unlike : {s : Schema} → Storable s → (a : Presence) → by_name.Fit a
    → (bears s a.sds a.name ≡ false) ⊎ (present s a.sds a.type ≡ false) → Unlike presences a s.presences
unfolding bears present
presence_unlike st a fit =
    let in-sds = eq-eqb a.sds a.sds refl in
    ⊎_elim
    (unlike presences_sort st.presences (holds_name a.sds a.name) a fit
    (and_of (eqb a.sds a.sds) (same_name a.name a.name) in-sds (same_name_refl a.name)))
    (unlike presences_sort st.presences (holds_type a.sds a.type) a fit
    (and_of (eqb a.sds a.sds) (eqb a.type a.type) in-sds (eq-eqb a.type a.type refl)))

-- ---- applications

pub application_built : (d t a : ℕ) → d ∷ t ∷ a ∷ [] ≡ application_row (record { sds = d; to = t; attribute = a })
unfolding application_row
application_built d t a = refl

pub application_unlike : {s : Schema} → Storable s → (x : Application) → applied s x.sds x.to x.attribute ≡ false
    → Unlike applications x s.applications
unfolding applied
application_unlike st x e =
    unlike applications_sort st.applications (is_application x.sds x.to x.attribute) x tt
    (and_of (eqb x.sds x.sds) (eqb x.to x.to && eqb x.attribute x.attribute) (eq-eqb x.sds x.sds refl)
    (and_of (eqb x.to x.to) (eqb x.attribute x.attribute) (eq-eqb x.to x.to refl) (eq-eqb x.attribute x.attribute refl))) e

-- ---- ends

side_of : (k : ℕ) → k < 2 → side_code (read_side k) ≡ k
unfolding read_side
side_of zero h = refl
side_of (suc zero) h = refl
side_of (suc (suc k)) h = absurd (omega arith)

pub end_built : (d l k o : ℕ) → k < 2 → d ∷ l ∷ k ∷ o ∷ [] ≡ end_row (record { sds = d; link = l; side = read_side k; object = o })
unfolding end_row
end_built d l k o h = ap (λ (k : ℕ). d ∷ l ∷ k ∷ o ∷ []) (sym (side_of k h))

pub end_unlike : {s : Schema} → Storable s → (x : End) → has_end s x.sds x.link x.side x.object ≡ false → Unlike ends x s.ends
unfolding has_end
end_unlike st x e =
    let c = side_code x.side in
    unlike ends_sort st.ends (is_end x.sds x.link x.side x.object) x tt
    (and_of (eqb x.sds x.sds) (eqb x.link x.link && (eqb c c && eqb x.object x.object)) (eq-eqb x.sds x.sds refl)
    (and_of (eqb x.link x.link) (eqb c c && eqb x.object x.object) (eq-eqb x.link x.link refl)
    (and_of (eqb c c) (eqb x.object x.object) (eq-eqb c c refl) (eq-eqb x.object x.object refl)))) e
