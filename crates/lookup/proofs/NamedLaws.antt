-- A type by its name: what the row that was found says of an SDS. Assumes nothing.
use Prim.Native.Nat.{ℕ, ◌+◌, ◌≤◌, ◌<◌}
use native.Mathlib.Omega.{arith}
use mathlib.Core.Path.{◌≡◌, refl, sym, ap, ◌∙◌}
use mathlib.Core.List.{List}
use mathlib.Core.Bool.{Bool, true, false, true≢false}
use lib.ListN.{get_or}
use Rattle.std.specs.Prelude.{Option, Some, None, IfSome, is_some}
use Rattle.std.specs.Option.{unwrap_or}
use Rattle.rules.specs.03-Names.{Name}
use Rattle.rules.specs.04-Schema.{Schema, Presence, system_presence, holds_name, bears, type_named}
use Rattle.rules.specs.06-Good.{Good}
use Rattle.rules.specs.01-Lists.{place}
use Rattle.rules.specs.Read.{type_offset}
use Rattle.rules.proofs.01-Lists.{any_at, any_none}
use Rattle.rules.proofs.05-Descent.{used_below}
use Rattle.rules.proofs.11-Asks.{place_is, first_at}
use Rattle.base.specs.Rows.{presence_at}
use Rattle.base.specs.Back.{schema_of, presence_shown, presence_count}
use Rattle.base.proofs.Shown.{presences_long, presence_is, presence_there, presence_in}
use Rattle.lookup.specs.Found.{NamedRow, NamedIn}

-- ---- an SDS

module _ {b : List ℕ} {d : ℕ} {n : Name} {r : ℕ} (row : NamedRow b (presence_count b) d n r) where
  -- no row was found
  pub bears_none : presence_count b ≤ r → bears (schema_of b) d n ≡ false
  unfolding bears
  bears_none h =
      any_none (holds_name d n) (schema_of b).presences (λ p i.
      let (k, u, e) = presence_in b p i in
      ap (holds_name d n) e ∙ row.others k (omega arith))

  module _ (h : r < presence_count b) where
    pub bears_it : bears (schema_of b) d n ≡ true
    unfolding bears
    bears_it = any_at (holds_name d n) (presence_there b r h) (row.found h)

    -- the type of the row is the one that bears the name
    pub type_is : get_or b (presence_at r + type_offset) 0 ≡ type_named (schema_of b) d n
    unfolding bears type_named
    type_is =
        let ps = (schema_of b).presences in
        let at : place (holds_name d n) ps ≡ r
        = place_is (holds_name d n) system_presence ps r (omega (arith, presences_long b))
        (λ i u. ap (holds_name d n) (presence_is b i system_presence (omega arith)) ∙ row.others i u)
        (ap (holds_name d n) (presence_is b r system_presence h) ∙ row.found h) in
        sym (ap (λ (p : Presence). p.type) ((first_at (holds_name d n) _ system_presence ps bears_it).1
        ∙ ap (λ (k : ℕ). get_or ps k system_presence) at ∙ presence_is b r system_presence h))

-- a row's type is below 128
pub type_below : (b : List ℕ) → Good (schema_of b) → (i : ℕ) → i < presence_count b → get_or b (presence_at i + type_offset) 0 < 128
type_below b good i h = used_below good _ (good.presence_type (presence_shown b i) (presence_there b i h))

-- what the search says of SDS d, whether it found a row or none
module _ {b : List ℕ} {d : ℕ} {n : Name} {r : ℕ} (row : NamedRow b (presence_count b) d n r) where
  pub named_here : Good (schema_of b) → (h : r < presence_count b) (t : ℕ) → t ≡ get_or b (presence_at r + type_offset) 0 → NamedIn (schema_of b) d n t
  named_here good h t e = record {
    found = λ q. (omega (arith, type_below b good r h), e ∙ type_is row h);
    none = λ q. absurd (true≢false (sym (bears_it row h) ∙ q));
  }

  pub named_not_here : presence_count b ≤ r → NamedIn (schema_of b) d n 128
  named_not_here h = record { found = λ q. absurd (true≢false (sym q ∙ bears_none row h)); none = λ q. refl }

-- a name is borne exactly where a type is found under it
module _ {s : Schema} {d : ℕ} {n : Name} {r : ℕ} (found : NamedIn s d n r) where
  pub borne : (r ≡ 128 → ⊥) → bears s d n ≡ true
  borne h = go (bears s d n) refl
    where
      go : (x : Bool) → bears s d n ≡ x → x ≡ true
      go true e = refl
      go false e = absurd (h (found.none e))

  pub not_borne : r ≡ 128 → bears s d n ≡ false
  not_borne h = go (bears s d n) refl
    where
      go : (x : Bool) → bears s d n ≡ x → x ≡ false
      go true e = absurd (let (u, q) = found.found e in omega arith)
      go false e = refl

-- by whether one was found
pub found_bears : {s : Schema} {d : ℕ} {n : Name} (o : Option ℕ) → NamedIn s d n (unwrap_or o 128) → IfSome o (λ t. t < 128) → is_some o ≡ bears s d n
found_bears (Some t) found h = sym (borne found (λ z. omega arith))
found_bears None found h = sym (not_borne found refl)
