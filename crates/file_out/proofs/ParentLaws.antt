-- The parents that the rows of types hold, as the entries of the file. Assumes nothing.
use Prim.Native.Nat.{ℕ, suc, ◌+◌, ◌≤◌, ◌<◌}
use native.Mathlib.Omega.{arith}
use mathlib.Core.Path.{◌≡◌, refl, ap, ◌∙◌}
use mathlib.Core.List.{List, [], ◌∷◌, ◌++◌, map}
use lib.ListN.{length, get_or, drop, length-map, drop_of_length-le}
use lib.Seq.{drop-cons}
use Rattle.rules.specs.01-Lists.{joined}
use Rattle.rules.specs.02-Limits.{limits}
use Rattle.rules.specs.04-Schema.{Schema, Kind, kind_of, is_used, parents, parents_in}
use Rattle.rules.specs.05-Descent.{members}
use Rattle.rules.specs.07-Picture.{Sound}
use Rattle.rules.specs.Read.{count_offset, parents_offset}
use Rattle.rules.specs.11-File.{parent_entry, parent_entries}
use Rattle.rules.proofs.11-File.{unused_is}
use Rattle.base.specs.Rows.{type_at}
use Rattle.base.specs.Back.{schema_of}
use Rattle.lookup.proofs.Parents.{good_parental, count_few, parents_count, parents_place}
use Rattle.file_out_presences.proofs.SpanLaws.{span, span_joined}
use Rattle.file_out_presences.proofs.PutLaws.{Putting, putting_as, putting_room, putting_more, putting_done}
use Rattle.file_out.specs.Put.{PutOn}
use Rattle.file_out.proofs.SpanLaws.{joined_span, Counting, counting_more}

-- ---- those of one type, parent by parent

abbrev pub bytes_of : ℕ → List ℕ → List ℕ
bytes_of t ps = joined (map (parent_entry t) ps)

module _ (t : ℕ) (ps : List ℕ) (i : ℕ) {o o' : List ℕ} {from at : ℕ} (g : Putting (bytes_of t ps) o from o' at (bytes_of t (drop i ps))) where
  -- the next one, and what is left behind it
  next : i < length ps → Putting (bytes_of t ps) o from o' at ((t ∷ get_or ps i 0 ∷ []) ++ bytes_of t (drop (i + 1) ps))
  unfolding joined
  next h =
      let one : suc i ≡ i + 1 = omega arith in
      putting_as (ap (bytes_of t) (drop-cons ps i 0 h) ∙ ap (λ (k : ℕ). (t ∷ get_or ps i 0 ∷ []) ++ bytes_of t (drop k ps)) one) g

  pub parent_room : i < length ps → at + 1 < length o'
  parent_room h = let room = putting_room (t ∷ get_or ps i 0 ∷ []) (bytes_of t (drop (i + 1) ps)) (next h) in omega arith

  pub parent_put : i < length ps → {a r : ℕ} {o'' : List ℕ} → get_or ps i 0 ≡ a → PutOn (t ∷ a ∷ []) o' at o'' r
      → Putting (bytes_of t ps) o from o'' r (bytes_of t (drop (i + 1) ps))
  parent_put h {a} e p =
      let rest = bytes_of t (drop (i + 1) ps) in
      putting_more (t ∷ a ∷ []) rest (putting_as (ap (λ (x : ℕ). (t ∷ x ∷ []) ++ rest) e) (next h)) p.long p.is

  pub parents_put : length ps ≤ i → PutOn (bytes_of t ps) o from o' at
  unfolding joined
  parents_put h =
      let (end, is) = putting_done (putting_as (ap (bytes_of t) (drop_of_length-le ps {i = i} h)) g) in
      record { long = end; is = is }

-- ---- type by type: one that is unused has none

module _ (s : Schema) where
  abbrev pub entries_of : ℕ → List (List ℕ)
  entries_of t = map (parent_entry t) (parents s t)

  pub parents_span : parent_entries s ≡ span entries_of 0 limits.types
  unfolding parent_entries members parents
  parents_span =
      span_joined entries_of entries_of (λ t. is_used (kind_of s t)) (λ t e. refl)
      (λ t e. ap (λ (k : Kind). map (parent_entry t) (parents_in k)) (unused_is (kind_of s t) e)) 0 limits.types

  pub parents_joined : joined (parent_entries s) ≡ span (λ t. bytes_of t (parents s t)) 0 limits.types
  parents_joined = ap joined parents_span ∙ joined_span entries_of 0 limits.types

-- ---- those of a sound base, as its bytes tell them

module _ {b : List ℕ} (s : Sound b) (t : ℕ) (h : t < limits.types) where
  pub few_parents : get_or b (type_at t + count_offset) 0 ≤ 4
  few_parents = count_few (good_parental s) t h

  pub parents_long : length (parents (schema_of b) t) ≡ get_or b (type_at t + count_offset) 0
  parents_long = parents_count (good_parental s) t h

  pub parent_byte : (i : ℕ) → i < get_or b (type_at t + count_offset) 0 → get_or (parents (schema_of b) t) i 0 ≡ get_or b (type_at t + parents_offset + i) 0
  parent_byte = parents_place (good_parental s) t h

  pub parents_counted : {n x : ℕ} → Counting (entries_of (schema_of b)) limits.types t n → x ≡ get_or b (type_at t + count_offset) 0
      → Counting (entries_of (schema_of b)) limits.types (t + 1) (n + x)
  parents_counted {n} c e = counting_more c h (omega (arith, e, parents_long, length-map (parents (schema_of b) t) (parent_entry t)))
