-- The presences that the entries of a good schema's file show, in their order: each once. Assumes nothing.
use Prim.Native.Nat.{ℕ}
use mathlib.Core.Path.{◌≡◌, refl, sym, ap, subst, ◌∙◌}
use mathlib.Core.List.{List, [], ◌∷◌, map}
use mathlib.Core.List.Memᴰ
use Rattle.rules.specs.01-Lists.{◌∈◌}
use Rattle.rules.specs.04-Schema.{Schema, Presence}
use Rattle.rules.specs.06-Good.{Good}
use Rattle.rules.specs.07-Picture.{presence_row}
use Rattle.rules.specs.11-File.{presence_entry, presence_entries}
use Rattle.rules.specs.Read.{read_presence}
use Rattle.rules.proofs.01-Lists.{Different, map_in, different_mapped}
use Rattle.rules.proofs.Edits.{map_of}
use Rattle.rules.proofs.Orders.{bytes_order, rising_different}
use Rattle.rules.proofs.11-File.{presence_entries_rise, presence_entry_in, presence_entry_of}
use Rattle.base.specs.Tables.{by_name}
use Rattle.base.proofs.Tables.{presences_sort}
use Rattle.file_in_rows.specs.Loaded.{row_from}
use Rattle.file_in_rows.proofs.EntryLaws.{entry_row}

-- the presence that an entry shows
abbrev pub shown : List ℕ → Presence
shown e = read_presence (row_from e)

shown_back : (p : Presence) → by_name.Fit p → shown (presence_entry p) ≡ p
shown_back p f = ap read_presence (entry_row p) ∙ presences_sort.back p f

abbrev pub listed : Schema → List Presence
listed s = map shown (presence_entries s)

rows_shown : (es : List (List ℕ)) → ((e : List ℕ) → e ∈ es → row_from e ≡ presence_row (shown e)) → map row_from es ≡ map presence_row (map shown es)
rows_shown [] h = refl
rows_shown (e ∷ es) h = λ i. h e (Memᴰ.head refl) i ∷ rows_shown es (λ x j. h x (Memᴰ.tail j)) i

module _ {s : Schema} (good : Good s) where
  entry_shows : {e : List ℕ} → e ∈ presence_entries s → (shown e ∈ s.presences) × (e ≡ presence_entry (shown e))
  entry_shows {e} i =
      let (p, j, q) = presence_entry_in good i in
      subst (λ (r : Presence). (r ∈ s.presences) × (e ≡ presence_entry r)) (sym (ap shown q ∙ shown_back p (good.presence_named p j))) (j, q)

  pub rows_listed : map row_from (presence_entries s) ≡ map presence_row (listed s)
  rows_listed = rows_shown (presence_entries s) (λ e i. ap row_from (entry_shows i).1 ∙ entry_row (shown e))

  pub listed_there : (p : Presence) → p ∈ listed s → p ∈ s.presences
  listed_there p i = let (e, j, q) = map_in shown (presence_entries s) i in subst (λ (r : Presence). r ∈ s.presences) (sym q) (entry_shows j).0

  pub listed_all : (p : Presence) → p ∈ s.presences → p ∈ listed s
  listed_all p i = subst (λ (r : Presence). r ∈ listed s) (shown_back p (good.presence_named p i)) (map_of shown (presence_entry_of good p i))

  pub listed_different : Different (listed s)
  listed_different =
      different_mapped shown (presence_entries s) (λ e f i j q. (entry_shows i).1 ∙ ap presence_entry q ∙ sym (entry_shows j).1)
      (rising_different bytes_order (presence_entries s) (presence_entries_rise good))
