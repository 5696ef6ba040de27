-- The row of a presence, out of the bytes of its entry. Assumes nothing.
use Prim.Native.Nat.{ℕ, ◌+◌}
use native.Mathlib.Omega.{arith}
use mathlib.Core.Path.{◌≡◌, sym, ap, ◌∙◌}
use mathlib.Core.List.{List, [], ◌∷◌, ◌++◌}
use lib.ListN.{length, get_or, take, drop, set, replicate, length-take, length-drop}
use lib.Seq.{take_at, get_or-append-add}
use Rattle.rules.specs.02-Limits.{limits}
use Rattle.rules.specs.04-Schema.{Presence}
use Rattle.rules.specs.07-Picture.{pad, presence_width, presence_row}
use Rattle.rules.specs.11-File.{presence_entry}
use Rattle.rules.specs.Read.{name_offset, type_offset, usage_offset, definition_offset}
use Rattle.rules.proofs.07-Picture.{length_pad}
use Rattle.rows.specs.Table.{written}
use Rattle.file_in_rows.specs.Loaded.{row_from}

pub entry_row : (p : Presence) → row_from (presence_entry p) ≡ presence_row p
unfolding row_from presence_entry presence_row
entry_row p =
    let field = pad limits.name p.name in
    let last = p.usage ∷ p.definition ∷ [] in
    let long = length_pad limits.name p.name in
    let name : take limits.name (field ++ last) ≡ field = take_at field last limits.name long in
    let behind : (k : ℕ) → get_or (field ++ last) (limits.name + k) 0 ≡ get_or last k 0
    = λ k. ap (λ (n : ℕ). get_or (field ++ last) (n + k) 0) (sym long) ∙ get_or-append-add field last k 0 in
    λ i. p.sds ∷ (name i ++ (p.type ∷ behind 0 i ∷ behind 1 i ∷ []))

-- as the code makes it
pub row_made : (entry y : List ℕ) → length entry ≡ presence_width
    → y ≡ written
    (set (set (set (set (replicate presence_width 0) 0 (get_or entry 0 0)) type_offset (get_or entry 1 0)) usage_offset (get_or entry usage_offset 0))
    definition_offset (get_or entry definition_offset 0))
    name_offset (take limits.name (drop 2 entry)) → y ≡ row_from entry
unfolding row_from written
row_made entry y long e =
    let name = take limits.name (drop 2 entry) in
    let wide : length name ≡ limits.name = omega (arith, length-take limits.name (drop 2 entry), length-drop 2 entry) in
    e ∙ rw wide
