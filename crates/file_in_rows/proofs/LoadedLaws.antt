-- The contracts of loading, out of what was counted, put in and copied. Assumes nothing.
use Prim.Native.Nat.{ℕ, suc, ◌+◌, ◌<◌}
use native.Mathlib.Omega.{arith}
use mathlib.Core.Path.{◌≡◌, refl, sym, ap, ◌∙◌}
use mathlib.Core.List.{List, [], ◌∷◌, ◌++◌, map, append-nil}
use mathlib.Core.List.Memᴰ
use Rattle.std.specs.Prelude.{Some}
use lib.ListN.{length, drop, length-append, length-map}
use Rattle.rules.specs.01-Lists.{joined}
use Rattle.rules.specs.02-Limits.{limits}
use Rattle.rules.specs.04-Schema.{Schema, with_presences, with_applications}
use Rattle.rules.specs.06-Good.{Good}
use Rattle.rules.specs.07-Picture.{presence_width, application_width, application_row, end_width, end_row, picture}
use Rattle.rules.specs.11-File.{section, presence_entries, application_entries, end_entries}
use Rattle.rules.proofs.07-Picture.{append_both}
use Rattle.rules.proofs.Sections.{Wide}
use Rattle.rules.proofs.11-File.{wide_presences, wide_applications, wide_ends, presence_count}
use Rattle.rows.specs.Table.{PutIn, written}
use Rattle.base.specs.Tables.{presences, applications, ends}
use Rattle.base.proofs.Tables.{keeps_applications, keeps_ends}
use Rattle.file_sections.specs.Section.{EntriesAt}
use Rattle.file_sections.proofs.SectionLaws.{are_entries, behind_entries}
use Rattle.file_in_types.specs.Loaded.{types_alone}
use Rattle.file_in_rows.specs.Loaded.{row_from, Puts, EntriesPut, PresencesLoaded, TableLoaded}
use Rattle.file_in_rows.proofs.PutsLaws.{presences_put}
use Rattle.file_in_rows.proofs.FilledLaws.{table_filled}

-- ---- presences put in, one in a turn

module _ (before : List ℕ) where
  -- of the entries es, those that are left, before turn i, are the bytes l: what comes of them comes of all
  pub record Left (i : ℕ) (es : List (List ℕ)) (l area : List ℕ) : Type 0 where
    pub some : List (List ℕ)
    pub wide : Wide presence_width some
    pub are : l ≡ joined some
    pub same : (after : List ℕ) → Puts i (map row_from some) area after → Puts 0 (map row_from es) before after

  -- of any entries that are these bytes, those that are left are the bytes l
  pub record Turns (bytes : List ℕ) (i : ℕ) (l area : List ℕ) : Type 0 where
    pub left : (es : List (List ℕ)) → Wide presence_width es → bytes ≡ joined es → Left i es l area

  next_left : (i : ℕ) (es some : List (List ℕ)) (l e l' area area' : List ℕ) → length e ≡ presence_width → l ≡ e ++ l' → Wide presence_width some
      → l ≡ joined some → ((after : List ℕ) → Puts i (map row_from some) area after → Puts 0 (map row_from es) before after)
      → PutIn area presences.start limits.name i (row_from e) area' → Left (i + 1) es l' area'
  unfolding joined Puts
  next_left i es [] l e l' area area' long is wide are same put = absurd (omega (arith, length-append e l', ap length (sym is ∙ are)))
  next_left i es (f ∷ some) l e l' area area' long is wide are same put =
      let (first, others) = append_both e f l' (joined some) (long ∙ sym (wide f (Memᴰ.head refl))) (sym is ∙ are) in
      let many : suc i ≡ i + 1 = omega arith in
      record {
        some = some;
        wide = λ x k. wide x (Memᴰ.tail k);
        are = others;
        same = λ after p. same after (area', rw first at put, rw many p);
      }

  pub next_turn : (e : List ℕ) {bytes : List ℕ} {i : ℕ} {l l' row area area' : List ℕ} → Turns bytes i l area → l ≡ e ++ l'
      → length e ≡ presence_width
      → row ≡ row_from e → PutIn area presences.start limits.name i row area' → Turns bytes (i + 1) l' area'
  next_turn e {i = i} {l = l} {l' = l'} {area = area} {area' = area'} turns is long made put = record {
    left = λ es wide are.
        let left = turns.left es wide are in
        next_left i es left.some l e l' area area' long is left.wide left.are left.same (rw made at put);
  }

  none_left : (i : ℕ) (some : List (List ℕ)) (l area : List ℕ) → length l < presence_width → Wide presence_width some → l ≡ joined some
      → Puts i (map row_from some) area area
  unfolding joined Puts
  none_left i [] l area short wide are = refl
  none_left i (e ∷ some) l area short wide are =
      absurd (omega (arith, length-append e (joined some), ap length are, wide e (Memᴰ.head refl)))

  pub all_turns : {bytes : List ℕ} {i : ℕ} {l area : List ℕ} → Turns bytes i l area → length l < presence_width → EntriesPut bytes before area
  all_turns {i = i} {l = l} {area = area} turns short = record {
    puts = λ es wide are.
        let left = turns.left es wide are in
        left.same area (none_left i left.some l area short left.wide left.are);
  }

-- ---- one section

pub presences_loaded : {file bytes : List ℕ} {at : ℕ} → EntriesAt file at presence_width limits.presences (Some bytes)
    → {b b' : List ℕ} → EntriesPut bytes b b'
    → PresencesLoaded file at b b' (at + 2 + length bytes)
presences_loaded told put = record {
  shows = λ es rest few wide there. (put.puts es wide (are_entries told es rest few wide there), behind_entries told es rest few wide there);
}

pub table_loaded : {file bytes : List ℕ} {at w most : ℕ} → EntriesAt file at w most (Some bytes) → {b b' : List ℕ} {to : ℕ} → b' ≡ written b to bytes
    → TableLoaded file at w most to b b' (at + 2 + length bytes)
table_loaded told {b} {to = to} is = record {
  shows = λ es rest few wide there. (is ∙ ap (written b to) (are_entries told es rest few wide there), behind_entries told es rest few wide there);
}

-- ---- all three

module _ {s : Schema} (good : Good s) where
  pub all_loaded : {file : List ℕ} {at u v r : ℕ} {a b c d : List ℕ} → a ≡ picture (types_alone s)
      → drop at file ≡ section (presence_entries s) ++ (section (application_entries s) ++ section (end_entries s))
      → PresencesLoaded file at a b u → TableLoaded file u application_width limits.applications applications.start b c v
      → TableLoaded file v end_width limits.ends ends.start c d r → d ≡ picture s
  unfolding application_entries end_entries
  all_loaded alone there x y z =
      let (puts, next) = x.shows (presence_entries s) (section (application_entries s) ++ section (end_entries s))
      (omega (arith, presence_count good, good.presence_room)) (wide_presences s) there in
      let (copied, last) = y.shows (application_entries s) (section (end_entries s)) (rw (length-map s.applications application_row) good.application_room)
      (wide_applications s) next in
      let (done, _) = z.shows (end_entries s) [] (rw (length-map s.ends end_row) good.end_room)
      (wide_ends s) (last ∙ sym (append-nil (section (end_entries s)))) in
      let first = presences_put good alone puts in
      let rows = with_presences (types_alone s) s.presences in
      let second = copied ∙ ap (λ (l : List ℕ). written l applications.start (joined (map application_row s.applications))) first
      ∙ table_filled keeps_applications.stands rows refl s.applications good.application_room in
      done ∙ ap (λ (l : List ℕ). written l ends.start (joined (map end_row s.ends))) second
      ∙ table_filled keeps_ends.stands (with_applications rows s.applications) refl s.ends good.end_room
