-- The file of a schema: that it is well formed, that a good schema has its file to itself, and how long it is. Assumes nothing.
use Prim.Native.Nat.{ℕ, suc, ◌+◌, ◌*◌, ◌≤◌, ◌<◌}
use native.Mathlib.Omega.{arith}
use mathlib.Core.Path.{◌≡◌, refl, sym, ap, subst, subst₂, ◌∙◌}
use mathlib.Core.List.{List, [], ◌∷◌, ◌++◌, map}
use mathlib.Core.Bool.{Bool, true, false, not, ◌||◌, false≢true, true≢false}
use lib.Dec.{ltb}
use lib.ListN.{length, get_or, take, drop, length-append, length-take, length-map, get_or-eq_default}
use lib.Seq.{ext_get_or}
use borrow.Author.Tests.{ltb-true, ltb-false, not-false}
use Rattle.rules.specs.01-Lists.{◌∈◌, bytes_before, rising}
use Rattle.rules.specs.02-Limits.{limits}
use Rattle.rules.specs.03-Names.{Name, blank, well_formed}
use Rattle.rules.specs.04-Schema.{Schema, Kind, Presence, Application, Side, End, sds_name, used_sds, kind_of, is_used, parents, parents_in, present}
use Rattle.rules.specs.04-Schema.{type_presence, side_code}
use Rattle.rules.specs.04-Schema.Kind.{unused, object, attribute, designation, paired}
use Rattle.rules.specs.04-Schema.Side.{origin, destination}
use Rattle.rules.specs.05-Descent.{Parent, members}
use Rattle.rules.specs.06-Good.{Good, application_before, end_before}
use Rattle.rules.specs.07-Picture.{pad, sds_row, type_row, presence_width, application_width, application_row, end_width, end_row}
use Rattle.rules.specs.Read.{strip, read_kind, read_application, read_end}
use Rattle.rules.specs.09-Refusals.{types_in}
use Rattle.rules.specs.11-File.{section, used_sdss, used_types, sds_entry, type_entry, parent_entry, presence_entry, sds_entries, type_entries}
use Rattle.rules.specs.11-File.{parent_entries, entries_in, presence_entries, application_entries, end_entries, file_of, Section, WellFormed}
use Rattle.rules.specs.11-File.{file_most}
use Rattle.rules.proofs.Bools.{and_both, last_byte}
use Rattle.rules.proofs.01-Lists.{map_in, place_in, at_most_in, different_mapped, numbers_in, numbers_of, numbers_rising, numbers_most}
use Rattle.rules.proofs.03-Names.{blank_is, formed_letters, name_letters, name_fits}
use Rattle.rules.proofs.05-Descent.{members_in, members_of, members_rising, members_most, child_object, object_used, object_below, used_below}
use Rattle.rules.proofs.Edits.{map_of}
use Rattle.rules.proofs.Orders.{number_order, bytes_order, presence_order, rising_different, rising_same, rising_mapped}
use Rattle.rules.proofs.Parts.{presence_there}
use Rattle.rules.proofs.07-Picture.{length_pad, strip_pad, wide_sds, wide_type, wide_application, wide_end, kind_back, application_back}
use Rattle.rules.proofs.07-Picture.{end_back, append_both, sds_back, Fitting, fitting}
use Rattle.rules.proofs.08-Working.{holder, holder_is, present_used}
use Rattle.rules.proofs.Sections.{joined_long, Wide, wide_mapped, section_long, section_split, sections_more, sections_last}
use Rattle.rules.proofs.Sections.{formed, small_mapped, field_small, three_small, rows_told}
use Rattle.rules.proofs.Sections.{Bytes, bytes_none, bytes_more, bytes_append, numbered_rise, numbered_same, pairs_in, pairs_of, pairs_rise}

-- ---- the widths of entries

pub wide_presence_entry : (p : Presence) → length (presence_entry p) ≡ presence_width
unfolding presence_entry
wide_presence_entry p =
    let field = pad limits.name p.name in
    omega (arith, length-append field (p.usage ∷ p.definition ∷ []), length_pad limits.name p.name)

-- the entry of the presence of type t in SDS d
abbrev entry_at : Schema → ℕ → ℕ → List ℕ
entry_at s d t = presence_entry (type_presence s d t)

module _ (s : Schema) where
  pub wide_sdss : Wide (1 + limits.name) (sds_entries s)
  unfolding sds_entries
  wide_sdss = wide_mapped (1 + limits.name) (sds_entry s) (used_sdss s) (λ d. ap suc (wide_sds (sds_name s d)))

  pub wide_types : Wide 4 (type_entries s)
  unfolding type_entries
  wide_types = wide_mapped 4 (type_entry s) (used_types s) (λ t. omega (arith, length-take 3 (type_row (kind_of s t)), wide_type (kind_of s t)))

  pub wide_parents : Wide 2 (parent_entries s)
  unfolding parent_entries
  wide_parents e i = let (t, a, _, _, q) = pairs_in parent_entry (parents s) (used_types s) i in ap length q

  pub wide_presences : Wide presence_width (presence_entries s)
  unfolding presence_entries entries_in
  wide_presences e i =
      let (d, t, _, _, q) = pairs_in (entry_at s) (types_in s) (used_sdss s) i in
      ap length q ∙ wide_presence_entry (type_presence s d t)

  pub wide_applications : Wide application_width (application_entries s)
  unfolding application_entries
  wide_applications = wide_mapped application_width application_row s.applications wide_application

  pub wide_ends : Wide end_width (end_entries s)
  unfolding end_entries
  wide_ends = wide_mapped end_width end_row s.ends wide_end

-- ---- the bytes of entries

module _ {s : Schema} (good : Good s) where
  sds_below : (d : ℕ) → used_sds s d ≡ true → d < 16
  unfolding used_sds
  sds_below d e = go (ltb d 16) refl
    where
      go : (b : Bool) → ltb d 16 ≡ b → d < 16
      go true h = ltb-true d 16 h
      go false h =
          let over = ltb-false d 16 h in
          let none : sds_name s d ≡ [] = get_or-eq_default s.sdss [] {n = d} (omega (arith, good.sds_room)) in
          absurd (false≢true (ap (λ (n : Name). not (blank n)) (sym none) ∙ e))

  present_below : (d t : ℕ) → present s d t ≡ true → (d < 16) × (t < 128)
  present_below d t e =
      let (i, at, of) = holder s d t e in
      (sds_below d (rw at at (good.presence_sds (type_presence s d t) i)), used_below good t (present_used good d t e))

  parent_below : (t a : ℕ) → a ∈ parents s t → (t < 128) × (a < 128)
  parent_below t a i =
      let by : Parent s t a = record { listed = i } in
      (object_below good t (child_object by), object_below good a (good.parents_objects t a by))

  kind_small : (t : ℕ) → Bytes (take 3 (type_row (kind_of s t)))
  unfolding type_row pad
  kind_small t = go (kind_of s t) refl
    where
      go : (k : Kind) → kind_of s t ≡ k → Bytes (take 3 (type_row k))
      go unused e = three_small 0 0 0 (omega arith) (omega arith) (omega arith)
      go (object ps) e = three_small 1 0 0 (omega arith) (omega arith) (omega arith)
      go (attribute v) e = three_small 2 v 0 (omega arith) (omega (arith, good.value_kinds t v e)) (omega arith)
      go designation e = three_small 3 4 0 (omega arith) (omega arith) (omega arith)
      go (paired c r) e =
          let (_, back) = good.reverse_in_turn t c r e in
          three_small 3 c r (omega arith) (omega (arith, good.categories t c r e)) (omega (arith, used_below good r (ap is_used back)))

  presence_small : (p : Presence) → p ∈ s.presences → Bytes (presence_entry p)
  unfolding presence_entry
  presence_small p i =
      let field = pad limits.name p.name in
      let modes = good.modes_known p i in
      let last : Bytes (p.usage ∷ p.definition ∷ [])
      = bytes_more p.usage (p.definition ∷ []) (omega (arith, modes.usage)) (bytes_more p.definition [] (omega (arith, modes.definition)) bytes_none) in
      bytes_more p.sds (p.type ∷ (field ++ (p.usage ∷ p.definition ∷ []))) (omega (arith, sds_below p.sds (good.presence_sds p i)))
      (bytes_more p.type (field ++ (p.usage ∷ p.definition ∷ [])) (omega (arith, used_below good p.type (good.presence_type p i)))
      (bytes_append field (p.usage ∷ p.definition ∷ []) (field_small p.name (name_letters p.name (good.presence_named p i))) last))

  application_small : (x : Application) → x ∈ s.applications → Bytes (application_row x)
  unfolding application_row
  application_small x i =
      let (a, b) = and_both (present s x.sds x.to) (present s x.sds x.attribute) (good.application_present x i) in
      let (d, t) = present_below x.sds x.to a in
      three_small x.sds x.to x.attribute (omega arith) (omega arith) (omega (arith, (present_below x.sds x.attribute b).1))

  end_small : (x : End) → x ∈ s.ends → Bytes (end_row x)
  unfolding end_row
  end_small x i =
      let (a, b) = and_both (present s x.sds x.link) (present s x.sds x.object) (good.end_present x i) in
      let (d, t) = present_below x.sds x.link a in
      bytes_more x.sds (x.link ∷ side_code x.side ∷ x.object ∷ []) (omega arith)
      (three_small x.link (side_code x.side) x.object (omega arith) (omega (arith, side x.side)) (omega (arith, (present_below x.sds x.object b).1)))
    where
      side : (y : Side) → side_code y < 2
      side origin = omega arith
      side destination = omega arith

-- ---- entries rise: by number; by child and parent; by SDS and type; as their rows do

application_bytes : (x y : Application) → bytes_before (application_row x) (application_row y) ≡ application_before x y
unfolding bytes_before application_row application_before
application_bytes x y = rw (last_byte x.attribute y.attribute)

end_bytes : (x y : End) → bytes_before (end_row x) (end_row y) ≡ end_before x y
unfolding bytes_before end_row end_before
end_bytes x y = rw (last_byte x.object y.object)

-- what holds of no parents and of those of an object type holds of the parents of every type
parents_each : (s : Schema) (t : ℕ) (P : List ℕ → Type 0) → P [] → ((ps : List ℕ) → kind_of s t ≡ object ps → P ps) → P (parents s t)
unfolding parents
parents_each s t P none f = go (kind_of s t) refl
  where
    go : (k : Kind) → kind_of s t ≡ k → P (parents_in k)
    go unused e = none
    go (object ps) e = f ps e
    go (attribute v) e = none
    go designation e = none
    go (paired c r) e = none

module _ {s : Schema} (good : Good s) where
  parents_rise : (t : ℕ) → rising ltb (parents s t) ≡ true
  unfolding rising
  parents_rise t = parents_each s t (λ ps. rising ltb ps ≡ true) refl (good.parents_rising t)

  parent_entries_rise : rising bytes_before (parent_entries s) ≡ true
  unfolding parent_entries
  parent_entries_rise =
      pairs_rise parent_entry (parents s) (used_types s) (members_rising (λ t. is_used (kind_of s t))) (λ t _. parents_rise t) (λ t a _ _. ([], refl))

  pub presence_entries_rise : rising bytes_before (presence_entries s) ≡ true
  unfolding presence_entries entries_in types_in presence_entry
  presence_entries_rise =
      pairs_rise (entry_at s) (types_in s) (used_sdss s) (numbers_rising (used_sds s) 0 16) (λ d _. members_rising (present s d)) (λ d t _ i.
      let p = type_presence s d t in
      let (_, at, of) = holder s d t (members_in (present s d) t i).1 in (
        pad limits.name p.name ++ (p.usage ∷ p.definition ∷ []),
        λ j. at j ∷ of j ∷ (pad limits.name p.name ++ (p.usage ∷ p.definition ∷ [])),
      ))

  -- ---- how many entries there are

  pub sds_count : length (sds_entries s) ≤ 16
  unfolding sds_entries
  sds_count = omega (arith, length-map (used_sdss s) (sds_entry s), numbers_most (used_sds s) 0 16)

  pub type_count : length (type_entries s) ≤ 128
  unfolding type_entries
  type_count = omega (arith, length-map (used_types s) (type_entry s), members_most (λ t. is_used (kind_of s t)))

  -- 4 a type
  pub parent_count : length (parent_entries s) ≤ 512
  unfolding parent_entries
  parent_count =
      let groups = map (λ t. map (parent_entry t) (parents s t)) (used_types s) in
      let (_, high) = joined_long 0 4 groups (λ l i.
      let (t, _, q) = map_in (λ t. map (parent_entry t) (parents s t)) (used_types s) i in
      (omega arith, omega (arith, ap length q, length-map (parents s t) (parent_entry t), parents_each s t (λ ps. length ps ≤ 4) (omega arith) (good.parents_few t)))) in
      omega (arith, high, length-map (used_types s) (λ t. map (parent_entry t) (parents s t)), members_most (λ t. is_used (kind_of s t)))

-- a presence is told by its entry
presence_told : (p q : Presence) → blank p.name || well_formed p.name ≡ true → blank q.name || well_formed q.name ≡ true
    → presence_entry p ≡ presence_entry q → p ≡ q
unfolding presence_entry
presence_told p q f g e =
    let field : Presence → List ℕ = λ p. pad limits.name p.name in
    let (name, modes) = append_both (field p) (field q) (p.usage ∷ p.definition ∷ []) (q.usage ∷ q.definition ∷ [])
    (length_pad limits.name p.name ∙ sym (length_pad limits.name q.name)) (ap (drop 2) e) in
    λ i. record {
      sds = get_or (e i) 0 0;
      name = (sym (strip_pad (name_fits p.name f)) ∙ ap strip name ∙ strip_pad (name_fits q.name g)) i;
      type = get_or (e i) 1 0;
      usage = get_or (modes i) 0 0;
      definition = get_or (modes i) 1 0;
    }

module _ {s : Schema} (good : Good s) where
  -- the presence that an entry shows
  pub presence_entry_in : {e : List ℕ} → e ∈ presence_entries s → (p : Presence) × (p ∈ s.presences) × (e ≡ presence_entry p)
  unfolding presence_entries entries_in types_in
  presence_entry_in i =
      let (d, t, _, j, q) = pairs_in (entry_at s) (types_in s) (used_sdss s) i in
      (type_presence s d t, (holder s d t (members_in (present s d) t j).1).0, q)

  pub presence_entry_of : (p : Presence) → p ∈ s.presences → presence_entry p ∈ presence_entries s
  unfolding presence_entries entries_in types_in present
  presence_entry_of p i =
      let here = presence_there i in
      let below = present_below good p.sds p.type here in
      subst (λ (q : Presence). presence_entry q ∈ presence_entries s) (holder_is good p.sds p.type p i refl refl)
      (pairs_of (entry_at s) (types_in s) (numbers_of (used_sds s) 0 16 p.sds (omega arith) below.0 (good.presence_sds p i))
      (members_of (present s p.sds) p.type below.1 here))

  -- one for each
  pub presence_count : length (presence_entries s) ≡ length s.presences
  presence_count =
      let shown = map presence_entry s.presences in
      let no_more = at_most_in (presence_entries s) shown (rising_different bytes_order (presence_entries s) (presence_entries_rise good))
      (λ e i. let (p, j, q) = presence_entry_in i in subst (λ (l : List ℕ). l ∈ shown) (sym q) (map_of presence_entry j)) in
      let no-fewer = at_most_in shown (presence_entries s)
      (different_mapped presence_entry s.presences
      (λ p q i j. presence_told p q (good.presence_named p i) (good.presence_named q j))
      (rising_different presence_order s.presences good.presences_rising))
      (λ e i. let (p, j, q) = map_in presence_entry s.presences i in subst (λ (l : List ℕ). l ∈ presence_entries s) (sym q) (presence_entry_of p j)) in
      omega (arith, no_more, no-fewer, length-map s.presences presence_entry)

-- ---- the file is well formed

module _ {s : Schema} (good : Good s) where
  sdss_formed : Section (1 + limits.name) (section (sds_entries s))
  unfolding sds_entries sds_row
  sdss_formed =
      formed 17 (sds_entries s) (omega (arith, sds_count good)) (wide_sdss s)
      (small_mapped (sds_entry s) (used_sdss s) (λ d i.
      let (_, _, u) = numbers_in (used_sds s) 0 16 d i in
      bytes_more d (sds_row (sds_name s d)) (omega (arith, sds_below good d u)) (field_small (sds_name s d) (formed_letters (sds_name s d) (good.sds_named d u)))))
      (numbered_rise (λ d. sds_row (sds_name s d)) (used_sdss s) (numbers_rising (used_sds s) 0 16))

  types_formed : Section 4 (section (type_entries s))
  unfolding type_entries
  types_formed =
      formed 4 (type_entries s) (omega (arith, type_count good)) (wide_types s)
      (small_mapped (type_entry s) (used_types s) (λ t i.
      bytes_more t (take 3 (type_row (kind_of s t))) (omega (arith, (members_in (λ t. is_used (kind_of s t)) t i).0)) (kind_small good t)))
      (numbered_rise (λ t. take 3 (type_row (kind_of s t))) (used_types s) (members_rising (λ t. is_used (kind_of s t))))

  parents_formed : Section 2 (section (parent_entries s))
  unfolding parent_entries
  parents_formed =
      formed 2 (parent_entries s) (parent_count good) (wide_parents s)
      (λ e i.
      let (t, a, _, j, q) = pairs_in parent_entry (parents s) (used_types s) i in
      let (b, c) = parent_below good t a j in
      rw q (bytes_more t (a ∷ []) (omega arith) (bytes_more a [] (omega arith) bytes_none)))
      (parent_entries_rise good)

  presences_formed : Section presence_width (section (presence_entries s))
  presences_formed =
      formed presence_width (presence_entries s) (omega (arith, presence_count good, good.presence_room)) (wide_presences s)
      (λ e i. let (p, j, q) = presence_entry_in good i in rw q (presence_small good p j))
      (presence_entries_rise good)

  applications_formed : Section application_width (section (application_entries s))
  unfolding application_entries
  applications_formed =
      formed application_width (application_entries s) (omega (arith, length-map s.applications application_row, good.application_room)) (wide_applications s)
      (small_mapped application_row s.applications (application_small good))
      (rising_mapped application_before bytes_before application_row s.applications (λ x y i j h. application_bytes x y ∙ h) good.applications_rising)

  ends_formed : Section end_width (section (end_entries s))
  unfolding end_entries
  ends_formed =
      formed end_width (end_entries s) (omega (arith, length-map s.ends end_row, good.end_room)) (wide_ends s)
      (small_mapped end_row s.ends (end_small good))
      (rising_mapped end_before bytes_before end_row s.ends (λ x y i j h. end_bytes x y ∙ h) good.ends_rising)

  pub file_formed : WellFormed (file_of s)
  unfolding file_of
  file_formed =
      sections_more _ _ sdss_formed (sections_more _ _ types_formed (sections_more _ _ parents_formed (sections_more _ _ presences_formed
      (sections_more _ _ applications_formed (sections_last ends_formed)))))

  -- by the number of its entries
  pub file_long : length (file_of s)
      ≡ 12 + length (sds_entries s) * 17 + length (type_entries s) * 4 + length (parent_entries s) * 2 + length s.presences * 20
      + length s.applications * 3 + length s.ends * 4
  unfolding file_of application_entries end_entries
  file_long =
      let sdss = section (sds_entries s) in
      let types = section (type_entries s) in
      let parents = section (parent_entries s) in
      let presences = section (presence_entries s) in
      let applications = section (application_entries s) in
      let ends = section (end_entries s) in
      omega (
        arith,
        length-append sdss (types ++ (parents ++ (presences ++ (applications ++ ends)))),
        length-append types (parents ++ (presences ++ (applications ++ ends))),
        length-append parents (presences ++ (applications ++ ends)),
        length-append presences (applications ++ ends),
        length-append applications ends,
        section_long 17 (sds_entries s) (wide_sdss s),
        section_long 4 (type_entries s) (wide_types s),
        section_long 2 (parent_entries s) (wide_parents s),
        section_long presence_width (presence_entries s) (wide_presences s),
        section_long application_width (application_entries s) (wide_applications s),
        section_long end_width (end_entries s) (wide_ends s),
        presence_count good,
        length-map s.applications application_row,
        length-map s.ends end_row,
      )

  -- every section at its limit, 4 parents a type
  pub file_longest : length (file_of s) ≤ file_most
  file_longest =
      omega (arith, file_long, sds_count good, type_count good, parent_count good, good.presence_room, good.application_room, good.end_room)

-- ---- a good schema has its file to itself

-- a type's row is told by its first three bytes and its parents
row_told : (k : Kind) → type_row k ≡ take 3 (type_row k) ++ (length (parents_in k) ∷ pad 4 (parents_in k))
unfolding type_row pad
row_told unused = refl
row_told (object ps) = refl
row_told (attribute v) = refl
row_told designation = refl
row_told (paired c r) = refl

kind_told : {k k' : Kind} → Fitting k → Fitting k' → take 3 (type_row k) ≡ take 3 (type_row k') → parents_in k ≡ parents_in k' → k ≡ k'
kind_told {k} {k'} f f' e p =
    let row : type_row k ≡ type_row k' = row_told k ∙ (λ i. e i ++ (length (p i) ∷ pad 4 (p i))) ∙ sym (row_told k') in
    sym (kind_back f) ∙ ap read_kind row ∙ kind_back f'

pub blank_unused : (s : Schema) (d : ℕ) → used_sds s d ≡ false → sds_name s d ≡ []
unfolding used_sds
blank_unused s d e = blank_is (sds_name s d) (not-false (blank (sds_name s d)) e)

pub unused_is : (k : Kind) → is_used k ≡ false → k ≡ unused
unused_is unused e = refl
unused_is (object ps) e = absurd (true≢false e)
unused_is (attribute v) e = absurd (true≢false e)
unused_is designation e = absurd (true≢false e)
unused_is (paired c r) e = absurd (true≢false e)

module _ {s s' : Schema} (good : Good s) (good' : Good s') where
  -- a presence, and a parent, that one file shows the other shows
  presence_shown : presence_entries s ≡ presence_entries s' → (p : Presence) → p ∈ s.presences → p ∈ s'.presences
  presence_shown e p i =
      let (q, j, same) = presence_entry_in good' (subst (λ (l : List (List ℕ)). presence_entry p ∈ l) e (presence_entry_of good p i)) in
      subst (λ (r : Presence). r ∈ s'.presences) (sym (presence_told p q (good.presence_named p i) (good'.presence_named q j) same)) j

  parent_shown : parent_entries s ≡ parent_entries s' → (t a : ℕ) → a ∈ parents s t → a ∈ parents s' t
  unfolding parent_entries
  parent_shown e t a i =
      let by : Parent s t a = record { listed = i } in
      let used = object_used (kind_of s t) (child_object by) in
      let j = pairs_of parent_entry (parents s) (members_of (λ t. is_used (kind_of s t)) t (used_below good t used) used) i in
      let (u, b, _, k, q) = pairs_in parent_entry (parents s') (used_types s') (subst (λ (l : List (List ℕ)). parent_entry t a ∈ l) e j) in
      let child : t ≡ u = ap (λ (l : List ℕ). get_or l 0 0) q in
      let parent : a ≡ b = ap (λ (l : List ℕ). get_or l 1 0) q in
      subst₂ (λ (x y : ℕ). y ∈ parents s' x) (sym child) (sym parent) k

module _ {s s' : Schema} (good : Good s) (good' : Good s') where
  name_shown : sds_entries s ≡ sds_entries s' → (d : ℕ) → d < 16 → sds_name s d ≡ sds_name s' d
  unfolding sds_entries
  name_shown e d h =
      let rows = numbered_same 16 (used_sds s) (used_sds s') (λ d. sds_row (sds_name s d)) (λ d. sds_row (sds_name s' d))
      (λ d a b. ap sds_row (blank_unused s d a ∙ sym (blank_unused s' d b))) e d h in
      sym (sds_back good (sds_name s d) (place_in [] s.sdss d (omega (arith, good.sds_room))))
      ∙ ap strip rows ∙ sds_back good' (sds_name s' d) (place_in [] s'.sdss d (omega (arith, good'.sds_room)))

  kind_shown : type_entries s ≡ type_entries s' → parent_entries s ≡ parent_entries s' → (t : ℕ) → t < 128 → kind_of s t ≡ kind_of s' t
  unfolding type_entries members parents
  kind_shown e p t h =
      let rows = numbered_same 128 (λ t. is_used (kind_of s t)) (λ t. is_used (kind_of s' t))
      (λ t. take 3 (type_row (kind_of s t))) (λ t. take 3 (type_row (kind_of s' t)))
      (λ t a b. ap (λ (k : Kind). take 3 (type_row k)) (unused_is (kind_of s t) a ∙ sym (unused_is (kind_of s' t) b))) e t h in
      kind_told (fitting good (kind_of s t) (place_in unused s.types t (omega (arith, good.type_room))))
      (fitting good' (kind_of s' t) (place_in unused s'.types t (omega (arith, good'.type_room)))) rows
      (rising_same number_order (parents s t) (parents s' t) (parents_rise good t) (parents_rise good' t)
      (parent_shown good good' p t) (parent_shown good' good (sym p) t))

-- one file, one schema
module _ {s s' : Schema} (good : Good s) (good' : Good s') (e : file_of s ≡ file_of s') where
  pub file_once : s ≡ s'
  unfolding file_of application_entries end_entries
  file_once =
      let (sdss, e₁) = section_split 17 (sds_entries s) (sds_entries s') _ _ (wide_sdss s) (wide_sdss s') e in
      let (types, e₂) = section_split 4 (type_entries s) (type_entries s') _ _ (wide_types s) (wide_types s') e₁ in
      let (parents, e₃) = section_split 2 (parent_entries s) (parent_entries s') _ _ (wide_parents s) (wide_parents s') e₂ in
      let (presences, e₄) = section_split presence_width (presence_entries s) (presence_entries s') _ _ (wide_presences s) (wide_presences s') e₃ in
      let (applications, e₅) = section_split application_width (application_entries s) (application_entries s') _ _
      (wide_applications s) (wide_applications s') e₄ in
      let (ends, _) = section_split end_width (end_entries s) (end_entries s') [] [] (wide_ends s) (wide_ends s') (ap (λ (l : List ℕ). l ++ []) e₅) in
      λ i. record {
        sdss = ext_get_or [] s.sdss s'.sdss (good.sds_room ∙ sym good'.sds_room)
            (λ d h. name_shown good good' sdss d (omega (arith, good.sds_room))) i;
        types = ext_get_or unused s.types s'.types (good.type_room ∙ sym good'.type_room)
            (λ t h. kind_shown good good' types parents t (omega (arith, good.type_room))) i;
        presences = rising_same presence_order s.presences s'.presences good.presences_rising good'.presences_rising
            (presence_shown good good' presences) (presence_shown good' good (sym presences)) i;
        applications = rows_told application_row read_application application_back s.applications s'.applications applications i;
        ends = rows_told end_row read_end end_back s.ends s'.ends ends i;
      }
