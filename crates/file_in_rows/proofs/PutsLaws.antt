-- Rows put in one by one, each at its place: the picture of the schema with all of them. Assumes nothing.
use Prim.Native.Nat.{ℕ, ◌+◌, ◌≤◌, ◌<◌}
use native.Mathlib.Omega.{arith}
use mathlib.Core.Path.{◌≡◌, refl, sym, ap, subst, ◌∙◌}
use mathlib.Core.Logic.{⊎_elim}
use mathlib.Core.List.Memᴰ
use mathlib.Core.List.{List, [], ◌∷◌, map}
use lib.ListN.{length, length-map}
use Rattle.rules.specs.01-Lists.{◌∈◌, rising, put, put_all}
use Rattle.rules.specs.02-Limits.{limits}
use Rattle.rules.specs.04-Schema.{Schema, Presence, with_presences}
use Rattle.rules.specs.06-Good.{Good, presence_before}
use Rattle.rules.specs.07-Picture.{presence_row, picture}
use Rattle.rules.specs.11-File.{presence_entries}
use Rattle.rules.specs.Read.{read_presence}
use Rattle.rules.proofs.01-Lists.{Different}
use Rattle.rules.proofs.07-Picture.{presence_used}
use Rattle.rules.proofs.Edits.{put_long, put_in, put_all_in, put_all_new}
use Rattle.rules.proofs.Orders.{presence_order, rising_same}
use Rattle.rules.proofs.11-File.{presence_count}
use Rattle.base.specs.Tables.{Used, presences, by_name}
use Rattle.base.specs.Stored.{Ordered}
use Rattle.base.proofs.Tables.{presences_sort, keeps_presences}
use Rattle.base.proofs.OrderedLaws.{Unlike, ordered_put, put_opened}
use Rattle.file_in_types.specs.Loaded.{types_alone}
use Rattle.file_in_rows.specs.Loaded.{row_from, Puts}
use Rattle.file_in_rows.proofs.ListedLaws.{shown, listed, rows_listed, listed_there, listed_all, listed_different}

-- a presence that can be put in
record Puttable (p : Presence) : Type 0 where
  pub used : Used presences p
  pub fit : by_name.Fit p

told_apart : (p q : Presence) → by_name.Fit p → by_name.Fit q → presence_row p ≡ presence_row q → p ≡ q
told_apart p q f g e = sym (presences_sort.back p f) ∙ ap read_presence e ∙ presences_sort.back q g

module _ (s : Schema) where
  -- b shows s with these presences, which are in their order
  record Holds (rs : List Presence) (b : List ℕ) : Type 0 where
    pub ordered : Ordered by_name rs
    pub shown : b ≡ picture (with_presences s rs)

  puts_all : (new rs : List Presence) {b b' : List ℕ} → Holds rs b → ((p : Presence) → p ∈ new → Puttable p) → Different new
      → ((p : Presence) → p ∈ new → p ∈ rs → ⊥) → length rs + length new ≤ limits.presences
      → Puts (length rs) (map presence_row new) b b' → Holds (put_all presence_before new rs) b'
  unfolding Puts put_all
  puts_all [] rs h ok once apart room is = record { ordered = h.ordered; shown = is ∙ h.shown }
  puts_all (p ∷ new) rs {b} {b'} h ok once apart room (m, first, more) =
      let k = h.ordered in
      let can = ok p (Memᴰ.head refl) in
      let less : length rs < limits.presences = omega arith in
      let placed = keeps_presences.stands.placed in
      let unlike : Unlike presences p rs = λ q i e. apart p (Memᴰ.head refl) (subst (λ (x : Presence). x ∈ rs) (told_apart q p (k.fit q i) can.fit e) i) in
      let next : Holds (put presence_before p rs) m = record {
        ordered = ordered_put presences_sort k p can.used can.fit less unlike;
        shown = put_opened presences_sort k (placed.ahead s) (placed.behind s) (placed.long s) (h.shown ∙ keeps_presences.stands.other s rs)
            p less refl refl can.fit first ∙ sym (keeps_presences.stands.other s (put presence_before p rs));
      } in
      puts_all new (put presence_before p rs) next (λ q i. ok q (Memᴰ.tail i)) once.1
      (λ q i j. ⊎_elim (λ e. once.0 (subst (λ (x : Presence). x ∈ new) e i)) (apart q (Memᴰ.tail i)) (put_in presence_before p rs j))
      (omega (arith, put_long presence_before p rs))
      (subst (λ (n : ℕ). Puts n (map presence_row new) m b') (sym (put_long presence_before p rs)) more)

-- ---- the presences of a good schema, each put in, in the order of its file

none : (s : Schema) {b : List ℕ} → b ≡ picture (with_presences s []) → Holds s [] b
unfolding rising
none s e = record {
  ordered = record {
    room = omega arith;
    used = λ p i. absurd (Memᴰ.not-nil i);
    fit = λ p i. absurd (Memᴰ.not-nil i);
    rise = refl;
  };
  shown = e;
}

module _ {s : Schema} (good : Good s) where
  pub presences_put : {b b' : List ℕ} → b ≡ picture (types_alone s) → Puts 0 (map row_from (presence_entries s)) b b'
      → b' ≡ picture (with_presences (types_alone s) s.presences)
  presences_put {b} {b'} e puts =
      let h = puts_all (types_alone s) (listed s) [] (none (types_alone s) e)
      (λ p i. let j = listed_there good p i in record { used = presence_used good p j; fit = good.presence_named p j }) (listed_different good)
      (λ p i. Memᴰ.not-nil) (omega (arith, length-map (presence_entries s) shown, presence_count good, good.presence_room))
      (subst (λ (rows : List (List ℕ)). Puts 0 rows b b') (rows_listed good) puts) in
      let same : put_all presence_before (listed s) [] ≡ s.presences
      = rising_same presence_order (put_all presence_before (listed s) []) s.presences h.ordered.rise good.presences_rising
      (λ p i. ⊎_elim (listed_there good p) (λ j. absurd (Memᴰ.not-nil j)) (put_all_in presence_before (listed s) [] i))
      (λ p i. put_all_new presence_before (listed s) [] (listed_all good p i)) in
      h.shown ∙ ap (λ (ps : List Presence). picture (with_presences (types_alone s) ps)) same
