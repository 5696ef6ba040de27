-- Rows of bytes that rise are presences that rise, and those of their bytes that are compared, less their case, tell names apart, and
-- nameless presences by their types. Assumes nothing.
use Prim.Native.Nat.{ℕ, zero, suc, ◌+◌, ◌<◌}
use native.Mathlib.Omega.{arith}
use mathlib.Core.Path.{◌≡◌, refl, sym, ap, ◌∙◌}
use mathlib.Core.Logic.{◌⊎◌, inl, inr, ⊎_elim}
use mathlib.Core.List.{List, [], ◌∷◌, ◌++◌}
use mathlib.Core.List.Memᴰ
use mathlib.Core.Bool.{Bool, true, false, cond, not, ◌&&◌, ◌||◌, true≢false, or-false}
use lib.Dec.{ltb, eqb}
use lib.ListN.{length, take, drop, length-map}
use lib.Seq.{drop-drop, take-nil, take_at, take-take}
use borrow.Author.Tests.{not-true, ltb-true, ltb-false, lt-ltb, le-ltb, eqb-true, eqb-false, eq-eqb, ne_eqb}
use Rattle.rules.specs.01-Lists.{◌∈◌, same_bytes, bytes_before, rising}
use Rattle.rules.specs.02-Limits.{limits}
use Rattle.rules.specs.03-Names.{Name, blank, well_formed, lowered, same_name, name_before}
use Rattle.rules.specs.04-Schema.{Presence, system_presence}
use Rattle.rules.specs.06-Good.{presence_before}
use Rattle.rules.specs.07-Picture.{pad, presence_row, presence_width, base_length}
use Rattle.rules.specs.Parts.{Once}
use Rattle.rules.proofs.Bools.{or_cases, or_left, or_right, or_neither, and_both, and_rest, fails}
use Rattle.rules.proofs.01-Lists.{same_bytes_refl, before_connected, before_ahead, before_behind, before_asymmetric, rising_at, at_rising}
use Rattle.rules.proofs.03-Names.{same_is, same_blank, same_turned, blank_is, name_fits, name_irreflexive, apart, apart_lowered}
use Rattle.rules.proofs.07-Picture.{length_pad, behind_name}
use Rattle.rules.proofs.Modes.{front_before, front_presence, presence_front, presence_irreflexive}
use Rattle.rules.specs.Read.{name_offset, type_offset}
use Rattle.name_fields.specs.Field.{blank_field}
use Rattle.rows.specs.Rows.{part}
use Rattle.rows.specs.Order.{fold, folded, front}
use Rattle.rows.proofs.FoldLaws.{pad_folded}
use Rattle.rows.proofs.OrderLaws.{before_last}
use Rattle.rows.proofs.Scan.{length_part, rising_far}
use Rattle.base.specs.Tables.{presences, Written, row_of, shown}
use Rattle.base.specs.Rows.{presence_at}
use Rattle.base.specs.Back.{schema_of, presence_count, presence_shown}
use Rattle.base.proofs.Back.{rows_few}
use Rattle.base.proofs.Shown.{presences_long, presence_is, presence_in, presence_there, presence_read}
use Rattle.check_presences.specs.Rows.{tag, told_apart, NamesRise}

-- neither of two numbers is less
pub equal : (i j : ℕ) → (i < j → ⊥) → (j < i → ⊥) → i ≡ j
equal i j f g = go (ltb i j) refl (ltb j i) refl
  where
    go : (x : Bool) → ltb i j ≡ x → (y : Bool) → ltb j i ≡ y → i ≡ j
    go true p y q = absurd (f (ltb-true i j p))
    go false p true q = absurd (g (ltb-true j i q))
    go false p false q = omega (arith, ltb-false i j p, ltb-false j i q)

-- bytes of one length, and a tag behind them
tagged_before : (u v : List ℕ) (x y : ℕ) → length u ≡ length v
    → bytes_before (u ++ (x ∷ [])) (v ++ (y ∷ [])) ≡ (bytes_before u v || (not (bytes_before v u) && ltb x y))
tagged_before u v x y long = go (bytes_before u v) refl (bytes_before v u) refl
  where
    go : (s : Bool) → bytes_before u v ≡ s → (t : Bool) → bytes_before v u ≡ t → bytes_before (u ++ (x ∷ [])) (v ++ (y ∷ [])) ≡ (s || (not t && ltb x y))
    go true p t q = before_ahead u v (x ∷ []) (y ∷ []) long p
    go false p true q = before_asymmetric (v ++ (y ∷ [])) (u ++ (x ∷ [])) (before_ahead v u (y ∷ []) (x ∷ []) (sym long) q)
    go false p false q = rw (before_connected u v p q) (before_behind v (x ∷ []) (y ∷ []) ∙ before_last x y)

-- rows stand by their fronts, and where these are the same by their tags
pub told_rows : (b : List ℕ) → length b ≡ base_length → (i j : ℕ) → i < limits.presences → j < limits.presences
    → bytes_before (told_apart b i) (told_apart b j) ≡ (bytes_before (front b (presence_at i)) (front b (presence_at j))
    || (not (bytes_before (front b (presence_at j)) (front b (presence_at i))) && ltb (tag b i) (tag b j)))
told_rows b long i j h k =
    tagged_before (front b (presence_at i)) (front b (presence_at j)) (tag b i) (tag b j) (front_long i h ∙ sym (front_long j k))
  where
    front_long : (i : ℕ) → i < limits.presences → length (front b (presence_at i)) ≡ 17
    front_long i h =
        let at = presence_at i + name_offset in
        ap suc (length-map (part b at limits.name) fold ∙ length_part b at limits.name (omega arith))

-- ---- presences: by SDS and name, and nameless ones by type

-- what a presence is compared by
abbrev key : Presence → List ℕ
key p = p.sds ∷ folded (pad limits.name p.name)

front_is : (p q : Presence) → blank p.name || well_formed p.name ≡ true → blank q.name || well_formed q.name ≡ true
    → bytes_before (key p) (key q) ≡ front_before p q
unfolding bytes_before
front_is p q f g = ap (λ (t : Bool). ltb p.sds q.sds || (eqb p.sds q.sds && t)) (pad_folded p.name q.name f g)

front_other : (p q : Presence) → front_before p q ≡ true → p.sds ≡ q.sds → same_name p.name q.name ≡ true → ⊥
front_other p q e d s =
    ⊎_elim
    (λ h. omega (arith, ltb-true p.sds q.sds h))
    (λ h.
    let (before, other) = and_both (name_before p.name q.name) (not (same_name p.name q.name))
    (and_both (eqb p.sds q.sds) (apart p.name q.name) h).1 in
    true≢false (sym other ∙ ap not s))
    (or_cases (ltb p.sds q.sds) (eqb p.sds q.sds && apart p.name q.name) e)

-- neither of two stands before the other by SDS and name
front_neither : (p q : Presence) → front_before p q ≡ false → front_before q p ≡ false → (p.sds ≡ q.sds) × (same_name p.name q.name ≡ true)
front_neither p q e f =
    let (l, a) = or_neither (ltb p.sds q.sds) (eqb p.sds q.sds && apart p.name q.name) e in
    let (m, c) = or_neither (ltb q.sds p.sds) (eqb q.sds p.sds && apart q.name p.name) f in
    let same : p.sds ≡ q.sds = omega (arith, ltb-false p.sds q.sds l, ltb-false q.sds p.sds m) in
    let one : lowered p.name ≡ lowered q.name
    = before_connected (lowered p.name) (lowered q.name)
    (sym (apart_lowered p.name q.name) ∙ and_rest (eqb p.sds q.sds) (apart p.name q.name) (eq-eqb p.sds q.sds same) a)
    (sym (apart_lowered q.name p.name) ∙ and_rest (eqb q.sds p.sds) (apart q.name p.name) (eq-eqb q.sds p.sds (sym same)) c) in
    (same, same_is p.name q.name ∙ rw one (same_bytes_refl (lowered q.name)))

-- and what tells nameless ones apart
abbrev tag_of : Presence → ℕ
tag_of p = cond (blank p.name) p.type 0

abbrev told_before : Presence → Presence → Bool
told_before p q = front_before p q || (not (front_before q p) && ltb (tag_of p) (tag_of q))

-- a name in its field, told from none
padded_blank : (n : Name) → blank n || well_formed n ≡ true → blank_field (pad limits.name n) ≡ blank n
unfolding blank_field pad same_bytes
padded_blank [] e = refl
padded_blank (zero ∷ n) e = absurd ((name_fits (zero ∷ n) e).no_zero (Memᴰ.head refl))
padded_blank (suc c ∷ n) e = rw (ne_eqb 0 (suc c) (λ z. omega arith), ne_eqb (suc (length n)) 0 (λ z. omega arith))

module _ (p q : Presence) where
  -- two nameless ones of an SDS stand by their types
  by_types : p.sds ≡ q.sds → blank p.name ≡ true → blank q.name ≡ true → (p.type ≡ q.type → ⊥) → presence_before p q ≡ ltb p.type q.type
  unfolding presence_before
  by_types d f g n =
      let one : p.name ≡ q.name = blank_is p.name f ∙ sym (blank_is q.name g) in
      rw (le-ltb p.sds q.sds (omega arith), eq-eqb p.sds q.sds d, one, name_irreflexive q.name, ne_eqb p.type q.type n)
      (or-false (ltb p.type q.type))

  -- by SDS and name, or as nameless ones
  told_ways : told_before p q ≡ true → (front_before p q ≡ true) ⊎ ((blank p.name ≡ true) × (presence_before p q ≡ true))
  told_ways e = go (front_before p q) refl e
    where
      tagged : p.sds ≡ q.sds → (t : Bool) → blank p.name ≡ t → blank q.name ≡ t → tag_of p < tag_of q
          → (blank p.name ≡ true) × (presence_before p q ≡ true)
      tagged d true f g l =
          let less : p.type < q.type = rw (f, g) at l in
          (f, by_types d f g (λ s. omega arith) ∙ lt-ltb p.type q.type less)
      tagged d false f g l = let none : 0 < 0 = rw (f, g) at l in absurd (omega arith)

      go : (t : Bool) → front_before p q ≡ t → t || (not (front_before q p) && ltb (tag_of p) (tag_of q)) ≡ true
          → (front_before p q ≡ true) ⊎ ((blank p.name ≡ true) × (presence_before p q ≡ true))
      go true f h = inl f
      go false f h =
          let (n, l) = and_both (not (front_before q p)) (ltb (tag_of p) (tag_of q)) h in
          let (d, s) = front_neither p q f (not-true (front_before q p) n) in
          inr (tagged d (blank p.name) refl (sym (same_blank p.name q.name s)) (ltb-true (tag_of p) (tag_of q) l))

  told_presence : told_before p q ≡ true → presence_before p q ≡ true
  told_presence e = ⊎_elim (front_presence p q) (λ n. n.1) (told_ways e)

  told_other : told_before p q ≡ true → p.sds ≡ q.sds → blank p.name ≡ false → same_name p.name q.name ≡ true → ⊥
  told_other e d f s = ⊎_elim (λ h. front_other p q h d s) (λ n. true≢false (sym n.0 ∙ f)) (told_ways e)

  presence_told : presence_before p q ≡ true → (p.sds ≡ q.sds → p.type ≡ q.type → ⊥)
      → (p.sds ≡ q.sds → blank p.name ≡ false → same_name p.name q.name ≡ true → ⊥) → told_before p q ≡ true
  presence_told e once unique = go (eqb p.sds q.sds) refl (same_name p.name q.name) refl (blank p.name) refl
    where
      rest : Bool
      rest = not (front_before q p) && ltb (tag_of p) (tag_of q)

      go : (x : Bool) → eqb p.sds q.sds ≡ x → (y : Bool) → same_name p.name q.name ≡ y → (z : Bool) → blank p.name ≡ z
          → told_before p q ≡ true
      go false f y g z k = or_left (front_before p q) rest (presence_front p q e (λ d s. eqb-false p.sds q.sds f d))
      go true f false g z k = or_left (front_before p q) rest (presence_front p q e (λ d s. true≢false (sym s ∙ g)))
      go true f true g false k = absurd (unique (eqb-true p.sds q.sds f) k g)
      go true f true g true k =
          let d = eqb-true p.sds q.sds f in
          let o : blank q.name ≡ true = sym (same_blank p.name q.name g) ∙ k in
          let behind : front_before q p ≡ false
          = fails (front_before q p) (λ h. front_other q p h (sym d) (same_turned q.name p.name ∙ g)) in
          or_right (front_before p q) rest (rw (behind, k, o) (sym (by_types d k o (once d)) ∙ e))

-- the field of a row that is as it would be written
pub row_field : (b : List ℕ) (i : ℕ) → presence_row (shown presences b i) ≡ row_of presences b i
    → part b (presence_at i + name_offset) limits.name ≡ pad limits.name (presence_shown b i).name
unfolding presence_row
row_field b i e =
    let p = presence_shown b i in
    let w = limits.name in
    let rest = drop (presence_at i) b in
    ap (take w) (sym (drop-drop name_offset (presence_at i) b))
    ∙ sym (tail_take w rest)
    ∙ ap (drop 1) (sym (take-take type_offset presence_width rest (omega arith)) ∙ ap (take type_offset) (sym e ∙ ap presence_row (presence_read b i)))
    ∙ take_at (pad w p.name) (behind_name p) w (length_pad w p.name)
  where
    tail_take : (n : ℕ) (l : List ℕ) → drop 1 (take (suc n) l) ≡ take n (drop 1 l)
    tail_take n [] = sym (take-nil n)
    tail_take n (x ∷ l) = refl

module _ (b : List ℕ) (long : length b ≡ base_length)
    (written : Written presences (presence_count b) b)
    (named : (i : ℕ) → i < presence_count b → blank (presence_shown b i).name || well_formed (presence_shown b i).name ≡ true) where
  tags : (i : ℕ) → i < presence_count b → tag b i ≡ tag_of (presence_shown b i)
  tags i h =
      ap (λ (t : Bool). cond t (presence_shown b i).type 0)
      (ap blank_field (row_field b i (written i h)) ∙ padded_blank (presence_shown b i).name (named i h))

  fronts : (i j : ℕ) → i < presence_count b → j < presence_count b
      → bytes_before (front b (presence_at i)) (front b (presence_at j)) ≡ front_before (presence_shown b i) (presence_shown b j)
  fronts i j h k =
      let p = presence_shown b i in
      let q = presence_shown b j in
      (λ x. bytes_before (p.sds ∷ folded (row_field b i (written i h) x)) (q.sds ∷ folded (row_field b j (written j k) x)))
      ∙ front_is p q (named i h) (named j k)

  told : (i j : ℕ) → i < presence_count b → j < presence_count b
      → bytes_before (told_apart b i) (told_apart b j) ≡ told_before (presence_shown b i) (presence_shown b j)
  told i j h k =
      let few = rows_few presences b in
      told_rows b long i j (omega arith) (omega arith) ∙ (λ x. fronts i j h k x || (not (fronts j i k h x) && ltb (tags i h x) (tags j k x)))

  pub rise_presences : NamesRise b (presence_count b) → rising presence_before (schema_of b).presences ≡ true
  rise_presences r =
      at_rising presence_before system_presence (schema_of b).presences
      (λ i h.
      let k : suc i < presence_count b = omega (arith, presences_long b) in
      rw (presence_is b i system_presence (omega arith), presence_is b (suc i) system_presence k)
      (told_presence (presence_shown b i) (presence_shown b (suc i)) (sym (told i (suc i) (omega arith) k) ∙ r i k)))

  far : NamesRise b (presence_count b) → (i j : ℕ) → i < presence_count b → j < presence_count b → i < j
      → told_before (presence_shown b i) (presence_shown b j) ≡ true
  far r i j h k l = sym (told i j h k) ∙ rising_far (told_apart b) (presence_count b) r i j l k

  -- rows of one SDS and the same name are one row: one that stands before another is apart from it
  name_once : NamesRise b (presence_count b) → (i j : ℕ) → i < presence_count b → j < presence_count b
      → (presence_shown b i).sds ≡ (presence_shown b j).sds → blank (presence_shown b i).name ≡ false
      → same_name (presence_shown b i).name (presence_shown b j).name ≡ true → i ≡ j
  name_once r i j h k d f e =
      let p = presence_shown b i in
      let q = presence_shown b j in
      equal i j (λ l. told_other p q (far r i j h k l) d f e)
      (λ l. told_other q p (far r j i k h l) (sym d) (sym (same_blank p.name q.name e) ∙ f) (same_turned q.name p.name ∙ e))

  -- rows that show one presence are one row
  pub row_once : NamesRise b (presence_count b) → (i j : ℕ) → i < presence_count b → j < presence_count b
      → presence_shown b i ≡ presence_shown b j → i ≡ j
  row_once r i j h k e = equal i j (λ l. never i j h k l e) (λ l. never j i k h l (sym e))
    where
      never : (i j : ℕ) → i < presence_count b → j < presence_count b → i < j → presence_shown b i ≡ presence_shown b j → ⊥
      never i j h k l e =
          let q = presence_shown b j in
          true≢false (sym (told_presence (presence_shown b i) q (far r i j h k l)) ∙ ap (λ (p : Presence). presence_before p q) e ∙ presence_irreflexive q)

  pub rise_unique : NamesRise b (presence_count b) → (p q : Presence) → p ∈ (schema_of b).presences → q ∈ (schema_of b).presences
      → p.sds ≡ q.sds → blank p.name ≡ false → same_name p.name q.name ≡ true → p ≡ q
  rise_unique r p q m n s f e =
      let (i, h, pi) = presence_in b p m in
      let (j, k, qj) = presence_in b q n in
      let d : (presence_shown b i).sds ≡ (presence_shown b j).sds = ap (λ (x : Presence). x.sds) (sym pi) ∙ s ∙ ap (λ (x : Presence). x.sds) qj in
      let named : blank (presence_shown b i).name ≡ false = ap (λ (x : Presence). blank x.name) (sym pi) ∙ f in
      pi ∙ ap (presence_shown b) (name_once r i j h k d named (sym (λ x. same_name (pi x).name (qj x).name) ∙ e)) ∙ sym qj

  pub presences_rise : rising presence_before (schema_of b).presences ≡ true
      → ((p q : Presence) → p ∈ (schema_of b).presences → q ∈ (schema_of b).presences → p.sds ≡ q.sds → blank p.name ≡ false
      → same_name p.name q.name ≡ true → p ≡ q) → Once (schema_of b).presences → NamesRise b (presence_count b)
  presences_rise r u once i k =
      let p = presence_shown b i in
      let q = presence_shown b (suc i) in
      let before : presence_before p q ≡ true
      = rw (presence_is b i system_presence (omega arith), presence_is b (suc i) system_presence k)
      at (rising_at presence_before system_presence (schema_of b).presences r i (omega (arith, presences_long b))) in
      let other : p ≡ q → ⊥ = λ one. true≢false (sym before ∙ ap (presence_before p) (sym one) ∙ presence_irreflexive p) in
      let m = presence_there b i (omega arith) in
      let n = presence_there b (suc i) k in
      told i (suc i) (omega arith) k ∙ presence_told p q before (λ d t. other (once p q m n d t)) (λ d f e. other (u p q m n d f e))
