-- Rows kept in their order: a row put in, a row taken out. One law for all tables whose rows rise. Assumes nothing.
use Prim.Native.Nat.{ℕ, zero, suc, ◌+◌, ◌*◌, ◌≤◌, ◌<◌}
use native.Mathlib.Nat.{mul-le-mul_right}
use native.Mathlib.Omega.{arith}
use mathlib.Core.Path.{◌≡◌, refl, sym, ap, ◌∙◌, subst}
use mathlib.Core.Logic.{⊎_elim}
use mathlib.Core.List.Memᴰ
use mathlib.Core.List.{List, [], ◌∷◌, ◌++◌}
use mathlib.Core.Bool.{Bool, true, false, true≢false}
use lib.Dec.{ltb}
use lib.ListN.{length, get_or, take, drop, replicate, length-append, length-take, length-drop}
use lib.Seq.{drop_at, drop-drop}
use borrow.Author.Tests.{ltb-true, ltb-false}
use Rattle.rules.specs.01-Lists.{◌∈◌, without, rising, put}
use Rattle.rules.proofs.Bools.{and_both, and_of}
use Rattle.rules.proofs.01-Lists.{place_in, before_irreflexive, before_transitive, rising_at, at_rising}
use Rattle.rules.proofs.Edits.{put_long, put_in, put_place, tail_rising, put_rising}
use Rattle.rules.proofs.07-Picture.{zeros_long, length_table}
use Rattle.rows.specs.Rows.{row_at, Rising}
use Rattle.rows.specs.Order.{ranked, row_before, number, Climbs}
use Rattle.rows.specs.Table.{Rises, PutIn, closed}
use Rattle.rows.proofs.Rows.{table_part}
use Rattle.rows.proofs.OrderLaws.{climbs_rising, rising_climbs}
use Rattle.rows.proofs.Scan.{rising_far}
use Rattle.rows.proofs.TableLaws.{row_fits, ranked_apart, without_at, table_opened, table_closed}
use Rattle.base.specs.Tables.{Table, Sorted, InOrder, at, end, row_of, shown, Used, first_things, bytes_of, Written}
use Rattle.base.specs.Stored.{Ordered, less_row}
use Rattle.base.proofs.Tables.{Sorts}
use Rattle.base.proofs.Shown.{things_long, thing_at}

-- ---- a list with one element more or less

less_in : {A : Type 0} (k : ℕ) (rs : List A) {y : A} → y ∈ less_row k rs → y ∈ rs
less_in zero [] i = i
less_in (suc k) [] i = i
less_in zero (x ∷ rs) i = Memᴰ.tail i
less_in (suc k) (x ∷ rs) i = ⊎_elim (λ h. Memᴰ.head h) (λ h. Memᴰ.tail (less_in k rs h)) (Memᴰ.cases_cons i)

module _ {A : Type 0} (before : A → A → Bool) where
  less_rising : (k : ℕ) (rs : List A) → rising before rs ≡ true
      → ((x y z : A) → x ∈ rs → y ∈ rs → z ∈ rs → before x y ≡ true → before y z ≡ true → before x z ≡ true) → rising before (less_row k rs) ≡ true
  unfolding rising
  less_rising zero [] r f = refl
  less_rising (suc k) [] r f = refl
  less_rising zero (x ∷ rs) r f = tail_rising before x rs r
  less_rising (suc zero) (x ∷ []) r f = refl
  less_rising (suc (suc k)) (x ∷ []) r f = refl
  less_rising (suc zero) (x ∷ y ∷ []) r f = refl
  less_rising (suc zero) (x ∷ y ∷ z ∷ rs) r f =
      let (a, more) = and_both (before x y) (rising before (y ∷ z ∷ rs)) r in
      let (b, rest) = and_both (before y z) (rising before (z ∷ rs)) more in
      and_of (before x z) (rising before (z ∷ rs))
      (f x y z (Memᴰ.head refl) (Memᴰ.tail (Memᴰ.head refl)) (Memᴰ.tail (Memᴰ.tail (Memᴰ.head refl))) a b) rest
  less_rising (suc (suc k)) (x ∷ y ∷ rs) r f =
      let (a, more) = and_both (before x y) (rising before (y ∷ rs)) r in
      and_of (before x y) (rising before (y ∷ less_row k rs)) a
      (less_rising (suc k) (y ∷ rs) more (λ u v w i j l. f u v w (Memᴰ.tail i) (Memᴰ.tail j) (Memᴰ.tail l)))

-- ---- rows of a table

-- no row has the bytes of that of a
abbrev pub Unlike : {A : Type 0} → Table A → A → List A → Type 0
Unlike {A} t a rs = (x : A) → x ∈ rs → t.row x ≡ t.row a → ⊥

first_zero : (w : ℕ) → get_or (replicate {A = ℕ} w 0) 0 0 ≡ 0
first_zero zero = refl
first_zero (suc w) = refl

-- a thing that is not in SDS 0 has a row that is not all 0
pub elsewhere_used : {A : Type 0} {t : Table A} {o : Sorted t} → Sorts o → (a : A) → (o.sds a ≡ 0 → ⊥) → Used t a
elsewhere_used {t = t} l a other e = other (sym (l.first a) ∙ ap (λ (r : List ℕ). get_or r 0 0) e ∙ first_zero t.width)

module _ {A : Type 0} {t : Table A} {o : Sorted t} (l : Sorts o) {rs : List A} (k : Ordered o rs) where
  -- what the row of a thing is compared by
  abbrev at_rank : A → List ℕ
  at_rank x = ranked o.named (t.row x)

  -- a row more, unlike all others
  pub ordered_put : (a : A) → Used t a → o.Fit a → length rs < t.room → Unlike t a rs → Ordered o (put o.before a rs)
  ordered_put a u f h other = record {
    room = omega (arith, put_long o.before a rs);
    used = λ x i. ⊎_elim (λ e. subst (Used t) (sym e) u) (λ m. k.used x m) (put_in o.before a rs i);
    fit = λ x i. ⊎_elim (λ e. subst o.Fit (sym e) f) (λ m. k.fit x m) (put_in o.before a rs i);
    rise = put_rising o.before a rs k.rise (λ x i e. go x i e (o.before a x) refl);
  }
    where
      go : (x : A) → x ∈ rs → o.before x a ≡ false → (s : Bool) → o.before a x ≡ s → o.before a x ≡ true
      go x i e true q = q
      go x i e false q =
          let g = k.fit x i in
          absurd (other x i (ranked_apart o.named (t.row x) (t.row a) (l.wide x ∙ sym (l.wide a)) (l.order x a g f ∙ e) (l.order a x f g ∙ q)))

  -- a row less
  pub ordered_less : (i : ℕ) → Ordered o (less_row i rs)
  ordered_less i = record {
    room = omega (arith, k.room, length-append (take i rs) (drop (suc i) rs), length-take i rs, length-drop (suc i) rs);
    used = λ x m. k.used x (less_in i rs m);
    fit = λ x m. k.fit x (less_in i rs m);
    rise = less_rising o.before i rs k.rise (λ x y z a b c p q.
        let f = k.fit x a in
        let g = k.fit y b in
        let h = k.fit z c in
        sym (l.order x z f h) ∙ before_transitive (at_rank x) (at_rank y) (at_rank z) (l.order x y f g ∙ p) (l.order y z g h ∙ q));
  }

  fit_at : (d : A) (i : ℕ) → i < length rs → o.Fit (get_or rs i d)
  fit_at d i h = k.fit (get_or rs i d) (place_in d rs i h)

  -- they stand in b
  module _ {b : List ℕ} (pre post : List ℕ) (long : t.start ≡ length pre) (whole : b ≡ pre ++ (bytes_of t rs ++ post)) where
    row_is : (d : A) (i : ℕ) → i < length rs → row_of t b i ≡ t.row (get_or rs i d)
    row_is d i h =
        let w = t.width in
        ap (take w) (sym (drop-drop (i * w) t.start b)
        ∙ ap (drop (i * w)) (ap (drop t.start) whole ∙ drop_at pre (bytes_of t rs ++ post) t.start (sym long)))
        ∙ table_part w t.read t.row l.wide t.room rs post i d h k.room

    table_fits : end t ≤ length b
    table_fits =
        omega (
          arith,
          ap length whole,
          length-append pre (bytes_of t rs ++ post),
          length-append (bytes_of t rs) post,
          length_table t.width t.row l.wide t.room rs,
        )

    rises : (d : A) → Rises b t.start o.named t.width (length rs)
    rises d = record {
      name = l.name;
      room = omega (arith, table_fits, mul-le-mul_right t.width k.room);
      rise = rising_far (λ i. ranked o.named (row_of t b i)) (length rs) (λ i h.
          rw (row_is d i (omega arith), row_is d (suc i) h)
          (l.order (get_or rs i d) (get_or rs (suc i) d) (fit_at d i (omega arith)) (fit_at d (suc i) h) ∙ rising_at o.before d rs k.rise i h));
    }

    module _ (a : A) (less : length rs < t.room) {count : ℕ} {key : List ℕ} (many : count ≡ length rs) (is : key ≡ t.row a) where
      -- there is room for a row
      pub put_ready : (o.named < length key) × (t.start + count * length key + length key ≤ length b)
      put_ready = rw (is, many, l.wide a) (l.name, omega (arith, table_fits, row_fits t.width less))

      -- put in at its place among the bytes it is put in at its place in the list
      pub put_opened : o.Fit a → {b' : List ℕ} → PutIn b t.start o.named count key b' → b' ≡ pre ++ (bytes_of t (put o.before a rs) ++ post)
      put_opened f {b'} x₀ =
          let x : PutIn b t.start o.named (length rs) (t.row a) b' = rw (is, many) at x₀ in
          let i = x.at in
          let p = x.place in
          let r : Rises b t.start o.named (length (t.row a)) (length rs) = rw (l.wide a) (rises a) in
          let there : (j : ℕ) → j < length rs → o.before (get_or rs j a) a ≡ row_before o.named (row_at b t.start (length (t.row a)) j) (t.row a)
          = λ j m. rw (l.wide a, row_is a j m) (sym (l.order (get_or rs j a) a (fit_at a j m) f)) in
          let here : put o.before a rs ≡ take i rs ++ a ∷ drop i rs
          = put_place o.before a a rs i p.most (λ j m. there j (omega (arith, p.most)) ∙ p.earlier r j m) (λ m. there i m ∙ p.later r i (omega arith) m) in
          x.is ∙ rw (l.wide a, whole, long, here) (table_opened t.width t.row l.wide t.room rs pre post i a p.most less)

    pub take_closed : {count : ℕ} → count ≡ length rs → (i : ℕ) → i < count
        → closed b (at t i) (at t count) t.width ≡ pre ++ (bytes_of t (less_row i rs) ++ post)
    take_closed many i h = rw (whole, long, many) (table_closed t.width t.row l.wide t.room rs pre post i (omega arith) k.room)

  -- no element stands twice
  once : (d : A) (i j : ℕ) → i < length rs → j < length rs → get_or rs i d ≡ get_or rs j d → i ≡ j
  once d i j h m e = go (ltb i j) refl (ltb j i) refl
    where
      pre : List ℕ
      pre = replicate t.start 0

      long : t.start ≡ length pre
      long = sym (zeros_long t.start)

      whole : pre ++ (bytes_of t rs ++ []) ≡ pre ++ (bytes_of t rs ++ [])
      whole = refl

      never : (i j : ℕ) → j < length rs → i < j → get_or rs i d ≡ get_or rs j d → ⊥
      never i j m q e =
          true≢false (sym ((rises pre [] long whole d).rise i j q m)
          ∙ rw (row_is pre [] long whole d i (omega arith), row_is pre [] long whole d j m, e) (before_irreflexive (at_rank (get_or rs j d))))

      go : (x : Bool) → ltb i j ≡ x → (y : Bool) → ltb j i ≡ y → i ≡ j
      go true p y q = absurd (never i j m (ltb-true i j p) e)
      go false p true q = absurd (never j i h (ltb-true j i q) (sym e))
      go false p false q = omega (arith, ltb-false i j p, ltb-false j i q)

  -- taking out row i is taking out what passes a test, where row i does and whatever does is like it
  pub without_row : (d : A) (q : A → Bool) (i : ℕ) → i < length rs → q (get_or rs i d) ≡ true → ((y : A) → y ∈ rs → q y ≡ true → y ≡ get_or rs i d)
      → without q rs ≡ less_row i rs
  without_row d q i h e alone = without_at q d rs i h e (λ j m ne. go j m ne (q (get_or rs j d)) refl)
    where
      go : (j : ℕ) → j < length rs → (j ≡ i → ⊥) → (x : Bool) → q (get_or rs j d) ≡ x → q (get_or rs j d) ≡ false
      go j m ne true p = absurd (ne (once d j i m h (alone (get_or rs j d) (place_in d rs j m) p)))
      go j m ne false p = p

-- ---- the order of n rows, each as it would be written, is that of what they show

module _ {A : Type 0} {t : Table A} {o : Sorted t} (l : Sorts o) (b : List ℕ) (n : ℕ) (w : Written t n b)
    (fit : (i : ℕ) → i < n → o.Fit (shown t b i)) where
  rows_order : (i j : ℕ) → i < n → j < n → row_before o.named (row_of t b i) (row_of t b j) ≡ o.before (shown t b i) (shown t b j)
  rows_order i j h k = (λ x. row_before o.named (sym (w i h) x) (sym (w j k) x)) ∙ l.order (shown t b i) (shown t b j) (fit i h) (fit j k)

  things_order : (i : ℕ) → suc i < n → o.before (get_or (first_things t n b) i (t.read [])) (get_or (first_things t n b) (suc i) (t.read []))
      ≡ row_before o.named (row_of t b i) (row_of t b (suc i))
  things_order i k =
      (λ x. o.before (thing_at t b n i (t.read []) (omega arith) x) (thing_at t b n (suc i) (t.read []) k x)) ∙ sym (rows_order i (suc i) (omega arith) k)

  pub rise_things : InOrder o b n → rising o.before (first_things t n b) ≡ true
  rise_things r =
      at_rising o.before (t.read []) (first_things t n b)
      (λ i h. let k : suc i < n = omega (arith, things_long t b n) in things_order i k ∙ r i k)

  pub things_rise : rising o.before (first_things t n b) ≡ true → InOrder o b n
  things_rise r i k =
      sym (things_order i k) ∙ rising_at o.before (t.read []) (first_things t n b) r i (omega (arith, things_long t b n))

  -- and, of rows without a name, that of their numbers
  module _ (plain : 0 ≡ o.named) (x : ℕ) (small : (i : ℕ) → get_or b i 0 < 256) (room : at t n ≤ length b) where
    pub climb_things : ((i : ℕ) → i < n → Climbs x b t.start t.width i) → rising o.before (first_things t n b) ≡ true
    climb_things climbs =
        rise_things (subst (λ (m : ℕ). Rising (λ i. ranked m (row_of t b i)) n) plain (climbs_rising x b t.start t.width n small room climbs))

    pub things_climb : rising o.before (first_things t n b) ≡ true → (0 < n → x < number 0 (row_of t b 0))
        → (i : ℕ) → i < n → Climbs x b t.start t.width i
    things_climb r first =
        rising_climbs x b t.start t.width n small room
        (subst (λ (m : ℕ). Rising (λ i. ranked m (row_of t b i)) n) (sym plain) (things_rise r)) first
