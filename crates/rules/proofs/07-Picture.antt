-- The picture's laws: its length, its rows, and the way back from a row to what it shows, so that a picture has one good schema.
-- Assumes nothing.
use Prim.Native.Nat.{ℕ, zero, suc, ◌+◌, ◌*◌, ◌-◌, ◌≤◌, ◌<◌}
use native.Mathlib.Nat.{suc-mul, zero-mul}
use native.Mathlib.Omega.{arith}
use mathlib.Core.Path.{◌≡◌, refl, sym, ap, ◌∙◌}
use mathlib.Core.List.{List, [], ◌∷◌, ◌++◌}
use mathlib.Core.List.Memᴰ
use mathlib.Core.Bool.{true, not, ◌||◌}
use lib.Dec.{eqb-suc-zero}
use lib.ListN.{length, get_or, take, drop, replicate, length-append, length-take, length-replicate}
use lib.Seq.{take_at, drop_at, get_or-drop, take-append-le, drop-append-add, drop-drop}
use borrow.Author.Tests.{ne_eqb}
use Rattle.rules.specs.01-Lists.{◌∈◌}
use Rattle.rules.specs.03-Names.{Name, blank, well_formed}
use Rattle.rules.specs.04-Schema.{Schema, Kind, Presence, Application, Side, End, system_presence, used_sds, side_code}
use Rattle.rules.specs.04-Schema.Kind.{unused, object, attribute, designation, paired}
use Rattle.rules.specs.04-Schema.Side.{origin, destination}
use Rattle.rules.specs.06-Good.{Good}
use Rattle.rules.specs.07-Picture.{pad, sds_width, sds_row, type_width, type_row, presence_width, presence_row, application_width}
use Rattle.rules.specs.07-Picture.{application_row, end_width, end_row, table, sds_table, type_table, presence_table}
use Rattle.rules.specs.Read.{name_offset, strip, read_kind, read_presence, read_application, read_side, read_end}
use Rattle.rules.specs.07-Picture.{application_table, end_table, picture, base_length, name_start}
use Rattle.rules.proofs.01-Lists.{at_place, place_in}
use Rattle.rules.proofs.03-Names.{Fits, formed_fits, name_fits}

-- ---- fields

pub zeros_long : (n : ℕ) → length (replicate {A = ℕ} n 0) ≡ n
zeros_long n = length-replicate n 0

pub length_pad : (w : ℕ) (l : List ℕ) → length (pad w l) ≡ w
unfolding pad
length_pad w l = length-take w (l ++ replicate w 0) ∙ omega (arith, length-append l (replicate w 0), zeros_long w)

-- what was padded stands at the front
pub take_pad : (w : ℕ) (l : List ℕ) → length l ≤ w → take (length l) (pad w l) ≡ l
unfolding pad
take_pad w l h = lib.Seq.take-take (length l) w (l ++ replicate w 0) h ∙ take_at l (replicate w 0) (length l) refl

strip_zeros : (m j : ℕ) → strip (take m (replicate j 0)) ≡ []
unfolding strip
strip_zeros zero j = refl
strip_zeros (suc m) zero = refl
strip_zeros (suc m) (suc j) = refl

strip_front : (l : List ℕ) (m j : ℕ) → length l ≤ m → (0 ∈ l → ⊥) → strip (take m (l ++ replicate j 0)) ≡ l
unfolding strip
strip_front [] m j h n = strip_zeros m j
strip_front (zero ∷ l) m j h n = absurd (n (Memᴰ.head refl))
strip_front (suc x ∷ l) zero j h n = absurd (omega arith)
strip_front (suc x ∷ l) (suc m) j h n = ap (λ (r : List ℕ). suc x ∷ r) (strip_front l m j (omega arith) (λ i. n (Memᴰ.tail i)))

-- a name in its field, and back
pub strip_pad : {n : Name} → Fits n → strip (pad 16 n) ≡ n
unfolding pad
strip_pad {n} f = strip_front n 16 16 f.short f.no_zero

pub strip_blank : strip (pad 16 []) ≡ []
unfolding strip pad
strip_blank = refl

-- ---- rows: their widths, and the way back

pub wide_sds : (n : Name) → length (sds_row n) ≡ sds_width
unfolding sds_row
wide_sds n = length_pad 16 n

pub wide_type : (k : Kind) → length (type_row k) ≡ type_width
unfolding type_row
wide_type unused = length_pad 8 []
wide_type (object ps) = let four = length_pad 4 ps in omega arith
wide_type (attribute v) = length_pad 8 (2 ∷ v ∷ [])
wide_type designation = length_pad 8 (3 ∷ 4 ∷ [])
wide_type (paired c r) = length_pad 8 (3 ∷ c ∷ r ∷ [])

-- what stands behind the name in a presence's row
abbrev pub behind_name : Presence → List ℕ
behind_name p = p.type ∷ p.usage ∷ p.definition ∷ []

pub wide_presence : (p : Presence) → length (presence_row p) ≡ presence_width
unfolding presence_row
wide_presence p = omega (arith, length-append (pad 16 p.name) (behind_name p), length_pad 16 p.name)

pub wide_application : (x : Application) → length (application_row x) ≡ application_width
unfolding application_row
wide_application x = refl

pub wide_end : (e : End) → length (end_row e) ≡ end_width
unfolding end_row
wide_end e = refl

-- a kind that a good schema has
pub data Fitting : Kind → Type 0 where
  fits_unused : Fitting unused
  fits_object : {ps : List ℕ} → length ps ≤ 4 → Fitting (object ps)
  fits_attribute : {v : ℕ} → Fitting (attribute v)
  fits_designation : Fitting designation
  fits_paired : {c r : ℕ} → c ≤ 3 → Fitting (paired c r)

pub kind_back : {k : Kind} → Fitting k → read_kind (type_row k) ≡ k
unfolding read_kind type_row pad
kind_back fits_unused = refl
kind_back (fits_object {ps = ps} h) = ap object (take_pad 4 ps h)
kind_back fits_attribute = refl
kind_back fits_designation = refl
kind_back (fits_paired {c = c} {r = r} h) = rw (ne_eqb c 4 (λ e. omega arith))

pub presence_back : (p : Presence) → blank p.name || well_formed p.name ≡ true → read_presence (presence_row p) ≡ p
unfolding read_presence presence_row
presence_back p e =
    let field : take 16 (pad 16 p.name ++ (behind_name p)) ≡ pad 16 p.name = take_at (pad 16 p.name) (behind_name p) 16 (length_pad 16 p.name) in
    let rest : drop 16 (pad 16 p.name ++ behind_name p) ≡ behind_name p = drop_at (pad 16 p.name) (behind_name p) 16 (length_pad 16 p.name) in
    let byte : (k : ℕ) → get_or (pad 16 p.name ++ behind_name p) (16 + k) 0 ≡ get_or (behind_name p) k 0
    = λ k. sym (get_or-drop 16 (pad 16 p.name ++ behind_name p) k 0) ∙ ap (λ (l : List ℕ). get_or l k 0) rest in
    λ i. record {
      sds = p.sds;
      name = (ap strip field ∙ strip_pad (name_fits p.name e)) i;
      type = byte 0 i;
      usage = byte 1 i;
      definition = byte 2 i;
    }

pub application_back : (x : Application) → read_application (application_row x) ≡ x
unfolding read_application application_row
application_back x = refl

side_back : (x : Side) → read_side (side_code x) ≡ x
unfolding read_side
side_back origin = refl
side_back destination = refl

pub end_back : (e : End) → read_end (end_row e) ≡ e
unfolding read_end end_row
end_back e = λ i. record { sds = e.sds; link = e.link; side = side_back e.side i; object = e.object }

-- ---- tables

pub append_both : (a a' b b' : List ℕ) → length a ≡ length a' → a ++ b ≡ a' ++ b' → (a ≡ a') × (b ≡ b')
append_both a a' b b' l e = (
  sym (take_at a b (length a') l) ∙ ap (take (length a')) e ∙ take_at a' b' (length a') refl,
  sym (drop_at a b (length a') l) ∙ ap (drop (length a')) e ∙ drop_at a' b' (length a') refl,
)

module _ {A : Type 0} (w : ℕ) (row : A → List ℕ) (wide : (a : A) → length (row a) ≡ w) where
  pub length_table : (n : ℕ) (rs : List A) → length (table w row n rs) ≡ n * w
  unfolding table
  length_table zero rs = sym (zero-mul w)
  length_table (suc n) [] =
      length-append (replicate w 0) (table w row n [])
      ∙ omega (arith, zeros_long w, length_table n [], suc-mul n w)
  length_table (suc n) (r ∷ rs) = length-append (row r) (table w row n rs) ∙ omega (arith, wide r, length_table n rs, suc-mul n w)

  -- the row k, and what stands behind it
  pub table_row : (n : ℕ) (rs : List A) (k : ℕ) (d : A) → k < length rs → length rs ≤ n
      → drop (k * w) (table w row n rs) ≡ row (get_or rs k d) ++ table w row (n - suc k) (drop (suc k) rs)
  unfolding table
  table_row n [] k d h l = absurd (omega arith)
  table_row zero (r ∷ rs) k d h l = absurd (omega arith)
  table_row (suc n) (r ∷ rs) zero d h l =
      let same : suc n - 1 ≡ n = omega arith in
      rw (zero-mul w, same)
  table_row (suc n) (r ∷ rs) (suc k) d h l =
      let past : suc k * w ≡ length (row r) + k * w = suc-mul k w ∙ omega (arith, wide r) in
      let same : suc n - suc (suc k) ≡ n - suc k = omega arith in
      rw (past, drop-append-add (row r) (table w row n rs) (k * w), same) (table_row n rs k d (omega arith) (omega arith))

  -- tables of as many rows that are told apart by their bytes
  pub table_same : (n : ℕ) (rs rs' : List A) → length rs ≡ length rs' → length rs ≤ n
      → ((a b : A) → a ∈ rs → b ∈ rs' → row a ≡ row b → a ≡ b) → table w row n rs ≡ table w row n rs' → rs ≡ rs'
  unfolding table
  table_same n [] [] e l f t = refl
  table_same n [] (r' ∷ rs') e l f t = absurd (omega arith)
  table_same n (r ∷ rs) [] e l f t = absurd (omega arith)
  table_same zero (r ∷ rs) (r' ∷ rs') e l f t = absurd (omega arith)
  table_same (suc n) (r ∷ rs) (r' ∷ rs') e l f t =
      let (h, u) = append_both (row r) (row r') (table w row n rs) (table w row n rs') (wide r ∙ sym (wide r')) t in
      let rest : rs ≡ rs' = table_same n rs rs' (omega arith) (omega arith) (λ a b i j. f a b (Memᴰ.tail i) (Memᴰ.tail j)) u in
      λ i. f r r' (Memᴰ.head refl) (Memᴰ.head refl) h i ∷ rest i

  -- rows that are never all zero are counted by the bytes
  pub table_count : (n : ℕ) (rs rs' : List A) → length rs ≤ n → length rs' ≤ n
      → ((a : A) → a ∈ rs → row a ≡ replicate w 0 → ⊥) → ((a : A) → a ∈ rs' → row a ≡ replicate w 0 → ⊥)
      → table w row n rs ≡ table w row n rs' → length rs ≡ length rs'
  unfolding table
  table_count n [] [] l l' f f' t = refl
  table_count zero [] (r' ∷ rs') l l' f f' t = absurd (omega arith)
  table_count zero (r ∷ rs) rs' l l' f f' t = absurd (omega arith)
  table_count (suc n) [] (r' ∷ rs') l l' f f' t =
      let (h, u) = append_both (replicate w 0) (row r') (table w row n []) (table w row n rs') (zeros_long w ∙ sym (wide r')) t in
      absurd (f' r' (Memᴰ.head refl) (sym h))
  table_count (suc n) (r ∷ rs) [] l l' f f' t =
      let (h, u) = append_both (row r) (replicate w 0) (table w row n rs) (table w row n []) (wide r ∙ sym (zeros_long w)) t in
      absurd (f r (Memᴰ.head refl) h)
  table_count (suc n) (r ∷ rs) (r' ∷ rs') l l' f f' t =
      let (h, u) = append_both (row r) (row r') (table w row n rs) (table w row n rs') (wide r ∙ sym (wide r')) t in
      ap suc (table_count n rs rs' (omega arith) (omega arith) (λ a i. f a (Memᴰ.tail i)) (λ a i. f' a (Memᴰ.tail i)) u)

-- ---- the picture

pub picture_length : (s : Schema) → length (picture s) ≡ base_length
unfolding picture
picture_length s =
    let a = length_table sds_width sds_row wide_sds 16 s.sdss in
    let b = length_table type_width type_row wide_type 128 s.types in
    let c = length_table presence_width presence_row wide_presence 512 s.presences in
    let d = length_table application_width application_row wide_application 256 s.applications in
    let e = length_table end_width end_row wide_end 512 s.ends in
    omega (
      arith,
      length-append (sds_table s) (type_table s ++ (presence_table s ++ (application_table s ++ end_table s))),
      length-append (type_table s) (presence_table s ++ (application_table s ++ end_table s)),
      length-append (presence_table s) (application_table s ++ end_table s),
      length-append (application_table s) (end_table s),
    )

-- ---- a picture determines its good schema

-- rows that have a way back are told apart by their bytes
apart : {A : Type 0} (row : A → List ℕ) (read : List ℕ → A) {a b : A} → read (row a) ≡ a → read (row b) ≡ b → row a ≡ row b → a ≡ b
apart row read p q e = sym p ∙ ap read e ∙ q

module _ {s : Schema} (good : Good s) where
  pub sds_back : (n : Name) → n ∈ s.sdss → strip (sds_row n) ≡ n
  unfolding sds_row used_sds
  sds_back [] i = strip_blank
  sds_back (x ∷ n) i =
      let (d, h, e) = at_place [] i in
      strip_pad (formed_fits (x ∷ n) (rw e at (good.sds_named d (rw e (ap not (eqb-suc-zero (length n)))))))

  pub fitting : (k : Kind) → k ∈ s.types → Fitting k
  fitting unused i = fits_unused
  fitting (object ps) i = let (t, h, e) = at_place unused i in fits_object (good.parents_few t ps e)
  fitting (attribute v) i = fits_attribute
  fitting designation i = fits_designation
  fitting (paired c r) i = let (t, h, e) = at_place unused i in fits_paired (good.categories t c r e)

  -- no row is all zero: what is in SDS 0 is its one presence, which has a name
  pub presence_used : (p : Presence) → p ∈ s.presences → presence_row p ≡ replicate presence_width 0 → ⊥
  unfolding presence_row pad
  presence_used p i e =
      let system : p ≡ system_presence = good.system_alone p i (ap (λ (r : List ℕ). get_or r 0 0) e) in
      let first : ◌≡◌ {A = ℕ} 111 0 = ap (λ (r : List ℕ). get_or r name_offset 0) (sym (ap presence_row system) ∙ e) in
      omega arith

  pub application_used : (x : Application) → x ∈ s.applications → application_row x ≡ replicate application_width 0 → ⊥
  unfolding application_row
  application_used x i e = good.system_no_application x i (ap (λ (r : List ℕ). get_or r 0 0) e)

  pub end_used : (x : End) → x ∈ s.ends → end_row x ≡ replicate end_width 0 → ⊥
  unfolding end_row
  end_used x i e = good.system_no_end x i (ap (λ (r : List ℕ). get_or r 0 0) e)

module _ {s s' : Schema} (good : Good s) (good' : Good s') (e : picture s ≡ picture s') where
  -- the five tables
  abbrev later : Schema → List ℕ
  later x = application_table x ++ end_table x

  one_table : {A : Type 0} (w : ℕ) (row : A → List ℕ) (wide : (a : A) → length (row a) ≡ w) (n : ℕ) (rs rs' : List A) (b b' : List ℕ)
      → table w row n rs ++ b ≡ table w row n rs' ++ b' → (table w row n rs ≡ table w row n rs') × (b ≡ b')
  one_table w row wide n rs rs' b b' =
      append_both (table w row n rs) (table w row n rs') b b' (length_table w row wide n rs ∙ sym (length_table w row wide n rs'))

  pub picture_same : s ≡ s'
  unfolding picture
  picture_same =
      let (ea, e₁) = one_table sds_width sds_row wide_sds 16 s.sdss s'.sdss
      (type_table s ++ (presence_table s ++ later s)) (type_table s' ++ (presence_table s' ++ later s')) e in
      let (eb, e₂) = one_table type_width type_row wide_type 128 s.types s'.types (presence_table s ++ later s) (presence_table s' ++ later s') e₁ in
      let (ec, e₃) = one_table presence_width presence_row wide_presence 512 s.presences s'.presences (later s) (later s') e₂ in
      let (ed, ee) = one_table application_width application_row wide_application 256 s.applications s'.applications (end_table s) (end_table s') e₃ in
      let sdss : s.sdss ≡ s'.sdss
      = table_same sds_width sds_row wide_sds 16 s.sdss s'.sdss (good.sds_room ∙ sym good'.sds_room) (omega (arith, good.sds_room))
      (λ a b i j. apart sds_row strip (sds_back good a i) (sds_back good' b j)) ea in
      let types : s.types ≡ s'.types
      = table_same type_width type_row wide_type 128 s.types s'.types (good.type_room ∙ sym good'.type_room) (omega (arith, good.type_room))
      (λ a b i j. apart type_row read_kind (kind_back (fitting good a i)) (kind_back (fitting good' b j))) eb in
      let presences : s.presences ≡ s'.presences
      = table_same presence_width presence_row wide_presence 512 s.presences s'.presences
      (table_count presence_width presence_row wide_presence 512 s.presences s'.presences good.presence_room good'.presence_room
      (presence_used good) (presence_used good') ec) good.presence_room
      (λ a b i j. apart presence_row read_presence (presence_back a (good.presence_named a i)) (presence_back b (good'.presence_named b j))) ec in
      let applications : s.applications ≡ s'.applications
      = table_same application_width application_row wide_application 256 s.applications s'.applications
      (table_count application_width application_row wide_application 256 s.applications s'.applications good.application_room
      good'.application_room (application_used good) (application_used good') ed) good.application_room
      (λ a b i j. apart application_row read_application (application_back a) (application_back b)) ed in
      let ends : s.ends ≡ s'.ends
      = table_same end_width end_row wide_end 512 s.ends s'.ends
      (table_count end_width end_row wide_end 512 s.ends s'.ends good.end_room good'.end_room (end_used good) (end_used good') ee)
      good.end_room
      (λ a b i j. apart end_row read_end (end_back a) (end_back b)) ee in
      λ i. record { sdss = sdss i; types = types i; presences = presences i; applications = applications i; ends = ends i }

-- ---- the stretch that holds a local name

module _ {s : Schema} (good : Good s) where
  -- the k-th presence's name stands in the picture where `name_start` says
  pub name_stretch : (k : ℕ) → k < length s.presences
      → let n : Name = (get_or s.presences k system_presence).name in take (length n) (drop (name_start s k) (picture s)) ≡ n
  unfolding picture name_start presence_row
  name_stretch k h =
      let p = get_or s.presences k system_presence in
      let fits = (name_fits p.name (good.presence_named p (place_in system_presence s.presences k h))).short in
      let rest = application_table s ++ end_table s in
      let T = table presence_width presence_row (512 - suc k) (drop (suc k) s.presences) in
      let along : k * presence_width ≤ length (presence_table s) = omega
      (arith, length_table presence_width presence_row wide_presence 512 s.presences, good.presence_room) in
      let row : drop (k * presence_width) (presence_table s ++ rest) ≡ (presence_row p ++ T) ++ rest
      = lib.Seq.drop-append-le (k * presence_width) (presence_table s) rest along
      ∙ ap (λ (l : List ℕ). l ++ rest) (table_row presence_width presence_row wide_presence 512 s.presences k system_presence h good.presence_room) in
      let front : drop (k * presence_width + 1) (presence_table s ++ rest) ≡ ((pad 16 p.name ++ (behind_name p)) ++ T) ++ rest
      = sym (drop-drop 1 (k * presence_width) (presence_table s ++ rest)) ∙ ap (drop 1) row in
      let back = drop-append-add (sds_table s) (type_table s ++ (presence_table s ++ rest)) (length (type_table s) + (k * presence_width + 1))
      ∙ drop-append-add (type_table s) (presence_table s ++ rest) (k * presence_width + 1) ∙ front in
      let short : length p.name ≤ length (pad 16 p.name) = omega (arith, length_pad 16 p.name) in
      let m = length p.name in
      ap (take m) back
      ∙ take-append-le m ((pad 16 p.name ++ (behind_name p)) ++ T) rest
      (omega (arith, length-append (pad 16 p.name ++ (behind_name p)) T, length-append (pad 16 p.name) (behind_name p)))
      ∙ take-append-le m (pad 16 p.name ++ (behind_name p)) T (omega (arith, length-append (pad 16 p.name) (behind_name p)))
      ∙ take-append-le m (pad 16 p.name) (behind_name p) short
      ∙ take_pad 16 p.name fits
