-- What is asked of one type: of the bytes of its row, of the types that it names, and of the SDSs that hold it; and what is told of all.
use Rattle.std.specs.Prelude.{ℕ, suc, ◌+◌, ◌*◌, ◌≤◌, ◌<◌, ◌≡◌, List, get_or, replicate, Option, Some}
use Rattle.std.specs.Option.{ForSome, ForNone}
use Rattle.rules.specs.07-Picture.{type_width}
use Rattle.rows.specs.Rows.{part}
use Rattle.base.specs.Rows.{type_at}
use Rattle.base.specs.Back.{schema_of}
use Rattle.lookup.specs.Parents.{Falling}
use Rattle.lookup.proofs.KindBytes.{kind_byte, value_byte, reverse_byte, count_byte, parent_byte}
use Rattle.check_held.specs.Held.{Within}
use Rattle.check_held.specs.Fine.{TypesFine}
use Rattle.check_types.specs.declared.Numbering.{Numbering}
use Rattle.check_types.specs.declared.Numbering.TheVariants.{Below}

-- the word of the SDSs that hold type t
abbrev pub sdss_of : List ℕ → ℕ → ℕ
sdss_of held t = get_or held t 0

-- ---- what stands behind the kind

-- no parent stands in place n or after it
abbrev pub NoParentsFrom : List ℕ → ℕ → ℕ → Type 0
NoParentsFrom b t n = (i : ℕ) → i < 4 → n ≤ i → parent_byte b t i ≡ 0

-- at most n parents, and zeros behind them
pub record FewParents (b : List ℕ) (t n : ℕ) : Type 0 where
  pub count : count_byte b t ≤ n
  pub places : NoParentsFrom b t (count_byte b t)

-- a value of at most v, no reverse, at most n parents
pub record PlainRow (b : List ℕ) (t v n : ℕ) : Type 0 where
  pub value : value_byte b t ≤ v
  pub reverse : reverse_byte b t ≡ 0
  pub parents : FewParents b t n

-- ---- a row in two numbers, the first byte lowest

pub record Front (b : List ℕ) (t r : ℕ) : Type 0 where
  pub is : r ≡ kind_byte b t + value_byte b t * 256 + reverse_byte b t * 65536 + count_byte b t * 16777216
  pub kind : kind_byte b t < 256
  pub value : value_byte b t < 256
  pub reverse : reverse_byte b t < 256
  pub count : count_byte b t < 256

pub record Places (b : List ℕ) (t r : ℕ) : Type 0 where
  pub is : r ≡ parent_byte b t 0 + parent_byte b t 1 * 256 + parent_byte b t 2 * 65536 + parent_byte b t 3 * 16777216
  pub first : parent_byte b t 0 < 256
  pub second : parent_byte b t 1 < 256
  pub third : parent_byte b t 2 < 256
  pub fourth : parent_byte b t 3 < 256

-- ---- where its parents are numbered

-- the first n parents of t are numbered below m
abbrev pub ParentsBelow : List ℕ → ℕ → ℕ → ℕ → Type 0
ParentsBelow b t n m = (i : ℕ) → i < n → parent_byte b t i < m

-- none exactly where P does not hold of t, `Below` only where its parents are numbered below it
pub record Told (P : Type 0) (b : List ℕ) (t : ℕ) (r : Option Numbering) : Type 0 where
  pub fine : ForSome r (λ _. P)
  pub not : ForNone r (P → ⊥)
  pub falling : r ≡ Some Below → ParentsBelow b t (count_byte b t) t

-- ---- an object type t, which these SDSs hold

-- with n parents and one more
pub record ObjectFront (b : List ℕ) (t n : ℕ) : Type 0 where
  pub kind : kind_byte b t ≡ 1
  pub value : value_byte b t ≡ 0
  pub reverse : reverse_byte b t ≡ 0
  pub count : count_byte b t ≡ suc n

pub record ParentFine (b held : List ℕ) (sdss p : ℕ) : Type 0 where
  pub object : kind_byte b p ≡ 1
  pub with_child : Within sdss (sdss_of held p)

-- the parent in place i, numbered below the one behind it
abbrev pub ParentBefore : List ℕ → List ℕ → ℕ → ℕ → ℕ → Type 0
ParentBefore b held t sdss i = (parent_byte b t i < parent_byte b t (suc i)) × ParentFine b held sdss (parent_byte b t i)

-- and those before place n
abbrev pub ParentsBefore : List ℕ → List ℕ → ℕ → ℕ → ℕ → Type 0
ParentsBefore b held t sdss n = (i : ℕ) → i < n → ParentBefore b held t sdss i

pub record ObjectFine (b held : List ℕ) (t sdss : ℕ) : Type 0 where
  pub row : PlainRow b t 0 4
  pub only_root : count_byte b t ≡ 0 → t ≡ 0
  pub rising : (i : ℕ) → suc i < count_byte b t → parent_byte b t i < parent_byte b t (suc i)
  pub small : (i : ℕ) → i < count_byte b t → parent_byte b t i < 128
  pub each : (i : ℕ) → i < count_byte b t → ParentFine b held sdss (parent_byte b t i)

-- ---- a link type t, which these SDSs hold

-- with no parents
pub record LinkFront (b : List ℕ) (t r : ℕ) : Type 0 where
  pub kind : kind_byte b t ≡ 3
  pub front : Front b t r
  pub none : NoParentsFrom b t 0

-- its reverse is another type, in the same SDSs, which has it for its reverse in turn; they are not both implicit
pub record Mutual (b held : List ℕ) (t sdss : ℕ) : Type 0 where
  pub different : reverse_byte b t ≡ t → ⊥
  pub small : reverse_byte b t < 128
  pub same : sdss_of held (reverse_byte b t) ≡ sdss
  pub in_turn : reverse_byte b (reverse_byte b t) ≡ t
  pub not_both_implicit : value_byte b t ≡ 3 → value_byte b (reverse_byte b t) ≡ 3 → ⊥

-- a category of at most 4, a designation, which alone has no reverse
pub record LinkFine (b held : List ℕ) (t sdss : ℕ) : Type 0 where
  pub parents : FewParents b t 0
  pub category : value_byte b t ≤ 4
  pub designation : value_byte b t ≡ 4 → reverse_byte b t ≡ 0
  pub paired : (value_byte b t ≡ 4 → ⊥) → Mutual b held t sdss

-- ---- any type

pub record TypeFine (b held : List ℕ) (t : ℕ) : Type 0 where
  pub unheld : sdss_of held t ≡ 0 → part b (type_at t) type_width ≡ replicate type_width 0
  pub used : (sdss_of held t ≡ 0 → ⊥) → kind_byte b t ≡ 0 → ⊥
  pub known : kind_byte b t ≤ 3
  pub object : kind_byte b t ≡ 1 → ObjectFine b held t (sdss_of held t)
  pub attribute : kind_byte b t ≡ 2 → PlainRow b t 5 0
  pub link : kind_byte b t ≡ 3 → LinkFine b held t (sdss_of held t)

-- an unused type, which no SDS holds
pub record Unheld (b held : List ℕ) (t : ℕ) : Type 0 where
  pub nowhere : sdss_of held t ≡ 0
  pub row : part b (type_at t) type_width ≡ replicate type_width 0

abbrev pub UnheldFrom : List ℕ → List ℕ → ℕ → Type 0
UnheldFrom b held n = (k : ℕ) → k < 128 → n ≤ k → Unheld b held k

-- type 0, the one object type with no parents
pub record RootFine (b held : List ℕ) : Type 0 where
  pub somewhere : sdss_of held 0 ≡ 0 → ⊥
  pub object : kind_byte b 0 ≡ 1
  pub row : PlainRow b 0 0 0

-- ---- all types

-- none exactly where they are not fine, `Below` only where every parent is numbered below its child
pub record TypesTold (b : List ℕ) (r : Option Numbering) : Type 0 where
  pub fine : ForSome r (λ _. TypesFine b)
  pub not : ForNone r (TypesFine b → ⊥)
  pub falling : r ≡ Some Below → Falling (schema_of b)
