-- What is asked of the rows of ends one by one, and of two counts of them.
use Rattle.std.specs.Prelude.{ℕ, ◌+◌, ◌*◌, ◌-◌, ◌/◌, ◌%◌, ◌≤◌, ◌<◌, ◌≡◌, List, Bool, true, cond, eqb, ltb, length, get_or}
use Rattle.std.specs.Prelude.{Option, MatchOption, ℤ, pos, negsuc, ◌-ℤ◌}
use Rattle.rules.specs.02-Limits.{limits}
use Rattle.rules.specs.04-Schema.{kind_of, is_link, is_object, present}
use Rattle.rules.specs.07-Picture.{base_length, end_width}
use Rattle.rules.specs.Read.{value_offset, reverse_offset, link_offset, side_offset, object_offset}
use Rattle.rules.specs.Parts.{of_presences, EndFits}
use Rattle.rows.specs.Rows.{part}
use Rattle.rows.specs.Order.{number}
use Rattle.base.specs.Tables.{InOrder, by_end}
use Rattle.base.specs.Rows.{type_at, end_at}
use Rattle.base.specs.Back.{schema_of, end_shown}
use Rattle.check_ends.specs.Count.{count}
use Rattle.check_ends.specs.declared.Group.{Group}
use Rattle.check_ends.specs.declared.Mirrors.{Mirrors}
use Rattle.check_ends.specs.declared.Mirrors.TheVariants.{Nowhere, Ahead, Behind}

-- ---- a row

abbrev pub sds_byte : List ℕ → ℕ → ℕ
sds_byte b i = get_or b (end_at i) 0

abbrev pub link_byte : List ℕ → ℕ → ℕ
link_byte b i = get_or b (end_at i + link_offset) 0

abbrev pub side_byte : List ℕ → ℕ → ℕ
side_byte b i = get_or b (end_at i + side_offset) 0

abbrev pub object_byte : List ℕ → ℕ → ℕ
object_byte b i = get_or b (end_at i + object_offset) 0

-- the row as one number; the order of the numbers is that of the rows
abbrev pub row_number : List ℕ → ℕ → ℕ
row_number b i = number 0 (part b (end_at i) end_width)

-- one of the first n rows has this number
pub record RowWith (b : List ℕ) (n w : ℕ) : Type 0 where
  pub place : ℕ
  pub below : place < n
  pub is : row_number b place ≡ w

-- r is past one of the first n rows that has this number, if one of them has
abbrev pub RowPast : List ℕ → ℕ → ℕ → Option ℕ → Type 0
RowPast b n w r = MatchOption r (RowWith b n w → ⊥) (λ past. (past ≤ n) × RowWith b n w)

-- the bytes of the row of this number are in their bounds
pub record Small (w : ℕ) : Type 0 where
  pub sds : w / 16777216 < limits.sdss
  pub link : w / 65536 % 256 < limits.types
  pub side : w / 256 % 256 < 2
  pub object : w % 256 < limits.types

-- ---- mirrors

-- where the mirrors of a link type's ends stand: 0 there are none, 1 ahead, 2 behind
unfoldable pub rank : List ℕ → ℕ → ℕ
rank b l = cond (eqb (get_or b (type_at l + value_offset) 0) 4) 0 (cond (ltb (get_or b (type_at l + reverse_offset) 0) l) 2 1)

-- SDS, link type and side of the mirrors that stand behind; an end that has none there stands for its own mirror
unfoldable pub turned : List ℕ → ℕ → ℕ → ℕ → ℕ
turned b d l side = cond (eqb (rank b l) 2) ((d * 256 + get_or b (type_at l + reverse_offset) 0) * 256 + (1 - side)) ((d * 256 + l) * 256 + side)

-- the number of the mirror of row i
abbrev pub mirror_number : List ℕ → ℕ → ℕ
mirror_number b i = turned b (sds_byte b i) (link_byte b i) (side_byte b i) * 256 + object_byte b i

-- the rows whose mirrors stand ahead, and those whose mirrors stand behind
abbrev pub lower : List ℕ → ℕ → Bool
lower b i = eqb (rank b (link_byte b i)) 1

abbrev pub higher : List ℕ → ℕ → Bool
higher b i = eqb (rank b (link_byte b i)) 2

-- how many more of the first i rows the former are
abbrev pub balance : List ℕ → ℕ → ℤ
balance b i = pos (count (lower b) i) -ℤ pos (count (higher b) i)

-- ---- what is asked

-- the link type and the object type of the end in row i are what they are to be, and its SDS holds both
abbrev pub Fits : List ℕ → ℕ → Type 0
Fits b i = EndFits (schema_of b).types (present (of_presences (schema_of b).presences) (sds_byte b i)) (end_shown b i)

-- of row i besides its order
pub record RowFine (b : List ℕ) (i : ℕ) : Type 0 where
  pub side : side_byte b i ≤ 1
  pub fits : Fits b i
  pub mirror : RowWith b (i + 1) (mirror_number b i)

-- the pass has come to row i: the rows up to it rise, those before it are fine, and its bytes are in their bounds
pub record Reached (b : List ℕ) (i : ℕ) : Type 0 where
  pub long : length b ≡ base_length
  pub bytes : (k : ℕ) → get_or b k 0 < 256
  pub few : i < limits.ends
  pub small : Small (row_number b i)
  pub rise : InOrder by_end b (i + 1)
  pub rows : (k : ℕ) → k < i → RowFine b k

-- of the link type of row i
pub record LinkFine (b : List ℕ) (i : ℕ) : Type 0 where
  pub is : is_link (kind_of (schema_of b) (link_byte b i)) ≡ true
  pub held : present (schema_of b) (sds_byte b i) (link_byte b i) ≡ true

-- of the object type of row i
pub record ObjectFine (b : List ℕ) (i : ℕ) : Type 0 where
  pub is : is_object (kind_of (schema_of b) (object_byte b i)) ≡ true
  pub held : present (schema_of b) (sds_byte b i) (object_byte b i) ≡ true

-- ---- groups

-- how far back the mirrors are, 0 where none are behind; where the next one is looked for; where they stand, as `rank` says it; and what an
-- end counts
abbrev pub back_of : Mirrors → ℕ
back_of Nowhere = 0
back_of Ahead = 0
back_of (Behind back near) = back

abbrev pub near_of : Mirrors → ℕ
near_of Nowhere = 0
near_of Ahead = 0
near_of (Behind back near) = near

abbrev pub rank_of : Mirrors → ℕ
rank_of Nowhere = 0
rank_of Ahead = 1
rank_of (Behind back near) = 2

abbrev pub weight_of : Mirrors → ℤ
weight_of Nowhere = pos 0
weight_of Ahead = pos 1
weight_of (Behind back near) = negsuc 0

-- row i is of the group: its highest number, how far back its mirrors are, and where they stand; where none are behind, its link type is fine
pub record GroupFine (b : List ℕ) (i : ℕ) (g : Group) : Type 0 where
  pub link : back_of g.mirrors ≡ 0 → LinkFine b i
  pub top : g.top ≡ row_number b i / 256 * 256 + 255
  pub back : mirror_number b i + back_of g.mirrors ≡ row_number b i
  pub rank : rank_of g.mirrors ≡ rank b (link_byte b i)

-- the group is that of row i, of which nothing else is known
pub record Begun (b : List ℕ) (i : ℕ) (g : Group) : Type 0 where
  pub near : near_of g.mirrors ≤ i
  pub group : GroupFine b i g

-- the group of row i, if there is one; if not, its link type is not fine
abbrev pub First : List ℕ → ℕ → Option Group → Type 0
First b i r = MatchOption r (LinkFine b i → ⊥) (λ g. Begun b i g)

-- l is the link type of row i, and no designation
pub record Pair (b : List ℕ) (i l : ℕ) : Type 0 where
  pub is : l ≡ link_byte b i
  pub paired : get_or b (type_at l + value_offset) 0 ≡ 4 → ⊥

-- the group of the row before row i, which has number w, is that of row i up to its highest number
pub record Last (b : List ℕ) (i w : ℕ) (g : Group) : Type 0 where
  pub near : near_of g.mirrors ≤ i
  pub same : w ≤ g.top → GroupFine b i g

-- row i is fine, and this is its group
pub record Past (b : List ℕ) (i : ℕ) (g : Group) : Type 0 where
  pub near : near_of g.mirrors ≤ i + 1
  pub holds : RowFine b i
  pub group : GroupFine b i g

-- the group of row i, which is fine where there is one
abbrev pub Passed : List ℕ → ℕ → Option Group → Type 0
Passed b i r = MatchOption r (RowFine b i → ⊥) (λ g. Past b i g)
