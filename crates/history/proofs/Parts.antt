-- A good schema with some of its parts changed: what each table needs when another changes. Assumes nothing.
use Prim.Native.Nat.{ℕ, ◌+◌, ◌≤◌}
use native.Mathlib.Omega.{arith}
use mathlib.Core.Path.{◌≡◌, refl, sym, ap, ◌∙◌, subst}
use mathlib.Core.Logic.{◌⊎◌, ⊎_elim}
use mathlib.Core.List.Memᴰ
use mathlib.Core.List.{List}
use mathlib.Core.Bool.{Bool, true, false, true≢false}
use lib.ListN.{length}
use Rattle.rules.specs.01-Lists.{◌∈◌, without, put_all}
use Rattle.rules.specs.03-Names.{Name, blank}
use Rattle.rules.specs.04-Schema.{Schema, Kind, Presence, Application, End, used_sds, kind_of, is_used, is_object, present, with_sdss}
use Rattle.rules.specs.04-Schema.{with_applications, with_ends, new_presence, reverse, reverse_in, with_reverse}
use Rattle.rules.specs.04-Schema.Kind.{paired}
use Rattle.rules.specs.06-Good.{SameModes, Good}
use Rattle.rules.specs.Parts.{of_sdss, of_types, of_presences, Sdss, Reverses, PresenceRows, Once, Nameless, ClosedUnder, Somewhere, Alike}
use Rattle.rules.specs.Parts.{Presences, Ordered, Applications, Ends}
use Rattle.rules.proofs.01-Lists.{Different}
use Rattle.rules.proofs.05-Descent.{object_used}
use Rattle.rules.proofs.Edits.{put_all_long, without_long}
use Rattle.rules.proofs.Parts.{present_each, parts_of, whole, applied_over, ended_over, applied_held, ended_held}
use Rattle.history.proofs.KindLaws.{attribute_used, link_used, either_used, is_reverse, has_reverse}
use Rattle.rules.proofs.Orders.{Order, put_all_rises, without_rises}

-- the presences by themselves, before any type is asked about
pub record Rows (ns : List Name) (ps : List Presence) : Type 0 where
  pub rows : PresenceRows ns ps
  pub once : Once ps

-- what its type asks of a presence of t in d
pub record Placed (ks : List Kind) (ps : List Presence) (d t : ℕ) : Type 0 where
  pub used : is_used (kind_of (of_types ks) t) ≡ true
  pub closed : ClosedUnder ks (present (of_presences ps) d) t

module _ {ns : List Name} {ks : List Kind} {ps : List Presence} where
  pub rows_of : Presences ns ks ps → Rows ns ps
  rows_of g = record { rows = g.rows; once = g.once }

  pub placed_at : Presences ns ks ps → (d t : ℕ) → present (of_presences ps) d t ≡ true → Placed ks ps d t
  placed_at g = present_each ps (Placed ks ps) (λ p i. record { used = g.typed p i; closed = g.closed p i })

  pub presences_of : Rows ns ps → ((p : Presence) → p ∈ ps → Placed ks ps p.sds p.type) → Nameless ks ps → Alike ks ps → Somewhere ks ps
      → Presences ns ks ps
  presences_of r each nameless alike somewhere = record {
    rows = r.rows;
    once = r.once;
    typed = λ p i. (each p i).used;
    nameless = nameless;
    closed = λ p i. (each p i).closed;
    alike = alike;
    somewhere = somewhere;
  }

-- ---- what is nameless is an object type still, and a link type and its reverse have the same modes

-- a presence that was there, perhaps under another name, but nameless only if it was: its type is what it was, and so are its modes
pub record Stayed (ks ks' : List Kind) (ps : List Presence) (p : Presence) : Type 0 where
  pub row : Presence
  pub there : row ∈ ps
  pub sds : row.sds ≡ p.sds
  pub type : row.type ≡ p.type
  pub nameless : blank p.name ≡ true → blank row.name ≡ true
  pub modes : SameModes row p
  pub kind : kind_of (of_types ks') p.type ≡ kind_of (of_types ks) p.type

-- both sets are all five
abbrev pub Full : Presence → Type 0
Full p = SameModes p (new_presence p.sds p.name p.type)

pub full : {d t : ℕ} {n : Name} → Full (new_presence d n t)
full = record { usage = refl; definition = refl }

-- one of a type that was not there, with all modes; nameless only if that is an object type
pub record Came (ks' : List Kind) (ps : List Presence) (p : Presence) : Type 0 where
  pub lacked : present (of_presences ps) p.sds p.type ≡ false
  pub nameless : blank p.name ≡ true → is_object (kind_of (of_types ks') p.type) ≡ true
  pub modes : Full p

pub stayed : {ks ks' : List Kind} {ps : List Presence} {p : Presence} → p ∈ ps → kind_of (of_types ks') p.type ≡ kind_of (of_types ks) p.type
    → Stayed ks ks' ps p
stayed {p = p} i same = record {
  row = p;
  there = i;
  sds = refl;
  type = refl;
  nameless = λ e. e;
  modes = record { usage = refl; definition = refl };
  kind = same;
}

module _ {ns : List Name} {ks ks' : List Kind} {ps ps' : List Presence} (g : Presences ns ks ps) (turned : Reverses ks')
    (each : (p : Presence) → p ∈ ps' → Stayed ks ks' ps p ⊎ Came ks' ps p) where
  pub nameless_still : Nameless ks' ps'
  nameless_still p i e =
      ⊎_elim
      (λ f. ap is_object (f.kind ∙ ap (kind_of (of_types ks)) (sym f.type)) ∙ g.nameless f.row f.there (f.nameless e))
      (λ a. a.nameless e)
      (each p i)

  was_paired : {p : Presence} (f : Stayed ks ks' ps p) {c r : ℕ} → kind_of (of_types ks') p.type ≡ paired c r
      → kind_of (of_types ks) f.row.type ≡ paired c r
  was_paired f k = ap (kind_of (of_types ks)) f.type ∙ sym f.kind ∙ k

  -- the reverse of what was there was there
  never_came : {p q : Presence} → Stayed ks ks' ps p → Came ks' ps q → p.sds ≡ q.sds → (c : ℕ) → kind_of (of_types ks') p.type ≡ paired c q.type → ⊥
  never_came {p} {q} f a d c k =
      true≢false
      (sym ((g.closed f.row f.there).reverse c q.type (was_paired f k))
      ∙ ap (λ (e : ℕ). present (of_presences ps) e q.type) (f.sds ∙ d) ∙ a.lacked)

  pub alike_still : Alike ks' ps'
  alike_still p q i j d c k =
      ⊎_elim
      (λ f. ⊎_elim
      (λ h. let m = g.alike f.row h.row f.there h.there (f.sds ∙ d ∙ sym h.sds) c (was_paired f k ∙ ap (paired c) (sym h.type)) in
      record {
        usage = sym f.modes.usage ∙ m.usage ∙ h.modes.usage;
        definition = sym f.modes.definition ∙ m.definition ∙ h.modes.definition;
      })
      (λ b. absurd (never_came f b d c k))
      (each q j))
      (λ a. ⊎_elim
      (λ h. let (c', back) = turned.in_turn p.type c q.type k in absurd (never_came h a (sym d) c' back))
      (λ b. record { usage = a.modes.usage ∙ sym b.modes.usage; definition = a.modes.definition ∙ sym b.modes.definition })
      (each q j))
      (each p i)

  pub presences_still : Rows ns ps' → ((p : Presence) → p ∈ ps' → Placed ks' ps' p.sds p.type) → Somewhere ks' ps' → Presences ns ks' ps'
  presences_still rows placed somewhere = presences_of rows placed nameless_still alike_still somewhere

-- what holds of a type, and of its reverse where it has one, holds of both
pub reverse_each : (s : Schema) (t : ℕ) (P : ℕ → Type 0) → P t → ((c r : ℕ) → kind_of s t ≡ paired c r → P r) → (u : ℕ) → u ∈ with_reverse s t → P u
unfolding reverse
reverse_each s t P one other u i =
    ⊎_elim (λ e. subst P (sym e) one) (λ j. let (c, k) = has_reverse (kind_of s t) u j in other c u k) (Memᴰ.cases_cons i)

-- of a pair both are a type or its reverse, or neither
pub pair_closed : {s : Schema} → Good s → (t u c r : ℕ) → kind_of s u ≡ paired c r → r ∈ with_reverse s t → u ∈ with_reverse s t
unfolding reverse
pair_closed {s} g t u c r k i = ⊎_elim first second (Memᴰ.cases_cons i)
  where
    first : r ≡ t → u ∈ with_reverse s t
    first same =
        let (c', h) = g.reverse_in_turn u c r k in
        let own : kind_of s t ≡ paired c' u = ap (kind_of s) (sym same) ∙ h in
        Memᴰ.tail (is_reverse (kind_of s t) own)

    second : r ∈ reverse_in (kind_of s t) → u ∈ with_reverse s t
    second j =
        let (c', h) = has_reverse (kind_of s t) r j in
        let (b, mine) = g.reverse_in_turn u c r k in
        let (b', its) = g.reverse_in_turn t c' r h in
        let same : paired b u ≡ paired b' t = sym mine ∙ its in
        let itself : u ≡ t = cc in
        Memᴰ.head itself

-- ---- with one table changed that no other speaks of, or only in part

pub with_applications_good : {s : Schema} → Good s → {xs : List Application} → Applications s.types s.presences xs → Good (with_applications s xs)
with_applications_good g a =
    let p = parts_of g in
    whole (record { sdss = p.sdss; types = p.types; presences = p.presences; applications = a; ends = p.ends })

pub with_ends_good : {s : Schema} → Good s → {es : List End} → Ends s.types s.presences es → Good (with_ends s es)
with_ends_good g e =
    let p = parts_of g in
    whole (record { sdss = p.sdss; types = p.types; presences = p.presences; applications = p.applications; ends = e })

-- presences speak of SDSs only in that theirs are used
pub with_sdss_good : {s : Schema} → Good s → {ns : List Name} → Sdss ns
    → ((p : Presence) → p ∈ s.presences → used_sds (of_sdss ns) p.sds ≡ true) → Good (with_sdss s ns)
with_sdss_good {s} g {ns} sdss used =
    let p = parts_of g in
    let q = p.presences in
    whole (record {
      sdss = sdss;
      types = p.types;
      presences = record {
        rows = over q.rows;
        once = q.once;
        typed = q.typed;
        nameless = q.nameless;
        closed = q.closed;
        alike = q.alike;
        somewhere = q.somewhere;
      };
      applications = p.applications;
      ends = p.ends;
    })
  where
    over : PresenceRows s.sdss s.presences → PresenceRows ns s.presences
    over r = record {
      room = r.room;
      in_used = used;
      named = r.named;
      known = r.known;
      unique = r.unique;
      system = r.system;
      system_alone = r.system_alone;
      rises = r.rises;
    }

-- ---- over types that are what they were, and presences that are still there

module _ (ks ks' : List Kind) (ps ps' : List Presence)
    (same : (t : ℕ) → is_used (kind_of (of_types ks) t) ≡ true → kind_of (of_types ks') t ≡ kind_of (of_types ks) t)
    (still : (d t : ℕ) → present (of_presences ps) d t ≡ true → present (of_presences ps') d t ≡ true) where
  pub applications_over : {xs : List Application} → Applications ks ps xs → Applications ks' ps' xs
  applications_over g = record {
    rows = g.rows;
    each = λ x i.
        let a = g.each x i in
        let (to, attribute) = applied_held a in
        applied_over a (same x.to (either_used (kind_of (of_types ks) x.to) a.to))
        (same x.attribute (attribute_used (kind_of (of_types ks) x.attribute) a.attribute))
        (still x.sds x.to to) (still x.sds x.attribute attribute);
  }

  pub ends_over : {es : List End} → Ends ks ps es → Ends ks' ps' es
  ends_over {es} g = record {
    rows = g.rows;
    each = λ e i.
        let a = g.each e i in
        let (link, object) = ended_held a in
        ended_over a (link_same e i) (same e.object (object_used (kind_of (of_types ks) e.object) a.object))
        (still e.sds e.link link) (still e.sds e.object object);
    mirrored = λ e i c r k. g.mirrored e i c r (sym (link_same e i) ∙ k);
  }
    where
      link_same : (e : End) → e ∈ es → kind_of (of_types ks') e.link ≡ kind_of (of_types ks) e.link
      link_same e i = same e.link (link_used (kind_of (of_types ks) e.link) (g.each e i).link)

-- ---- rows in order

module _ {A : Type 0} {most : ℕ} {before : A → A → Bool} (o : Order before) {rows : List A} (g : Ordered most before rows) where
  pub ordered_less : (out : A → Bool) → Ordered most before (without out rows)
  ordered_less out = record {
    room = omega (arith, without_long out rows, g.room);
    rises = without_rises o out rows g.rises;
  }

  pub ordered_more : (new : List A) → length rows + length new ≤ most → Different new → ((x : A) → x ∈ new → x ∈ rows → ⊥)
      → Ordered most before (put_all before new rows)
  ordered_more new room apart none = record {
    room = omega (arith, put_all_long before new rows);
    rises = put_all_rises o new rows g.rises apart none;
  }
