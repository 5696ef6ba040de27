-- The entries of a section, read one by one: a section is its count and a run of entries, each above the one before. Assumes nothing.
use Prim.Native.Nat.{ℕ, zero, suc, ◌+◌, ◌*◌, ◌-◌, ◌/◌, ◌%◌, ◌≤◌, ◌<◌}
use native.Mathlib.Nat.{div-add-mod', mod-lt, div-lt_iff_lt-mul, suc-mul}
use native.Mathlib.Omega.{arith}
use mathlib.Core.Path.{◌≡◌, refl, sym, ap, subst, ◌∙◌}
use mathlib.Core.List.{List, [], ◌∷◌, ◌++◌}
use mathlib.Core.List.Memᴰ
use mathlib.Core.Logic.{⊎_elim}
use mathlib.Core.Bool.{true, ◌&&◌}
use lib.Arith.{digits_div, digits_mod}
use lib.Dec.{ltb}
use lib.ListN.{length, get_or, length-append}
use borrow.Author.Tests.{ltb-true, lt-ltb}
use Rattle.rules.specs.01-Lists.{bytes_before, ◌∈◌, rising, joined}
use Rattle.rules.specs.11-File.{Entry, Section, section}
use Rattle.rules.proofs.Bools.{and_both}
use Rattle.file_form.proofs.Starts.{Then, Some}
use Rattle.file_form.proofs.Values.{many, value, digits, value_less, before_value, entry_none, entry_cons}
use Rattle.file_form.proofs.Fit.{Between, between_some}

-- m entries of width w, the first at place a or above it, each above the one before
unfoldable pub Run : ℕ → ℕ → ℕ → List ℕ → Type 0
Run w a zero l = l ≡ []
Run w a (suc m) l = Then (Between w a (many w - suc m)) (λ e. Run w (suc (value e)) m) l

-- ---- there is room: there is a run

pub run_some : (w m a : ℕ) → a + m ≤ many w → Some (Run w a m)
unfolding Run
run_some w zero a h = record { it = []; is = refl }
run_some w (suc m) a h =
    let e = between_some w a (many w - suc m) (omega arith) (omega arith) in
    let rest = run_some w m (suc (value (digits w a))) (omega (arith, e.high)) in
    record { it = digits w a ++ rest.it; is = record { front = digits w a; back = rest.it; is = refl; first = e; second = rest.is } }

pub run_length : (w m a : ℕ) (l : List ℕ) → Run w a m l → length l ≡ m * w
unfolding Run
run_length w zero a l r = rw r (omega arith)
run_length w (suc m) a l r =
    rw (r.is, length-append) (omega (arith, r.first.entry.wide, run_length w m (suc (value r.front)) r.back r.second, suc-mul m w))

-- ---- a run and its list of entries

-- entries of width w, the first at place a or above it, each above the one before
unfoldable Chain : ℕ → ℕ → List (List ℕ) → Type 0
Chain w a [] = a ≤ many w
Chain w a (e ∷ es) = Entry w e × (a ≤ value e) × Chain w (suc (value e)) es

chain_none : (w : ℕ) → Chain w 0 []
unfolding Chain
chain_none w = omega arith

chain_room : (w a : ℕ) (es : List (List ℕ)) → Chain w a es → a + length es ≤ many w
unfolding Chain
chain_room w a [] c = omega arith
chain_room w a (e ∷ es) (d, h, c) = omega (arith, chain_room w (suc (value e)) es c)

chain_run : (w a : ℕ) (es : List (List ℕ)) → Chain w a es → Run w a (length es) (joined es)
unfolding Chain Run joined
chain_run w a [] c = refl
chain_run w a (e ∷ es) (d, h, c) =
    record {
      front = e;
      back = joined es;
      is = refl;
      first = record { entry = d; low = h; high = omega (arith, chain_room w (suc (value e)) es c) };
      second = chain_run w (suc (value e)) es c;
    }

chain_each : (w a : ℕ) (es : List (List ℕ)) → Chain w a es → (e : List ℕ) → e ∈ es → Entry w e
unfolding Chain
chain_each w a [] c e m = absurd (Memᴰ.not-nil m)
chain_each w a (x ∷ es) (d, h, c) e m =
    ⊎_elim (λ is. subst (λ (y : List ℕ). Entry w y) (sym is) d) (λ n. chain_each w (suc (value x)) es c e n) (Memᴰ.cases_cons m)

chain_rise : (w a : ℕ) (es : List (List ℕ)) → Chain w a es → rising bytes_before es ≡ true
unfolding Chain rising
chain_rise w a [] c = refl
chain_rise w a (e ∷ []) c = refl
chain_rise w a (e ∷ f ∷ es) (d, h, (i, k, c)) =
    rw (before_value w e f d i, lt-ltb (value e) (value f) k) (chain_rise w (suc (value e)) (f ∷ es) (i, k, c))

rise_chain : (w a : ℕ) (e : List ℕ) (es : List (List ℕ)) → ((x : List ℕ) → x ∈ (e ∷ es) → Entry w x) → rising bytes_before (e ∷ es) ≡ true
    → a ≤ value e → Chain w a (e ∷ es)
unfolding Chain rising
rise_chain w a e [] wide r h = let d = wide e (Memᴰ.head refl) in (d, h, value_less w e d)
rise_chain w a e (f ∷ es) wide r h =
    let d = wide e (Memᴰ.head refl) in
    let i = wide f (Memᴰ.tail (Memᴰ.head refl)) in
    let less : ltb (value e) (value f) && rising bytes_before (f ∷ es) ≡ true = rw (before_value w e f d i) at r in
    let (one, rest) = and_both (ltb (value e) (value f)) (rising bytes_before (f ∷ es)) less in
    (d, h, rise_chain w (suc (value e)) f es (λ x m. wide x (Memᴰ.tail m)) rest (ltb-true (value e) (value f) one))

record Listed (w a m : ℕ) (l : List ℕ) : Type 0 where
  entries : List (List ℕ)
  chain : Chain w a entries
  count : length entries ≡ m
  is : joined entries ≡ l

run_chain : (w m a : ℕ) (l : List ℕ) → a ≤ many w → Run w a m l → Listed w a m l
unfolding Chain Run joined
run_chain w zero a l h r = record { entries = []; chain = h; count = refl; is = sym r }
run_chain w (suc m) a l h r =
    let e = r.front in
    let rest = run_chain w m (suc (value e)) r.back (value_less w e r.first.entry) r.second in
    record {
      entries = e ∷ rest.entries;
      chain = (r.first.entry, r.first.low, rest.chain);
      count = ap suc rest.count;
      is = ap (λ (x : List ℕ). e ++ x) rest.is ∙ sym r.is;
    }

-- ---- a section is its count and a run

-- the count in two bytes
abbrev pub count : List ℕ → ℕ
count c = get_or c 0 0 + 256 * get_or c 1 0

abbrev pub Counted : ℕ → List ℕ → Type 0
Counted w = Then (Entry 2) (λ c. Run w 0 (count c))

pub entry_two : {x y : ℕ} → x < 256 → y < 256 → Entry 2 (x ∷ y ∷ [])
entry_two h k = entry_cons h (entry_cons k entry_none)

pub section_counted : (w : ℕ) (l : List ℕ) → Section w l → Counted w l
unfolding section
section_counted w l s =
    let n = length s.entries in
    let high : n / 256 < 256 = (div-lt_iff_lt-mul {k = 256} {x = n} {y = 256} (omega arith)).1 s.few in
    let low : n % 256 < 256 = mod-lt n (omega arith) in
    let is : n ≡ n % 256 + 256 * (n / 256) = omega (arith, div-add-mod' n 256) in
    record {
      front = n % 256 ∷ n / 256 ∷ [];
      back = joined s.entries;
      is = s.is;
      first = entry_two low high;
      second = subst (λ (m : ℕ). Run w 0 m (joined s.entries)) is (chain_run w 0 s.entries (chain s.entries s.each s.rise));
    }
  where
    chain : (es : List (List ℕ)) → ((x : List ℕ) → x ∈ es → Entry w x) → rising bytes_before es ≡ true → Chain w 0 es
    chain [] wide r = chain_none w
    chain (e ∷ es) wide r = rise_chain w 0 e es wide r (omega arith)

pub counted_section : (w : ℕ) (l : List ℕ) → Counted w l → Section w l
unfolding section
counted_section w l s = go s.front s.first s.second s.is
  where
    go : (c : List ℕ) → Entry 2 c → Run w 0 (count c) s.back → l ≡ c ++ s.back → Section w l
    go [] e r is = absurd (omega (arith, e.wide))
    go (x ∷ []) e r is = absurd (omega (arith, e.wide))
    go (x ∷ y ∷ z ∷ c) e r is = absurd (omega (arith, e.wide))
    go (x ∷ y ∷ []) e r is =
        let low : x < 256 = e.bytes 0 in
        let high : y < 256 = e.bytes 1 in
        let es = run_chain w (x + 256 * y) 0 s.back (omega arith) r in
        let n : length es.entries ≡ y * 256 + x = omega (arith, es.count) in
        record {
          entries = es.entries;
          few = omega arith;
          each = chain_each w 0 es.entries es.chain;
          rise = chain_rise w 0 es.entries es.chain;
          is = is ∙ sym (rw (n, digits_mod y low, digits_div y low, es.is));
        }
