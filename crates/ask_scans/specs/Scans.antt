-- The sets behind the scans.
use Rattle.std.specs.Prelude.{ℕ, ◌≡◌, List, [], ◌∷◌, Bool, true, false, ◌&&◌, get_or}
use Rattle.rules.specs.01-Lists.{among}
use Rattle.rules.specs.04-Schema.{Schema}
use Rattle.rules.specs.08-Working.{visible, upward, object_scans, link_scans}
use Rattle.type_set.specs.Set.{has}
use Rattle.ask_scans.specs.declared.scan.Profile.{Profile}

-- whether k is listed by that code, but for its being visible
abbrev pub object_scan : Schema → List ℕ → ℕ → ℕ → ℕ → Bool
object_scan s w t code = get_or (object_scans s w t) code (λ k. false)

abbrev pub link_scan : Schema → List ℕ → ℕ → ℕ → ℕ → Bool
link_scan s w t code = get_or (link_scans s w t) code (λ k. false)

-- the type, and with "all" its ancestors
abbrev pub sources : Schema → Bool → ℕ → List ℕ
sources s true t = upward s t
sources s false t = t ∷ []

-- p is what is visible of the scan, under every working schema whose SDSs are these
pub record Scanned (s : Schema) (sdss : ℕ → Bool) (scan : List ℕ → ℕ → Bool) (p : ℕ → Bool) : Type 0 where
  pub is : (w : List ℕ) → ((d : ℕ) → sdss d ≡ among w d) → (k : ℕ) → p k ≡ visible s w k && scan w k

-- the scans of a profile: ancestor, attribute-all and link-origin-all
pub record Profiled (s : Schema) (sdss : ℕ → Bool) (t : ℕ) (r : Profile) : Type 0 where
  pub ancestors : Scanned s sdss (λ w. object_scan s w t 3) (has r.ancestors)
  pub attributes : Scanned s sdss (λ w. object_scan s w t 5) (has r.attributes)
  pub links : Scanned s sdss (λ w. object_scan s w t 7) (has r.links)
