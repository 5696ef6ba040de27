-- DEMAND 3: from a fresh base or one read in, any sequence of calls gives the base that the rules give, and that base is good; the list
-- of descendants holds every visible descendant once. On bytes it takes the contracts as its only premises (`Runs`, 13-History). Assumes nothing.
use Prim.Native.Nat.{ℕ}
use mathlib.Core.Path.{◌≡◌, refl, ap, ◌∙◌, subst}
use mathlib.Core.List.{List}
use lib.ListN.{length}
use Rattle.rules.specs.declared.Answer.{Answer}
use Rattle.rules.specs.04-Schema.{Schema}
use Rattle.rules.specs.06-Good.{Good}
use Rattle.rules.specs.07-Picture.{picture}
use Rattle.rules.specs.09-Refusals.{Outcome}
use Rattle.rules.specs.09-Refusals.Outcome.{refused, done}
use Rattle.rules.specs.12-Contracts.{base_after}
use Rattle.rules.specs.13-History.{Call, Allowed, Runs, Begun, Demand3, change_rule, next, after, after_all}
use Rattle.rules.specs.13-History.Reading.{accepted, not_accepted}
use Rattle.rules.specs.13-History.Call.{begin_fresh, change, ask, read}
use Rattle.rules.specs.13-History.Runs.{stop, step}
use Rattle.rules.specs.13-History.Begun.{freshened, read_in}
use Rattle.rules.proofs.06-Good.{fresh_good}
use Rattle.rules.proofs.07-Picture.{picture_length}
use Rattle.rules.proofs.12-Contracts.{written_read, read_done, refused_read}
use Rattle.history.proofs.All.{call_keeps, calls_keep}
use Rattle.history.proofs.Numbers.{allowed_not_1}
use Rattle.history.proofs.Theorems.{list_whole}

module _ {s : Schema} (g : Good s) {b : List ℕ} (shown : b ≡ picture s) where
  base_then : (o : Outcome Schema) → base_after b o ≡ picture (next s o)
  base_then (refused n value) = shown
  base_then (done one two three s') = refl

  -- whatever a function does within its contract, the bytes that it leaves are those of the schema that the rule gives
  pub call_shows : (c : Call) (answer : Answer) (b' : List ℕ) → Allowed c b answer b' → b' ≡ picture (after s c)
  call_shows begin_fresh answer b' k = (k.written (ap length shown ∙ picture_length s)).1
  call_shows (change c) answer b' k = (k.kept s g shown).1 ∙ base_then (change_rule c s)
  call_shows (ask q) answer b' k = k.0 ∙ shown
  call_shows (read file (accepted s' w)) answer b' k = (written_read (ap length shown ∙ picture_length s) w k).1
  call_shows (read file (not_accepted n)) answer b' k = refused_read k (λ z. let (s', w, _) = read_done k z in n s' w) ∙ shown

pub runs_show : (s : Schema) → Good s → {b b' : List ℕ} {cs : List Call} → b ≡ picture s → Runs b cs b' → b' ≡ picture (after_all s cs)
unfolding after_all
runs_show s g shown stop = shown
runs_show s g shown (step {b' = b'} c answer k more) = runs_show (after s c) (call_keeps c s g) (call_shows g shown c answer b' k) more

-- what was begun with is good, the bytes show it, and it stays good
begun_good : {s : Schema} {b : List ℕ} → Begun s b → Good s
begun_good (freshened before l answer k) = fresh_good
begun_good (read_in before l file w answer k) = w.good

begun_shows : {s : Schema} {b : List ℕ} → Begun s b → b ≡ picture s
begun_shows (freshened before l answer k) = (k.written l).1
begun_shows (read_in before l file w answer k) = (written_read l w k).1

begun_keeps : {s : Schema} {b : List ℕ} → Begun s b → (cs : List Call) → Good (after_all s cs)
begun_keeps {s} begun cs = calls_keep cs s (begun_good begun)

pub demand_3 : Demand3
demand_3 = record {
  good = begun_keeps;
  bytes = λ {s} begun cs b r. runs_show s (begun_good begun) (begun_shows begun) r;
  never_1 = λ {s} begun cs b r c answer b' k.
      allowed_not_1 (after_all s cs) (begun_keeps begun cs) c answer b'
      (subst (λ (x : List ℕ). Allowed c x answer b') (runs_show s (begun_good begun) (begun_shows begun) r) k);
  descendants = λ begun cs w t. list_whole (begun_keeps begun cs) w t;
}
