-- `graph::is_acyclic`: with all types settled there is no ring.
use Rattle.std.proofs.Common.{◌≡◌, ◌-◌, ◌<◌, ◌≤◌, ℕ, Bool, true, false, eqb, refl, sym, ◌∙◌, arith}
use Rattle.std.proofs.lemmas.Bool.{false≢true}
use borrow.Author.Tests.{eqb-true, eqb-false}
use Rattle.rules.specs.04-Schema.{Schema}
use Rattle.rows.proofs.Decides.{decides_yes}
use Rattle.graph.specs.Graph.{Settled}
use Rattle.graph.proofs.Laws.{falling_acyclic, all_grounded}
use Rattle.graph.proofs.is_acyclic.Goals as goal

pub returns-then-falls : goal.returns-then-falls
returns-then-falls c = decides_yes (falling_acyclic (c.requires.falling c.if-falls.true))

pub loop-t-init : goal.loop-t-init
loop-t-init c = record {
  grounded = λ k e. absurd (false≢true (sym (c.empty-settled.ensures k) ∙ e));
  passed = λ k h l. absurd (omega arith);
}

pub settle-requires-clause-grounded : goal.settle-requires-clause-grounded
settle-requires-clause-grounded c = c.loop-t.invariant.grounded

-- t and those behind it
settled_from : {s : Schema} {p q : ℕ → Bool} (t : ℕ) → Settled s p (t - 1) q → ((k : ℕ) → k < 128 → t ≤ k → p k ≡ true)
    → (k : ℕ) → k < 128 → t - 1 ≤ k → q k ≡ true
settled_from {q = q} t more passed k h l = go (eqb k (t - 1)) refl
  where
    go : (b : Bool) → eqb k (t - 1) ≡ b → q k ≡ true
    go true e = rw (eqb-true k (t - 1) e) more.here
    go false e = let other = eqb-false k (t - 1) e in more.kept k (passed k h (omega arith))

pub loop-t-preserved : goal.loop-t-preserved
loop-t-preserved c =
    let more = c.in-Some.ensures in
    record { grounded = more.grounded; passed = settled_from c.loop-t.t more c.loop-t.invariant.passed }

pub returns : goal.returns
returns c =
    let l = c.loop-t in
    decides_yes (all_grounded _ (λ k h. l.invariant.grounded k (l.invariant.passed k h (omega arith))))
