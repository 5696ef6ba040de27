-- `names::Names::next`: the name ends at the first space, or with what is left.
use Rattle.std.proofs.Common.{length, rules, arith, ap, ◌∙◌, add-one}
use Rattle.std.proofs.lemmas.List.{take_rest}
use Rattle.names.specs.Run.{left_in}
use Rattle.names.proofs.Laws.{parted_at, parted_whole}
use Rattle.names.proofs.NamesIterator.next.Goals as goal

pub returns-in_err-rest-clause-steps : goal.returns-in_err-rest-clause-steps
unfolding left_in
returns-in_err-rest-clause-steps c =
    let none = ap left_in c.in_err-rest.was in
    rw c.from_residual.ensures (none, none)

pub returns-in-Some-clause-steps : goal.returns-in-Some-clause-steps
unfolding left_in
returns-in-Some-clause-steps c =
    let rest = c.in_ok-rest.rest.now in
    let split = parted_at rest c.in-Some.end (search rules) (search rules) (search rules) in
    ap left_in c.in_ok-rest.was ∙ split ∙ simp (take_rest, add-one)

pub returns-in-None-clause-steps : goal.returns-in-None-clause-steps
unfolding left_in
returns-in-None-clause-steps c =
    ap left_in c.in_ok-rest.was ∙ parted_whole c.in_ok-rest.rest.now (search rules)

-- a name less is left
pub returns-in-Some-clause-goes : goal.returns-in-Some-clause-goes
returns-in-Some-clause-goes c =
    record { on = λ _. (tt, tt, omega (arith, ap length (returns-in-Some-clause-steps c))); keeps = tt; rests = λ _. tt }

pub returns-in-None-clause-goes : goal.returns-in-None-clause-goes
returns-in-None-clause-goes c =
    record { on = λ _. (tt, tt, omega (arith, ap length (returns-in-None-clause-steps c))); keeps = tt; rests = λ _. tt }
