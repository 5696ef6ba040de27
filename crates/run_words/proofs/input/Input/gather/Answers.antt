-- `gather`: up to the first newline, or all.
use Rattle.std.proofs.Common.{rules}
use Rattle.run_words.proofs.InputLaws.{gathered_line, gathered_all}
use Rattle.run_words.proofs.input.Input.gather.Goals as goal

pub returns-in-Some : goal.returns-in-Some
returns-in-Some c =
    let x = c.self.inside in
    gathered_line x.read x.from x.n c.self.view_is c.self.invariant.0 (search rules) (search rules) (search rules) c.extend.ensures

pub returns-in-None : goal.returns-in-None
returns-in-None c =
    let x = c.self.inside in
    gathered_all x.read x.from x.n c.self.view_is c.self.invariant.0 (search rules) c.extend-in-None.ensures
