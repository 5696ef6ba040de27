-- The command that a line gives, none where it is unreadable.
use Rattle.std.specs.Prelude.{List, ℕ, Option, Some, None, cond, ◌||◌, ltb, length}
use Rattle.rules.specs.01-Lists.{bytes, any}
use Rattle.rules.specs.03-Names.{Name, blank, names_in}
use Rattle.rules.specs.14-Run.{says, says_object}
use Rattle.run_command.specs.declared.Command.{Command}
use Rattle.run_command.specs.declared.Command.TheVariants.{Sds, Import, Object, Remove, Desc, Depth}

-- in the order of 14-Run
unfoldable pub command_in : List Name → Option Command
command_in ws =
    cond (says (bytes "sds") 2 ws) (Some Sds) (cond (says (bytes "import") 4 ws) (Some Import) (cond (says_object ws) (Some Object)
    (cond (says (bytes "remove") 3 ws) (Some Remove) (cond (says (bytes "desc") 3 ws) (Some Desc)
    (cond (says (bytes "depth") 3 ws) (Some Depth) None)))))

unfoldable pub command_of : List ℕ → Option Command
command_of line = cond (ltb 127 (length line) || any blank (names_in line)) None (command_in (names_in line))
