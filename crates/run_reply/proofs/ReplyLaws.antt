-- The reply to a line is what is said to its command. Assumes nothing.
use Prim.Native.Nat.{ℕ}
use native.Mathlib.Omega.{arith}
use mathlib.Core.Path.{◌≡◌, refl, sym, ap, ◌∙◌}
use mathlib.Core.List.{List, [], ◌∷◌}
use mathlib.Core.Bool.{Bool, true, false, cond, ◌||◌}
use lib.Dec.{ltb}
use lib.ListN.{length, take, length-take}
use Rattle.rules.specs.01-Lists.{bytes, any, same_bytes}
use Rattle.rules.specs.03-Names.{Name, blank, parted, names_in}
use Rattle.rules.specs.04-Schema.{Schema}
use Rattle.rules.specs.07-Picture.{picture}
use Rattle.rules.specs.14-Run.{Reply, says, says_object, obey, reply}
use Rattle.rules.specs.14-Run.{obey_sds, obey_import, obey_object, obey_remove, obey_desc, obey_depth, unreadable}
use Rattle.base.specs.Back.{schema_of}
use Rattle.std.specs.Prelude.{Option, Some, None}
use Rattle.run_command.specs.Command.{command_in, command_of}
use Rattle.run_command.specs.declared.Command.{Command}
use Rattle.run_command.specs.declared.Command.TheVariants.{Sds, Import, Object, Remove, Desc, Depth}
use Rattle.run_reply.specs.Reply.{Says, Replied}

-- ---- what a command asks for

unfoldable by_command : Option Command → List Name → Schema → Reply
by_command (Some Sds) ws s = obey_sds ws s
by_command (Some Import) ws s = obey_import ws s
by_command (Some Object) ws s = obey_object ws s
by_command (Some Remove) ws s = obey_remove ws s
by_command (Some Desc) ws s = obey_desc ws s
by_command (Some Depth) ws s = obey_depth ws s
by_command None ws s = unreadable s

-- the same tests pick what is obeyed and the command
picked : (ws : List Name) (s : Schema) (t₁ t₂ t₃ t₄ t₅ t₆ : Bool)
    → cond t₁ (obey_sds ws s) (cond t₂ (obey_import ws s) (cond t₃ (obey_object ws s)
    (cond t₄ (obey_remove ws s) (cond t₅ (obey_desc ws s) (cond t₆ (obey_depth ws s) (unreadable s))))))
    ≡ by_command (cond t₁ (Some Sds) (cond t₂ (Some Import) (cond t₃ (Some Object)
    (cond t₄ (Some Remove) (cond t₅ (Some Desc) (cond t₆ (Some Depth) None)))))) ws s
unfolding by_command
picked ws s true t₂ t₃ t₄ t₅ t₆ = refl
picked ws s false true t₃ t₄ t₅ t₆ = refl
picked ws s false false true t₄ t₅ t₆ = refl
picked ws s false false false true t₅ t₆ = refl
picked ws s false false false false true t₆ = refl
picked ws s false false false false false true = refl
picked ws s false false false false false false = refl

obey_is : (ws : List Name) (s : Schema) → obey ws s ≡ by_command (command_in ws) ws s
unfolding obey command_in
obey_is ws s =
    picked ws s (says (bytes "sds") 2 ws) (says (bytes "import") 4 ws) (says_object ws)
    (says (bytes "remove") 3 ws) (says (bytes "desc") 3 ws) (says (bytes "depth") 3 ws)

-- ---- a line, by its command

some_words : (line : List ℕ) (s : Schema) → parted line ≡ names_in line → reply line s ≡ by_command (command_of line) (names_in line) s
unfolding reply command_of by_command
some_words line s same = rw same (go (ltb 127 (length line) || any blank (names_in line)))
  where
    go : (t : Bool) → cond t (unreadable s) (obey (names_in line) s) ≡ by_command (cond t None (command_in (names_in line))) (names_in line) s
    go true = refl
    go false = obey_is (names_in line) s

reply_is : (line : List ℕ) (s : Schema) → reply line s ≡ by_command (command_of line) (names_in line) s
unfolding reply command_of command_in by_command parted names_in any same_bytes
reply_is [] s = refl
reply_is (c ∷ cs) s = some_words (c ∷ cs) s refl

-- ---- what is said to a command is the reply to its line

given_by : (line : List ℕ) (s : Schema) {k : Option Command} → command_of line ≡ k → by_command k (names_in line) s ≡ reply line s
given_by line s e = ap (λ (k : Option Command). by_command k (names_in line) s) (sym e) ∙ sym (reply_is line s)

module _ (line : List ℕ) {b b' out out' : List ℕ} {r : ℕ} where
  replied : {rule : Schema → Reply} → rule (schema_of b) ≡ reply line (schema_of b) → Says rule b b' out out' r → Replied b line b' out out' r
  replied {rule} e x = record {
    long = x.long;
    room = x.room;
    within = x.within;
    said = λ sound.
        let (text, next) = x.said sound in
        let whole = text ∙ ap (λ (y : Reply). y.line) e in
        let size : r ≡ length (take r out') = omega (arith, length-take r out', x.within) in
        (whole, size ∙ ap length whole, next ∙ ap (λ (y : Reply). picture y.next) e);
  }

  pub replied_sds : command_of line ≡ Some Sds → Says (obey_sds (names_in line)) b b' out out' r → Replied b line b' out out' r
  unfolding by_command
  replied_sds e x = replied (given_by line (schema_of b) e) x

  pub replied_import : command_of line ≡ Some Import → Says (obey_import (names_in line)) b b' out out' r → Replied b line b' out out' r
  unfolding by_command
  replied_import e x = replied (given_by line (schema_of b) e) x

  pub replied_object : command_of line ≡ Some Object → Says (obey_object (names_in line)) b b' out out' r → Replied b line b' out out' r
  unfolding by_command
  replied_object e x = replied (given_by line (schema_of b) e) x

  pub replied_remove : command_of line ≡ Some Remove → Says (obey_remove (names_in line)) b b' out out' r → Replied b line b' out out' r
  unfolding by_command
  replied_remove e x = replied (given_by line (schema_of b) e) x

  pub replied_desc : command_of line ≡ Some Desc → Says (obey_desc (names_in line)) b b' out out' r → Replied b line b' out out' r
  unfolding by_command
  replied_desc e x = replied (given_by line (schema_of b) e) x

  pub replied_depth : command_of line ≡ Some Depth → Says (obey_depth (names_in line)) b b' out out' r → Replied b line b' out out' r
  unfolding by_command
  replied_depth e x = replied (given_by line (schema_of b) e) x

  pub replied_unreadable : command_of line ≡ None → Says unreadable b b' out out' r → Replied b line b' out out' r
  unfolding by_command
  replied_unreadable e x = replied (given_by line (schema_of b) e) x
