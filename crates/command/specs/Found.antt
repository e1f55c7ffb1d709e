-- A command and the place after it, or nothing where the text ends; or a refusal.
use Rattle.std.specs.Prelude.{ℕ, Option, Result}
use Rattle.command.specs.declared.refusal.Misread.{Misread}
use Rattle.command.specs.declared.Command.{Command}

abbrev pub Found : Type 0
Found = Result (Option (Command × ℕ)) Misread
