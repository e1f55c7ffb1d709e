-- That something is refused, and why; or not.
use Rattle.std.specs.Prelude.{Result}
use Rattle.command.specs.declared.refusal.Refusal.{Refusal}

abbrev pub Verdict : Type 0
Verdict = Result Unit Refusal
