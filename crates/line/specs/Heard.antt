-- What a byte leaves of a receiver, of either framing.
use Rattle.line.specs.declared.Heard.{Heard}
use Rattle.line.specs.declared.Deed.TheVariants.{Nothing}

-- the receiver goes on and nothing else happens: "All of these are silent."
abbrev pub waits : {R : Type 0} → R → Heard R
waits r = record { line = r; deed = Nothing }
