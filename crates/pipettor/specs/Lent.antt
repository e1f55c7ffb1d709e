-- A controller whose two arrays are lent: the frame in hand and the text.
use Rattle.std.specs.Prelude.{ℕ, List}
use Rattle.machine.specs.Device.{device}
use Rattle.pipettor.specs.declared.Controller.{Controller}
use Rattle.pipettor.specs.declared.lent.Parts.{Parts}

abbrev pub whole : Parts → List ℕ → List ℕ → Controller
whole p frame text = record { address = p.address; line = p.line; frame = frame; device = device text p.tip p.core }
