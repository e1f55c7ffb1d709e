-- What holds of every controller that comes from making and earlier calls: the one premise of its methods.
use Rattle.machine.specs.Valid as Machine
use Rattle.pipettor.specs.declared.Controller.{Controller}

pub record Valid (k : Controller) : Type 0 where
  pub core : Machine.Valid k.device.core
