use Rattle.line.proofs.Answering.{closes_dt, closes_oem}
use Rattle.line.proofs.Framing.close.Goals as goal

pub returns-in-Dt : goal.returns-in-Dt
returns-in-Dt c = closes_dt _ _ _ _ _ c.requires c.in-Dt.is c.lay.ensures

pub returns-in-Oem : goal.returns-in-Oem
returns-in-Oem c = closes_oem _ _ _ _ _ c.requires _ c.in-Oem.is c.sum-before.ensures c.lay-in-Oem.ensures
