-- The refusal of a run that asks for too many ticks.
use Rattle.machine.specs.declared.S3.{S3}

abbrev pub s3 : S3
s3 = record {}
