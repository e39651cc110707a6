-- Errors of a log as faults of its replay.
use Rattle.hw_log.specs.declared.error.LogError.{LogError}
use Rattle.hw_log.specs.declared.error.LogError.TheVariants as log
use Rattle.hw_replay.specs.declared.fault.StartFault.{StartFault}
use Rattle.hw_replay.specs.declared.fault.StartFault.TheVariants as fault

-- want of memory is the same in both
abbrev pub fault_of : LogError → StartFault
fault_of log.OutOfMemory = fault.OutOfMemory
fault_of e = fault.Log e
