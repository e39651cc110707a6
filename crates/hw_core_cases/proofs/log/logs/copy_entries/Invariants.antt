use Rattle.hw_doubles.specs.Memory.{mem_allowance}
use Rattle.hw_log.specs.Reader.{PlacesFit, ahead_of}
use Rattle.hw_core_cases.proofs.log.logs.copy_entries.Given as goal

abbrev pub invariant-entries : goal.invariant-entries
invariant-entries l = PlacesFit l.reader (mem_allowance l.files)

abbrev pub decreases-entries : goal.decreases-entries
decreases-entries l = ahead_of l.reader (mem_allowance l.files)
