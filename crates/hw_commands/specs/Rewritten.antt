-- How a run ends that wrote nothing anew.
-- Source: ours.
use Rattle.std.specs.Prelude.{◌≡◌, ◌⊎◌, ℕ, List, codes, Option, Some, None}
use Rattle.hw_log.specs.declared.error.LogError.TheVariants as log
use Rattle.hw_log.specs.declared.fault.RewriteFault.{RewriteFault}
use Rattle.hw_log.specs.declared.fault.RewriteFault.TheVariants as rewrite
use Rattle.hw_commands.specs.declared.ended.Ended.{Ended}
use Rattle.hw_commands.specs.declared.ended.RunFault.{RunFault}
use Rattle.hw_commands.specs.declared.ended.RunFault.TheVariants.{Read, Append, OutOfMemory}
use Rattle.hw_commands.specs.Texts.{log_text, input_ended}

-- what is a fault of the outside
abbrev pub rewrite_fault_of : RewriteFault → Option RunFault
rewrite_fault_of rewrite.Exists = None
rewrite_fault_of (rewrite.Log log.ReadFault) = Some Read
rewrite_fault_of (rewrite.Log log.WriteFault) = Some Append
rewrite_fault_of (rewrite.Log log.OutOfMemory) = Some OutOfMemory
rewrite_fault_of (rewrite.Log e) = None

-- the line of what is none
abbrev pub unwritten_ended : List ℕ → List ℕ → RewriteFault → Ended
unwritten_ended old new rewrite.Exists = input_ended new (codes "exists")
unwritten_ended old new (rewrite.Log e) = input_ended old (log_text e)

-- it is that line
abbrev pub IsUnwritten : List ℕ → List ℕ → RewriteFault → Ended → Type 0
IsUnwritten old new fault ended = (ended ≡ unwritten_ended old new fault) × (rewrite_fault_of fault ≡ None)

-- it is that fault of the outside; or there was no memory for the line
abbrev pub IsFaultOf : RewriteFault → RunFault → Type 0
IsFaultOf fault f = (rewrite_fault_of fault ≡ Some f) ⊎ ((f ≡ OutOfMemory) × (rewrite_fault_of fault ≡ None))
