use Rattle.std.proofs.Common.{take}
use Rattle.hw_park.specs.Numbers.{HasRegistered}
use Rattle.hw_park.proofs.waits.register.Given as goal

-- the needs that are noted so far
abbrev pub invariant-loop-index : goal.invariant-loop-index
invariant-loop-index l = HasRegistered l.initial.waits.entries l.waits.entries (take l.index l.needs) l.place
