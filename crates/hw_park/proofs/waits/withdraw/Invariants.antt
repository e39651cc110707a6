use Rattle.std.proofs.Common.{ℕ, List, take}
use Rattle.std.specs.declared.vec.Vec.{Vec}
use Rattle.std.specs.declared.alloc.Global.{Global}
use Rattle.hw_park.specs.declared.key.NeedKey.{NeedKey}
use Rattle.hw_park.specs.Numbers.{HasRegistered}
use Rattle.hw_park.proofs.waits.withdraw.Given as goal

-- the needs that are still noted
abbrev pub invariant-loop-index : goal.invariant-loop-index
invariant-loop-index l = (before : List (NeedKey × Vec ℕ Global)) (place : ℕ) → HasRegistered before l.initial.waits.entries l.needs place → HasRegistered before l.waits.entries (take l.index l.needs) place
