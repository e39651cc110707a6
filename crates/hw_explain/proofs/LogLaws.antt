-- What is explained of a log, by how its replay begins.
use Rattle.std.proofs.Common.{ℕ, List, Option, Some, None, Result, Ok, Err, sym, subst}
use Rattle.hw_replay.specs.declared.fault.StartFault.{StartFault}
use Rattle.hw_replay.specs.declared.replay.Replay.{Replay}
use Rattle.hw_replay.specs.Taken.{Taken}
use Rattle.hw_replay.specs.Replay.{ahead_in, Begins}
use Rattle.hw_explain.specs.Logs.{ExplainsAll, Explains}

pub explains_all : (file : Option (List ℕ)) (unread : List ℕ) (r : Replay) (result : Result (List ℕ) StartFault) → Begins None file unread (Ok r) → ExplainsAll (ahead_in r unread) result → Explains file result
explains_all (Some bytes) unread r result begins all = subst (λ (said : Result Taken StartFault). ExplainsAll said result) (sym begins) all
explains_all None unread r result begins all = absurd begins

pub begins_not : (file : Option (List ℕ)) (unread : List ℕ) (e : StartFault) → Begins None file unread (Err e) → Explains file (Err e)
begins_not (Some bytes) unread e stops = stops
begins_not None unread e outside = outside
