use Rattle.std.proofs.Common.{take}
use Rattle.std.specs.List.{All}
use Rattle.hw_session.proofs.RecallLaws.{Keeps}
use Rattle.hw_session.proofs.recall.recall_core.Given as goal

abbrev pub invariant-loop-place : goal.invariant-loop-place
invariant-loop-place l = All Keeps (take l.place l.core.journal)
