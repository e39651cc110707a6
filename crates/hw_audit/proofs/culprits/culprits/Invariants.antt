use Rattle.std.proofs.Common.{◌≤◌, List, sum, take}
use Rattle.hw_types.specs.Graph.{Node}
use Rattle.hw_audit.specs.Held.{HeldUnit}
use Rattle.hw_audit.specs.Twins.{AreNoted, AreShown}
use Rattle.hw_audit.specs.Shown.{ShowsFirst}
use Rattle.hw_audit.proofs.culprits.culprits.Given as goal

abbrev pub invariant-loop-validator : goal.invariant-loop-validator
invariant-loop-validator l = record {
  few : l.blamed.weight ≤ sum (take l.validator l.weights);
  shows : (units : List HeldUnit) (nodes : List Node) → AreNoted l.equivocations.twins.entries l.equivocations.least.items units → AreShown units nodes → ShowsFirst units nodes l.weights l.validator l.blamed;
}
