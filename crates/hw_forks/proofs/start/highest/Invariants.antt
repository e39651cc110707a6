use Rattle.std.proofs.Common.{◌≤◌}
use Rattle.hw_types.specs.Below.{Among}
use Rattle.hw_forks.proofs.LoopLaws.{EachSoFar}
use Rattle.hw_forks.proofs.start.highest.Given as goal

abbrev pub invariant-loop-vote : goal.invariant-loop-vote
invariant-loop-vote l = Among l.top l.votes × EachSoFar (λ other. other.height ≤ l.top.height) l.votes l.vote-index
