use Rattle.hw_dag.specs.Lanes.{IsAncestor}
use Rattle.hw_forks.proofs.LoopLaws.{EachSoFar}
use Rattle.hw_forks.proofs.start.are_on_one_chain.Given as goal

abbrev pub invariant-loop-vote : goal.invariant-loop-vote
invariant-loop-vote l = EachSoFar (λ vote. IsAncestor l.dag vote.block.0 l.top.block.0) l.votes l.vote-index × IsAncestor l.dag l.known.0 l.top.block.0
