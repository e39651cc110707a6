use Rattle.std.proofs.Common.{take}
use Rattle.hw_forks.proofs.MajorityLaws.{Leads}
use Rattle.hw_forks.proofs.majority.leading_at.Given as goal

abbrev pub invariant-loop-vote : goal.invariant-loop-vote
invariant-loop-vote l = Leads l.dag (take l.vote-index l.votes) l.height l.leader
