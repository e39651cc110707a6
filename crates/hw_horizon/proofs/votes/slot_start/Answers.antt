use Rattle.std.proofs.Common.{List, Option, set, ap, sym, subst, ◌∙◌}
use Rattle.hw_horizon.specs.declared.fences.Fence.{Fence}
use Rattle.hw_horizon.specs.Kept.{AskedWalks, AreFences, walk_from}
use Rattle.hw_horizon.proofs.WalkLaws.{walks_more}
use Rattle.hw_horizon.proofs.votes.slot_start.Goals as goal

pub returns-in-Correct-clause-kept : goal.returns-in-Correct-clause-kept
returns-in-Correct-clause-kept c =
    walks_more c.args.dag.now c.args.block.0 c.args.kept.now c.keep.new.self c.args.validator c.in-Correct.tip c.vote_start-start.result c.requires.within c.requires.kept
    (c.keep.ensures.walks ∙ ap (λ (k : AskedWalks). set k.walks c.args.validator (walk_from c.in-Correct.tip c.vote_start-start.result)) c.vote_start-start.ensures.rest)
    (c.requires.known c.in-Correct.tip c.in-Correct.is) c.vote_start-start.ensures.start

pub returns-in-Correct-clause-fences : goal.returns-in-Correct-clause-fences
returns-in-Correct-clause-fences c = subst (λ (fs : List (Option Fence)). AreFences c.args.dag.now fs) (sym c.keep.ensures.fences) c.vote_start-start.ensures.fences
