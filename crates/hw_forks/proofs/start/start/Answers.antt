use Rattle.std.proofs.Common.{inr, refl}
use Rattle.hw_dag.specs.Lanes.{itself}
use Rattle.hw_forks.proofs.StartLaws.{chain_passed}
use Rattle.hw_forks.proofs.MajorityLaws.{place_majority, place_passed, top_none}
use Rattle.hw_forks.proofs.BranchLaws.{common_lower}
use Rattle.hw_forks.proofs.start.start.Goals as goal

pub returns-then-are_on_one_chain-clause-passed : goal.returns-then-are_on_one_chain-clause-passed
returns-then-are_on_one_chain-clause-passed c =
    let top = c.highest-top.result in
    let among = c.highest-top.ensures.among in
    chain_passed c.args.dag.now c.args.votes.now c.requires.votes top.block.0 (record {
      known = (c.requires.votes.each top among).known;
      block = (c.requires.votes.each top among).block;
      some = (top, among, itself);
      line = λ vote m. inr (c.if-are_on_one_chain.ensures refl vote m);
    })

pub returns-then-are_on_one_chain-clause-up : goal.returns-then-are_on_one_chain-clause-up
returns-then-are_on_one_chain-clause-up c = common_lower c.args.dag.now c.requires.votes.graph c.args.votes.now c.args.place c.highest-top.result c.highest-top.ensures.among (c.requires.votes.each c.highest-top.result c.highest-top.ensures.among) c.requires.place

pub returns-then-are_on_one_chain-clause-highest : goal.returns-then-are_on_one_chain-clause-highest
returns-then-are_on_one_chain-clause-highest c = top_none c.args.dag.now c.requires.votes.graph c.args.votes.now c.requires.votes c.highest-top.result c.highest-top.ensures.among c.highest-top.ensures.highest

pub majority_block-requires-clause-place : goal.majority_block-requires-clause-place
majority_block-requires-clause-place c = place_majority c.args.dag.now c.requires.votes.graph c.args.votes.now c.requires.votes c.requires.some c.args.place c.requires.place

pub returns-clause-passed : goal.returns-clause-passed
returns-clause-passed c = place_passed c.args.dag.now c.requires.votes.graph c.args.votes.now c.requires.votes c.majority_block.result c.majority_block.ensures.majority
