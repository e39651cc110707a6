use Rattle.std.proofs.Common.{sym, subst, ◌∙◌}
use Rattle.hw_dag.specs.declared.numbers.UnitNo.{UnitNo}
use Rattle.hw_horizon.specs.Kept.{AskedWalks, AreFences}
use Rattle.hw_horizon.specs.Starts.{IsWalked, votes_over}
use Rattle.hw_horizon.proofs.VoteLaws.{walked_first}
use Rattle.hw_horizon.proofs.votes.vote_start.Goals as goal
use Rattle.hw_horizon.proofs.votes.vote_start.Goals.{in-Some-walk, in-None}

pub returns-in-Some-clause-start : goal.returns-in-Some-clause-start
returns-in-Some-clause-start c = (c.requires.kept c.args.validator _ (sym c.get-walk.ensures ∙ c.in-Some.ensures)).start_is

pub start_below-requires-clause-near : goal.start_below-requires-clause-near
start_below-requires-clause-near c = elim c.match-walk.branch [
  | in-Some-walk w ↦ subst (λ (n : UnitNo). IsWalked c.args.dag.now c.args.tip.0 (votes_over c.args.dag.now c.args.block.0) n.0) (sym w.near-is)
      (walked_first c.args.dag.now c.requires.graph c.args.tip.0 c.requires.known c.args.block.0 (sym c.votes_for.ensures ∙ c.if-not-votes_for.false))
  | in-None w ↦ subst (λ (n : UnitNo). IsWalked c.args.dag.now c.args.tip.0 (votes_over c.args.dag.now c.args.block.0) n.0) (sym w.near-is) w.nearest-near.ensures.walked
]

pub start_below-requires-clause-kept : goal.start_below-requires-clause-kept
start_below-requires-clause-kept c = λ walk e. c.requires.kept c.args.validator walk (sym c.get-walk.ensures ∙ e)

pub returns-clause-fences : goal.returns-clause-fences
returns-clause-fences c = elim c.match-walk.branch [
  | in-Some-walk w ↦ subst (λ (k : AskedWalks). AreFences c.args.dag.now k.fences) (sym w.kept-is) c.requires.fences
  | in-None w ↦ subst (λ (k : AskedWalks). AreFences c.args.dag.now k.fences) (sym w.kept-is) w.nearest-near.ensures.fences
]
