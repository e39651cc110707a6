use Rattle.std.proofs.Common.{◌≡◌, ℕ, None, Option, subst, sym, ap, ◌∙◌}
use Rattle.hw_types.specs.declared.unit.SignedUnit.{SignedUnit}
use Rattle.hw_dag.specs.declared.numbers.UnitNo.{UnitNo}
use Rattle.hw_dag.specs.Dag.{SettledUnit, unit_at, seq_of}
use Rattle.hw_horizon.specs.Starts.{IsLeastStart, IsEarlierVote, votes_over}
use Rattle.hw_horizon.proofs.VoteLaws.{walked_more, walked_down, walked_start, walked_known}
use Rattle.hw_horizon.proofs.votes.start_below.Goals as goal

pub loop-before-smaller : goal.loop-before-smaller
loop-before-smaller c = walked_down c.args.dag.now c.requires.graph c.args.tip.0 c.requires.known c.args.block.0 c.loop-before.first.0 c.in-Some.before c.loop-before.invariant c.in-Some.ensures

pub loop-before-preserved : goal.loop-before-preserved
loop-before-preserved c = walked_more c.args.dag.now c.requires.graph c.args.tip.0 c.requires.known c.args.block.0 c.loop-before.first.0 c.in-Some.before c.loop-before.invariant c.in-Some.ensures

pub returns : goal.returns
returns c =
    let last : c.signed.result.now.unit.seq ≡ seq_of (unit_at c.args.dag.now c.loop-before.first.0) = ap (λ (s : SignedUnit). s.unit.seq) (c.signed.ensures ∙ ap (λ (u : SettledUnit). u.signed) c.unit.ensures) in
    let none : IsEarlierVote c.args.dag.now c.loop-before.first.0 c.args.block.0 None = subst (λ (o : Option UnitNo). IsEarlierVote c.args.dag.now c.loop-before.first.0 c.args.block.0 o) c.in_default.is c.earlier_vote.ensures in
    let start : IsLeastStart c.args.dag.now c.args.tip.0 0 (votes_over c.args.dag.now c.args.block.0) (seq_of (unit_at c.args.dag.now c.loop-before.first.0)) =
    walked_start c.args.dag.now c.requires.graph c.args.tip.0 c.requires.known c.args.block.0 c.loop-before.first.0 c.loop-before.invariant none in
    subst (λ (n : ℕ). IsLeastStart c.args.dag.now c.args.tip.0 0 (votes_over c.args.dag.now c.args.block.0) n) (sym last) start

pub returns-in-Some-start_at : goal.returns-in-Some-start_at
returns-in-Some-start_at c =
    let known = c.requires.kept _ c.in-Some-start_at.ensures in
    walked_known c.args.dag.now c.requires.graph c.args.tip.0 c.requires.known c.args.block.0 c.loop-before.first.0 c.in-Some-start_at.start c.loop-before.invariant known.start_is
