use Rattle.std.proofs.Common.{◌≡◌, ◌<◌, true, sym, ap, subst, ◌∙◌}
use Rattle.hw_types.specs.Votes.{is_block}
use Rattle.hw_dag.specs.declared.numbers.UnitNo.{UnitNo}
use Rattle.hw_dag.specs.Dag.{SettledUnit, unit_at, count_of, node_at}
use Rattle.hw_forks.specs.Walk.{is_over}
use Rattle.hw_horizon.proofs.VoteLaws.{vote_known, vote_block}
use Rattle.hw_horizon.proofs.votes.votes_for.Goals as goal

pub is_over-requires-clause-known : goal.is_over-requires-clause-known
is_over-requires-clause-known c =
    let vote : (unit_at c.args.dag.now c.args.no.0).vote ≡ c.vote.result = sym (c.vote.ensures ∙ ap (λ (u : SettledUnit). u.vote) c.unit.ensures) in
    subst (λ (no : UnitNo). no.0 < count_of c.args.dag.now) vote (vote_known c.args.dag.now c.requires.graph c.args.no.0 c.requires.known)

pub is_over-requires-clause-high : goal.is_over-requires-clause-high
is_over-requires-clause-high c =
    let vote : (unit_at c.args.dag.now c.args.no.0).vote ≡ c.vote.result = sym (c.vote.ensures ∙ ap (λ (u : SettledUnit). u.vote) c.unit.ensures) in
    subst (λ (no : UnitNo). is_block (node_at c.args.dag.now no.0) ≡ true) vote (vote_block c.args.dag.now c.requires.graph c.args.no.0 c.requires.known)

pub returns : goal.returns
returns c = c.is_over.ensures ∙ ap (λ (no : UnitNo). is_over c.args.dag.now c.args.block.0 no.0) (c.vote.ensures ∙ ap (λ (u : SettledUnit). u.vote) c.unit.ensures)
