use Rattle.std.proofs.Common.{◌≡◌, ap, subst, ◌∙◌}
use Rattle.hw_types.specs.declared.unit.Digest.{Digest}
use Rattle.hw_dag.specs.Dag.{SettledUnit, unit_at, count_of}
use Rattle.hw_needs.specs.Forks.{StandsAt, IsAbove}
use Rattle.hw_needs.proofs.NotedLaws.{stands_last}
use Rattle.hw_needs.proofs.AboveLaws.{above_more, least_known}
use Rattle.hw_needs.proofs.forks.with_unit.Goals as goal

pub lower-requires-clause-known : goal.lower-requires-clause-known
lower-requires-clause-known c = least_known c.args.dag.now c.args.creator c.args.seq c.args.bound c.args.no.0 c.requires.known c.args.least c.requires.least

pub returns : goal.returns
returns c =
    let at : StandsAt c.args.dag.now (count_of c.args.dag.now) c.args.creator c.args.seq c.args.no.0 = c.stands_at.ensures.0 c.if-not-stands_at.false in
    let name : c.digest.result.now ≡ (unit_at c.args.dag.now c.args.no.0).digest = c.digest.ensures ∙ ap (λ (u : SettledUnit). u.digest) c.unit.ensures in
    let above : IsAbove c.args.bound (unit_at c.args.dag.now c.args.no.0).digest = subst (λ (d : Digest). IsAbove c.args.bound d) name (c.is_above.ensures.0 c.if-not-is_above.false) in
    above_more c.args.dag.now c.recall_graph.ensures c.args.creator c.args.seq c.args.bound c.args.no.0 c.requires.known c.args.least c.lower.result
    (stands_last c.args.dag.now c.args.no.0 c.args.creator c.args.seq at.creator_is at.seq_is) above c.lower.ensures c.requires.least
