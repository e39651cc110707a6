use Rattle.std.proofs.Common.{◌≡◌, ℕ, ◌<◌, subst, ap, ◌∙◌}
use Rattle.hw_types.specs.declared.unit.SignedUnit.{SignedUnit}
use Rattle.hw_dag.specs.Dag.{SettledUnit, unit_at, seq_of}
use Rattle.hw_horizon.proofs.FirstLaws.{lane_from, lane_ends}
use Rattle.hw_horizon.proofs.firsts.first_from.Goals as goal

pub returns-then-start-signed : goal.returns-then-start-signed
returns-then-start-signed c = lane_from c.args.dag.now c.requires.graph c.args.tip.0 c.args.start c.unit_on_lane.result.0 c.requires.known c.unit_on_lane.ensures

pub returns-else-start-signed : goal.returns-else-start-signed
returns-else-start-signed c =
    let last : c.signed.result.now.unit.seq ≡ seq_of (unit_at c.args.dag.now c.args.tip.0) = ap (λ (s : SignedUnit). s.unit.seq) (c.signed.ensures ∙ ap (λ (u : SettledUnit). u.signed) c.unit.ensures) in
    lane_ends c.args.dag.now c.requires.graph c.args.tip.0 c.args.start c.requires.known (subst (λ (n : ℕ). n < c.args.start) last c.if-start-signed.false)
