use Rattle.std.proofs.Common.{◌≡◌, ◌<◌, true, false, length, sym, subst}
use Rattle.hw_dag.specs.Dag.{graph}
use Rattle.hw_admit.specs.State.{NodeState, is_faulty_in}
use Rattle.hw_admit.proofs.StateLaws.{is_faulty_seen, not_faulty_seen}
use Rattle.hw_admit.proofs.state.State.is_faulty.Goals as goal

pub returns-in-Faulty : goal.returns-in-Faulty
returns-in-Faulty c =
    let inside = subst (λ (s : NodeState). c.args.validator < length s.config.weights) (sym c.self.view_is) c.requires in
    subst (λ (s : NodeState). true ≡ is_faulty_in s.marked (graph s.dag) c.args.validator) c.self.view_is
    (is_faulty_seen _ c.self.invariant.0 c.args.validator inside c.get.result c.get.ensures c.in-Faulty.is)

pub returns-in_default : goal.returns-in_default
returns-in_default c =
    let inside = subst (λ (s : NodeState). c.args.validator < length s.config.weights) (sym c.self.view_is) c.requires in
    subst (λ (s : NodeState). false ≡ is_faulty_in s.marked (graph s.dag) c.args.validator) c.self.view_is
    (not_faulty_seen _ c.self.invariant.0 c.args.validator inside c.get.result c.get.ensures c.in_default.not-Faulty)
