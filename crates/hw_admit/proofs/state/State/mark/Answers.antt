use Rattle.std.proofs.Common.{◌<◌, true, false, length, get_or-set_same, sym, subst, arith}
use Rattle.hw_admit.specs.State.{NodeState}
use Rattle.hw_admit.proofs.StateLaws.{is_state_marked, is_beside_marked}
use Rattle.hw_admit.proofs.state.State.mark.Goals as goal

pub invariant_of-self : goal.invariant_of-self
invariant_of-self c =
    let inside = subst (λ (s : NodeState). c.args.validator < length s.config.weights) (sym c.self.view_is) c.requires in
    (is_state_marked _ c.self.invariant.0 c.args.validator inside c.set.new.self c.set.ensures, is_beside_marked _ c.self.invariant.1)

pub returns-clause-observed : goal.returns-clause-observed
returns-clause-observed c =
    let inside = subst (λ (s : NodeState). c.args.validator < length s.config.weights) (sym c.self.view_is) c.requires in
    (is_state_marked _ c.self.invariant.0 c.args.validator inside c.set.new.self c.set.ensures).observed

pub returns-clause-told : goal.returns-clause-told
returns-clause-told c =
    let inside = subst (λ (s : NodeState). c.args.validator < length s.config.weights) (sym c.self.view_is) c.requires in
    let long = c.self.invariant.0.marked_length in
    get_or-set_same c.self.inside.marked.items c.args.validator true false (omega arith)
