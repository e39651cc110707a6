-- A state begins with nothing in it.
use Rattle.std.proofs.Common.{length, ap, ◌∙◌, arith}
use Rattle.hw_types.proofs.LimitLaws.{within_limits}
use Rattle.hw_endorse.specs.Told.{Told}
use Rattle.hw_admit.proofs.StartLaws.{is_state_start}
use Rattle.hw_admit.proofs.state.begin.Goals as goal

pub overflow_cast-validators : goal.overflow_cast-validators
overflow_cast-validators c = let few = (within_limits c.args.config c.requires).few in let long = c.len-validators.ensures in omega arith

pub invariant_of-result : goal.invariant_of-result
invariant_of-result c =
    let many = c.len-validators.ensures in
    let count = ap length c.in_ok-dag.ensures.empty in
    let none = c.in_ok-leaders.ensures.none in (
      is_state_start c.args.config c.requires c.in_ok-dag.dag c.in_ok-dag.ensures.graph c.in_ok-dag.ensures.empty (c.in_ok-dag.ensures.validators ∙ many) c.len-validators.result many
          c.in_ok-dag.marked.items c.in_ok-dag.ensures.marked c.in_ok-dag.panorama c.in_ok-dag.ensures.panorama 0 c.in_ok-leaders.endorsements.pairs,
      record {
        leaders_are = c.in_ok-leaders.ensures.leaders;
        weights_are = ap (λ (t : Told). t.weights) c.in_ok-leaders.ensures.endorsements;
        noted = c.in_ok-leaders.ensures.noted c.in_ok-dag.dag c.in_ok-dag.ensures.validators;
        all = omega arith;
        dag_serves = omega arith;
        naivety_serves = omega arith;
        forks_serve = let room = c.in_ok-forks.ensures in let many = c.in_ok-dag.ensures.validators in omega arith;
        marks_serve = omega arith;
        own_kept = c.in_ok-own_fork.ensures.own c.args.config.weights c.in_ok-dag.dag c.in_ok-dag.ensures.validators;
        judged_kept = c.in_ok-own_fork.ensures.judged c.args.config.weights c.in_ok-dag.dag c.in_ok-dag.ensures.validators;
      },
    )
