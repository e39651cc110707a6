use Rattle.std.proofs.Common.{◌≡◌, List, true, length, arith, sym, ap, subst, ◌∙◌}
use Rattle.std.specs.Option.{option_map}
use Rattle.hw_types.specs.declared.unit.Obs.{Obs}
use Rattle.hw_types.specs.Votes.{fork_of}
use Rattle.hw_dag.specs.declared.numbers.UnitNo.{UnitNo}
use Rattle.hw_dag.specs.declared.numbers.View.{View}
use Rattle.hw_dag.specs.Dag.{graph, node_at}
use Rattle.hw_dag.specs.Admission.{IsFork, IsResolved}
use Rattle.hw_rules.specs.Judged.{KeepsLocalRules}
use Rattle.hw_admit.specs.declared.kept.CachedForkChoice.{CachedForkChoice}
use Rattle.hw_admit.specs.Kept.{IsKept}
use Rattle.hw_admit.specs.State.{NodeState}
use Rattle.hw_admit.proofs.RuleLaws.{sound}
use Rattle.hw_admit.proofs.state.State.judge.Goals as goal

pub keep-requires-clause-other : goal.keep-requires-clause-other
keep-requires-clause-other c =
    let alone = subst (λ (s : NodeState). KeepsLocalRules s.config c.args.prepared.now.signed.unit) (sym c.self.view_is) c.requires.alone in
    let resolved = subst (λ (s : NodeState). IsResolved s.dag c.args.prepared.now) (sym c.self.view_is) c.requires.resolved in
    let is = sound c.self.inside.config c.self.inside.dag c.validators.ensures.graph c.self.invariant.0.weights_are.length_is c.args.prepared.now alone resolved c.in_ok-fork.ensures.kept in
    ap length c.panorama.ensures ∙ is.length_is ∙ sym c.validators.ensures.validators

pub invariant_of-self-2 : goal.invariant_of-self-2
invariant_of-self-2 c =
    let p = c.args.prepared.now in
    let dag = c.self.inside.dag in
    let weights = c.self.inside.config.weights in
    let alone = subst (λ (s : NodeState). KeepsLocalRules s.config c.args.prepared.now.signed.unit) (sym c.self.view_is) c.requires.alone in
    let resolved = subst (λ (s : NodeState). IsResolved s.dag c.args.prepared.now) (sym c.self.view_is) c.requires.resolved in
    let is = sound c.self.inside.config dag c.validators.ensures.graph c.self.invariant.0.weights_are.length_is p alone resolved c.in_ok-fork.ensures.kept in
    let beside = c.self.invariant.1 in
    let kept : CachedForkChoice = record { panorama = p.panorama; fork = c.in_ok-fork.fork; is_known = true } in
    let same : c.keep.new.self ≡ kept = c.keep.ensures ∙ ap (λ (ws : List View). record { panorama = ws; fork = c.in_ok-fork.fork; is_known = true }) c.panorama.ensures in (
      c.self.invariant.0,
      record {
        leaders_are = beside.leaders_are;
        weights_are = beside.weights_are;
        noted = beside.noted;
        all = beside.all;
        dag_serves = beside.dag_serves;
        naivety_serves = beside.naivety_serves;
        forks_serve = let room = c.judge.ensures.forks in let had = beside.forks_serve in omega arith;
        marks_serve = let room = c.judge.ensures.marks in let had = beside.marks_serve in omega arith;
        own_kept = beside.own_kept;
        judged_kept = subst (λ (k : CachedForkChoice). IsKept weights dag k) (sym same) record {
          length_is = is.length_is;
          choice = λ t. record {
            panorama_is = is;
            fork_is = subst (λ (os : List Obs). option_map (λ (number : UnitNo). node_at dag number.0) c.in_ok-fork.fork ≡ fork_of weights (graph dag) os) (sym resolved.observes) c.in_ok-fork.ensures.fork;
            block = subst (λ (os : List Obs). IsFork dag os c.in_ok-fork.fork) (sym resolved.observes) c.in_ok-fork.ensures.is_fork;
          };
        };
      },
    )
