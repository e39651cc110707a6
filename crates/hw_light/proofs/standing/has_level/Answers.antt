use Rattle.std.proofs.Common.{◌≡◌, ◌+◌, ◌≤◌, ℕ, sym, ap, subst, ◌∙◌, arith}
use Rattle.std.specs.Prelude.{sum}
use Rattle.hw_types.specs.declared.config.Config.{Config}
use Rattle.hw_horizon.proofs.LevelLaws.{quorum_limits}
use Rattle.hw_light.proofs.StandingLaws.{none_at_first, none_more, lacks_of, quorum_of_state}
use Rattle.hw_light.proofs.standing.has_level.Goals as goal

pub loop-below-init : goal.loop-below-init
loop-below-init c = record {
  none = none_at_first c.args.state.now c.args.block.0;
  walks = c.requires.fresh.walks c.dag-dag.result.now;
  validators = cc;
  levels = cc;
}

pub quorum-quorum-requires-clause-some : goal.quorum-quorum-requires-clause-some
quorum-quorum-requires-clause-some c =
    let total : c.total-total.result ≡ sum c.args.state.now.config.weights = c.total-total.ensures ∙ ap (λ (k : Config). sum k.weights) c.config-config.ensures.config in
    subst (λ (n : ℕ). 1 ≤ n) (sym total) (quorum_limits c.args.state.now.config c.config-config.ensures.lawful).0

pub quorum-quorum-requires-clause-below : goal.quorum-quorum-requires-clause-below
quorum-quorum-requires-clause-below c =
    let same = c.config-config.ensures.config in
    let total : c.total-total.result ≡ sum c.args.state.now.config.weights = c.total-total.ensures ∙ ap (λ (k : Config). sum k.weights) same in
    let ftt : c.config-config.result.now.ftt ≡ c.args.state.now.config.ftt = ap (λ (k : Config). k.ftt) same in
    let limits = quorum_limits c.args.state.now.config c.config-config.ensures.lawful in
    let below = limits.2 in
    omega arith

pub quorum-quorum-requires-clause-high : goal.quorum-quorum-requires-clause-high
quorum-quorum-requires-clause-high c =
    let limits = quorum_limits c.args.state.now.config c.config-config.ensures.lawful in
    let high = limits.4 in
    let levels : c.config-config.result.now.levels ≡ c.args.state.now.config.levels = ap (λ (k : Config). k.levels) c.config-config.ensures.config in
    let less = c.loop-below-test.true in
    let from = c.from-below-end.ensures in
    omega arith

pub loop-below-preserved : goal.loop-below-preserved
loop-below-preserved c =
    let state = c.args.state.now in
    let block = c.args.block.0 in
    let config = c.config-config.result.now in
    let level = c.loop-below.below + 1 in
    let q = c.quorum-quorum.result in
    let needed = quorum_of_state state block config c.config-config.ensures.config c.total-total.result level q c.total-total.ensures c.quorum-quorum.ensures in
    let lacks = lacks_of state block config c.dag-dag.result.now c.panorama-panorama.result.now c.config-config.ensures.config c.dag-dag.ensures.dag c.panorama-panorama.ensures.panorama level q
    (λ summit. let found = c.greatest.ensures.exact.1 summit in let none = c.if-greatest.false in absurd cc) in
    record {
      none = none_more state block c.loop-below.below q needed c.loop-below.invariant.none lacks;
      walks = c.greatest.ensures.walks;
      validators = c.greatest.ensures.validators ∙ c.loop-below.invariant.validators;
      levels = c.greatest.ensures.levels ∙ c.loop-below.invariant.levels;
    }
