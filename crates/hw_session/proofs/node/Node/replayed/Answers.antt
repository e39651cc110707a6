use Rattle.std.proofs.Common.{sym, ap, subst}
use Rattle.hw_replay.specs.declared.replay.Replayed.{Replayed}
use Rattle.hw_replay.specs.Ends.{IsReached}
use Rattle.hw_session.proofs.StartLaws.{one_core, node_kept}
use Rattle.hw_session.proofs.node.Node.replayed.Goals as goal

pub invariant_of-result : goal.invariant_of-result
invariant_of-result c =
    let core = ap (λ (p : Replayed). p.core) c.into_parts-core.ensures in
    let is = one_core c.args.config.now c.config.result.now c.state.result.now.config c.into_parts-core.result.core c.config_is_in_range.ensures c.config_is_in_range-2.ensures c.config.ensures.config c.state.ensures.config c.requires.lawful c.config.ensures.lawful
    (rw core c.requires.wanted) in
    node_kept _ _ c.args.config.now is c.requires.lawful c.requires.keys (subst IsReached (sym core) c.requires.reached)

pub returns-clause-config : goal.returns-clause-config
returns-clause-config c =
    let core = ap (λ (p : Replayed). p.core) c.into_parts-core.ensures in
    one_core c.args.config.now c.config.result.now c.state.result.now.config c.into_parts-core.result.core c.config_is_in_range.ensures c.config_is_in_range-2.ensures c.config.ensures.config c.state.ensures.config c.requires.lawful c.config.ensures.lawful
    (rw core c.requires.wanted)
