use Rattle.std.proofs.Common.{subst}
use Rattle.std.specs.String.{string_bytes}
use Rattle.hw_session.specs.Node.{NodeState, IsSound}
use Rattle.hw_session.proofs.node.Node.recall.Goals as goal

pub returns : goal.returns
returns c =
    let i = c.self.inside in
    let m : NodeState = record { core = i.core; keys = i.keys; log = string_bytes i.log; lasts = i.lasts; refused = i.refused; repeats = i.repeats; limited = i.limited; clash = i.clash } in
    let sound : IsSound m = record { kept = c.self.invariant; config = c.recall_core.ensures.config; vertices = c.recall_core.ensures.vertices } in
    subst IsSound c.self.view_is sound
