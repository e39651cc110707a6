use Rattle.std.specs.String.{string_bytes}
use Rattle.hw_session.specs.Node.{NodeState}
use Rattle.hw_session.proofs.AcceptLaws.{kept_after, take_accepts, take_writes, refuse_accepts, refuse_writes}
use Rattle.hw_session.proofs.node.Node.accept.Goals as goal

pub invariant_of-self : goal.invariant_of-self
invariant_of-self g c =
    let i = c.self.inside in
    let m : NodeState = record { core = i.core; keys = i.keys; log = string_bytes i.log; lasts = i.lasts; refused = i.refused; repeats = i.repeats; limited = i.limited; clash = i.clash } in
    kept_after m c.args.vertex c.in_ok-judged.judged.verdict c.deliver_judged.new.core c.self.invariant c.requires c.in-Ok.ensures.journal

pub returns-in-Ok-clause-accepted : goal.returns-in-Ok-clause-accepted
returns-in-Ok-clause-accepted g c =
    let i = c.self.inside in
    let m : NodeState = record { core = i.core; keys = i.keys; log = string_bytes i.log; lasts = i.lasts; refused = i.refused; repeats = i.repeats; limited = i.limited; clash = i.clash } in
    take_accepts m c.args.self.now c.self.view_is c.args.vertex c.in_ok-judged.judged.verdict c.in_ok-judged.ensures.verdict c.in_ok-judged.judged.entry c.in_ok-judged.ensures.entry c.in-Ok.receipt c.deliver_judged.new.core c.keep.new.self c.keep.result
    c.in-Ok.ensures.accepted c.in-Ok.ensures.journal c.keep.ensures.kept

pub returns-in-Ok-clause-log : goal.returns-in-Ok-clause-log
returns-in-Ok-clause-log g c = λ tells.
    let i = c.self.inside in
    let m : NodeState = record { core = i.core; keys = i.keys; log = string_bytes i.log; lasts = i.lasts; refused = i.refused; repeats = i.repeats; limited = i.limited; clash = i.clash } in
    take_writes m c.args.self.now c.self.view_is c.args.vertex c.in_ok-judged.judged.verdict c.in_ok-judged.ensures.verdict c.in_ok-judged.judged.entry c.in_ok-judged.ensures.entry c.in-Ok.receipt c.deliver_judged.new.core c.keep.new.self c.keep.result _ _
    c.in-Ok.ensures.accepted c.in-Ok.ensures.journal c.keep.ensures.kept (c.keep.ensures.log tells)

pub returns-in-Err-clause-accepted : goal.returns-in-Err-clause-accepted
returns-in-Err-clause-accepted g c =
    let i = c.self.inside in
    let m : NodeState = record { core = i.core; keys = i.keys; log = string_bytes i.log; lasts = i.lasts; refused = i.refused; repeats = i.repeats; limited = i.limited; clash = i.clash } in
    refuse_accepts m c.args.self.now c.self.view_is c.args.vertex c.in_ok-judged.judged.verdict c.in_ok-judged.ensures.verdict c.in-Err.refused.vertex c.in-Err.ensures.returned c.in-Err.refused.cause c.deliver_judged.new.core c.refuse.new.self c.refuse.result
    c.in-Err.ensures.unchanged c.refuse.ensures c.in-Err.ensures.refused

pub returns-in-Err-clause-log : goal.returns-in-Err-clause-log
returns-in-Err-clause-log g c = λ tells.
    let i = c.self.inside in
    let m : NodeState = record { core = i.core; keys = i.keys; log = string_bytes i.log; lasts = i.lasts; refused = i.refused; repeats = i.repeats; limited = i.limited; clash = i.clash } in
    refuse_writes m c.args.self.now c.self.view_is c.args.vertex c.in_ok-judged.judged.verdict c.in_ok-judged.ensures.verdict c.in-Err.refused.vertex c.in-Err.ensures.returned c.in-Err.refused.cause c.deliver_judged.new.core c.refuse.new.self c.refuse.result
    c.in-Err.ensures.unchanged c.refuse.ensures (g.F.Files.held c.args.files.now)
