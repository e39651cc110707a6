use Rattle.std.proofs.Common.{Option, Some, None, inl, refl, sym, subst}
use Rattle.std.specs.String.{string_bytes}
use Rattle.hw_types.specs.declared.answers.Plan.{Plan}
use Rattle.hw_session.specs.Node.{NodeState, IsKept}
use Rattle.hw_session.specs.Make.{Makes, WritesOwn}
use Rattle.hw_session.proofs.StepLaws.{planned_is, node_plans, node_plan_fits}
use Rattle.hw_session.proofs.LineLaws.{keeps_line}
use Rattle.hw_session.proofs.ConfigLaws.{made_fits}
use Rattle.hw_session.proofs.node.Node.make_named.Goals as goal

pub make_planned-requires-clause-planned : goal.make_planned-requires-clause-planned
make_planned-requires-clause-planned g c =
    let i = c.self.inside in
    let m : NodeState = record { core = i.core; keys = i.keys; log = string_bytes i.log; lasts = i.lasts; refused = i.refused; repeats = i.repeats; limited = i.limited; clash = i.clash } in
    let planned = planned_is c.args.self.now m c.self.view_is c.state.result.now c.state.ensures.config c.state.ensures.settled c.state.ensures.panorama c.state.ensures.endorsements c.args.me c.args.now c.args.value.now (Some c.in-Some.plan) (rw c.in-Some.is at c.in_ok-plan.ensures.step) in
    let kept = subst IsKept c.self.view_is c.self.invariant in
    (c.args.me, c.args.now, c.args.value.now, node_plans c.args.self.now c.args.me c.args.now c.args.value.now c.in-Some.plan kept c.requires.me planned)

pub make_planned-requires-clause-fits : goal.make_planned-requires-clause-fits
make_planned-requires-clause-fits g c =
    let i = c.self.inside in
    let m : NodeState = record { core = i.core; keys = i.keys; log = string_bytes i.log; lasts = i.lasts; refused = i.refused; repeats = i.repeats; limited = i.limited; clash = i.clash } in
    let planned = planned_is c.args.self.now m c.self.view_is c.state.result.now c.state.ensures.config c.state.ensures.settled c.state.ensures.panorama c.state.ensures.endorsements c.args.me c.args.now c.args.value.now (Some c.in-Some.plan) (rw c.in-Some.is at c.in_ok-plan.ensures.step) in
    let kept = subst IsKept c.self.view_is c.self.invariant in
    node_plan_fits c.args.self.now c.args.me c.args.now c.args.value.now c.in-Some.plan kept c.requires.me c.requires.now c.requires.value planned

pub returns-in-Some-clause-made : goal.returns-in-Some-clause-made
returns-in-Some-clause-made g c =
    let i = c.self.inside in
    let m : NodeState = record { core = i.core; keys = i.keys; log = string_bytes i.log; lasts = i.lasts; refused = i.refused; repeats = i.repeats; limited = i.limited; clash = i.clash } in
    let planned = planned_is c.args.self.now m c.self.view_is c.state.result.now c.state.ensures.config c.state.ensures.settled c.state.ensures.panorama c.state.ensures.endorsements c.args.me c.args.now c.args.value.now (Some c.in-Some.plan) (rw c.in-Some.is at c.in_ok-plan.ensures.step) in
    subst (λ (o : Option Plan). Makes c.args.self.now o c.make_planned.new.self c.make_planned.result) (sym planned) c.make_planned.ensures.made

pub returns-in-Some-clause-line : goal.returns-in-Some-clause-line
returns-in-Some-clause-line g c =
    let i = c.self.inside in
    let m : NodeState = record { core = i.core; keys = i.keys; log = string_bytes i.log; lasts = i.lasts; refused = i.refused; repeats = i.repeats; limited = i.limited; clash = i.clash } in
    let planned = planned_is c.args.self.now m c.self.view_is c.state.result.now c.state.ensures.config c.state.ensures.settled c.state.ensures.panorama c.state.ensures.endorsements c.args.me c.args.now c.args.value.now (Some c.in-Some.plan) (rw c.in-Some.is at c.in_ok-plan.ensures.step) in
    let kept = subst IsKept c.self.view_is c.self.invariant in
    keeps_line c.args.self.now kept c.args.me c.args.now c.args.value.now c.requires.me c.make_planned.new.self c.make_planned.result
    (subst (λ (o : Option Plan). Makes c.args.self.now o c.make_planned.new.self c.make_planned.result) (sym planned) c.make_planned.ensures.made)

pub returns-in-Some-clause-log : goal.returns-in-Some-clause-log
returns-in-Some-clause-log g c = λ tells.
    let i = c.self.inside in
    let m : NodeState = record { core = i.core; keys = i.keys; log = string_bytes i.log; lasts = i.lasts; refused = i.refused; repeats = i.repeats; limited = i.limited; clash = i.clash } in
    let planned = planned_is c.args.self.now m c.self.view_is c.state.result.now c.state.ensures.config c.state.ensures.settled c.state.ensures.panorama c.state.ensures.endorsements c.args.me c.args.now c.args.value.now (Some c.in-Some.plan) (rw c.in-Some.is at c.in_ok-plan.ensures.step) in
    subst (λ (o : Option Plan). WritesOwn c.args.self.now o c.make_planned.new.self (g.F.Files.held c.args.files.now) (g.F.Files.held c.make_planned.new.files) c.make_planned.result) (sym planned) (c.make_planned.ensures.log tells)

pub returns-in-None-clause-made : goal.returns-in-None-clause-made
returns-in-None-clause-made g c =
    let i = c.self.inside in
    let m : NodeState = record { core = i.core; keys = i.keys; log = string_bytes i.log; lasts = i.lasts; refused = i.refused; repeats = i.repeats; limited = i.limited; clash = i.clash } in
    let planned = planned_is c.args.self.now m c.self.view_is c.state.result.now c.state.ensures.config c.state.ensures.settled c.state.ensures.panorama c.state.ensures.endorsements c.args.me c.args.now c.args.value.now None (rw c.in-None.is at c.in_ok-plan.ensures.step) in
    (inl planned, refl)

pub returns-in-Some-clause-fits : goal.returns-in-Some-clause-fits
returns-in-Some-clause-fits g c =
    let i = c.self.inside in
    let m : NodeState = record { core = i.core; keys = i.keys; log = string_bytes i.log; lasts = i.lasts; refused = i.refused; repeats = i.repeats; limited = i.limited; clash = i.clash } in
    let planned = planned_is c.args.self.now m c.self.view_is c.state.result.now c.state.ensures.config c.state.ensures.settled c.state.ensures.panorama c.state.ensures.endorsements c.args.me c.args.now c.args.value.now (Some c.in-Some.plan) (rw c.in-Some.is at c.in_ok-plan.ensures.step) in
    let kept = subst IsKept c.self.view_is c.self.invariant in
    made_fits _ _ c.in-Some.plan c.make_planned.result (node_plan_fits c.args.self.now c.args.me c.args.now c.args.value.now c.in-Some.plan kept c.requires.me c.requires.now c.requires.value planned) c.make_planned.ensures.made
