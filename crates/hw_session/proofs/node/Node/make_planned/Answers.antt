use Rattle.std.proofs.Common.{sym, ap, subst, ◌∙◌}
use Rattle.std.specs.String.{string_bytes}
use Rattle.hw_types.specs.declared.unit.SignedUnit.{SignedUnit}
use Rattle.hw_types.specs.declared.unit.Vertex.TheVariants as vertex
use Rattle.hw_types.specs.Spelling.{Fits, digest_of}
use Rattle.hw_replay.specs.Ends.{IsReached}
use Rattle.hw_session.specs.Node.{NodeState}
use Rattle.hw_session.proofs.MakeLaws.{own_creator, taken_makes, taken_writes, refusal_of_own, refusal_makes, refusal_writes, kept_moved}
use Rattle.hw_session.proofs.node.Node.make_planned.Goals as goal

pub own_unit-requires-clause-creator : goal.own_unit-requires-clause-creator
own_unit-requires-clause-creator g c = own_creator c.args.self.now c.args.plan c.requires.planned

pub deliver_named-requires-clause-fits : goal.deliver_named-requires-clause-fits
deliver_named-requires-clause-fits g c = subst (λ (u : SignedUnit). Fits u.unit) (sym c.in_ok-own.ensures.unit) c.requires.fits

pub deliver_named-requires-clause-name : goal.deliver_named-requires-clause-name
deliver_named-requires-clause-name g c = c.in_ok-own.ensures.name ∙ ap (λ (u : SignedUnit). digest_of u.unit) (sym c.in_ok-own.ensures.unit)

pub invariant_of-self : goal.invariant_of-self
invariant_of-self g c =
    let i = c.self.inside in
    let m : NodeState = record { core = i.core; keys = i.keys; log = string_bytes i.log; lasts = i.lasts; refused = i.refused; repeats = i.repeats; limited = i.limited; clash = i.clash } in
    kept_moved m (vertex.Unit c.in_ok-own.own.unit) c.deliver_named.new.self c.put_own.new.lasts c.self.invariant (subst (λ (u : SignedUnit). Fits u.unit) (sym c.in_ok-own.ensures.unit) c.requires.fits) c.in-Ok.ensures.journal

pub refuse_own-requires : goal.refuse_own-requires
refuse_own-requires g c =
    let i = c.self.inside in
    let m : NodeState = record { core = i.core; keys = i.keys; log = string_bytes i.log; lasts = i.lasts; refused = i.refused; repeats = i.repeats; limited = i.limited; clash = i.clash } in
    refusal_of_own c.args.self.now c.args.plan (subst (λ (k : NodeState). IsReached k.core) c.self.view_is c.self.invariant.reached) c.requires.planned m c.self.view_is (vertex.Unit c.in_ok-own.own.unit) (ap vertex.Unit c.in_ok-own.ensures.unit) c.in-Err.refused.cause c.in-Err.ensures.refused

pub returns-in-Ok-clause-made : goal.returns-in-Ok-clause-made
returns-in-Ok-clause-made g c =
    let i = c.self.inside in
    let m : NodeState = record { core = i.core; keys = i.keys; log = string_bytes i.log; lasts = i.lasts; refused = i.refused; repeats = i.repeats; limited = i.limited; clash = i.clash } in
    taken_makes c.args.self.now c.args.plan (subst (λ (k : NodeState). IsReached k.core) c.self.view_is c.self.invariant.reached) c.requires.planned c.in_ok-own.own.entry c.in_ok-own.ensures.entry m c.self.view_is (vertex.Unit c.in_ok-own.own.unit) (ap vertex.Unit c.in_ok-own.ensures.unit)
    c.in-Ok._receipt c.deliver_named.new.self c.put_own.new.lasts c.put_own.result c.in-Ok.ensures.accepted c.in-Ok.ensures.journal c.put_own.ensures.put

pub returns-in-Ok-clause-log : goal.returns-in-Ok-clause-log
returns-in-Ok-clause-log g c = λ tells.
    let i = c.self.inside in
    let m : NodeState = record { core = i.core; keys = i.keys; log = string_bytes i.log; lasts = i.lasts; refused = i.refused; repeats = i.repeats; limited = i.limited; clash = i.clash } in
    taken_writes c.args.self.now c.args.plan (subst (λ (k : NodeState). IsReached k.core) c.self.view_is c.self.invariant.reached) c.requires.planned c.in_ok-own.own.entry c.in_ok-own.ensures.entry m c.self.view_is (vertex.Unit c.in_ok-own.own.unit) (ap vertex.Unit c.in_ok-own.ensures.unit)
    c.in-Ok._receipt c.deliver_named.new.self c.put_own.new.lasts c.put_own.result c.as_str.result.now (c.as_str.ensures.value ∙ ap (λ (k : NodeState). k.log) c.self.view_is) _ _
    c.in-Ok.ensures.accepted c.in-Ok.ensures.journal c.put_own.ensures.put (c.put_own.ensures.log tells)

pub returns-in-Err-clause-made : goal.returns-in-Err-clause-made
returns-in-Err-clause-made g c =
    let i = c.self.inside in
    let m : NodeState = record { core = i.core; keys = i.keys; log = string_bytes i.log; lasts = i.lasts; refused = i.refused; repeats = i.repeats; limited = i.limited; clash = i.clash } in
    refusal_makes c.args.self.now c.args.plan (subst (λ (k : NodeState). IsReached k.core) c.self.view_is c.self.invariant.reached) c.requires.planned m c.self.view_is (vertex.Unit c.in_ok-own.own.unit) (ap vertex.Unit c.in_ok-own.ensures.unit) c.in-Err.refused.cause c.in-Err.ensures.refused
    c.deliver_named.new.self c.refuse_own.new.self c.refuse_own.result c.in-Err.ensures.unchanged c.refuse_own.ensures

pub returns-in-Err-clause-log : goal.returns-in-Err-clause-log
returns-in-Err-clause-log g c = λ tells.
    let i = c.self.inside in
    let m : NodeState = record { core = i.core; keys = i.keys; log = string_bytes i.log; lasts = i.lasts; refused = i.refused; repeats = i.repeats; limited = i.limited; clash = i.clash } in
    refusal_writes c.args.self.now c.args.plan (subst (λ (k : NodeState). IsReached k.core) c.self.view_is c.self.invariant.reached) c.requires.planned m c.self.view_is (vertex.Unit c.in_ok-own.own.unit) (ap vertex.Unit c.in_ok-own.ensures.unit) c.in-Err.refused.cause c.in-Err.ensures.refused
    c.deliver_named.new.self c.refuse_own.new.self c.refuse_own.result _ c.in-Err.ensures.unchanged c.refuse_own.ensures
