use Rattle.std.proofs.Common.{sym, ap, ◌∙◌}
use Rattle.std.specs.Prelude.{◌==◌, ◌/◌, ◌^◌}
use Rattle.hw_types.specs.declared.unit.SignedUnit.{SignedUnit}
use Rattle.hw_types.specs.declared.unit.WireUnit.{WireUnit}
use Rattle.hw_types.specs.Graph.{Node, is_some_and, previous}
use Rattle.hw_types.specs.Rules.{same_round}
use Rattle.hw_dag.specs.Dag.{unit_at, view_at}
use Rattle.hw_dag.specs.Admission.{node_prepared}
use Rattle.hw_dag.proofs.DepthLaws.{number_some}
use Rattle.hw_rules.specs.Judged.{below_of}
use Rattle.hw_rules.proofs.CaseLaws.{cited_below, before_some, second_some, second_none}
use Rattle.hw_rules.proofs.rounds.is_third.Goals as goal

pub returns-in_default-predecessor : goal.returns-in_default-predecessor
returns-in_default-predecessor c =
    let dag = c.args.dag.now in
    let p = c.args.prepared.now in
    let v = p.signed.unit.creator in
    let is = sym c.previous.ensures ∙ c.in-Some.is in
    let e = number_some (view_at p.panorama v) c.in-Some.no is in
    let own = λ (g : Node). same_round g (node_prepared p) in
    sym (before_some dag p c.requires.case (λ (q : Node). is_some_and own (previous (below_of dag p) q)) c.in-Some.no is
    ∙ second_none dag p c.requires.case own c.in-Some.no.0 (c.requires.case.resolved.known v c.in-Some.no e) (cited_below dag p c.requires.case v c.in-Some.no e) (sym c.predecessor.ensures ∙ c.in_default-predecessor.is))

pub returns : goal.returns
returns c =
    let dag = c.args.dag.now in
    let p = c.args.prepared.now in
    let v = p.signed.unit.creator in
    let is = sym c.previous.ensures ∙ c.in-Some.is in
    let e = number_some (view_at p.panorama v) c.in-Some.no is in
    let own = λ (g : Node). same_round g (node_prepared p) in
    let first = (unit_at dag c.in-Some-predecessor.first.0).signed.unit in
    c.is_same_round.ensures ∙ ap (λ (w : WireUnit). w.time / 2 ^ c.signed.result.now.unit.exponent == c.signed.result.now.unit.time / 2 ^ c.signed.result.now.unit.exponent) c.wire_unit.ensures
    ∙ ap (λ (s : SignedUnit). first.time / 2 ^ s.unit.exponent == s.unit.time / 2 ^ s.unit.exponent) c.signed.ensures
    ∙ sym (before_some dag p c.requires.case (λ (q : Node). is_some_and own (previous (below_of dag p) q)) c.in-Some.no is
    ∙ second_some dag p c.requires.case own c.in-Some.no.0 c.in-Some-predecessor.first (c.requires.case.resolved.known v c.in-Some.no e) (cited_below dag p c.requires.case v c.in-Some.no e)
    (sym c.predecessor.ensures ∙ c.in-Some-predecessor.is))
