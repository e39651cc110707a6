use Rattle.std.proofs.Common.{◌≡◌, List, length, Option, Ok, rules, sym, ap, subst, ◌∙◌}
use Rattle.std.specs.List.{All, zip}
use Rattle.hw_types.specs.declared.unit.Vertex.{Vertex}
use Rattle.hw_types.specs.Real.{setting_of}
use Rattle.hw_types.specs.Spelling.{VertexFits}
use Rattle.hw_light.specs.declared.answers.CheckFault.{CheckFault}
use Rattle.hw_light.specs.Checked.{IsTakenAs, taken_from}
use Rattle.hw_light.proofs.CheckLaws.{refused_is, taken_is, node_answers}
use Rattle.hw_light.proofs.checking.find_fault.Goals as goal

pub take_all-requires-clause-fits : goal.take_all-requires-clause-fits
take_all-requires-clause-fits c = subst (λ (vs : List Vertex). All VertexFits vs) (sym c.as_slice.ensures) c.requires.fits

pub take_all-requires-clause-verdicts : goal.take_all-requires-clause-verdicts
take_all-requires-clause-verdicts c = c.requires.verdicts ∙ ap (λ (vs : List Vertex). length vs) (sym c.as_slice.ensures)

pub returns-in_err-fault : goal.returns-in_err-fault
returns-in_err-fault c = search rules

pub returns-in-Some : goal.returns-in-Some
returns-in-Some c =
    let start = c.args.core.now in
    let bs = c.args.verdicts.now in
    let later = c.take_all.new.core in
    let taken = subst (λ (vs : List Vertex). IsTakenAs (taken_from (setting_of start.config) 0 start.journal (zip vs bs)) later c.in_ok-fault.field-0) c.as_slice.ensures c.in_ok-fault.ensures.taken in
    let refused = subst (λ (f : Option CheckFault). IsTakenAs (taken_from (setting_of start.config) 0 start.journal (zip c.args.certificate.now.vertices bs)) later f) c.in-Some.is taken in
    refused_is c.args.certificate.now bs start later c.in-Some.fault c.requires.lawful c.requires.config c.requires.empty refused

pub returns-in-None : goal.returns-in-None
returns-in-None c =
    let start = c.args.core.now in
    let bs = c.args.verdicts.now in
    let later = c.take_all.new.core in
    let taken = subst (λ (vs : List Vertex). IsTakenAs (taken_from (setting_of start.config) 0 start.journal (zip vs bs)) later c.in_ok-fault.field-0) c.as_slice.ensures c.in_ok-fault.ensures.taken in
    let all : taken_from (setting_of start.config) 0 start.journal (zip c.args.certificate.now.vertices bs) ≡ Ok later.journal =
    subst (λ (f : Option CheckFault). IsTakenAs (taken_from (setting_of start.config) 0 start.journal (zip c.args.certificate.now.vertices bs)) later f) c.in-None.is taken in
    node_answers c.args.certificate.now bs later c.node_fault.result (taken_is c.args.certificate.now bs start later c.requires.lawful c.requires.config c.requires.empty c.in_ok-fault.ensures.config
    (c.in_ok-fault.ensures.asked ∙ c.requires.unasked) all) c.node_fault.ensures
