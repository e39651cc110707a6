use Rattle.std.proofs.Common.{ap, sym, subst, ◌∙◌}
use Rattle.std.proofs.lemmas.Option.{slice_get_past}
use Rattle.hw_types.specs.declared.unit.Vertex.{Vertex}
use Rattle.hw_types.specs.Real.{setting_of}
use Rattle.hw_types.specs.Spelling.{VertexFits}
use Rattle.hw_honest.specs.Cluster.{answer_at, after_delivery}
use Rattle.hw_cluster.specs.Nodes.{nodes_of}
use Rattle.hw_cluster.proofs.NodesLaws.{found_among}
use Rattle.hw_cluster.proofs.ActLaws.{not_sent_acted, not_sent_left, heard_acted, heard_left, sent_there}
use Rattle.hw_cluster.proofs.acts.pass.Goals as goal

pub give_to-requires-clause-fits : goal.give_to-requires-clause-fits
give_to-requires-clause-fits c =
    subst VertexFits (sym c.in_ok-copy-in-Some.ensures)
    (c.requires.fit c.in-Some.vertex.now (found_among c.args.sent.now c.args.number c.in-Some.vertex.now (sym (sent_there c.args.sent.now c.args.number c.in-Some.vertex.now c.in-Some.ensures.lookup.3.0 c.in-Some.ensures.lookup.1))))

pub returns-in_ok-give_to-in-Some-clause-answer : goal.returns-in_ok-give_to-in-Some-clause-answer
returns-in_ok-give_to-in-Some-clause-answer c = λ config have.
    let v = c.in-Some.vertex.now in
    c.heard.ensures
    ∙ heard_acted config c.args.nodes.now.items c.args.sent.now c.args.node c.args.number v (sent_there c.args.sent.now c.args.number v c.in-Some.ensures.lookup.3.0 c.in-Some.ensures.lookup.1) c.in_ok-give_to-in-Some.field-0
    (c.in_ok-give_to-in-Some.ensures.answer config c.args.sent.now have ∙ ap (λ (w : Vertex). answer_at (setting_of config) (nodes_of c.args.nodes.now.items c.args.sent.now) c.args.node w) c.in_ok-copy-in-Some.ensures)

pub returns-in_ok-give_to-in-Some-clause-left : goal.returns-in_ok-give_to-in-Some-clause-left
returns-in_ok-give_to-in-Some-clause-left c = λ config have.
    let v = c.in-Some.vertex.now in
    heard_left config c.args.nodes.now.items c.args.sent.now c.args.node c.args.number v (sent_there c.args.sent.now c.args.number v c.in-Some.ensures.lookup.3.0 c.in-Some.ensures.lookup.1) c.give_to.new.nodes.items
    (c.in_ok-give_to-in-Some.ensures.taken config c.args.sent.now have ∙ ap (λ (w : Vertex). after_delivery (setting_of config) (nodes_of c.args.nodes.now.items c.args.sent.now) c.args.node w) c.in_ok-copy-in-Some.ensures)

pub returns-in-None-clause-answer : goal.returns-in-None-clause-answer
returns-in-None-clause-answer c = λ config have.
    not_sent_acted config c.args.nodes.now.items c.args.sent.now c.args.node c.args.number (sym (slice_get_past c.args.sent.now c.args.number c.in-None.ensures.lookup.3))

pub returns-in-None-clause-left : goal.returns-in-None-clause-left
returns-in-None-clause-left c = λ config have.
    not_sent_left config c.args.nodes.now.items c.args.sent.now c.args.node c.args.number (sym (slice_get_past c.args.sent.now c.args.number c.in-None.ensures.lookup.3))
