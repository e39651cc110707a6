use Rattle.std.proofs.Common.{List, [], ◌∷◌, ◌++◌, cond, ap, ◌∙◌}
use Rattle.hw_types.specs.declared.unit.Vertex.{Vertex}
use Rattle.hw_honest.specs.Cluster.{outcome}
use Rattle.hw_cluster.proofs.ActLaws.{own_sent}
use Rattle.hw_cluster.proofs.acts.make.Goals as goal

pub returns-in-Ok-clause-answer : goal.returns-in-Ok-clause-answer
returns-in-Ok-clause-answer c = λ config have. c.outcome.ensures ∙ ap (outcome c.args.kind) (c.in-Ok.ensures.answer config have)

pub returns-in-Ok-clause-left : goal.returns-in-Ok-clause-left
returns-in-Ok-clause-left c = λ config have.
    let b = c.is_admitted.result in
    own_sent config c.args.nodes.now.items c.args.sent.now.items c.args.node c.args.vertex c.in-Ok.answer (c.in-Ok.ensures.answer config have) c.give_copy.new.nodes.items
    (c.in-Ok.ensures.taken config have) b c.send.new.sent.items c.is_admitted.ensures
    (c.send.ensures ∙ ap (λ (xs : List Vertex). cond b (xs ++ c.args.vertex ∷ []) xs) c.give_copy.ensures.sent)
