use Rattle.std.proofs.Common.{◌≡◌, List, ◌++◌, ap, subst, ◌∙◌}
use Rattle.std.specs.Prelude.{All}
use Rattle.std.specs.List.{list_any}
use Rattle.std.proofs.lemmas.Result.{IfOk-weaker}
use Rattle.hw_types.specs.declared.unit.Digest.{Digest}
use Rattle.hw_types.specs.declared.unit.Vertex.{Vertex}
use Rattle.hw_types.specs.Graph.{digest_eq}
use Rattle.hw_types.specs.Spelling.{VertexFits}
use Rattle.hw_light.specs.Extract.{is_listed_by, endorsement_part}
use Rattle.hw_light.specs.Under.{nodes_at}
use Rattle.hw_light.proofs.PutLaws.{same_endorsements}
use Rattle.hw_light.proofs.extract.put_endorsements.Goals as goal

pub returns-clause-put : goal.returns-clause-put
returns-clause-put c =
    let units = nodes_at c.args.dag.now c.args.numbers.now in
    let same = same_endorsements (λ (d : Digest). list_any (digest_eq d) c.in_ok-listed.listed.names) (is_listed_by units) c.in_ok-listed.ensures c.args.core.now.journal in
    IfOk-weaker c.put_endorsements_of.result _ (λ done. c.put_endorsements_of.new.vertices ≡ c.args.vertices.now ++ endorsement_part c.args.core.now units)
    (λ done e. e ∙ ap (λ (vs : List Vertex). c.args.vertices.now ++ vs) same) c.put_endorsements_of.ensures.put

pub returns-clause-fits : goal.returns-clause-fits
returns-clause-fits c =
    let units = nodes_at c.args.dag.now c.args.numbers.now in
    let same = same_endorsements (λ (d : Digest). list_any (digest_eq d) c.in_ok-listed.listed.names) (is_listed_by units) c.in_ok-listed.ensures c.args.core.now.journal in
    IfOk-weaker c.put_endorsements_of.result _ (λ done. All VertexFits (endorsement_part c.args.core.now units))
    (λ done fit. subst (λ (vs : List Vertex). All VertexFits vs) same fit) c.put_endorsements_of.ensures.fits
