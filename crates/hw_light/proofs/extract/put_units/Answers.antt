use Rattle.std.proofs.Common.{◌≡◌, ◌+◌, List, ◌++◌, get_or, take, sym, ap, subst, ◌∙◌}
use Rattle.std.specs.Prelude.{All}
use Rattle.hw_types.specs.declared.unit.Digest.{Digest}
use Rattle.hw_types.specs.declared.unit.Vertex.{Vertex}
use Rattle.hw_types.specs.Graph.{Node}
use Rattle.hw_types.specs.Spelling.{VertexFits}
use Rattle.hw_dag.specs.declared.numbers.UnitNo.{UnitNo}
use Rattle.hw_dag.specs.Dag.{SettledUnit, node_at}
use Rattle.hw_core.specs.Readers.{unit_in}
use Rattle.hw_needs.specs.Needs.{unit_vertices}
use Rattle.hw_light.specs.Extract.{unit_part}
use Rattle.hw_light.specs.Under.{nodes_at}
use Rattle.hw_light.proofs.GatherLaws.{place_in}
use Rattle.hw_light.proofs.PutLaws.{put_unit, put_step, fit_both}
use Rattle.hw_light.proofs.extract.put_units.Goals as goal

pub unit-requires : goal.unit-requires
unit-requires c = c.requires.known _ (place_in c.args.numbers.now c.loop-number.number-index _ c.loop-number-test.true)

pub loop-number-preserved : goal.loop-number-preserved
loop-number-preserved c =
    let core = c.args.core.now in
    let dag = c.args.dag.now in
    let numbers = c.args.numbers.now in
    let n = c.loop-number.number-index in
    let none : UnitNo = record { 0 = 0 } in
    let i = c.loop-number.invariant in
    let given : Node → List Vertex = λ x. unit_vertices (unit_in core x.digest) in
    let so_far = unit_part core (nodes_at dag (take n numbers)) in
    let more = given (node_at dag (get_or numbers n none).0) in
    let whole = unit_part core (nodes_at dag (take (n + 1) numbers)) in
    let grows : whole ≡ so_far ++ more = put_unit dag numbers given n none c.loop-number-test.true in
    let name = c.digest.ensures ∙ ap (λ (u : SettledUnit). u.digest) c.unit.ensures in
    record {
      put = put_step c.args.vertices.now so_far more whole c.loop-number.vertices c.put_unit.new.vertices i.put
          (c.in_ok-put_unit.ensures.put ∙ ap (λ (d : Digest). c.loop-number.vertices ++ unit_vertices (unit_in core d)) name) grows;
      fits = subst (λ (vs : List Vertex). All VertexFits vs) (sym grows)
          (fit_both so_far more i.fits (subst (λ (d : Digest). All VertexFits (unit_vertices (unit_in core d))) name c.in_ok-put_unit.ensures.fits));
    }
