use Rattle.std.proofs.Common.{◌≡◌, ◌+◌, ℕ, cond, List, [], ◌++◌, refl, sym, subst}
use Rattle.std.specs.Prelude.{filter, All}
use Rattle.std.specs.List.{flat_map, range_with_len}
use Rattle.hw_types.specs.declared.unit.Vertex.{Vertex}
use Rattle.hw_types.specs.Spelling.{VertexFits}
use Rattle.hw_needs.specs.Needs.{evidence_against, evidence_vertices}
use Rattle.hw_light.specs.Extract.{is_marked_by}
use Rattle.hw_light.specs.Under.{nodes_at}
use Rattle.hw_light.proofs.PutLaws.{put_for, put_step, fit_both}
use Rattle.hw_light.proofs.extract.put_evidence.Goals as goal

pub loop-validator-preserved : goal.loop-validator-preserved
loop-validator-preserved c =
    let marked = is_marked_by (nodes_at c.args.dag.now c.args.numbers.now) in
    let given : ℕ → List Vertex = λ v. evidence_vertices (evidence_against c.args.core.now v) in
    let n = c.loop-validator.validator in
    let i = c.loop-validator.invariant in
    let so_far = flat_map given (filter marked (range_with_len 0 n)) in
    let more = cond (marked n) (given n) [] in
    let whole = flat_map given (filter marked (range_with_len 0 (n + 1))) in
    let grows : whole ≡ so_far ++ more = put_for marked given n (marked n) refl in
    record {
      put = put_step c.args.vertices.now so_far more whole c.loop-validator.vertices c.put_if_marked.new.vertices i.put c.in_ok-put_if_marked.ensures.put grows;
      fits = subst (λ (vs : List Vertex). All VertexFits vs) (sym grows) (fit_both so_far more i.fits c.in_ok-put_if_marked.ensures.fits);
    }
