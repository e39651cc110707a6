use Rattle.std.proofs.Common.{◌≡◌, ◌+◌, Bool, cond, List, [], ◌∷◌, ◌++◌, take, sym, subst, arith}
use Rattle.std.specs.Prelude.{filter, All}
use Rattle.std.specs.List.{list_any}
use Rattle.hw_types.specs.declared.unit.Digest.{Digest}
use Rattle.hw_types.specs.declared.unit.Vertex.{Vertex}
use Rattle.hw_types.specs.Graph.{digest_eq}
use Rattle.hw_types.specs.Spelling.{VertexFits}
use Rattle.hw_light.specs.Extract.{is_endorsement_of}
use Rattle.hw_light.proofs.PutLaws.{put_if, put_step, fit_both}
use Rattle.hw_light.proofs.extract.put_endorsements_of.Goals as goal

pub loop-place-preserved : goal.loop-place-preserved
loop-place-preserved c =
    let journal = c.args.core.now.journal in
    let test : Vertex → Bool = is_endorsement_of (λ (d : Digest). list_any (digest_eq d) c.args.listed.now.names) in
    let n = c.loop-place.place in
    let i = c.loop-place.invariant in
    let v = c.journal_at.result.now in
    let so_far = filter test (take n journal) in
    let more = cond (test v) (v ∷ []) [] in
    let whole = filter test (take (n + 1) journal) in
    let grows : whole ≡ so_far ++ more = put_if test journal n v c.journal_at.ensures.vertex (omega arith) in
    record {
      put = put_step c.args.vertices.now so_far more whole c.loop-place.vertices c.put_if_listed.new.vertices i.put c.in_ok-put_if_listed.ensures.put grows;
      fits = subst (λ (vs : List Vertex). All VertexFits vs) (sym grows) (fit_both so_far more i.fits c.in_ok-put_if_listed.ensures.fits);
    }
