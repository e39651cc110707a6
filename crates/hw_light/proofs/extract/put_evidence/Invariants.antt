use Rattle.std.proofs.Common.{◌≡◌, ◌++◌}
use Rattle.std.specs.Prelude.{filter, All}
use Rattle.std.specs.List.{flat_map, range_with_len}
use Rattle.hw_types.specs.Spelling.{VertexFits}
use Rattle.hw_needs.specs.Needs.{evidence_against, evidence_vertices}
use Rattle.hw_light.specs.Extract.{is_marked_by}
use Rattle.hw_light.specs.Under.{nodes_at}
use Rattle.hw_light.proofs.extract.put_evidence.Given as goal

abbrev pub invariant-loop-validator : goal.invariant-loop-validator
invariant-loop-validator l = record {
  put : l.vertices ≡ l.initial.vertices ++ flat_map (λ v. evidence_vertices (evidence_against l.core v)) (filter (is_marked_by (nodes_at l.dag l.numbers)) (range_with_len 0 l.validator));
  fits : All VertexFits (flat_map (λ v. evidence_vertices (evidence_against l.core v)) (filter (is_marked_by (nodes_at l.dag l.numbers)) (range_with_len 0 l.validator)));
}
