use Rattle.std.proofs.Common.{◌≡◌, ◌++◌, take}
use Rattle.std.specs.Prelude.{filter, All}
use Rattle.std.specs.List.{list_any}
use Rattle.hw_types.specs.Graph.{digest_eq}
use Rattle.hw_types.specs.Spelling.{VertexFits}
use Rattle.hw_light.specs.Extract.{is_endorsement_of}
use Rattle.hw_light.proofs.extract.put_endorsements_of.Given as goal

abbrev pub invariant-loop-place : goal.invariant-loop-place
invariant-loop-place l = record {
  put : l.vertices ≡ l.initial.vertices ++ filter (is_endorsement_of (λ d. list_any (digest_eq d) l.listed.names)) (take l.place l.core.journal);
  fits : All VertexFits (filter (is_endorsement_of (λ d. list_any (digest_eq d) l.listed.names)) (take l.place l.core.journal));
}
