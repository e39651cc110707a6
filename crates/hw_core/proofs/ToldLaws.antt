-- Laws of what a node tells of evidence and endorsements.
use Rattle.std.proofs.Common.{◌≡◌, ℕ, filter, find, Option, Some, None, sym, ◌∙◌}
use Rattle.std.specs.Prelude.{◌==◌, filter_map, slice_get}
use Rattle.hw_types.specs.declared.unit.Digest.{Digest}
use Rattle.hw_types.specs.declared.unit.Need.TheVariants as need
use Rattle.hw_types.specs.declared.unit.Evidence.{Evidence}
use Rattle.hw_types.specs.declared.unit.Endorsement.{Endorsement}
use Rattle.hw_types.specs.declared.unit.Vertex.{Vertex}
use Rattle.hw_types.specs.declared.unit.Vertex.TheVariants as vertex
use Rattle.hw_types.specs.Graph.{digest_eq}
use Rattle.hw_types.specs.Below.{Among}
use Rattle.hw_types.specs.Real.{CoreState}
use Rattle.hw_types.proofs.ClosureLaws.{Among-filter}
use Rattle.hw_core.specs.Journal.{tells}
use Rattle.hw_core.specs.Readers.{signed_evidence, signed_endorsement, evidence_of, endorsements_of}
use Rattle.hw_core.proofs.ReaderLaws.{place_among}
use Rattle.hw_core.proofs.JournalLaws.{evidence_told, endorsement_told, is_evidence, no_evidence, is_endorsement, no_endorsement}

module _ (c : CoreState) (v : ℕ) (r : Option Vertex) (told : r ≡ slice_get (filter (tells (need.Evidence v)) c.journal) 0) where
  pub evidence_given : (e : Evidence) → r ≡ Some (vertex.Evidence e) → Some e ≡ evidence_of c v
  unfolding evidence_of
  evidence_given e is = sym (is_evidence (find (λ e. v == e.left.unit.creator) (filter_map signed_evidence c.journal)) r (told ∙ evidence_told v c.journal) e is)

  pub evidence_none : ((e : Evidence) → r ≡ Some (vertex.Evidence e) → ⊥) → None ≡ evidence_of c v
  unfolding evidence_of
  evidence_none none = sym (no_evidence (find (λ e. v == e.left.unit.creator) (filter_map signed_evidence c.journal)) r (told ∙ evidence_told v c.journal) none)

  pub evidence_among : (e : Evidence) → r ≡ Some (vertex.Evidence e) → Among (vertex.Evidence e) c.journal
  evidence_among e is = (Among-filter (tells (need.Evidence v)) (vertex.Evidence e) c.journal (place_among (vertex.Evidence e) (filter (tells (need.Evidence v)) c.journal) 0 (sym told ∙ is))).0

module _ (c : CoreState) (d : Digest) (place : ℕ) (r : Option Vertex) (told : r ≡ slice_get (filter (tells (need.Endorsed d)) c.journal) place) where
  pub endorsement_given : (e : Endorsement) → r ≡ Some (vertex.Endorsement e) → Some e ≡ slice_get (endorsements_of c d) place
  unfolding endorsements_of
  endorsement_given e is = sym (is_endorsement (slice_get (filter (λ e. digest_eq d e.unit) (filter_map signed_endorsement c.journal)) place) r (told ∙ endorsement_told d c.journal place) e is)

  pub endorsement_none : ((e : Endorsement) → r ≡ Some (vertex.Endorsement e) → ⊥) → None ≡ slice_get (endorsements_of c d) place
  unfolding endorsements_of
  endorsement_none none = sym (no_endorsement (slice_get (filter (λ e. digest_eq d e.unit) (filter_map signed_endorsement c.journal)) place) r (told ∙ endorsement_told d c.journal place) none)
