-- Laws of certificates: the statements.
use Rattle.std.specs.Prelude.{◌≡◌, ℕ, ◌≤◌, Bool, List, Any, sum}
use Rattle.hw_types.specs.declared.unit.Digest.{Digest}
use Rattle.hw_types.specs.declared.unit.Vertex.{Vertex}
use Rattle.hw_types.specs.declared.answers.Decision.{Decision}
use Rattle.hw_types.specs.Below.{Among}
use Rattle.hw_types.specs.Journal.{Setting, received_of, journal_of}
use Rattle.hw_types.specs.Graph.{Node}
use Rattle.hw_types.specs.Quorum.{IsQuorum}
use Rattle.hw_types.specs.Settled.{settled_of, panorama_of, faulty_weight}
use Rattle.hw_types.specs.Summit.{Committees, IsSummit, Stands}
use Rattle.hw_types.specs.Decisions.{AreDecisions}
use Rattle.hw_safety.specs.declared.verdict.Verdict.{Verdict}
use Rattle.hw_safety.specs.Verdicts.{IsVerdict, IsAccountable}
use Rattle.hw_agree.specs.Certificates.{IsEnough, IsExtract, journal_from, Certifies}

-- Who takes the vertices of a certificate decides its block.
abbrev pub CertifiedIsDecided : Type 0
CertifiedIsDecided = (s : Setting) (vertices : List Vertex) (block : Digest) (ds : List Decision) → Certifies s vertices block → AreDecisions s (journal_from s vertices) ds
    → Any (λ (d : Decision). d.block ≡ block) ds

-- So where another node decided another block of that height, the two are in a conflict whose culprits weigh more than the threshold, or they clash.
abbrev pub CertificateIsAccountable : Type 0
CertificateIsAccountable = (s : Setting) (vertices : List Vertex) (block : Digest) (ds : List Decision) (deliveries : List (Vertex × Bool)) (es : List Decision) (e : Decision) (v : Verdict)
    → Certifies s vertices block → AreDecisions s (journal_from s vertices) ds → AreDecisions s (journal_of s deliveries) es
    → Among e es → Any (λ (d : Decision). (d.block ≡ block) × (d.height ≡ e.height)) ds → (e.block ≡ block → ⊥)
    → IsVerdict s (journal_from s vertices) (journal_of s deliveries) ds es v → IsAccountable s.config.ftt v

-- Where a block stands in a journal by these committees, it stands in each that says enough of it, and no more are faulty there.
abbrev pub EnoughIsEnough : Type 0
EnoughIsEnough = (s : Setting) (whole part : List Vertex) (block : Node) (level quorum : ℕ) (c : Committees) → 1 ≤ level → level ≤ s.config.levels → IsQuorum (sum s.config.weights) s.config.ftt level quorum
    → IsSummit s.config.weights (settled_of s.config (received_of s whole)) (panorama_of s.config (received_of s whole)) block level quorum c → IsEnough s.config (received_of s whole) (received_of s part) c
    → Stands s.config (received_of s part) block level quorum × (faulty_weight s.config (received_of s part) ≤ faulty_weight s.config (received_of s whole))

-- So vertices of a journal that come in turn certify the block of a summit whose first committee's latest units are among them.
abbrev pub ExtractCertifies : Type 0
ExtractCertifies = (s : Setting) (whole vertices : List Vertex) (block : Node) (level quorum : ℕ) (c : Committees) → 1 ≤ level → level ≤ s.config.levels → IsQuorum (sum s.config.weights) s.config.ftt level quorum
    → IsSummit s.config.weights (settled_of s.config (received_of s whole)) (panorama_of s.config (received_of s whole)) block level quorum c
    → faulty_weight s.config (received_of s whole) ≤ s.config.ftt → IsExtract s whole c vertices → Certifies s vertices block.digest
