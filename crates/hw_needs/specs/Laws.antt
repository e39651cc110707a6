-- What the evidence shows that a node has: the statement.
use Rattle.std.specs.Prelude.{◌≡◌, ℕ, Bool, List, [], Some, None}
use Rattle.hw_types.specs.declared.unit.Evidence.{Evidence}
use Rattle.hw_types.specs.declared.unit.Vertex.{Vertex}
use Rattle.hw_types.specs.declared.unit.Vertex.TheVariants as vertex
use Rattle.hw_types.specs.Journal.{refusal, journal_of}
use Rattle.hw_types.specs.Real.{CoreState, setting_of}
use Rattle.hw_needs.specs.Needs.{evidence_against}

-- After any deliveries, whatever the node was asked, the evidence that it has against a validator is two different units of that
-- validator with one sequence number, and no node of the configuration refuses it.
abbrev pub EvidenceIsTaken : Type 0
EvidenceIsTaken = (node : CoreState) (deliveries : List (Vertex × Bool)) (v : ℕ) (e : Evidence)
    → node.journal ≡ journal_of (setting_of node.config) deliveries
    → evidence_against node v ≡ Some e
    → (e.left.unit.creator ≡ v) × (refusal (setting_of node.config) [] (vertex.Evidence e) ≡ None)
