-- What is answered of a certificate by keys, and printed of it.
-- Source: ours.
use Rattle.std.specs.Prelude.{◌≡◌, ℕ, Bool, ◌&&◌, List, map, Option, Some, None, Result, Ok, Err, if◌then◌else◌}
use Rattle.std.specs.List.{list_any, range_with_len}
use Rattle.hw_types.specs.declared.unit.Digest.{Digest}
use Rattle.hw_types.specs.declared.unit.Vertex.{Vertex}
use Rattle.hw_types.specs.declared.answers.Decision.{Decision}
use Rattle.hw_types.specs.Graph.{Node, digest_eq}
use Rattle.hw_types.specs.Limits.{config_fault}
use Rattle.hw_types.specs.Real.{CoreState, received_in, settled_in}
use Rattle.hw_safety.specs.Decided.{quorum_at, stands}
use Rattle.hw_core.specs.Readers.{exceeded_in}
use Rattle.hw_keys.specs.Signed.{verdict_of}
use Rattle.hw_light.specs.declared.certificate.Certificate.{Certificate}
use Rattle.hw_light.specs.declared.answers.Checked.{Checked}
use Rattle.hw_light.specs.declared.answers.Checked.TheVariants.{Yes, No}
use Rattle.hw_light.specs.declared.answers.CheckFault.{CheckFault}
use Rattle.hw_light.specs.declared.answers.CheckFault.TheVariants.{Config as BadLimit, Refused, Exceeded, Unstood}
use Rattle.hw_light.specs.Checked.{RefusedAt, taken_of, node_with, with_node}
use Rattle.hw_light.specs.Texts.{yes_line, fault_line}
use Rattle.hw_light.specs.Asked.{IsDecisionOf, decided_block}

-- the verdict on each vertex by these keys
abbrev pub verdicts_by : List (List ℕ) → List Vertex → List Bool
verdicts_by keys vertices = map (verdict_of keys) vertices

-- ---- worked out

-- a settled unit of this name has a summit at some level
abbrev pub is_standing : CoreState → Digest → Bool
is_standing core block = list_any (λ (x : Node). digest_eq x.digest block && list_any (λ level. stands core.config (received_in core) x level (quorum_at core.config level)) (range_with_len 1 core.config.levels)) (settled_in core)

-- what is wrong with a node that took all vertices, where the faulty weigh this much, or not too much
abbrev pub fault_by : CoreState → Digest → Option ℕ → Option CheckFault
fault_by core block (Some weight) = Some (Exceeded weight)
fault_by core block None = if is_standing core block then None else Some Unstood

-- the answer by what became of the vertices
abbrev pub answer_by : Certificate → Result (List Vertex) RefusedAt → Checked
answer_by c (Err refused) = No (Refused refused.place refused.cause)
answer_by c (Ok journal) = let core = node_with c journal in with_node core (fault_by core c.block (exceeded_in core))

-- What a certificate is answered with these verdicts.
unfoldable pub checked_of : Certificate → List Bool → Checked
checked_of c verdicts = elim (config_fault c.config) [ Some fault ↦ No (BadLimit fault) | None ↦ answer_by c (taken_of c verdicts) ]

-- ---- a line

-- that the block was decided, with its height, or why the certificate shows nothing
abbrev pub IsCheckedLine : Digest → Checked → List ℕ → Type 0
IsCheckedLine block (Yes core) text = (index : ℕ) × (told : IsDecisionOf core block index) × (text ≡ yes_line block told.decision.height)
IsCheckedLine block (No fault) text = text ≡ fault_line fault

-- the height of the decided block of this digest; 0 where there is none
abbrev pub height_or_zero : Option Decision → ℕ
height_or_zero None = 0
height_or_zero (Some d) = d.height

-- the line that says the same, worked out
abbrev pub checked_line : Digest → Checked → List ℕ
checked_line block (Yes core) = yes_line block (height_or_zero (decided_block core block))
checked_line block (No fault) = fault_line fault
