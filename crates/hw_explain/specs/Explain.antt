-- The decided blocks of a journal, each with its greatest summit at its moment.
-- Source: ours.
use Rattle.std.specs.Prelude.{ℕ, ◌+◌, ◌==◌, List, [], ◌∷◌, ◌++◌, length, map, codes, slice_get, Option, Some, None, if◌then◌else◌}
use Rattle.std.specs.List.{flat_map, range_with_len}
use Rattle.hw_types.specs.declared.unit.Vertex.{Vertex}
use Rattle.hw_types.specs.declared.config.Config.{Config}
use Rattle.hw_types.specs.declared.answers.Decision.{Decision}
use Rattle.hw_types.specs.Graph.{Node, find_node}
use Rattle.hw_types.specs.Settled.{Received, settled_of, panorama_of}
use Rattle.hw_types.specs.Journal.{Setting, received_of}
use Rattle.hw_types.specs.Decisions.{received_at}
use Rattle.hw_types.specs.Real.{CoreState, setting_of, received_in}
use Rattle.hw_safety.specs.Pruned.{Starts, start_in, or_zero, members, pruned}
use Rattle.hw_safety.specs.Decided.{decisions_of}
use Rattle.hw_text.specs.Lines.{line_of}
use Rattle.hw_core.specs.Decided.{decided_in}
use Rattle.hw_explain.specs.Report.{final_words, exceeded_line, exceeded_in}
use Rattle.hw_explain.specs.Greatest.{member_text}

-- ---- a decided block

-- the greatest summit for a block, as the committee of each level with its starts
abbrev pub Summit : Type 0
Summit = ℕ → Starts

-- the greatest one for a block with this quorum in what a journal leaves
abbrev pub summit_for : Config → Received → ℕ → Node → Summit
summit_for config received quorum block level = pruned config.weights (settled_of config received) (panorama_of config received) block quorum level

-- the starts of a member from level 0 to this one
abbrev pub starts_of : Summit → ℕ → ℕ → List ℕ
starts_of summit level v = map (λ j. or_zero (start_in (summit j) v)) (range_with_len 0 (level + 1))

-- the members of the last committee
abbrev pub committee_words : Summit → ℕ → List (List ℕ)
committee_words summit level = codes "committee" ∷ map (λ v. member_text v (starts_of summit level v)) (members (summit level))

-- the committee of the decided block, which is a settled one
unfoldable pub committee_of : Config → Received → Decision → List (List ℕ)
committee_of config received d = elim (find_node (settled_of config received) d.block) [
  | None ↦ []
  | Some block ↦ committee_words (summit_for config received d.quorum block) d.level
]

-- the line of a decision in what its moment left
unfoldable pub explained_line : Config → Received → Decision → List ℕ
explained_line config received d = line_of (final_words d ++ committee_of config received d)

-- ---- a journal

-- the line of a decision of the journal, at its moment
abbrev pub line_of_decision : Setting → List Vertex → Decision → List ℕ
line_of_decision s journal d = explained_line s.config (received_at s journal d.at) d

-- the lines of these decisions, or one that there is none
abbrev pub explained_lines : Setting → List Vertex → List Decision → List ℕ
explained_lines s journal [] = line_of (codes "final" ∷ codes "-" ∷ [])
explained_lines s journal (d ∷ ds) = flat_map (line_of_decision s journal) (d ∷ ds)

-- The decided blocks of a journal, and the faulty weight where it is too great.
unfoldable pub explained_text : Setting → List Vertex → List ℕ
explained_text s journal = explained_lines s journal (decisions_of s journal) ++ exceeded_line (exceeded_in s.config (received_of s journal))

-- ---- a node

-- all that is explained of a node
abbrev pub explained_in : CoreState → List ℕ
explained_in c = explained_text (setting_of c.config) c.journal

-- the line of a decision, if it was made when the journal became as long as it is
abbrev pub line_if_new : CoreState → Option Decision → Option (List ℕ)
line_if_new c None = None
line_if_new c (Some d) = if d.at == length c.journal then Some (explained_line c.config (received_in c) d) else None

-- The line of the decided block of that place, if there is one and the last vertex decided it.
abbrev pub line_now : CoreState → ℕ → Option (List ℕ)
line_now c index = line_if_new c (slice_get (decided_in c) index)
