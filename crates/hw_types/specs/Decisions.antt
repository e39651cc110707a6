-- The blocks that a node decides, moment by moment.
-- Source: ours.
use Rattle.std.specs.Prelude.{◌≡◌, ℕ, ◌<◌, ◌≤◌, List, length, take, Some, All, Any, ◌⊎◌}
use Rattle.std.specs.List.{AllAdjacentBelow}
use Rattle.hw_types.specs.declared.unit.Vertex.{Vertex}
use Rattle.hw_types.specs.declared.answers.Decision.{Decision}
use Rattle.hw_types.specs.Graph.{Node, find_node}
use Rattle.hw_types.specs.Votes.{height_of}
use Rattle.hw_types.specs.Settled.{Received, settled_of, faulty_weight}
use Rattle.hw_types.specs.Summit.{Stands}
use Rattle.hw_types.specs.Journal.{Setting, received_of}

-- what was known after the first entries
abbrev pub received_at : Setting → List Vertex → ℕ → Received
received_at s journal at = received_of s (take at journal)

-- the block stood after so many entries, with a faulty weight of no more than the threshold
pub record StoodAt (s : Setting) (journal : List Vertex) (block : Node) (level quorum at : ℕ) : Type 0 where
  pub in_journal : at ≤ length journal
  pub few_faulty : faulty_weight s.config (received_at s journal at) ≤ s.config.ftt
  pub stands : Stands s.config (received_at s journal at) block level quorum

-- the record of a block: the first moment at which it stood, and the least level then
pub record IsRecord (s : Setting) (journal : List Vertex) (d : Decision) : Type 0 where
  pub block : Node
  pub found : find_node (settled_of s.config (received_at s journal d.at)) d.block ≡ Some block
  pub height : d.height ≡ height_of s.config.weights (settled_of s.config (received_at s journal d.at)) block
  pub stood : StoodAt s journal block d.level d.quorum d.at
  pub least_level : (level quorum : ℕ) → StoodAt s journal block level quorum d.at → d.level ≤ level
  pub first : (at level quorum : ℕ) → StoodAt s journal block level quorum at → d.at ≤ at

-- the one was decided earlier, or at the same moment at a lesser height
abbrev pub ComesBefore : Decision → Decision → Type 0
ComesBefore d e = (d.at < e.at) ⊎ ((d.at ≡ e.at) × (d.height < e.height))

-- the decided blocks of a journal, each once, by moment and then by height
pub record AreDecisions (s : Setting) (journal : List Vertex) (ds : List Decision) : Type 0 where
  pub each : All (IsRecord s journal) ds
  pub ordered : AllAdjacentBelow ComesBefore ds (length ds)
  pub complete : (block : Node) (level quorum at : ℕ) → StoodAt s journal block level quorum at → Any (λ d. d.block ≡ block.digest) ds
