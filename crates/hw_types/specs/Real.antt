-- The definitions with units named by SHA-256, as a node has them.
-- Source: ours.
use Rattle.std.specs.Prelude.{ℕ, Bool, List, Option, Result, Some, length}
use Rattle.hw_types.specs.declared.unit.Obs.{Obs}
use Rattle.hw_types.specs.declared.unit.Vertex.{Vertex}
use Rattle.hw_types.specs.declared.config.Config.{Config}
use Rattle.hw_types.specs.declared.answers.Receipt.{Receipt}
use Rattle.hw_types.specs.declared.answers.Cause.{Cause}
use Rattle.hw_types.specs.declared.answers.LastQuestion.{LastQuestion}
use Rattle.hw_types.specs.Graph.{Node}
use Rattle.hw_types.specs.Settled.{settled_of, panorama_of, faulty_weight, Received}
use Rattle.hw_types.specs.Journal.{Setting, received_of, answer, journal_after}
use Rattle.hw_types.specs.Spelling.{digest_of, instance_of}

-- a configuration, with names by SHA-256
abbrev pub setting_of : Config → Setting
setting_of config = record { config = config; instance = instance_of config; name = digest_of }

-- what a node is: its configuration and what it received; and its last question, which no definition here looks at
pub record CoreState : Type 0 where
  pub config : Config
  pub journal : List Vertex
  pub asked : Option LastQuestion

-- the node was asked this after its whole journal
abbrev pub asked_in : CoreState → ℕ → CoreState
asked_in c decision = record c { asked = Some (record { decision = decision; at = length c.journal }) }

-- what the journal says
abbrev pub received_in : CoreState → Received
received_in c = received_of (setting_of c.config) c.journal

-- the settled units
abbrev pub settled_in : CoreState → List Node
settled_in c = settled_of c.config (received_in c)

-- the panorama
abbrev pub panorama_in : CoreState → List Obs
panorama_in c = panorama_of c.config (received_in c)

-- the weight of the faulty validators
abbrev pub weight_in : CoreState → ℕ
weight_in c = faulty_weight c.config (received_in c)

-- the answer to a delivery
abbrev pub answer_in : CoreState → Vertex → Bool → Result Receipt Cause
answer_in c v verdict = answer (setting_of c.config) c.journal v verdict

-- the node after a delivery
abbrev pub after_in : CoreState → Vertex → Bool → CoreState
after_in c v verdict = record c { journal = journal_after (setting_of c.config) c.journal (v, verdict) }
