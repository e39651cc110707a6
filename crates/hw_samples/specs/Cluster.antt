-- A cluster of three nodes among four validators.
-- Source: ours.
use Rattle.std.specs.Prelude.{◌≡◌, ◌⊎◌, List, [], ◌∷◌, Some}
use Rattle.hw_types.specs.declared.unit.Obs.TheVariants.{Absent}
use Rattle.hw_types.specs.declared.unit.WireUnit.{WireUnit}
use Rattle.hw_types.specs.declared.unit.Vertex.{Vertex}
use Rattle.hw_types.specs.declared.answers.Plan.{Plan}
use Rattle.hw_types.specs.declared.answers.PlanKind.TheVariants.{Propose}
use Rattle.hw_types.specs.Spelling.{instance_of}
use Rattle.hw_types.specs.Real.{setting_of}
use Rattle.hw_safety.specs.Chain.{Begins}
use Rattle.hw_honest.specs.declared.cluster.Action.{Action}
use Rattle.hw_honest.specs.declared.cluster.Action.TheVariants.{Step, Deliver, Forge}
use Rattle.hw_honest.specs.Cluster.{signed, value_at}
use Rattle.hw_honest.specs.Laws.{weight_of_others}
use Rattle.hw_cluster.specs.Nodes.{ClusterState, IsReached}
use Rattle.hw_cluster.specs.Laws.{FewAreOthers, Clash, chain_in}
use Rattle.hw_samples.specs.Words.{equal_four}

-- the leader's first block
abbrev pub block_unit : WireUnit
block_unit = record { instance = instance_of equal_four; creator = 0; seq = 0; time = 16; exponent = 4; panorama = Absent ∷ Absent ∷ Absent ∷ Absent ∷ []; value = Some (value_at (setting_of equal_four) 0 16); endorsed = [] }

abbrev pub block_plan : Plan
block_plan = record { kind = Propose; unit = block_unit }

abbrev pub block : Vertex
block = signed block_unit

-- a unit of the validator that is no node
abbrev pub forged : Vertex
forged = signed (record block_unit { creator = 3 })

-- the leader proposes, another node hears it, and somebody sends a unit of the fourth validator
abbrev pub four_actions : List Action
four_actions = Step 0 16 ∷ Deliver 1 0 ∷ Forge forged ∷ []

-- two of the journals have the block then
abbrev pub three_nodes : ClusterState
three_nodes = record { config = equal_four; cluster = record { journals = (block ∷ []) ∷ (block ∷ []) ∷ [] ∷ []; sent = block ∷ forged ∷ [] } }

pub record ClusterIsReached : Type 0 where
  pub reached : IsReached three_nodes
  -- one validator is no node, and just so much may be faulty
  pub others : weight_of_others (setting_of equal_four) 3 ≡ 1
  pub few : FewAreOthers three_nodes
  -- so the law holds of these two
  pub one_chain : Clash three_nodes 0 1 ⊎ (Begins (chain_in three_nodes 0) (chain_in three_nodes 1) ⊎ Begins (chain_in three_nodes 1) (chain_in three_nodes 0))
