-- The nodes of two eras: the first has decided its last block, the second has received nothing.
-- Source: ours.
use Rattle.std.specs.Prelude.{◌≡◌, true, false, ◌∷◌, [], List, map, replicate, Some, None}
use Rattle.hw_types.specs.declared.unit.Digest.{Digest}
use Rattle.hw_types.specs.declared.unit.Obs.TheVariants.{Absent, Correct}
use Rattle.hw_types.specs.declared.unit.WireUnit.{WireUnit}
use Rattle.hw_types.specs.declared.config.Config.{Config}
use Rattle.hw_types.specs.declared.config.Leaders.TheVariants.{Drawn}
use Rattle.hw_types.specs.declared.answers.Cause.TheVariants as cause
use Rattle.hw_types.specs.declared.answers.Receipt.TheVariants.{Admitted}
use Rattle.hw_types.specs.Spelling.{digest_of, instance_of}
use Rattle.hw_types.specs.Real.{CoreState}
use Rattle.hw_core.specs.Promises.{begun}
use Rattle.hw_eras.specs.declared.answers.EraCause.TheVariants as era_cause
use Rattle.hw_eras.specs.Eras.{AreEras}
use Rattle.hw_eras.specs.Nodes.{real as named_by_digests, era_of, IsMadeAgain, next_of, IsUnended, IsLastBlock, AreNodeEras, HasDelivered, IsEraRefusal, IsLastUnended, IsFull, HasOpened}
use Rattle.hw_samples.specs.Words.{digest, alone, unit}
use Rattle.hw_samples.specs.RealNames.{sends}

-- one validator, whose era ends with its first block
abbrev pub brief : Config
brief = record alone { end = Some 0 }

abbrev pub brief_instance : Digest
brief_instance = digest (0x68 ∷ 0x0b ∷ 0xef ∷ 0xd9 ∷ 0x94 ∷ 0x0b ∷ 0xb7 ∷ 0x0a ∷ 0x46 ∷ 0x96 ∷ 0xe4 ∷ 0x6c ∷ 0x3b ∷ 0xe5 ∷ 0x64 ∷ 0x7b ∷ 0x7f ∷ 0x2c ∷ 0xd0 ∷ 0x8c ∷ 0x0e ∷ 0x05 ∷ 0xe4 ∷ 0x8f ∷ 0x18 ∷ 0xba ∷ 0x34 ∷ 0x82 ∷ 0xa4 ∷ 0x7f ∷ 0x06 ∷ 0x5e ∷ [])

abbrev pub brief_name : Digest
brief_name = digest (0x96 ∷ 0x65 ∷ 0xc3 ∷ 0x2d ∷ 0xc5 ∷ 0x46 ∷ 0x68 ∷ 0x39 ∷ 0x8d ∷ 0xde ∷ 0xc3 ∷ 0x97 ∷ 0x2f ∷ 0x5a ∷ 0x68 ∷ 0x33 ∷ 0x37 ∷ 0x28 ∷ 0xff ∷ 0x92 ∷ 0x5a ∷ 0x5d ∷ 0x8b ∷ 0xc3 ∷ 0x3f ∷ 0x47 ∷ 0x57 ∷ 0xae ∷ 0xcc ∷ 0xf9 ∷ 0x20 ∷ 0x21 ∷ [])

-- its block, and its unit that decides it
abbrev pub brief_block : WireUnit
brief_block = record (unit 0 0 16 (Absent ∷ []) (Some (120 ∷ []))) { instance = brief_instance }

abbrev pub brief_unit : WireUnit
brief_unit = record (unit 0 1 26 (Correct brief_name ∷ []) None) { instance = brief_instance }

-- the node behind both, and the one behind the block alone
abbrev pub ended_node : CoreState
ended_node = record { config = brief; journal = sends brief_block ∷ sends brief_unit ∷ []; asked = None }

abbrev pub block_node : CoreState
block_node = record { config = brief; journal = sends brief_block ∷ []; asked = None }

-- the configuration after that era, whose leaders are drawn by the block
abbrev pub next_brief : Config
next_brief = record brief { leaders = Drawn brief_name.0 }

abbrev pub two_nodes : List CoreState
two_nodes = ended_node ∷ begun next_brief ∷ []

pub record EraNodesAreThere : Type 0 where
  pub instance : instance_of brief ≡ brief_instance
  pub name : digest_of brief_block ≡ brief_name
  -- they are a node's eras, and the last block of the first opened the second
  pub eras : AreNodeEras two_nodes
  pub are : AreEras named_by_digests (Some brief) (map era_of two_nodes)
  pub again : IsMadeAgain ended_node
  pub last : IsLastBlock ended_node brief_name
  pub next : next_of ended_node ≡ Some next_brief
  pub unended : IsUnended (begun next_brief)
  pub last_unended : IsLastUnended two_nodes
  pub opened : HasOpened (ended_node ∷ []) two_nodes 1
  -- a vertex that an era took, one that its node refused, and one of no era
  pub delivered : HasDelivered (begun brief ∷ []) (block_node ∷ []) 0 (sends brief_block) true (Admitted 1)
  pub refused : IsEraRefusal (begun brief ∷ []) 0 (sends brief_block) false (era_cause.Core cause.BadSignature)
  pub unknown : IsEraRefusal (begun brief ∷ []) 1 (sends brief_block) true era_cause.UnknownEra
  -- of 64 nodes the last has ended, whatever the others are
  pub full : IsFull (replicate 64 ended_node)
