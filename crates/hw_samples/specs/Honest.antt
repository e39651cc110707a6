-- A faulty validator among honest ones that lived, with stops and starts.
-- Source: ours.
use Rattle.std.specs.Prelude.{◌≡◌, ◌==◌, ◌||◌, List, [], ◌∷◌, ◌++◌, Some}
use Rattle.hw_types.specs.declared.config.Config.{Config}
use Rattle.hw_types.specs.declared.unit.WireUnit.{WireUnit}
use Rattle.hw_types.specs.declared.unit.Vertex.{Vertex}
use Rattle.hw_types.specs.Journal.{Setting, journal_of}
use Rattle.hw_types.specs.Culprits.{culprits_of}
use Rattle.hw_log.specs.Log.{header_bytes}
use Rattle.hw_session.specs.Node.{new_node}
use Rattle.hw_session.specs.Standing.{Standing}
use Rattle.hw_agreement.specs.Lives.{AreHonest}
use Rattle.hw_samples.specs.Words.{equal_three, in_short, unit, sent, both, deliver}
use Rattle.hw_samples.specs.FourUnits.{nothing, a0}

-- three validators of weight 1, of which one may be faulty
abbrev pub one_of_three : Config
one_of_three = record equal_three { ftt = 1 }

-- the same, and units by short names
abbrev pub short : Setting
short = in_short one_of_three

-- another first unit of validator 0
abbrev pub z0 : WireUnit
z0 = unit 0 0 17 nothing (Some (122 ∷ []))

-- the one journal has both of its units in an evidence, the other has one of them
abbrev pub left_journal : List Vertex
left_journal = journal_of short (deliver (both a0 z0 ∷ []))

abbrev pub right_journal : List Vertex
right_journal = journal_of short (deliver (sent a0 ∷ []))

-- Validators 1 and 2 lived: their nodes are new. So the premises of the law are met, with validator 0 as the culprit.
pub record FirstIsFaulty : Type 0 where
  pub left : left_journal ≡ both a0 z0 ∷ []
  pub right : right_journal ≡ sent a0 ∷ []
  pub culprit : culprits_of short left_journal right_journal ≡ 0 ∷ []
  pub honest : AreHonest short (left_journal ++ right_journal) (λ v. (v == 1) || (v == 2))

-- a node of one of the three that has received nothing, with empty keys and an empty name of its log
abbrev pub new_of_three : Standing
new_of_three = record { node = new_node one_of_three ([] ∷ [] ∷ [] ∷ []) []; held = λ name. Some (header_bytes 2 one_of_three) }
