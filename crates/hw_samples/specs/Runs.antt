-- A run over a graph that decides a block, and so meets each premise of the law on runs.
-- Source: ours.
use Rattle.std.specs.Prelude.{List, [], ◌∷◌, ◌++◌, Some, None}
use Rattle.hw_types.specs.declared.unit.Vertex.{Vertex}
use Rattle.hw_types.specs.Decisions.{AreDecisions}
use Rattle.hw_dag.specs.declared.numbers.UnitNo.{UnitNo}
use Rattle.hw_dag.specs.declared.numbers.View.{View}
use Rattle.hw_dag.specs.declared.numbers.View.TheVariants as view
use Rattle.hw_dag.specs.Dag.{UnitGraph}
use Rattle.hw_horizon.specs.declared.found.Found.{Found}
use Rattle.hw_horizon.specs.Detected.{decisions_of, IsSearched, HasRun}
use Rattle.hw_horizon.specs.DetectorLaws.{IsMoment}
use Rattle.hw_samples.specs.Words.{alone, short_name, unsigned_as, sent}
use Rattle.hw_samples.specs.Chains.{single, s0, s1}

abbrev pub number : UnitNo
number = record { 0 = 0 }

abbrev pub next_number : UnitNo
next_number = record { 0 = 1 }

-- the graph of a block and of its creator's next unit, which votes for it
abbrev pub block_and_vote : UnitGraph
block_and_vote = record {
  validators = 1;
  spare = 0;
  units = record { digest = short_name s0; signed = unsigned_as s0; panorama = view.Absent ∷ []; vote = number; parent = None; height = Some 0 }
      ∷ record { digest = short_name s1; signed = unsigned_as s1; panorama = view.Correct number ∷ []; vote = number; parent = None; height = None }
      ∷ [];
}

-- its panorama
abbrev pub last_seen : List View
last_seen = view.Correct next_number ∷ []

-- the block, as it is found at the second unit
abbrev pub block_found : List Found
block_found = record { block = number; height = 0; level = 1; quorum = 1; at = 2 } ∷ []

-- the journal of the block alone, of which nothing is decided
abbrev pub block_alone : List Vertex
block_alone = sent s0 ∷ []

-- The run over the state with the second unit finds the block, and that is what the journal with it decides.
pub record ARunIsThere : Type 0 where
  pub searched : IsSearched alone block_and_vote last_seen (Some number)
  pub run : HasRun alone block_and_vote last_seen (Some number) 0 2 [] block_found
  pub moment : IsMoment single (block_alone ++ sent s1 ∷ []) block_and_vote last_seen 0 2
  pub before : AreDecisions single block_alone (decisions_of block_and_vote [])
  pub after : AreDecisions single (block_alone ++ sent s1 ∷ []) (decisions_of block_and_vote block_found)
