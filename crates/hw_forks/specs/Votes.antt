-- The votes of a panorama, by number.
use Rattle.std.specs.Prelude.{◌≡◌, ℕ, zero, suc, ◌<◌, ◌≤◌, ◌⊎◌, ◌^◌, true, List, [], ◌∷◌, ◌++◌, unwrap_or, sum_by, slice_index}
use Rattle.hw_types.specs.Below.{Among}
use Rattle.hw_types.specs.Votes.{is_block}
use Rattle.hw_dag.specs.declared.numbers.UnitNo.{UnitNo}
use Rattle.hw_dag.specs.declared.numbers.View.{View}
use Rattle.hw_dag.specs.declared.numbers.View.TheVariants as view
use Rattle.hw_dag.specs.Dag.{UnitGraph, unit_at, count_of, node_at, view_at}
use Rattle.hw_dag.specs.Admission.{IsGraph}
use Rattle.hw_forks.specs.declared.votes.Vote.{Vote}

-- the height of a block
abbrev pub height_at : UnitGraph → ℕ → ℕ
height_at dag n = unwrap_or (unit_at dag n).height 0

-- the vote of a unit of this weight
abbrev pub vote_of : UnitGraph → UnitNo → ℕ → Vote
vote_of dag number weight = record { block = (unit_at dag number.0).vote; height = height_at dag (unit_at dag number.0).vote.0; weight = weight }

-- the vote of a slot, which only a Correct one has
abbrev pub vote_in : UnitGraph → View → ℕ → List Vote
vote_in dag view.Absent weight = []
vote_in dag (view.Correct number) weight = vote_of dag number weight ∷ []
vote_in dag view.Faulty weight = []

-- the votes of the first n slots
unfoldable pub votes_of : UnitGraph → List ℕ → List View → ℕ → List Vote
votes_of dag weights panorama zero = []
votes_of dag weights panorama (suc n) = votes_of dag weights panorama n ++ vote_in dag (view_at panorama n) (slice_index weights n)

-- a vote for a block of the graph, with its height
pub record IsVote (dag : UnitGraph) (vote : Vote) : Type 0 where
  pub known : vote.block.0 < count_of dag
  pub block : is_block (node_at dag vote.block.0) ≡ true
  pub height_is : vote.height ≡ height_at dag vote.block.0
  pub some : 0 < vote.weight

-- votes of a graph that weigh together what a validator set may
pub record AreVotes (dag : UnitGraph) (votes : List Vote) : Type 0 where
  pub graph : IsGraph dag
  pub each : (vote : Vote) → Among vote votes → IsVote dag vote
  pub bounded : sum_by (λ (vote : Vote). vote.weight) votes < 2 ^ 62

-- room that serves the graph: a Correct slot has one vote, and there are no more of them than units, nor than validators
abbrev pub IsRoomFor : UnitGraph → ℕ → Type 0
IsRoomFor dag room = (count_of dag ≤ room) ⊎ (dag.validators ≤ room)
