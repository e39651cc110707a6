-- Laws of tallies.
use Rattle.std.specs.Prelude.{◌≡◌, ℕ, ◌<◌, ◌-◌, ◌&&◌, ◌==◌, nat_le, Bool, true, false, List, Some, None, Option, sum_by, if◌then◌else◌}
use Rattle.hw_types.specs.Graph.{past}
use Rattle.hw_types.specs.Votes.{is_block, score_of, unit_fork}
use Rattle.hw_dag.specs.declared.numbers.View.{View}
use Rattle.hw_dag.specs.Dag.{UnitGraph, count_of, node_at, graph, observations, IsPanorama}
use Rattle.hw_dag.specs.Admission.{IsGraph}
use Rattle.hw_dag.specs.Lanes.{AreWeights}
use Rattle.hw_dag.specs.Skips.{back_from}
use Rattle.hw_dag.specs.Tables.{chains_of}
use Rattle.hw_forks.specs.declared.votes.Vote.{Vote}
use Rattle.hw_forks.specs.Votes.{height_at, votes_of}

-- the block is so many parents behind the other
abbrev pub is_number : ℕ → Option ℕ → Bool
is_number c None = false
is_number c (Some n) = n == c

-- the block is the ancestor of the other at the block's own height
abbrev pub is_ancestor_of : UnitGraph → ℕ → ℕ → Bool
is_ancestor_of dag c b = nat_le (height_at dag c) (height_at dag b) && is_number c (back_from (chains_of dag.units) (height_at dag b - height_at dag c) b)

-- the weight of the votes whose ancestor at the block's height is the block
abbrev pub tally_of : UnitGraph → List Vote → ℕ → ℕ
tally_of dag votes c = sum_by (λ (vote : Vote). if is_ancestor_of dag c vote.block.0 then vote.weight else 0) votes

-- A tally is the sum of the definition, for each block at its height.
abbrev pub TallyIsScore : Type 0
TallyIsScore = (dag : UnitGraph) → IsGraph dag → (weights : List ℕ) → AreWeights weights dag → (panorama : List View) → IsPanorama dag panorama
    → (c : ℕ) → c < count_of dag → is_block (node_at dag c) ≡ true
    → tally_of dag (votes_of dag weights panorama dag.validators) c ≡ score_of weights (past (graph dag) (observations dag panorama)) (unit_fork weights (graph dag)) (observations dag panorama) (node_at dag c)
