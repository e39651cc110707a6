-- The walk of the fork choice, by number.
use Rattle.std.specs.Prelude.{◌≡◌, ℕ, zero, suc, ◌≢◌, ◌+◌, ◌-◌, ◌<◌, ◌≤◌, ◌^◌, ◌⊎◌, Bool, true, ◌||◌, ◌==◌, List, Option, Some, None, sum_by, filter, if◌then◌else◌}
use Rattle.hw_types.specs.Graph.{is_some_and, digest_lt}
use Rattle.hw_types.specs.Below.{Among}
use Rattle.hw_types.specs.Votes.{is_block}
use Rattle.hw_dag.specs.declared.numbers.UnitNo.{UnitNo}
use Rattle.hw_dag.specs.Dag.{UnitGraph, unit_at, count_of, node_at}
use Rattle.hw_dag.specs.Admission.{IsGraph}
use Rattle.hw_dag.specs.Lanes.{IsAncestor}
use Rattle.hw_forks.specs.declared.votes.Vote.{Vote}
use Rattle.hw_forks.specs.declared.tallies.Share.{Share}
use Rattle.hw_forks.specs.declared.majority.Leader.{Leader}

-- the one block is the other, or n or fewer parents lead from the other to it
unfoldable pub is_over_within : ℕ → UnitGraph → ℕ → ℕ → Bool
is_over_within zero dag c b = c == b
is_over_within (suc n) dag c b = (c == b) || is_some_and (λ (p : UnitNo). is_over_within n dag c p.0) (unit_at dag b).parent

-- the one block is the other or an ancestor of it
abbrev pub is_over : UnitGraph → ℕ → ℕ → Bool
is_over dag c b = is_over_within (count_of dag) dag c b

-- the weight of the votes for the block or a descendant of it
unfoldable pub score_in : UnitGraph → List Vote → ℕ → ℕ
score_in dag votes c = sum_by (λ (vote : Vote). if is_over dag c vote.block.0 then vote.weight else 0) votes

-- the votes for the block or descendants of it
unfoldable pub votes_towards : UnitGraph → ℕ → List Vote → List Vote
votes_towards dag c votes = filter (λ (vote : Vote). is_over dag c vote.block.0) votes

-- a block whose parent is this, or which has none
pub record IsChild (dag : UnitGraph) (place : Option UnitNo) (c : ℕ) : Type 0 where
  pub known : c < count_of dag
  pub block : is_block (node_at dag c) ≡ true
  pub parent : (unit_at dag c).parent ≡ place

-- the one block has the lesser score, or the same score and the lesser name
abbrev pub Yields : UnitGraph → List Vote → ℕ → ℕ → Type 0
Yields dag votes d c = (score_in dag votes d < score_in dag votes c)
    ⊎ ((score_in dag votes d ≡ score_in dag votes c) × (digest_lt (unit_at dag d).digest (unit_at dag c).digest ≡ true))

-- the child to which the walk goes on
pub record IsBest (dag : UnitGraph) (votes : List Vote) (place : Option UnitNo) (c : ℕ) : Type 0 where
  pub child : IsChild dag place c
  pub some : 0 < score_in dag votes c
  pub others : (d : ℕ) → IsChild dag place d → (d ≡ c) ⊎ Yields dag votes d c

-- no child is voted for
abbrev pub HasNoSupport : UnitGraph → List Vote → Option UnitNo → Type 0
HasNoSupport dag votes place = (c : ℕ) → IsChild dag place c → score_in dag votes c ≡ 0

-- the walk from a place comes to its end
pub data WalksTo (dag : UnitGraph) (votes : List Vote) (end : Option UnitNo) : Option UnitNo → Type 0 where
  stops : (place : Option UnitNo) → end ≡ place → HasNoSupport dag votes place → WalksTo dag votes end place
  goes : (place : Option UnitNo) (c : UnitNo) → IsBest dag votes place c.0 → WalksTo dag votes end (Some c) → WalksTo dag votes end place

-- ---- where the walk can begin

-- all votes are for the block or descendants of it
pub record IsCommon (dag : UnitGraph) (votes : List Vote) (c : ℕ) : Type 0 where
  pub known : c < count_of dag
  pub block : is_block (node_at dag c) ≡ true
  pub over : (vote : Vote) → Among vote votes → IsAncestor dag c vote.block.0

-- the walk passes through the block: it and each of its ancestors is the best child of its parent
abbrev pub IsPassed : UnitGraph → List Vote → ℕ → Type 0
IsPassed dag votes c = (a : ℕ) → IsAncestor dag a c → IsBest dag votes (unit_at dag a).parent a

-- ---- majorities

-- the weight of all votes
unfoldable pub weight_in : List Vote → ℕ
weight_in votes = sum_by (λ (vote : Vote). vote.weight) votes

-- the votes for the block or descendants of it have more than half of the weight of all
pub record HasMajority (dag : UnitGraph) (votes : List Vote) (c : ℕ) : Type 0 where
  pub known : c < count_of dag
  pub block : is_block (node_at dag c) ≡ true
  pub most : weight_in votes < score_in dag votes c + score_in dag votes c

-- no child of the place has the majority
abbrev pub NoChildHasMajority : UnitGraph → List Vote → Option UnitNo → Type 0
NoChildHasMajority dag votes place = (c : ℕ) → IsChild dag place c → HasMajority dag votes c → ⊥

-- a vote for the block that leads adds to its lead, and one for another takes from it or takes the lead over
abbrev pub IsAhead : Leader → UnitNo → ℕ → Leader → Type 0
IsAhead before block weight after = ((block ≡ before.block) × (after ≡ record { block = block; lead = before.lead + weight }))
    ⊎ ((block ≢ before.block) × (before.lead < weight) × (after ≡ record { block = block; lead = weight - before.lead }))
    ⊎ ((block ≢ before.block) × (weight ≤ before.lead) × (after ≡ record { block = before.block; lead = before.lead - weight }))

-- ---- tallies

-- the tally of a child: the weight of its shares
unfoldable pub tally_in : List Share → ℕ → ℕ
tally_in shares c = sum_by (λ (share : Share). if share.child.0 == c then share.weight else 0) shares

-- shares of units of a graph that weigh together what a validator set may
pub record AreShares (dag : UnitGraph) (shares : List Share) : Type 0 where
  pub graph : IsGraph dag
  pub each : (share : Share) → Among share shares → (share.child.0 < count_of dag) × (0 < share.weight)
  pub bounded : sum_by (λ (share : Share). share.weight) shares < 2 ^ 62

-- What the votes give to the children of the place is all shared out: each child's tally is its score.
pub record HoldsShares (dag : UnitGraph) (votes : List Vote) (place : Option UnitNo) (shares : List Share) : Type 0 where
  pub each : (share : Share) → Among share shares → IsChild dag place share.child.0 × (0 < share.weight)
  pub tally_is : (c : ℕ) → IsChild dag place c → tally_in shares c ≡ score_in dag votes c
  pub light : sum_by (λ (share : Share). share.weight) shares ≤ sum_by (λ (vote : Vote). vote.weight) votes

-- the one tally comes before the other: it has the lesser weight, or the same weight and the lesser name
abbrev pub ComesBefore : UnitGraph → Share → Share → Type 0
ComesBefore dag d c = (d.weight < c.weight)
    ⊎ ((d.weight ≡ c.weight) × (digest_lt (unit_at dag d.child.0).digest (unit_at dag c.child.0).digest ≡ true))

-- the tally is next, where there is no best one or that comes before it. Else the best one stays
abbrev pub IsHeavier : UnitGraph → Option Share → Share → Share → Type 0
IsHeavier dag None tally next = next ≡ tally
IsHeavier dag (Some best) tally next = ((next ≡ tally) × ComesBefore dag best tally) ⊎ ((next ≡ best) × ((tally ≡ best) ⊎ ComesBefore dag tally best))

-- the tally of the child as the shares have it
abbrev pub whole_tally : List Share → ℕ → Share
whole_tally shares c = record { child = record { 0 = c }; weight = tally_in shares c }

-- the child that the tallies of all others come before
pub record IsHeaviest (dag : UnitGraph) (shares : List Share) (c : ℕ) : Type 0 where
  pub some : 0 < tally_in shares c
  pub others : (d : ℕ) → 0 < tally_in shares d → (d ≡ c) ⊎ ComesBefore dag (whole_tally shares d) (whole_tally shares c)
