-- Quorums, rounds and leaders.
use Rattle.std.specs.Prelude.{◌≡◌, ◌-◌, ◌*◌, ◌^◌, ◌∷◌, [], true, false, map}
use Rattle.hw_types.specs.Rounds.{round_id, witness_time, changes_lawfully, leader_of}
use Rattle.hw_types.specs.Quorum.{IsEnough, IsQuorum}
use Rattle.hw_samples.specs.Words.{equal_three}

-- the least weight of a committee, by total weight, threshold and level
pub record Quorums : Type 0 where
  pub hundred_at_level_1 : IsQuorum 100 33 1 84
  pub hundred_at_level_2 : IsQuorum 100 33 2 73
  pub hundred_at_level_3 : IsQuorum 100 33 3 69
  -- a weight of 72 reaches the bound at level 2, and doesn't exceed it
  pub just_the_bound : (2 * 72 - 100) * (2 ^ 2 - 1) ≡ 33 * 2 ^ 2
  pub not_enough : IsEnough 100 33 2 72 → ⊥
  pub four_at_level_1 : IsQuorum 4 1 1 4
  pub four_at_level_2 : IsQuorum 4 1 2 3
  pub four_at_level_3 : IsQuorum 4 1 3 3
  pub one_validator : IsQuorum 1 0 1 1
  pub three_and_no_fault : IsQuorum 3 0 1 2
  pub five_at_the_greatest_level : IsQuorum 5 0 30 3
  pub seven_at_level_1 : IsQuorum 7 2 1 6
  pub seven_at_level_2 : IsQuorum 7 2 2 5
  pub ten_at_level_5 : IsQuorum 10 3 5 7
  -- a committee cannot weigh as much
  pub above_the_total : IsQuorum 7 6 1 10
  pub two_of_which_one : IsQuorum 2 1 1 3
  pub greatest_total : IsQuorum (2 ^ 62 - 1) 0 1 (2 ^ 61)
  pub greatest_total_and_threshold : IsQuorum (2 ^ 62 - 1) (2 ^ 62 - 2) 30 4611686020574871553

pub record Rounds : Type 0 where
  pub round : round_id 27 4 ≡ 16
  pub witness : witness_time 16 4 ≡ 26
  pub short_round : witness_time 0 2 ≡ 2
  pub long_round : witness_time 0 40 ≡ 733007751850
  pub last_round : round_id (2 ^ 63 - 1) 40 ≡ 9223370937343148032
  pub leaders : map (leader_of equal_three) (0 ∷ 16 ∷ 32 ∷ 48 ∷ []) ≡ 0 ∷ 0 ∷ 2 ∷ 0 ∷ []
  -- an exponent may change where the later unit lies in a later round of the greater exponent
  pub same_exponent : changes_lawfully 16 4 17 4 ≡ true
  pub within_the_longer : changes_lawfully 16 4 31 3 ≡ false
  pub after_the_longer : changes_lawfully 16 4 32 3 ≡ true
  pub into_a_longer : changes_lawfully 16 4 31 5 ≡ false
  pub after_a_longer : changes_lawfully 16 4 32 5 ≡ true
