-- Values of the definitions, worked out.
use Rattle.std.proofs.Common.{refl, arith}
use Rattle.std.specs.Prelude.{ℕ, ◌-◌, ◌^◌, ◌≤◌}
use Rattle.hw_types.specs.Rounds.{leader_of}
use Rattle.hw_types.specs.Quorum.{IsEnough}
use Rattle.hw_samples.specs.Words.{unfold_decisions, unfold_reading, unfold_names}
use Rattle.hw_samples.specs.Spelled.{UnitIsSpelled, VerticesAreSpelled, ConfigIsSpelled, FramesAreSpelled}
use Rattle.hw_samples.specs.RealNames.{RealNames, FourUnitsByTheirDigests}
use Rattle.hw_samples.specs.Formulas.{Quorums, Rounds}

pub unit_is_spelled : UnitIsSpelled
unfolding unfold_reading
unit_is_spelled = record { spelled = refl; count = refl; read = refl; cut = refl; trailing = refl; late = refl; many = refl; panorama = refl; observation = refl; flag = refl; value = refl; endorsed = refl; first = refl }

pub vertices_are_spelled : VerticesAreSpelled
unfolding unfold_reading
vertices_are_spelled = record { unit = refl; evidence = refl; endorses = refl; counts = refl; read = refl; cut_unit = refl; cut_evidence = refl; cut_endorsement = refl; trailing = refl; kind = refl; late = refl; observation = refl; right_late = refl }

pub config_is_spelled : ConfigIsSpelled
unfolding unfold_reading
config_is_spelled = record { spelled = refl; count = refl; read = refl; end_spelled = refl; end_read = refl; key_read = refl; cut = refl; cut_key = refl; cut_end = refl; trailing = refl; version = refl; many = refl; weights = refl; leaders = refl; table = refl }

pub frames_are_spelled : FramesAreSpelled
unfolding unfold_reading
frames_are_spelled = record { spelled = refl; read = refl; cut = refl; trailing = refl; kind = refl; vertex = refl; needs = refl; need = refl }

pub real_names : RealNames
unfolding unfold_decisions unfold_names
real_names = record { instance = refl; names = refl; other_names = refl; a0_vertex = refl; b0_vertex = refl; a1_vertex = refl; b1_vertex = refl }

pub four_units_by_their_digests : FourUnitsByTheirDigests
unfolding unfold_decisions unfold_names
four_units_by_their_digests = record { answers = refl; panorama = refl; fork = refl; decisions = refl; other_decisions = refl; culprits = refl; pair = refl }

pub rounds : Rounds
unfolding leader_of
rounds = record { round = refl; witness = refl; short_round = refl; long_round = refl; last_round = refl; leaders = refl; same_exponent = refl; within_the_longer = refl; after_the_longer = refl; into_a_longer = refl; after_a_longer = refl }

-- ---- quorums

least_hundred_at_level_1 : (p : ℕ) → IsEnough 100 33 1 p → 84 ≤ p
least_hundred_at_level_1 p h = omega arith

least_hundred_at_level_2 : (p : ℕ) → IsEnough 100 33 2 p → 73 ≤ p
least_hundred_at_level_2 p h = omega arith

least_hundred_at_level_3 : (p : ℕ) → IsEnough 100 33 3 p → 69 ≤ p
least_hundred_at_level_3 p h = omega arith

least_four_at_level_1 : (p : ℕ) → IsEnough 4 1 1 p → 4 ≤ p
least_four_at_level_1 p h = omega arith

least_four_at_level_2 : (p : ℕ) → IsEnough 4 1 2 p → 3 ≤ p
least_four_at_level_2 p h = omega arith

least_four_at_level_3 : (p : ℕ) → IsEnough 4 1 3 p → 3 ≤ p
least_four_at_level_3 p h = omega arith

least_one_validator : (p : ℕ) → IsEnough 1 0 1 p → 1 ≤ p
least_one_validator p h = omega arith

least_three_and_no_fault : (p : ℕ) → IsEnough 3 0 1 p → 2 ≤ p
least_three_and_no_fault p h = omega arith

least_five_at_the_greatest_level : (p : ℕ) → IsEnough 5 0 30 p → 3 ≤ p
least_five_at_the_greatest_level p h = omega arith

least_seven_at_level_1 : (p : ℕ) → IsEnough 7 2 1 p → 6 ≤ p
least_seven_at_level_1 p h = omega arith

least_seven_at_level_2 : (p : ℕ) → IsEnough 7 2 2 p → 5 ≤ p
least_seven_at_level_2 p h = omega arith

least_ten_at_level_5 : (p : ℕ) → IsEnough 10 3 5 p → 7 ≤ p
least_ten_at_level_5 p h = omega arith

least_above_the_total : (p : ℕ) → IsEnough 7 6 1 p → 10 ≤ p
least_above_the_total p h = omega arith

least_two_of_which_one : (p : ℕ) → IsEnough 2 1 1 p → 3 ≤ p
least_two_of_which_one p h = omega arith

least_greatest_total : (p : ℕ) → IsEnough (2 ^ 62 - 1) 0 1 p → (2 ^ 61) ≤ p
least_greatest_total p h = omega arith

least_greatest_total_and_threshold : (p : ℕ) → IsEnough (2 ^ 62 - 1) (2 ^ 62 - 2) 30 p → 4611686020574871553 ≤ p
least_greatest_total_and_threshold p h = omega arith

too_little : IsEnough 100 33 2 72 → ⊥
too_little h = omega arith

pub quorums : Quorums
quorums = record {
  hundred_at_level_1 = record { enough = omega arith; least = least_hundred_at_level_1 };
  hundred_at_level_2 = record { enough = omega arith; least = least_hundred_at_level_2 };
  hundred_at_level_3 = record { enough = omega arith; least = least_hundred_at_level_3 };
  just_the_bound = refl;
  not_enough = too_little;
  four_at_level_1 = record { enough = omega arith; least = least_four_at_level_1 };
  four_at_level_2 = record { enough = omega arith; least = least_four_at_level_2 };
  four_at_level_3 = record { enough = omega arith; least = least_four_at_level_3 };
  one_validator = record { enough = omega arith; least = least_one_validator };
  three_and_no_fault = record { enough = omega arith; least = least_three_and_no_fault };
  five_at_the_greatest_level = record { enough = omega arith; least = least_five_at_the_greatest_level };
  seven_at_level_1 = record { enough = omega arith; least = least_seven_at_level_1 };
  seven_at_level_2 = record { enough = omega arith; least = least_seven_at_level_2 };
  ten_at_level_5 = record { enough = omega arith; least = least_ten_at_level_5 };
  above_the_total = record { enough = omega arith; least = least_above_the_total };
  two_of_which_one = record { enough = omega arith; least = least_two_of_which_one };
  greatest_total = record { enough = omega arith; least = least_greatest_total };
  greatest_total_and_threshold = record { enough = omega arith; least = least_greatest_total_and_threshold };
}
