-- The worked journals are what the definitions say.
use Rattle.std.proofs.Common.{refl}
use Rattle.hw_samples.specs.Words.{unfold_steps, unfold_decisions}
use Rattle.hw_samples.specs.FourUnits.{FourUnitsInOrder, EverythingParksUntilTheLast, RepeatsChangeNothing, OneWitnessIsNotEnough, LimitsRefuse, BrokenRulesAreNamed, ThirdOfARoundIsDropped}
use Rattle.hw_samples.specs.Forks.{ForkAboveTheThreshold, MarkNeedsEvidence, JournalsInConflict, BothSidesInOne, NaiveForkIsDropped, EndorsementLetsItIn}
use Rattle.hw_samples.specs.Chains.{HeaviestPath, SingleValidatorDecides, TwoLevelsWhereOneIsSilent, NoBlockAfterTheLast}
use Rattle.hw_samples.specs.Steps.{StepsAtTheBeginning, StepsAfterABlock, StepsAtTheEnd, NoStep}

pub four_units_in_order : FourUnitsInOrder
unfolding unfold_decisions
four_units_in_order = record { answers = refl; settled = refl; panorama = refl; faulty = refl; fork = refl; decisions = refl; voters = refl; committee = refl }

pub everything_parks_until_the_last : EverythingParksUntilTheLast
unfolding unfold_decisions
everything_parks_until_the_last = record { answers = refl; before = refl; same_state = refl; decisions = refl }

pub repeats_change_nothing : RepeatsChangeNothing
unfolding unfold_decisions
repeats_change_nothing = record { answers = refl; journal = refl; decisions = refl }

pub one_witness_is_not_enough : OneWitnessIsNotEnough
unfolding unfold_decisions
one_witness_is_not_enough = record { answers = refl; voters = refl; nobody = refl; decisions = refl }

pub limits_refuse : LimitsRefuse
unfolding unfold_decisions
limits_refuse = record { records = refl; parked = refl }

pub broken_rules_are_named : BrokenRulesAreNamed
unfolding unfold_decisions
broken_rules_are_named = record { answers = refl; unsigned = refl }

pub third_of_a_round_is_dropped : ThirdOfARoundIsDropped
unfolding unfold_decisions
third_of_a_round_is_dropped = record { answers = refl }

pub fork_above_the_threshold : ForkAboveTheThreshold
unfolding unfold_decisions
fork_above_the_threshold = record { answers = refl; faulty = refl; weight = refl; panorama = refl; fork_choice = refl; decisions = refl }

pub mark_needs_evidence : MarkNeedsEvidence
unfolding unfold_decisions
mark_needs_evidence = record { by_units = refl; by_evidence = refl; faulty = refl; no_pair = refl; one_unit = refl; two_creators = refl; other_instance = refl }

pub journals_in_conflict : JournalsInConflict
unfolding unfold_decisions
journals_in_conflict = record { answers = refl; left = refl; right = refl; culprits = refl; pair = refl; weight = refl; none_in_one = refl }

pub both_sides_in_one : BothSidesInOne
unfolding unfold_decisions
both_sides_in_one = record { answers = refl; decisions = refl; faulty = refl; weight = refl }

pub naive_fork_is_dropped : NaiveForkIsDropped
unfolding unfold_decisions
naive_fork_is_dropped = record { answers = refl }

pub endorsement_lets_it_in : EndorsementLetsItIn
unfolding unfold_decisions
endorsement_lets_it_in = record { by_three = refl; by_two = refl }

pub heaviest_path : HeaviestPath
unfolding unfold_decisions
heaviest_path = record { answers = refl; fork = refl }

pub single_validator_decides : SingleValidatorDecides
unfolding unfold_decisions
single_validator_decides = record { none = refl; one = refl; voters = refl; committee = refl; two = refl; two_at_once = refl }

pub two_levels_where_one_is_silent : TwoLevelsWhereOneIsSilent
unfolding unfold_decisions
two_levels_where_one_is_silent = record { answers = refl; not_yet = refl; decisions = refl; voters = refl; first_level = refl; second_level = refl; not_at_one = refl }

pub no_block_after_the_last : NoBlockAfterTheLast
unfolding unfold_decisions
no_block_after_the_last = record { after_it = refl; before_it = refl; beside_it = refl }

pub steps_at_the_beginning : StepsAtTheBeginning
unfolding unfold_steps
steps_at_the_beginning = record { leader = refl; leader_later = refl; other = refl; other_at_witness_time = refl }

pub steps_after_a_block : StepsAfterABlock
unfolding unfold_steps
steps_after_a_block = record { other = refl; other_at_witness_time = refl; leader = refl; leader_at_witness_time = refl }

pub steps_at_the_end : StepsAtTheEnd
unfolding unfold_steps
steps_at_the_end = record { after_it = refl; after_it_at_witness_time = refl; before_it = refl; before_it_at_witness_time = refl }

pub no_step : NoStep
unfolding unfold_steps
no_step = record { marked = refl; two_in_round = refl }
