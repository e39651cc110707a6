-- The laws of summits say something: their premises are met.
use Rattle.std.proofs.Common.{◌≡◌, ◌≤◌, inl, inr, true, [], ◌∷◌, refl, arith}
use Rattle.hw_safety.proofs.SuffixLaws.{settled_suffix}
use Rattle.hw_safety.proofs.AncestorLaws.{ancestor_stands}
use Rattle.hw_safety.proofs.HeightLaws.{stood_is_kept, one_block_each}
use Rattle.hw_safety.proofs.DecidedLaws.{decisions_are}
use Rattle.hw_samples.proofs.SummitMembers.{four_stood}
use Rattle.hw_samples.proofs.SafetyCases.{second_stands, s2_in}
use Rattle.hw_types.specs.Graph.{past, lane_of}
use Rattle.hw_types.specs.Below.{Among}
use Rattle.hw_types.specs.Votes.{unit_fork, is_ancestor_within}
use Rattle.hw_types.specs.Journal.{named}
use Rattle.hw_safety.specs.Pruned.{seen_in}
use Rattle.hw_samples.specs.Words.{equal_four, three, settled_in, unfold_answers, unfold_decisions}
use Rattle.hw_samples.specs.FourUnits.{a0, in_order}
use Rattle.hw_samples.specs.Chains.{p0, single, s0, s2, two_decided, at_two_levels, p1, p2, nine_units}
use Rattle.hw_samples.specs.Premises.{nine_settled, from_the_first, QuorumsStay, AncestorStands, StandingIsKeptHere}

-- the settled units in the order of names: three of each of three validators
last_in : Among (named at_two_levels p2) nine_settled
unfolding unfold_answers
last_in = inr (inr (inl refl))

second_on : Among (named at_two_levels p1) (lane_of nine_settled (named at_two_levels p2))
unfolding unfold_answers
second_on = inr (inl refl)

third_on : Among (named at_two_levels p2) (lane_of nine_settled (named at_two_levels p2))
unfolding unfold_answers
third_on = inr (inr (inl refl))

then : 3 ≤ seen_in equal_four.weights (past nine_settled p1.panorama) from_the_first (0 ∷ 1 ∷ 2 ∷ [])
unfolding unfold_decisions
then = omega arith

not_before : seen_in equal_four.weights (past nine_settled p0.panorama) from_the_first (0 ∷ 1 ∷ 2 ∷ []) ≡ 0
unfolding unfold_decisions
not_before = refl

pub quorums_stay : QuorumsStay
quorums_stay = record {
  last = last_in;
  second = second_on;
  third = third_on;
  then = then;
  now = settled_suffix at_two_levels nine_units equal_four.weights from_the_first (0 ∷ 1 ∷ 2 ∷ []) 3 (named at_two_levels p2) (named at_two_levels p1) (named at_two_levels p2) last_in second_on third_on (omega arith) then;
  not_before = not_before;
}

parent : is_ancestor_within 1 (unit_fork single.config.weights (settled_in single two_decided)) (named single s0) (named single s2) ≡ true
unfolding unfold_answers
parent = refl

pub ancestor_stands_too : AncestorStands
ancestor_stands_too = record {
  settled = s2_in;
  parent = parent;
  stands = second_stands;
  ancestor = ancestor_stands single two_decided 1 (named single s0) (named single s2) 1 1 s2_in parent second_stands;
}

pub standing_is_kept_here : StandingIsKeptHere
standing_is_kept_here = record {
  stood = four_stood;
  kept = stood_is_kept three in_order (named three a0) 1 2 4 four_stood;
  one_each = one_block_each three in_order;
  found = decisions_are three in_order (one_block_each three in_order);
}
