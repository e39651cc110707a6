-- Blocks stand, and are decided.
use Rattle.std.proofs.Common.{◌≡◌, ◌≤◌, inl, inr, true, false, List, [], ◌∷◌, refl, subst, arith}
use Rattle.hw_types.proofs.WordsLaws.{never_both}
use Rattle.hw_types.proofs.DecisionLaws.{decisions_one}
use Rattle.hw_safety.proofs.StandLaws.{stands_is_test}
use Rattle.hw_safety.proofs.PrunedLaws.{summit_is_left, pruned_is_greatest}
use Rattle.hw_safety.proofs.DecidedLaws.{decisions_are}
use Rattle.hw_safety.proofs.HeightLaws.{one_block_each}
use Rattle.hw_types.specs.declared.unit.Vertex.{Vertex}
use Rattle.hw_types.specs.declared.answers.Decision.{Decision}
use Rattle.hw_types.specs.Settled.{faulty_weight}
use Rattle.hw_types.specs.Summit.{Stands}
use Rattle.hw_types.specs.Journal.{Setting, named, received_of}
use Rattle.hw_types.specs.Decisions.{StoodAt, AreDecisions}
use Rattle.hw_safety.specs.Pruned.{has_summit}
use Rattle.hw_safety.specs.Decided.{stands, decisions_of}
use Rattle.hw_samples.specs.Words.{equal_three, three, settled_in, panorama_in, decided, unfold_decisions, unfold_names}
use Rattle.hw_samples.specs.FourUnits.{a0, in_order, without_last}
use Rattle.hw_samples.specs.Chains.{p0, single, s0, s2, two_decided, all_at_once, at_two_levels, nine_units}
use Rattle.hw_samples.specs.RealNames.{real_a0, real, real_in_order}
use Rattle.hw_samples.specs.Relations.{BlocksStand, DecisionsAreMade}

four_test : stands equal_three (received_of three in_order) (named three a0) 1 2 ≡ true
unfolding unfold_decisions
four_test = refl

real_test : stands equal_three (received_of real real_in_order) (named real real_a0) 1 2 ≡ true
unfolding unfold_decisions unfold_names
real_test = refl

level_two_test : stands at_two_levels.config (received_of at_two_levels nine_units) (named at_two_levels p0) 2 3 ≡ true
unfolding unfold_decisions
level_two_test = refl

greatest_test : has_summit equal_three.weights (settled_in three in_order) (panorama_in three in_order) (named three a0) 1 2 ≡ true
unfolding unfold_decisions
greatest_test = refl

early_test : stands equal_three (received_of three without_last) (named three a0) 1 2 ≡ false
unfolding unfold_decisions
early_test = refl

no_summit_test : has_summit equal_three.weights (settled_in three without_last) (panorama_in three without_last) (named three a0) 1 2 ≡ false
unfolding unfold_decisions
no_summit_test = refl

pub four_stands : Stands equal_three (received_of three in_order) (named three a0) 1 2
four_stands = (stands_is_test equal_three (received_of three in_order) (named three a0) 1 2).1 four_test

pub blocks_stand : BlocksStand
blocks_stand = record {
  stands = four_stands;
  by_digests = (stands_is_test equal_three (received_of real real_in_order) (named real real_a0) 1 2).1 real_test;
  at_level_two = (stands_is_test at_two_levels.config (received_of at_two_levels nine_units) (named at_two_levels p0) 2 3).1 level_two_test;
  greatest = pruned_is_greatest equal_three.weights (settled_in three in_order) (panorama_in three in_order) (named three a0) 2 1 greatest_test;
  not_yet = λ h. never_both (stands equal_three (received_of three without_last) (named three a0) 1 2) ((stands_is_test equal_three (received_of three without_last) (named three a0) 1 2).0 h) early_test;
  no_summit = λ h. never_both (has_summit equal_three.weights (settled_in three without_last) (panorama_in three without_last) (named three a0) 1 2)
      ((summit_is_left equal_three.weights (settled_in three without_last) (panorama_in three without_last) (named three a0) 2 1).0 h) no_summit_test;
}

-- ---- decisions

are : (s : Setting) (journal : List Vertex) (ds : List Decision) → decisions_of s journal ≡ ds → AreDecisions s journal ds
are s journal ds e = subst (λ ds. AreDecisions s journal ds) e (decisions_are s journal (one_block_each s journal))

none_is : decisions_of three without_last ≡ []
unfolding unfold_decisions
none_is = refl

one_is : decisions_of three in_order ≡ decided a0 0 1 2 4 ∷ []
unfolding unfold_decisions
one_is = refl

two_is : decisions_of single two_decided ≡ decided s0 0 1 1 2 ∷ decided s2 1 1 1 4 ∷ []
unfolding unfold_decisions
two_is = refl

at_once_is : decisions_of single all_at_once ≡ decided s0 0 1 1 4 ∷ decided s2 1 1 1 4 ∷ []
unfolding unfold_decisions
at_once_is = refl

level_two_is : decisions_of at_two_levels nine_units ≡ decided p0 0 2 3 9 ∷ []
unfolding unfold_decisions
level_two_is = refl

few_faulty : faulty_weight equal_three (received_of three in_order) ≤ equal_three.ftt
unfolding unfold_decisions
few_faulty = omega arith

pub four_stood : StoodAt three in_order (named three a0) 1 2 4
four_stood = record { in_journal = omega arith; few_faulty = few_faulty; stands = four_stands }

one : AreDecisions three in_order (decided a0 0 1 2 4 ∷ [])
one = are three in_order (decided a0 0 1 2 4 ∷ []) one_is

pub decisions_are_made : DecisionsAreMade
decisions_are_made = record {
  none = are three without_last [] none_is;
  one = one;
  two = are single two_decided (decided s0 0 1 1 2 ∷ decided s2 1 1 1 4 ∷ []) two_is;
  two_at_once = are single all_at_once (decided s0 0 1 1 4 ∷ decided s2 1 1 1 4 ∷ []) at_once_is;
  at_level_two = are at_two_levels nine_units (decided p0 0 2 3 9 ∷ []) level_two_is;
  is_record = one.each 0 (decided a0 0 1 2 4) (omega arith);
  stood = four_stood;
  before = inl (omega arith);
  lower = inr (refl, omega arith);
  one_block_each = one_block_each single two_decided;
  only = λ ds h. decisions_one three in_order ds (decided a0 0 1 2 4 ∷ []) h one;
}
