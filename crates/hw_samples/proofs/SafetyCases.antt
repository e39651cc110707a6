-- Accountable safety says something: its premises are met.
use Rattle.std.proofs.Common.{◌≡◌, ◌≤◌, ◌-◌, ◌*◌, ◌^◌, ◌++◌, inl, inr, true, false, [], ◌∷◌, length, refl, subst, ap, arith}
use Rattle.hw_types.proofs.WordsLaws.{never_both}
use Rattle.hw_safety.proofs.SafetyLaws.{graph_safety}
use Rattle.hw_safety.proofs.AccountLaws.{accountable_safety, later_safety, stands_safety, lawful_journal, lawful_either, left_part, left_faulty}
use Rattle.hw_safety.proofs.ConflictLaws.{kept_while_few, one_chain, conflict_safety}
use Rattle.hw_safety.proofs.CulpritLaws.{culprits_safety}
use Rattle.hw_safety.proofs.StandLaws.{stands_is_test}
use Rattle.hw_samples.proofs.Members.{no_clash, are_same_where_named}
use Rattle.hw_samples.proofs.SummitMembers.{four_stands}
use Rattle.hw_samples.proofs.JournalMembers.{against_apart}
use Rattle.std.specs.Prelude.{None}
use Rattle.hw_types.specs.declared.unit.Vertex.{Vertex}
use Rattle.hw_types.specs.declared.unit.Evidence.{Evidence}
use Rattle.hw_types.specs.Below.{Among}
use Rattle.hw_types.specs.Votes.{weight_of, unit_fork, is_ancestor_within}
use Rattle.hw_types.specs.Summit.{Stands}
use Rattle.hw_types.specs.Journal.{named, received_of, evidence_fault}
use Rattle.hw_types.specs.Lawful.{joint_panorama, keeps, NoClash}
use Rattle.hw_safety.specs.Safety.{HasPairs, OnOneChain}
use Rattle.hw_safety.specs.Decided.{stands}
use Rattle.hw_samples.specs.Words.{equal_three, three, sent, both, settled_in, is_faulty_in, panorama_in, weight_in, unfold_answers, unfold_decisions}
use Rattle.hw_samples.specs.FourUnits.{a0, b0, in_order}
use Rattle.hw_samples.specs.Forks.{fork, c0, other_side}
use Rattle.hw_samples.specs.Chains.{single, s0, s2, s3, one_decided, two_decided}
use Rattle.hw_samples.specs.Relations.{against}
use Rattle.hw_samples.specs.Premises.{all_units, all_faulty, BlockIsLost, later_units, BlockIsLostLater, BlocksAreKept, both_sides, BlocksConflict}
use Rattle.hw_types.specs.declared.unit.Vertex.TheVariants as vertex

-- ---- a block that is lost

lost : keeps equal_three.weights all_units (joint_panorama equal_three (received_of three in_order) (received_of three against)) (named three a0) ≡ false
unfolding unfold_answers
lost = refl

it_is : weight_of equal_three.weights all_faulty ≡ 1
unfolding unfold_answers
it_is = refl

-- the joint panorama is that of the units and the faulty of both
of_graphs : (2 * 2 - 3) * (2 ^ 1 - 1) ≤ weight_of equal_three.weights all_faulty * 2 ^ 1
unfolding Rattle.hw_types.specs.Settled.panorama_of
of_graphs = graph_safety equal_three all_faulty (is_faulty_in three in_order) (settled_in three in_order) all_units (named three a0) 1 2
    (lawful_either three in_order against against_apart) (lawful_journal three in_order) (left_part three in_order against against_apart) (left_faulty three in_order against against_apart)
    (omega arith) (omega arith) four_stands.summit lost

pub block_is_lost : BlockIsLost
block_is_lost = record {
  no_clash = against_apart;
  stands = four_stands;
  lost = lost;
  of_graphs = of_graphs;
  of_journals = accountable_safety three in_order against (named three a0) 1 2 against_apart (omega arith) (omega arith) four_stands.summit lost;
  above = stands_safety three in_order against (named three a0) 1 2 against_apart four_stands lost;
  it_is = it_is;
}

lost_later : keeps equal_three.weights (settled_in three (in_order ++ later_units)) (panorama_in three (in_order ++ later_units)) (named three a0) ≡ false
unfolding unfold_answers
lost_later = refl

pub block_is_lost_later : BlockIsLostLater
block_is_lost_later = record {
  stood = four_stands.summit;
  lost = lost_later;
  share = later_safety three in_order later_units (named three a0) 1 2 (omega arith) (omega arith) four_stands.summit lost_later;
}

-- ---- blocks that are kept

few : weight_in three (in_order ++ sent c0 ∷ []) ≤ equal_three.ftt
unfolding unfold_answers
few = omega arith

first_test : stands single.config (received_of single one_decided) (named single s0) 1 1 ≡ true
unfolding unfold_decisions
first_test = refl

second_test : stands single.config (received_of single two_decided) (named single s2) 1 1 ≡ true
unfolding unfold_decisions
second_test = refl

first_stood : Stands single.config (received_of single one_decided) (named single s0) 1 1
first_stood = (stands_is_test single.config (received_of single one_decided) (named single s0) 1 1).1 first_test

pub second_stands : Stands single.config (received_of single two_decided) (named single s2) 1 1
second_stands = (stands_is_test single.config (received_of single two_decided) (named single s2) 1 1).1 second_test

none_faulty : weight_in single two_decided ≤ single.config.ftt
unfolding unfold_answers
none_faulty = omega arith

s0_in : Among (named single s0) (settled_in single two_decided)
unfolding unfold_answers
s0_in = inl refl

pub s2_in : Among (named single s2) (settled_in single two_decided)
unfolding unfold_answers
s2_in = inr (inr (inl refl))

pub blocks_are_kept : BlocksAreKept
blocks_are_kept = record {
  few = few;
  kept = kept_while_few three in_order (sent c0 ∷ []) (named three a0) 1 2 four_stands few;
  first_stood = first_stood;
  second_stands = second_stands;
  none_faulty = none_faulty;
  one_chain = one_chain single one_decided (sent s2 ∷ sent s3 ∷ []) (named single s0) (named single s2) 1 1 1 1 first_stood second_stands none_faulty s0_in s2_in;
}

-- ---- blocks in conflict

other_test : stands equal_three (received_of three other_side) (named three c0) 1 2 ≡ true
unfolding unfold_decisions
other_test = refl

other_stands : Stands equal_three (received_of three other_side) (named three c0) 1 2
other_stands = (stands_is_test equal_three (received_of three other_side) (named three c0) 1 2).1 other_test

apart_test : are_same_where_named (received_of three in_order).units (received_of three other_side).units ≡ true
unfolding unfold_answers Rattle.hw_samples.proofs.Members.same_where_named
apart_test = refl

apart : NoClash (received_of three in_order).units (received_of three other_side).units
apart = no_clash (received_of three in_order).units (received_of three other_side).units apart_test

left_in : Among (named three a0) both_sides
unfolding unfold_answers
left_in = inl refl

right_in : Among (named three c0) both_sides
unfolding unfold_answers
right_in = inr (inr (inr (inr (inr (inr (inl refl))))))

left_below : is_ancestor_within (length both_sides) (unit_fork equal_three.weights both_sides) (named three a0) (named three c0) ≡ false
unfolding unfold_answers
left_below = refl

right_below : is_ancestor_within (length both_sides) (unit_fork equal_three.weights both_sides) (named three c0) (named three a0) ≡ false
unfolding unfold_answers
right_below = refl

off : OnOneChain equal_three.weights both_sides (named three a0) (named three c0) → ⊥
off (inl h) = never_both (is_ancestor_within (length both_sides) (unit_fork equal_three.weights both_sides) (named three a0) (named three c0)) h left_below
off (inr h) = never_both (is_ancestor_within (length both_sides) (unit_fork equal_three.weights both_sides) (named three c0) (named three a0)) h right_below

left_pairs : HasPairs three in_order
left_pairs e (inl h) = absurd cc
left_pairs e (inr (inl h)) = absurd cc
left_pairs e (inr (inr (inl h))) = absurd cc
left_pairs e (inr (inr (inr (inl h)))) = absurd cc
left_pairs e (inr (inr (inr (inr h)))) = absurd h

right_pairs : HasPairs three other_side
right_pairs e (inl h) = absurd cc
right_pairs e (inr (inl h)) = absurd cc
right_pairs e (inr (inr (inl h))) = absurd cc
right_pairs e (inr (inr (inr (inl h)))) = absurd cc
right_pairs e (inr (inr (inr (inr h)))) = absurd h

evidence_of : Vertex → Evidence → Evidence
evidence_of (vertex.Evidence e) d = e
evidence_of (vertex.Unit u) d = d
evidence_of (vertex.Endorsement e) d = d

-- with an evidence in the journal too
with_pair : HasPairs three (both b0 fork ∷ in_order)
unfolding evidence_of
with_pair e (inl h) = subst (λ x. evidence_fault three x ≡ None) (ap (λ v. evidence_of v e) h) refl
with_pair e (inr m) = left_pairs e m

pub blocks_conflict : BlocksConflict
blocks_conflict = record {
  no_clash = apart;
  left_stands = four_stands;
  right_stands = other_stands;
  left_in = left_in;
  right_in = right_in;
  off = off;
  left_pairs = with_pair;
  faulty = conflict_safety three in_order other_side (named three a0) (named three c0) 1 1 2 2 apart four_stands other_stands left_in right_in off;
  culprits = culprits_safety three in_order other_side (named three a0) (named three c0) 1 1 2 2 left_pairs right_pairs apart four_stands other_stands left_in right_in off;
}
